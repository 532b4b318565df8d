-- The text of a line is read as that line, and each line that is read has numbers that a text can write.
use Rattle.std.proofs.Common.{◌≡◌, ℕ, ◌<◌, Bool, true, false, List, [], ◌∷◌, ◌++◌, Option, Some, None, refl, sym, ap, ◌∙◌, subst, append-nil, arith, decimal, codes, bytes_eq}
use Rattle.std.specs.Prelude.{◌-◌, nat_lt, drop, length, option_map, take}
use Rattle.pif_types.specs.declared.requests.Kind.{Kind}
use Rattle.pif_types.specs.declared.requests.Kind.TheVariants.{Normal, ErrorCheck, Recursive}
use Rattle.pif_types.specs.Numbers.{number_of}
use Rattle.pif_types.specs.declared.errors.Errno.{Errno}
use Rattle.pif_types.specs.declared.errors.Errno.TheVariants.{NotPermitted, NoSuchThread, Again, Fault, Busy, Invalid, Deadlock, Overflow, TimedOut, OwnerDead, NotRecoverable}
use Rattle.pif_model.specs.declared.events.Event.{Event}
use Rattle.pif_model.specs.declared.events.Event.TheVariants as event
use Rattle.pif_text_model.specs.declared.commands.Command.{Command}
use Rattle.pif_text_model.specs.declared.commands.Command.TheVariants as command
use Rattle.pif_text_model.specs.declared.commands.Addition.{Addition}
use Rattle.pif_text_model.specs.declared.commands.Addition.TheVariants as addition
use Rattle.pif_text_model.specs.Calls.{◌>>=◌}
use Rattle.pif_text_model.specs.Commands.{command_in, command_of_one, command_of_two, command_of_more, command_of_words, robust_in}
use Rattle.pif_text_model.specs.CommandTexts.{IsWritten, addition_text, command_text, event_text, mutex_text}
use Rattle.pif_text_model.specs.Errors.{error_named}
use Rattle.pif_text_model.specs.Numbers.{IsName, IsNumber, number_in, thread_in}
use Rattle.pif_text_model.specs.Questions.{question_in_one, question_in_two}
use Rattle.pif_text_model.specs.Replies.{thread_name}
use Rattle.pif_text_model.specs.Words.{words}
use Rattle.pif_text_model.proofs.Names.{first_word, has_no_space, last_word, number-no_space, thread-no_space, thread_back, two-words}
use Rattle.pif_text_model.proofs.Numerals.{number_decimal}
use Rattle.pif_text_model.proofs.ReadBack.{command_back}
use Rattle.pif_text_model.proofs.Written.{command_in-written}
use Rattle.pif_text_model.proofs.Yields.{Yields, bind_yields, if_yields, map_yields, number-small, thread-small}
use Rattle.pif_script_model.specs.Lines.{is_passed}
use Rattle.pif_history_model.specs.declared.lines.Protocol.TheVariants.{PrioInherit, PrioNone}
use Rattle.pif_history_model.specs.declared.lines.Line.{Line}
use Rattle.pif_history_model.specs.declared.lines.Line.TheVariants as line
use Rattle.pif_history_text.specs.declared.said.Said.{Said}
use Rattle.pif_history_text.specs.declared.said.Said.TheVariants.{Allow, Limits, Nothing, Shown}
use Rattle.pif_rules_model.specs.declared.rules.Rules.{Rules}
use Rattle.pif_history_text.specs.Allowed.{allowed_in}
use Rattle.pif_history_text.specs.Lines.{answer_in, command_said, lending_nothing, line_of_one, line_of_three, line_of_two, line_of_words, none_before, none_in, said_by_words, said_in}
use Rattle.pif_history_text.specs.Texts.{IsLineWritten, line_text}

-- ---- lines that are commands of scripts

addition-no_comment : (a : Addition) → is_passed (command_text (command.Add a)) ≡ false
unfolding command_text addition_text
addition-no_comment (addition.Thread p) = refl
addition-no_comment (addition.Mutex k robust) = refl
addition-no_comment (addition.Cond m) = refl

event-no_comment : (e : Event) → is_passed (command_text (command.Event e)) ≡ false
unfolding command_text event_text
event-no_comment (event.Begin t q) = refl
event-no_comment (event.Go t) = refl
event-no_comment (event.End t) = refl
event-no_comment (event.Tick n) = refl

said_back : (c : Command) (l : Line) → is_passed (command_text c) ≡ false → IsWritten c → command_said c ≡ Some (Shown l)
    → said_in (command_text c) ≡ Some (Shown l)
unfolding said_in
said_back c l e r f = rw (e, command_back c r) f

-- ---- lines that histories alone have

-- a name and two more words
words-three : (name first second : List ℕ) → has_no_space name ≡ true → has_no_space first ≡ true → has_no_space second ≡ true
    → words (name ++ 32 ∷ (first ++ 32 ∷ second)) ≡ name ∷ first ∷ second ∷ []
words-three name first second e f g =
    first_word name (first ++ 32 ∷ second) e ∙ ap (λ l. name ∷ l) (two-words first second f g)

-- what is said by the first way to read a text that comes to something
abbrev line_or : Option Line → Option Rules → Option Said
line_or p q = elim p [ Some k ↦ Some (Shown k) | None ↦ option_map Allow q ]

abbrev said_or : Option Said → Option Line → Option Said
said_or o n = elim o [ Some said ↦ Some said | None ↦ option_map Shown n ]

abbrev first_said : Option Command → Option Line → Option Rules → Option Line → Option Said
first_said o p q n = elim o [ Some c ↦ command_said c | None ↦ said_or (line_or p q) n ]

by_words : (o : Option Command) (p : Option Line) (q : Option Rules) (n : Option Line) (l : Line) → o ≡ None → p ≡ Some l
    → first_said o p q n ≡ Some (Shown l)
by_words o p q n l e f = rw (e, f) refl

by_none : (o : Option Command) (p : Option Line) (q : Option Rules) (n : Option Line) (l : Line) → o ≡ None → p ≡ None → q ≡ None
    → n ≡ Some l → first_said o p q n ≡ Some (Shown l)
by_none o p q n l e f g h = rw (e, f, g, h) refl

-- a text of words that are no command
said_words : (text : List ℕ) (ws : List (List ℕ)) (l : Line) → is_passed text ≡ false → words text ≡ ws
    → command_of_words ws ≡ None → line_of_words ws ≡ Some l → said_in text ≡ Some (Shown l)
unfolding said_in command_in
said_words text ws l e f g h =
    rw e (by_words (command_in text) (line_of_words (words text)) (allowed_in (words text)) (none_in text) l (ap command_of_words f ∙ g) (ap line_of_words f ∙ h))

-- ---- mutexes of both protocols

inheriting_back : (k : Kind) (robust : Bool) → said_in (mutex_text k robust ++ []) ≡ Some (Shown (line.Mutex k robust PrioInherit))
unfolding command_text addition_text
inheriting_back k robust =
    ap said_in (append-nil (mutex_text k robust))
    ∙ said_back (command.Add (addition.Mutex k robust)) (line.Mutex k robust PrioInherit) (addition-no_comment (addition.Mutex k robust)) tt refl

-- the words of a mutex with `none` after, whose kind is this word, make no command, no line, and allow no rule
abbrev SaysNothing : List (List ℕ) → Type 0
SaysNothing ws = (command_of_words ws ≡ None) × (line_of_words ws ≡ None) × (allowed_in ws ≡ None)

stalled_none : (word : List ℕ) → has_no_space word ≡ true → SaysNothing (words (codes "mutex" ++ 32 ∷ (word ++ 32 ∷ codes "none")))
unfolding command_of_words command_of_more robust_in line_of_words line_of_three
stalled_none word e = subst SaysNothing (sym (words-three (codes "mutex") word (codes "none") refl e refl)) (refl, refl, refl)

robust_none : (word : List ℕ) → has_no_space word ≡ true
    → SaysNothing (words (codes "mutex" ++ 32 ∷ (word ++ 32 ∷ (codes "robust" ++ 32 ∷ codes "none"))))
unfolding command_of_words command_of_more robust_in line_of_words
robust_none word e =
    subst SaysNothing
    (sym (first_word (codes "mutex") (word ++ 32 ∷ (codes "robust" ++ 32 ∷ codes "none")) refl
    ∙ ap (λ l. codes "mutex" ∷ l) (words-three word (codes "robust") (codes "none") e refl refl)))
    (refl, refl, refl)

none_says_nothing : (k : Kind) (robust : Bool) → SaysNothing (words (mutex_text k robust ++ codes " none"))
none_says_nothing Normal false = stalled_none (codes "normal") refl
none_says_nothing Normal true = robust_none (codes "normal") refl
none_says_nothing ErrorCheck false = stalled_none (codes "errorcheck") refl
none_says_nothing ErrorCheck true = robust_none (codes "errorcheck") refl
none_says_nothing Recursive false = stalled_none (codes "recursive") refl
none_says_nothing Recursive true = robust_none (codes "recursive") refl

-- what stands in front of `none` is read as the command that it is
front_back : (k : Kind) (robust : Bool) → none_before (mutex_text k robust) ≡ Some (line.Mutex k robust PrioNone)
unfolding command_text addition_text
front_back k robust = ap (λ (o : Option Command). o >>= lending_nothing) (command_back (command.Add (addition.Mutex k robust)) tt)

none_line : (k : Kind) (robust : Bool) → none_in (mutex_text k robust ++ codes " none") ≡ Some (line.Mutex k robust PrioNone)
unfolding none_in
none_line Normal false = front_back Normal false
none_line Normal true = front_back Normal true
none_line ErrorCheck false = front_back ErrorCheck false
none_line ErrorCheck true = front_back ErrorCheck true
none_line Recursive false = front_back Recursive false
none_line Recursive true = front_back Recursive true

none_back : (k : Kind) (robust : Bool) → said_in (mutex_text k robust ++ codes " none") ≡ Some (Shown (line.Mutex k robust PrioNone))
unfolding said_in command_in
none_back k robust =
    let text : List ℕ = mutex_text k robust ++ codes " none" in
    let nothing : SaysNothing (words text) = none_says_nothing k robust in
    by_none (command_in text) (line_of_words (words text)) (allowed_in (words text)) (none_in text) (line.Mutex k robust PrioNone)
    nothing.0 nothing.1 nothing.2 (none_line k robust)

answer_back : (a : ℕ) → a < 4294967296 → answer_in (decimal a) ≡ Some a
unfolding answer_in
answer_back a small =
    ap (λ (o : Option ℕ). elim o [ Some n ↦ Some n | None ↦ option_map number_of (error_named (decimal a)) ])
    (number_decimal a small)

pub line_back : (l : Line) → IsLineWritten l → said_in (line_text l) ≡ Some (Shown l)
unfolding line_text command_of_words command_of_one command_of_two command_of_more question_in_one question_in_two line_of_words line_of_one line_of_two line_of_three
line_back (line.Thread p) r = said_back (command.Add (addition.Thread p)) _ (addition-no_comment _) r refl
line_back (line.Mutex k robust PrioInherit) r = inheriting_back k robust
line_back (line.Mutex k robust PrioNone) r = none_back k robust
line_back (line.Cond m) r = said_back (command.Add (addition.Cond m)) _ (addition-no_comment _) r refl
line_back (line.Begin t q) r = said_back (command.Event (event.Begin t q)) _ (event-no_comment _) r refl
line_back (line.End t) r = said_back (command.Event (event.End t)) _ (event-no_comment _) r refl
line_back (line.Tick n) r = said_back (command.Event (event.Tick n)) _ (event-no_comment _) r refl
line_back (line.Answer t a) r =
    said_words (line_text (line.Answer t a)) (codes "answer" ∷ thread_name t ∷ decimal a ∷ []) (line.Answer t a) refl
    (words-three (codes "answer") (thread_name t) (decimal a) refl (thread-no_space t r.0.1) (number-no_space a r.1)) refl
    (rw (thread_back t r.0.0 r.0.1, answer_back a r.1) refl)
line_back (line.Dying t) r =
    said_words (line_text (line.Dying t)) (codes "dying" ∷ thread_name t ∷ []) (line.Dying t) refl
    (two-words (codes "dying") (thread_name t) refl (thread-no_space t r.1)) refl (rw (thread_back t r.0 r.1) refl)
line_back (line.Rests t) r =
    said_words (line_text (line.Rests t)) (codes "rests" ∷ thread_name t ∷ []) (line.Rests t) refl
    (two-words (codes "rests") (thread_name t) refl (thread-no_space t r.1)) refl (rw (thread_back t r.0 r.1) refl)
line_back (line.Prio t p) r =
    said_words (line_text (line.Prio t p)) (codes "prio" ∷ thread_name t ∷ decimal p ∷ []) (line.Prio t p) refl
    (words-three (codes "prio") (thread_name t) (decimal p) refl (thread-no_space t r.0.1) (number-no_space p r.1)) refl
    (rw (thread_back t r.0.0 r.0.1, number_decimal p r.1) refl)
line_back (line.Process t) r =
    said_words (line_text (line.Process t)) (codes "process" ∷ thread_name t ∷ []) (line.Process t) refl
    (two-words (codes "process") (thread_name t) refl (thread-no_space t r.1)) refl (rw (thread_back t r.0 r.1) refl)
line_back line.Halted r =
    said_words (codes "halted") (codes "halted" ∷ []) line.Halted refl (last_word (codes "halted") refl) refl refl
line_back line.Resumed r =
    said_words (codes "resumed") (codes "resumed" ∷ []) line.Resumed refl (last_word (codes "resumed") refl) refl refl
line_back (line.Asks f b) r = absurd r

-- ---- lines that are read

-- what a line says can be written, if it is shown
abbrev IsSaidWritten : Said → Type 0
IsSaidWritten (Shown l) = IsLineWritten l
IsSaidWritten Nothing = Unit {0}
IsSaidWritten (Limits t m c s) = Unit {0}
IsSaidWritten (Allow r) = Unit {0}

errno-small : (e : Errno) → IsNumber (number_of e)
errno-small NotPermitted = omega arith
errno-small NoSuchThread = omega arith
errno-small Again = omega arith
errno-small Fault = omega arith
errno-small Busy = omega arith
errno-small Invalid = omega arith
errno-small Deadlock = omega arith
errno-small Overflow = omega arith
errno-small TimedOut = omega arith
errno-small OwnerDead = omega arith
errno-small NotRecoverable = omega arith

errnos-small : (o : Option Errno) → Yields IsNumber (option_map number_of o)
errnos-small (Some e) = errno-small e
errnos-small None = tt

or_errno : (o : Option ℕ) (p : Option Errno) → Yields IsNumber o
    → Yields IsNumber (elim o [ Some n ↦ Some n | None ↦ option_map number_of p ])
or_errno (Some n) p h = h
or_errno None p h = errnos-small p

answer-small : (word : List ℕ) → Yields IsNumber (answer_in word)
unfolding answer_in
answer-small word = or_errno (number_in word) (error_named word) (number-small word)

one-written : (name : List ℕ) → Yields IsLineWritten (line_of_one name)
unfolding line_of_one
one-written name =
    let P = IsLineWritten in
    if_yields P (bytes_eq name (codes "halted")) _ _ tt (if_yields P (bytes_eq name (codes "resumed")) _ _ tt tt)

two-written : (name word : List ℕ) → Yields IsLineWritten (line_of_two name word)
unfolding line_of_two
two-written name word =
    let P = IsLineWritten in
    if_yields P (bytes_eq name (codes "dying")) _ _ (map_yields P line.Dying (thread_in word) (thread-small word))
    (if_yields P (bytes_eq name (codes "rests")) _ _ (map_yields P line.Rests (thread_in word) (thread-small word))
    (if_yields P (bytes_eq name (codes "process")) _ _ (map_yields P line.Process (thread_in word) (thread-small word)) tt))

three-written : (name first second : List ℕ) → Yields IsLineWritten (line_of_three name first second)
unfolding line_of_three
three-written name first second =
    let P = IsLineWritten in
    if_yields P (bytes_eq name (codes "answer")) _ _
    (bind_yields IsName P (thread_in first) _ (thread-small first)
    (λ t n. bind_yields IsNumber P (answer_in second) _ (answer-small second) (λ a k. (n, k))))
    (if_yields P (bytes_eq name (codes "prio")) _ _
    (bind_yields IsName P (thread_in first) _ (thread-small first)
    (λ t n. bind_yields IsNumber P (number_in second) _ (number-small second) (λ p k. (n, k)))) tt)

words-written : (ws : List (List ℕ)) → Yields IsLineWritten (line_of_words ws)
unfolding line_of_words
words-written [] = tt
words-written (a ∷ []) = one-written a
words-written (a ∷ b ∷ []) = two-written a b
words-written (a ∷ b ∷ c ∷ []) = three-written a b c
words-written (a ∷ b ∷ c ∷ d ∷ more) = tt

said-written : (c : Command) → IsWritten c → Yields IsSaidWritten (command_said c)
said-written (command.Limits t m c s) r = tt
said-written (command.Add (addition.Thread p)) r = r
said-written (command.Add (addition.Mutex k robust)) r = r
said-written (command.Add (addition.Cond m)) r = r
said-written (command.Event (event.Begin t q)) r = r
said-written (command.Event (event.End t)) r = r
said-written (command.Event (event.Tick n)) r = r
said-written (command.Event (event.Go t)) r = tt
said-written (command.Run t q) r = tt
said-written (command.Ask q) r = tt

rules-written : (o : Option Rules) → Yields IsSaidWritten (option_map Allow o)
rules-written None = tt
rules-written (Some r) = tt

line_or_rules : (p : Option Line) (o : Option Rules) → Yields IsLineWritten p
    → Yields IsSaidWritten (elim p [ Some l ↦ Some (Shown l) | None ↦ option_map Allow o ])
line_or_rules (Some l) o g = g
line_or_rules None o g = rules-written o

lending-written : (o : Option Command) → Yields IsLineWritten (o >>= lending_nothing)
lending-written None = tt
lending-written (Some (command.Limits t m c s)) = tt
lending-written (Some (command.Add (addition.Thread p))) = tt
lending-written (Some (command.Add (addition.Mutex k robust))) = tt
lending-written (Some (command.Add (addition.Cond m))) = tt
lending-written (Some (command.Event e)) = tt
lending-written (Some (command.Run t q)) = tt
lending-written (Some (command.Ask q)) = tt

none-written : (text : List ℕ) → Yields IsLineWritten (none_in text)
unfolding none_in
none-written text =
    let P = IsLineWritten in
    if_yields P (nat_lt (length text) 5) None _ tt
    (if_yields P (bytes_eq (drop (length text - 5) text) (codes " none")) _ None
    (lending-written (command_in (take (length text - 5) text))) tt)

said_or_none : (o : Option Said) (n : Option Line) → Yields IsSaidWritten o → Yields IsLineWritten n
    → Yields IsSaidWritten (elim o [ Some said ↦ Some said | None ↦ option_map Shown n ])
said_or_none (Some said) n h g = h
said_or_none None (Some l) h g = g
said_or_none None None h g = tt

by_command : (o : Option Command) (ws : List (List ℕ)) (n : Option Line) → Yields IsWritten o → Yields IsLineWritten (line_of_words ws)
    → Yields IsLineWritten n
    → Yields IsSaidWritten (elim o [ Some c ↦ command_said c | None ↦ elim (said_by_words ws) [ Some said ↦ Some said | None ↦ option_map Shown n ] ])
by_command (Some c) ws n h g i = said-written c h
by_command None ws n h g i = said_or_none (said_by_words ws) n (line_or_rules (line_of_words ws) (allowed_in ws) g) i

command-written : (text : List ℕ) (o : Option Command) → command_in text ≡ o → Yields IsWritten o
command-written text (Some c) e = command_in-written text c e
command-written text None e = tt

pub said_in-written : (text : List ℕ) (l : Line) → said_in text ≡ Some (Shown l) → IsLineWritten l
unfolding said_in
said_in-written text l e =
    subst (Yields IsSaidWritten) e (if_yields IsSaidWritten (is_passed text) (Some Nothing) _ tt
    (by_command (command_in text) (words text) (none_in text) (command-written text (command_in text) refl)
    (words-written (words text)) (none-written text)))
