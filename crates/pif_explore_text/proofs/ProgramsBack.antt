-- The statements of a program that has no block are read back from their words, and are the points that stand for them.
use Rattle.std.proofs.Common.{◌≡◌, ◌≢◌, ℕ, suc, ◌+◌, ◌<◌, ◌≤◌, ◌==◌, not, nat_le, Bool, true, false, List, [], ◌∷◌, ◌++◌, Option, Some, None, Ok, length, take, drop, refl, sym, ap, ◌∙◌, append_assoc, append-nil, add_assoc, add-zero, arith, codes, decimal}
use Rattle.std.specs.Prelude.{bytes_eq, filter, option_map, option_and_then}
use Rattle.std.specs.Char.{is_ascii_digit}
use Rattle.std.specs.List.{onto_first}
use Rattle.std.specs.Str.{all_ascii_digits}
use Rattle.std.proofs.lemmas.Bool.{and_from, and_parts}
use Rattle.std.proofs.lemmas.Bool.Decides.{nat_tests}
use Rattle.std.proofs.lemmas.Fmt.{decimal_nonempty, digits_decimal}
use Rattle.std.proofs.lemmas.List.Splits.{slice_split-cons_no, slice_split-cons_yes}
use Rattle.std.proofs.lemmas.Slice.Eq.{bytes_eq-Decides}
use Rattle.pif_types.specs.declared.requests.Request.{Request}
use Rattle.pif_text_model.specs.declared.calls.Arguments.{Arguments}
use Rattle.pif_text_model.specs.declared.calls.CallKind.{CallKind}
use Rattle.pif_text_model.specs.declared.calls.CallKind.TheVariants.{Lock}
use Rattle.pif_text_model.specs.declared.calls.Parameter.{Parameter}
use Rattle.pif_text_model.specs.declared.calls.Parameter.TheVariants as parameter
use Rattle.pif_text_model.specs.Calls.{call_named, kind_of, no_arguments, request_with, row_of}
use Rattle.pif_text_model.specs.Commands.{request_in, with_argument, with_arguments}
use Rattle.pif_text_model.specs.CommandTexts.{IsRequestWritten, argument_text, arguments_text, request_text}
use Rattle.pif_text_model.specs.Numbers.{cond_in, mutex_in, number_in, thread_in}
use Rattle.pif_text_model.specs.Replies.{thread_name}
use Rattle.pif_text_model.specs.Words.{words}
use Rattle.pif_text_model.proofs.CallLemmas.{request_back}
use Rattle.pif_text_model.proofs.Names.{first_word, has_no_space, last_word, number-no_space}
use Rattle.pif_text_model.proofs.Numerals.{number_decimal, own}
use Rattle.pif_script_model.specs.Lines.{is_word}
use Rattle.pif_explore_model.specs.declared.programs.Operand.{Operand}
use Rattle.pif_explore_model.specs.declared.programs.Operand.TheVariants.{Value, Held}
use Rattle.pif_explore_text.specs.declared.names.Names.{Names}
use Rattle.pif_explore_text.specs.declared.programs.Action.{Action}
use Rattle.pif_explore_text.specs.declared.programs.Action.TheVariants.{Call, Set, Add, Choose, Join, Start, Exit}
use Rattle.pif_explore_text.specs.Names.{call_in, names_what_is}
use Rattle.pif_explore_text.specs.Operands.{dots_at, range_in}
use Rattle.pif_explore_text.specs.Points.{action_point, points, size}
use Rattle.pif_explore_text.specs.Results.{and_then}
use Rattle.pif_explore_text.specs.Programs.{Place, action_by, action_in, after_word, behind, behind_last, behind_line, place_from, settled, start, statement_in, with_statement}
use Rattle.pif_explore_text.specs.Trees.{Body, does, followed, nothing}
use Rattle.pif_explore_text.specs.Words.{filled}
use Rattle.pif_explore_text.specs.Written.{IsCell, IsOperand, IsThread, cell_name, operand_word}
use Rattle.pif_explore_text.specs.WrittenPrograms.{AreDone, IsDone, action_points, action_words, behind_spaces, done_behind, range_word, statement_words}
use Rattle.pif_explore_text.proofs.ConditionsBack.{cell_said, operand_said, thread_said, value_said}
use Rattle.pif_explore_text.proofs.WordLemmas.{skip_space}

-- ---- words behind spaces

-- a word, which isn't empty and has no space
record IsWord (word : List ℕ) : Type 0 where
  some : is_word word ≡ true
  whole : has_no_space word ≡ true

abbrev AreWords : List (List ℕ) → Type 0
AreWords [] = Unit {0}
AreWords (w ∷ ws) = IsWord w × AreWords ws

-- the words of a text in which each stands behind a space
filled_back : (ws : List (List ℕ)) → AreWords ws → filled (behind_spaces ws) ≡ ws
unfolding filled words
filled_back [] are = refl
filled_back (w ∷ []) are =
    skip_space 32 (w ++ []) refl ∙ ap (λ t. filter is_word (words t)) (append-nil w)
    ∙ ap (filter is_word) (last_word w are.0.whole) ∙ rw are.0.some refl
filled_back (w ∷ v ∷ ws) are =
    skip_space 32 (w ++ 32 ∷ (v ++ behind_spaces ws)) refl
    ∙ ap (filter is_word) (first_word w (v ++ behind_spaces ws) are.0.whole)
    ∙ rw are.0.some (ap (λ l. w ∷ l) (sym (skip_space 32 (v ++ behind_spaces ws) refl) ∙ filled_back (v ∷ ws) are.1))

onto_words : (x : ℕ) (parts : List (List ℕ)) (t : List ℕ) → behind_spaces parts ≡ 32 ∷ t → behind_spaces (onto_first x parts) ≡ 32 ∷ x ∷ t
onto_words x [] t is = absurd (cc)
onto_words x (part ∷ parts) t is = ap (λ l. 32 ∷ x ∷ drop 1 l) is

-- the words of a text, each behind a space, are the text behind a space
joined : (t : List ℕ) → behind_spaces (words t) ≡ 32 ∷ t
unfolding words
joined [] = refl
joined (x ∷ xs) = by_space (x == 32) refl (joined xs)
  where
    by_space : (b : Bool) → (x == 32) ≡ b → behind_spaces (words xs) ≡ 32 ∷ xs → behind_spaces (words (x ∷ xs)) ≡ 32 ∷ x ∷ xs
    by_space true e more =
        let is : x ≡ 32 = grind (arith, nat_tests) in
        ap behind_spaces (slice_split-cons_yes (λ byte. byte == 32) x xs e) ∙ ap (λ l. 32 ∷ l) more ∙ ap (λ k. 32 ∷ k ∷ xs) (sym is)
    by_space false e more =
        ap behind_spaces (slice_split-cons_no (λ byte. byte == 32) x xs e) ∙ onto_words x (words xs) xs more

number-some : (n : ℕ) → n < 4294967296 → is_word (decimal n) ≡ true
number-some n fits = by_length (decimal n) (decimal_nonempty n (omega arith))
  where
    by_length : (l : List ℕ) → 0 < length l → is_word l ≡ true
    by_length [] h = absurd (omega arith)
    by_length (x ∷ xs) h = refl

number-word : (n : ℕ) → n < 4294967296 → IsWord (decimal n)
number-word n fits = record { some = number-some n fits; whole = number-no_space n fits }

cell-word : (x : ℕ) → IsCell x → IsWord (cell_name x)
cell-word x is = record { some = refl; whole = number-no_space x (omega (arith, is.there)) }

thread-word : (names : Names) (t : ℕ) → IsThread names t → IsWord (thread_name t)
thread-word names t is = record { some = refl; whole = number-no_space t is.fits }

no_space-append : (one other : List ℕ) → has_no_space one ≡ true → has_no_space other ≡ true → has_no_space (one ++ other) ≡ true
no_space-append [] other e f = f
no_space-append (x ∷ xs) other e f =
    let parts = and_parts (not (x == 32)) (has_no_space xs) e in
    and_from (not (x == 32)) (has_no_space (xs ++ other)) parts.0 (no_space-append xs other parts.1 f)

is_word-append : (one : List ℕ) (x : ℕ) (more : List ℕ) → is_word (one ++ x ∷ more) ≡ true
is_word-append [] x more = refl
is_word-append (y ∷ ys) x more = refl

range-word : (v w : ℕ) → v < 256 → w < 256 → IsWord (range_word v w)
range-word v w small fits = record {
  some = is_word-append (decimal v) 46 (46 ∷ decimal w);
  whole = no_space-append (decimal v) (46 ∷ 46 ∷ decimal w) (number-no_space v (omega arith)) (number-no_space w (omega arith));
}

-- ---- the values of a `choose`

no_dot : (d : ℕ) → is_ascii_digit d ≡ true → (d == 46) ≡ false
no_dot d e = grind (arith, nat_tests)

dots_behind : (digits more : List ℕ) → all_ascii_digits digits ≡ true → dots_at (digits ++ 46 ∷ 46 ∷ more) ≡ Some (length digits)
dots_behind [] more e = refl
dots_behind (d ∷ []) more e =
    let parts = and_parts (is_ascii_digit d) true e in
    rw (no_dot d parts.0) refl
dots_behind (d ∷ f ∷ digits) more e =
    let parts = and_parts (is_ascii_digit d) (all_ascii_digits (f ∷ digits)) e in
    rw (no_dot d parts.0) (ap (option_map (λ at. at + 1)) (dots_behind (f ∷ digits) more parts.1) ∙ ap Some (omega arith))

take_front : (one other : List ℕ) → take (length one) (one ++ other) ≡ one
take_front [] other = refl
take_front (x ∷ xs) other = ap (λ l. x ∷ l) (take_front xs other)

drop_front : (one : List ℕ) (x y : ℕ) (other : List ℕ) → drop (length one + 2) (one ++ x ∷ y ∷ other) ≡ other
drop_front [] x y other = refl
drop_front (z ∷ zs) x y other =
    let longer : length (z ∷ zs) + 2 ≡ suc (length zs + 2) = omega arith in
    ap (λ n. drop n (z ∷ (zs ++ x ∷ y ∷ other))) longer ∙ drop_front zs x y other

range_said : (v w : ℕ) → v ≤ w → w < 256 → range_in (range_word v w) ≡ Ok (v, w)
unfolding range_in
range_said v w le fits =
    let ordered_so : nat_le v w ≡ true = grind (arith, nat_tests) in
    rw (
      dots_behind (decimal v) (decimal w) (digits_decimal own v (omega arith)),
      take_front (decimal v) (46 ∷ 46 ∷ decimal w),
      drop_front (decimal v) 46 46 (decimal w),
      value_said v (omega arith),
      value_said w fits,
      ordered_so,
    )
    refl

-- ---- a statement

-- the word of a call is none of those of other statements
record IsCallWord (word : List ℕ) : Type 0 where
  set : bytes_eq word (codes "set") ≡ false
  add : bytes_eq word (codes "add") ≡ false
  choose : bytes_eq word (codes "choose") ≡ false
  join : bytes_eq word (codes "join") ≡ false
  start : bytes_eq word (codes "start") ≡ false
  exit : bytes_eq word (codes "exit") ≡ false
  some : is_word word ≡ true
  whole : has_no_space word ≡ true

call_word : (k : CallKind) → IsCallWord (row_of k).name
call_word Lock = record { set = refl; add = refl; choose = refl; join = refl; start = refl; exit = refl; some = refl; whole = refl }
call_word k = record { set = refl; add = refl; choose = refl; join = refl; start = refl; exit = refl; some = refl; whole = refl }

-- the words of a call begin with its own
call_front : (word : List ℕ) (ps : List Parameter) (a : Arguments) → is_word word ≡ true → has_no_space word ≡ true
    → (ws : List (List ℕ)) × (filled (32 ∷ (word ++ arguments_text ps a)) ≡ word ∷ ws)
unfolding filled
call_front word [] a some whole = (
  [],
  skip_space 32 (word ++ []) refl ∙ ap (λ t. filter is_word (words t)) (append-nil word)
      ∙ ap (filter is_word) (last_word word whole) ∙ rw some refl,
)
call_front word (p ∷ ps) a some whole = (
  filter is_word (words (argument_text p a ++ arguments_text ps a)),
  skip_space 32 (word ++ 32 ∷ (argument_text p a ++ arguments_text ps a)) refl
      ∙ ap (filter is_word) (first_word word (argument_text p a ++ arguments_text ps a) whole) ∙ rw some refl,
)

call_back : (names : Names) (q : Request) → IsRequestWritten q → names_what_is names q ≡ true → call_in names (32 ∷ request_text q) ≡ Some q
unfolding call_in
call_back names q written there = rw (request_back q written, there) refl

request_front : (q : Request) → (ws : List (List ℕ)) × (filled (32 ∷ request_text q) ≡ (row_of (kind_of q)).name ∷ ws)
unfolding request_text
request_front q =
    let is = call_word (kind_of q) in
    call_front (row_of (kind_of q)).name (row_of (kind_of q)).parameters _ is.some is.whole

-- the words of a text say what stands in it
by_words : (names : Names) (a : Action) (text : List ℕ) (ws : List (List ℕ)) → filled text ≡ ws → action_by names text ws ≡ Ok a
    → action_in names text ≡ Ok a
unfolding action_in
by_words names a text ws are is = ap (action_by names text) are ∙ is

call_action : (names : Names) (q : Request) → IsRequestWritten q → names_what_is names q ≡ true
    → action_in names (32 ∷ request_text q) ≡ Ok (Call q)
unfolding action_by
call_action names q written there =
    let is = call_word (kind_of q) in
    let front = request_front q in
    by_words names (Call q) (32 ∷ request_text q) ((row_of (kind_of q)).name ∷ front.0) front.1
    (rw (is.set, is.add, is.choose, is.join, is.start, is.exit, call_back names q written there) refl)

operand-word : (o : Operand) → IsOperand o → IsWord (operand_word o)
operand-word (Value v) fits = number-word v (omega arith)
operand-word (Held x) is = cell-word x is

-- a statement that is no call
action_said : (names : Names) (a : Action) (ws : List (List ℕ)) → AreWords ws → action_by names (behind_spaces ws) ws ≡ Ok a
    → action_in names (behind_spaces ws) ≡ Ok a
action_said names a ws are is = by_words names a (behind_spaces ws) ws (filled_back ws are) is

own_word : {word : List ℕ} → is_word word ≡ true → has_no_space word ≡ true → IsWord word
own_word some whole = record { some = some; whole = whole }

-- the text of a statement says it
said : (names : Names) (a : Action) → IsDone names a → action_in names (behind_spaces (action_words a)) ≡ Ok a
unfolding action_by
said names (Call q) done =
    ap (action_in names) (joined (request_text q)) ∙ call_action names q done.0 done.1
said names (Set x o) done =
    action_said names (Set x o) (codes "set" ∷ cell_name x ∷ operand_word o ∷ [])
    (own_word refl refl, (cell-word x done.0, (operand-word o done.1, tt)))
    (rw (cell_said x done.0, operand_said o done.1) refl)
said names (Add x o) done =
    action_said names (Add x o) (codes "add" ∷ cell_name x ∷ operand_word o ∷ [])
    (own_word refl refl, (cell-word x done.0, (operand-word o done.1, tt)))
    (rw (cell_said x done.0, operand_said o done.1) refl)
said names (Choose x v w) done =
    action_said names (Choose x v w) (codes "choose" ∷ cell_name x ∷ range_word v w ∷ [])
    (own_word refl refl, (cell-word x done.0, (range-word v w (omega (arith, done.1, done.2)) done.2, tt)))
    (rw (cell_said x done.0, range_said v w done.1 done.2) refl)
said names (Join t) done =
    action_said names (Join t) (codes "join" ∷ thread_name t ∷ []) (own_word refl refl, (thread-word names t done, tt))
    (rw (thread_said names t done) refl)
said names (Start t) done =
    action_said names (Start t) (codes "start" ∷ thread_name t ∷ []) (own_word refl refl, (thread-word names t done, tt))
    (rw (thread_said names t done) refl)
said names Exit done = action_said names Exit (codes "exit" ∷ []) (own_word refl refl, tt) refl

-- it is no `break`
no_break-call : (k : CallKind) (more : List ℕ) → bytes_eq (32 ∷ ((row_of k).name ++ more)) (codes " break") ≡ false
no_break-call Lock more = refl
no_break-call k more = refl

no_break : (a : Action) → bytes_eq (behind_spaces (action_words a)) (codes " break") ≡ false
unfolding request_text
no_break (Call q) = ap (λ t. bytes_eq t (codes " break")) (joined (request_text q)) ∙ no_break-call (kind_of q) _
no_break a = refl

statement_said : (names : Names) (repeated : Bool) (a : Action) → IsDone names a
    → statement_in names repeated (behind_spaces (action_words a)) ≡ Ok (does a)
unfolding statement_in
statement_said names repeated a done = rw (no_break a, said names a done) refl

-- one statement more
some_text : (names : Names) (repeated : Bool) (before : Body) (text : List ℕ) (s : Body) → statement_in names repeated text ≡ Ok s
    → text ≢ [] → with_statement names repeated before text ≡ Ok (followed before s)
some_text names repeated before [] s is some = absurd (some refl)
some_text names repeated before (byte ∷ more) s is some = rw is refl

some_words : (a : Action) → behind_spaces (action_words a) ≢ []
some_words (Call q) e = let is = joined (request_text q) in absurd (cc)
some_words a e = absurd (cc)

with_said : (names : Names) (repeated : Bool) (before : Body) (a : Action) → IsDone names a
    → with_statement names repeated before (behind_spaces (action_words a)) ≡ Ok (followed before (does a))
with_said names repeated before a done =
    some_text names repeated before (behind_spaces (action_words a)) (does a) (statement_said names repeated a done) (some_words a)

-- ---- no word of a statement is a mark

record IsNoMark (word : List ℕ) : Type 0 where
  ends : bytes_eq word (codes ";") ≡ false
  closes : bytes_eq word (codes "}") ≡ false
  opens : bytes_eq word (codes "{") ≡ false

abbrev AreNoMarks : List (List ℕ) → Type 0
AreNoMarks [] = Unit {0}
AreNoMarks (w ∷ ws) = IsNoMark w × AreNoMarks ws

-- a word of which something is read that isn't read of another word
other_word : {A : Type 0} (read : List ℕ → A) (word other : List ℕ) → read word ≢ read other → bytes_eq word other ≡ false
other_word read word other differ = by_test (bytes_eq word other) refl
  where
    by_test : (b : Bool) → bytes_eq word other ≡ b → bytes_eq word other ≡ false
    by_test false e = e
    by_test true e = absurd (differ (ap read ((bytes_eq-Decides word other).0 e)))

-- nothing is read of marks
record IsUnread {A : Type 0} (read : List ℕ → Option A) : Type 0 where
  ends : read (codes ";") ≡ None
  closes : read (codes "}") ≡ None
  opens : read (codes "{") ≡ None

read-no_mark : {A : Type 0} (read : List ℕ → Option A) (word : List ℕ) (x : A) → IsUnread read → read word ≡ Some x → IsNoMark word
read-no_mark read word x none is = record {
  ends = other_word read word (codes ";") (λ e. let n = none.ends in absurd (cc));
  closes = other_word read word (codes "}") (λ e. let n = none.closes in absurd (cc));
  opens = other_word read word (codes "{") (λ e. let n = none.opens in absurd (cc));
}

no_call : IsUnread call_named
unfolding call_named
no_call = record { ends = refl; closes = refl; opens = refl }

no_argument : (p : Parameter) (a : Arguments) → IsUnread (λ word. with_argument p word a)
unfolding with_argument thread_in mutex_in cond_in number_in
no_argument parameter.Thread a = record { ends = refl; closes = refl; opens = refl }
no_argument p a = record { ends = refl; closes = refl; opens = refl }

arguments-no_mark : (ps : List Parameter) (ws : List (List ℕ)) (a b : Arguments) → with_arguments ps ws a ≡ Some b → AreNoMarks ws
unfolding with_arguments
arguments-no_mark [] [] a b is = tt
arguments-no_mark [] (w ∷ ws) a b is = absurd (cc)
arguments-no_mark (p ∷ ps) [] a b is = absurd (cc)
arguments-no_mark (p ∷ ps) (w ∷ ws) a b is =
    by_argument (with_argument p w a) refl is (λ c h. arguments-no_mark ps ws c b h)
  where
    by_argument : (o : Option Arguments) → with_argument p w a ≡ o → option_and_then (λ c. with_arguments ps ws c) o ≡ Some b
        → ((c : Arguments) → with_arguments ps ws c ≡ Some b → AreNoMarks ws) → AreNoMarks (w ∷ ws)
    by_argument None e h more = absurd (cc)
    by_argument (Some c) e h more = (read-no_mark (λ word. with_argument p word a) w c (no_argument p a) e, more c h)

request-no_mark : (ws : List (List ℕ)) (q : Request) → request_in ws ≡ Some q → AreNoMarks ws
unfolding request_in
request-no_mark [] q is = tt
request-no_mark (w ∷ ws) q is = by_call (call_named w) refl is
  where
    by_arguments : (k : CallKind) (o : Option Arguments) → with_arguments (row_of k).parameters ws no_arguments ≡ o
        → option_and_then (request_with k) o ≡ Some q → AreNoMarks ws
    by_arguments k None e h = absurd (cc)
    by_arguments k (Some a) e h = arguments-no_mark (row_of k).parameters ws no_arguments a e

    by_call : (o : Option CallKind) → call_named w ≡ o
        → option_and_then (λ k. option_and_then (request_with k) (with_arguments (row_of k).parameters ws no_arguments)) o ≡ Some q
        → AreNoMarks (w ∷ ws)
    by_call None e h = absurd (cc)
    by_call (Some k) e h =
        (read-no_mark call_named w k no_call e, by_arguments k (with_arguments (row_of k).parameters ws no_arguments) refl h)

number-no_mark : (n : ℕ) → n < 4294967296 → IsNoMark (decimal n)
unfolding number_in
number-no_mark n fits = read-no_mark number_in (decimal n) n (record { ends = refl; closes = refl; opens = refl }) (number_decimal n fits)

operand-no_mark : (o : Operand) → IsOperand o → IsNoMark (operand_word o)
operand-no_mark (Value v) fits = number-no_mark v (omega arith)
operand-no_mark (Held x) is = record { ends = refl; closes = refl; opens = refl }

range-no_mark : (v w : ℕ) → v ≤ w → w < 256 → IsNoMark (range_word v w)
unfolding range_in
range-no_mark v w le fits =
    let is = range_said v w le fits in
    record {
      ends = other_word range_in (range_word v w) (codes ";") (λ e. absurd (cc));
      closes = other_word range_in (range_word v w) (codes "}") (λ e. absurd (cc));
      opens = other_word range_in (range_word v w) (codes "{") (λ e. absurd (cc));
    }

own_mark : {word : List ℕ} → bytes_eq word (codes ";") ≡ false → bytes_eq word (codes "}") ≡ false
    → bytes_eq word (codes "{") ≡ false → IsNoMark word
own_mark a b c = record { ends = a; closes = b; opens = c }

words-no_mark : (names : Names) (a : Action) → IsDone names a → AreNoMarks (action_words a)
words-no_mark names (Call q) done = request-no_mark (words (request_text q)) q (request_back q done.0)
words-no_mark names (Set x o) done =
    (own_mark refl refl refl, (own_mark refl refl refl, (operand-no_mark o done.1, tt)))
words-no_mark names (Add x o) done =
    (own_mark refl refl refl, (own_mark refl refl refl, (operand-no_mark o done.1, tt)))
words-no_mark names (Choose x v w) done =
    (own_mark refl refl refl, (own_mark refl refl refl, (range-no_mark v w done.1 done.2, tt)))
words-no_mark names (Join t) done = (own_mark refl refl refl, (own_mark refl refl refl, tt))
words-no_mark names (Start t) done = (own_mark refl refl refl, (own_mark refl refl refl, tt))
words-no_mark names Exit done = (own_mark refl refl refl, tt)

-- ---- statements

-- behind words that are no marks
taken : (names : Names) (b : Body) (t : List ℕ) (ws rest : List (List ℕ)) → AreNoMarks ws
    → place_from names (record { outside = []; before = b; chosen = []; text = t }) (ws ++ rest)
    ≡ place_from names (record { outside = []; before = b; chosen = []; text = t ++ behind_spaces ws }) rest
unfolding place_from after_word
taken names b t [] rest none =
    ap (λ u. place_from names (record { outside = []; before = b; chosen = []; text = u }) rest) (sym (append-nil t))
taken names b t (w ∷ ws) rest none =
    rw (none.0.ends, none.0.closes, none.0.opens)
    (taken names b (t ++ 32 ∷ w) ws rest none.1
    ∙ ap (λ u. place_from names (record { outside = []; before = b; chosen = []; text = u }) rest) (append_assoc t (32 ∷ w) (behind_spaces ws)))

-- the place behind the words of a statement
abbrev within : Body → Action → Place
within b a = record { outside = []; before = b; chosen = []; text = behind_spaces (action_words a) }

settled_so : (names : Names) (b : Body) (a : Action) → IsDone names a → settled names (within b a) ≡ Ok ([], followed b (does a))
settled_so names b a done = rw (with_said names false b a done) refl

last_so : (names : Names) (p : Place) (text : List ℕ)
    → behind_last names p text [] ≡ and_then (settled names p) (λ x. Ok (behind x.0 x.1))
last_so names p [] = refl
last_so names p (byte ∷ more) = refl

-- a line goes on behind these statements
abbrev EndsAs : Names → Body → List (List ℕ) → Body → Type 0
EndsAs names b ws said = and_then (place_from names (behind [] b) ws) (λ n. behind_last names n n.text n.outside) ≡ Ok (behind [] said)

at_mark : (names : Names) (b : Body) (a : Action) (rest : List (List ℕ)) → IsDone names a
    → place_from names (behind [] b) (action_words a ++ codes ";" ∷ rest) ≡ place_from names (behind [] (followed b (does a))) rest
unfolding place_from after_word
at_mark names b a rest done =
    taken names b [] (action_words a) (codes ";" ∷ rest) (words-no_mark names a done) ∙ rw (settled_so names b a done) refl

at_last : (names : Names) (b : Body) (a : Action) → IsDone names a → EndsAs names b (action_words a) (followed b (does a))
unfolding place_from
at_last names b a done =
    rw (
      ← append-nil (action_words a),
      taken names b [] (action_words a) [] (words-no_mark names a done),
      last_so names (within b a) (behind_spaces (action_words a)),
      settled_so names b a done,
    )
    refl

statements_from : (names : Names) (b : Body) (all : List Action) → AreDone names all
    → EndsAs names b (statement_words all) (done_behind b all)
unfolding place_from
statements_from names b [] done = refl
statements_from names b (a ∷ []) done = at_last names b a done.0
statements_from names b (a ∷ c ∷ more) done =
    ap (λ r. and_then r (λ n. behind_last names n n.text n.outside)) (at_mark names b a (statement_words (c ∷ more)) done.0)
    ∙ statements_from names (followed b (does a)) (c ∷ more) done.1

-- statements are read back from their words
pub statements_back : (names : Names) (all : List Action) → AreDone names all
    → behind_line names start (statement_words all) ≡ Ok (behind [] (done_behind nothing all))
statements_back names all done = statements_from names nothing all done

-- ---- points

points_behind : (b : Body) (a : Action) (more : List Action) (at exit out : ℕ)
    → points (done_behind b (a ∷ more)) at exit out ≡ points b at (at + size b) out ++ action_points (a ∷ more) (at + size b) exit
points_behind b a [] at exit out = refl
points_behind b a (c ∷ more) at exit out =
    points_behind (followed b (does a)) c more at exit out
    ∙ append_assoc (points b at (at + size b) out) (action_point a (at + (size b + 1)) ∷ []) (action_points (c ∷ more) (at + (size b + 1)) exit)
    ∙ ap (λ n. points b at (at + size b) out ++ action_point a n ∷ action_points (c ∷ more) n exit) (sym (add_assoc at (size b) 1))

-- statements are these points
pub statements_are : (all : List Action) (at exit out : ℕ) → points (done_behind nothing all) at exit out ≡ action_points all at exit
statements_are [] at exit out = refl
statements_are (a ∷ more) at exit out =
    points_behind nothing a more at exit out ∙ ap (λ n. action_points (a ∷ more) n exit) (add-zero at)
