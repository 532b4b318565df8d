-- The text of a command is read as that command.
use Rattle.std.proofs.Common.{◌≡◌, ℕ, ◌<◌, ◌≤◌, Bool, true, false, List, [], ◌∷◌, ◌++◌, Option, Some, None, refl, ap, ◌∙◌, append_assoc, arith, decimal, codes}
use Rattle.pif_types.specs.declared.requests.Kind.{Kind}
use Rattle.pif_types.specs.declared.requests.Kind.TheVariants.{Normal, ErrorCheck, Recursive}
use Rattle.pif_types.specs.declared.requests.Request.{Request}
use Rattle.pif_model.specs.declared.events.Event.{Event}
use Rattle.pif_model.specs.declared.events.Event.TheVariants.{Begin, Go, End, Tick}
use Rattle.pif_text_model.specs.declared.commands.Addition.{Addition}
use Rattle.pif_text_model.specs.declared.commands.Addition.TheVariants.{Thread, Mutex, Cond}
use Rattle.pif_text_model.specs.declared.commands.Command.{Command}
use Rattle.pif_text_model.specs.declared.commands.Command.TheVariants as command
use Rattle.pif_text_model.specs.Commands.{kind_in, request_in, robust_in, limits_in, command_of_two, command_of_more, command_of_words, command_in}
use Rattle.pif_text_model.specs.CommandTexts.{command_text, addition_text, event_text, run_text, request_text, IsWritten, IsAdditionWritten, IsEventWritten, IsRunWritten, IsRequestWritten}
use Rattle.pif_text_model.specs.Numbers.{thread_in}
use Rattle.pif_text_model.specs.Replies.{thread_name, mutex_name}
use Rattle.pif_text_model.specs.Words.{words}
use Rattle.pif_text_model.proofs.Numerals.{number_decimal}
use Rattle.pif_text_model.proofs.Names.{has_no_space, first_word, middle_word, two-words, number-no_space, thread-no_space, mutex-no_space, thread_back, mutex_back}
use Rattle.pif_text_model.proofs.CallLemmas.{request_back}
use Rattle.pif_text_model.proofs.QuestionLemmas.{question_back}

-- the words of a command that begins with a name and a thread
called-words : (name : List ℕ) (t : ℕ) (request : List ℕ) → has_no_space name ≡ true → t < 4294967296
    → words (name ++ 32 ∷ ((thread_name t ++ 32 ∷ []) ++ request)) ≡ name ∷ thread_name t ∷ words request
called-words name t request e small =
    first_word name ((thread_name t ++ 32 ∷ []) ++ request) e ∙ ap (λ l. name ∷ l) (middle_word (thread_name t) request (thread-no_space t small))

-- words that make a request, behind `begin` and a thread
begun : (t : ℕ) (q : Request) (ws : List (List ℕ)) → thread_in (thread_name t) ≡ Some t → request_in ws ≡ Some q
    → command_of_words (codes "begin" ∷ thread_name t ∷ ws) ≡ Some (command.Event (Begin t q))
unfolding command_of_words command_of_more request_in
begun t q [] e f = absurd (grind (arith, f))
begun t q (a ∷ more) e f = rw (e, f) refl

-- words that make a request, behind `call` and a thread
called : (t : ℕ) (q : Request) (ws : List (List ℕ)) → thread_in (thread_name t) ≡ Some t → request_in ws ≡ Some q
    → command_of_words (codes "call" ∷ thread_name t ∷ ws) ≡ Some (command.Run t (Some q))
unfolding command_of_words command_of_more request_in
called t q [] e f = absurd (grind (arith, f))
called t q (a ∷ more) e f = rw (e, f) refl

-- ---- events

begin_back : (t : ℕ) (q : Request) → 1 ≤ t → t < 4294967296 → IsRequestWritten q
    → command_in (event_text (Begin t q)) ≡ Some (command.Event (Begin t q))
unfolding command_in event_text
begin_back t q some small r =
    ap command_of_words (called-words (codes "begin") t (request_text q) refl small)
    ∙ begun t q (words (request_text q)) (thread_back t some small) (request_back q r)

event_back : (e : Event) → IsEventWritten e → command_in (event_text e) ≡ Some (command.Event e)
unfolding command_in command_of_words command_of_two event_text
event_back (Begin t q) r = begin_back t q r.0.0 r.0.1 r.1
event_back (Go t) r = rw (two-words (codes "go") (thread_name t) refl (thread-no_space t r.1), thread_back t r.0 r.1) refl
event_back (End t) r = rw (two-words (codes "end") (thread_name t) refl (thread-no_space t r.1), thread_back t r.0 r.1) refl
event_back (Tick n) r = rw (two-words (codes "tick") (decimal n) refl (number-no_space n r), number_decimal n r) refl

-- ---- threads that go on

run_back : (t : ℕ) (q : Option Request) → IsRunWritten t q → command_in (run_text t q) ≡ Some (command.Run t q)
unfolding command_in command_of_words command_of_two run_text
run_back t (Some q) r =
    ap command_of_words (called-words (codes "call") t (request_text q) refl r.0.1)
    ∙ called t q (words (request_text q)) (thread_back t r.0.0 r.0.1) (request_back q r.1)
run_back t None r =
    rw (two-words (codes "finish") (thread_name t) refl (thread-no_space t r.1), thread_back t r.0 r.1) refl

-- ---- additions

kind_back : (k : Kind) (robust : Bool) → command_in (addition_text (Mutex k robust)) ≡ Some (command.Add (Mutex k robust))
unfolding command_in command_of_words command_of_two command_of_more robust_in addition_text kind_in words
kind_back Normal false = refl
kind_back Normal true = refl
kind_back ErrorCheck false = refl
kind_back ErrorCheck true = refl
kind_back Recursive false = refl
kind_back Recursive true = refl

addition_back : (a : Addition) → IsAdditionWritten a → command_in (addition_text a) ≡ Some (command.Add a)
unfolding command_in command_of_words command_of_two addition_text
addition_back (Thread p) r =
    rw (two-words (codes "thread") (decimal p) refl (number-no_space p r), number_decimal p r) refl
addition_back (Mutex k robust) r = kind_back k robust
addition_back (Cond m) r = rw (two-words (codes "cond") (mutex_name m) refl (mutex-no_space m r.1), mutex_back m r.0 r.1) refl

-- ---- limits

-- four numbers with one space between them
four-numbers : (a b c d : ℕ) → a < 4294967296 → b < 4294967296 → c < 4294967296 → d < 4294967296
    → words (decimal a ++ (32 ∷ decimal b ++ (32 ∷ decimal c ++ (32 ∷ decimal d)))) ≡ decimal a ∷ decimal b ∷ decimal c ∷ decimal d ∷ []
four-numbers a b c d e f g h =
    first_word (decimal a) _ (number-no_space a e)
    ∙ ap (λ l. decimal a ∷ l) (first_word (decimal b) _ (number-no_space b f)
    ∙ ap (λ l. decimal b ∷ l) (two-words (decimal c) (decimal d) (number-no_space c g) (number-no_space d h)))

-- how the text of `limits` is put together
spaced : (a b c d : List ℕ) → ((((a ++ 32 ∷ []) ++ b) ++ 32 ∷ []) ++ c) ++ 32 ∷ [] ++ d ≡ a ++ (32 ∷ b ++ (32 ∷ c ++ (32 ∷ d)))
spaced a b c d = simp append_assoc

limits-back : (t m c s : ℕ) → t < 4294967296 → m < 4294967296 → c < 4294967296 → s < 4294967296
    → command_in (command_text (command.Limits t m c s)) ≡ Some (command.Limits t m c s)
unfolding command_in command_of_words command_of_more limits_in command_text
limits-back t m c s e f g h =
    ap (λ line. command_of_words (words (codes "limits " ++ line))) (spaced (decimal t) (decimal m) (decimal c) (decimal s))
    ∙ rw (
      first_word (codes "limits") (decimal t ++ (32 ∷ decimal m ++ (32 ∷ decimal c ++ (32 ∷ decimal s)))) refl,
      four-numbers t m c s e f g h,
      number_decimal t e,
      number_decimal m f,
      number_decimal c g,
      number_decimal s h,
    ) refl

-- ---- commands

pub command_back : (c : Command) → IsWritten c → command_in (command_text c) ≡ Some c
unfolding command_text
command_back (command.Limits t m c s) r = limits-back t m c s r.0 r.1 r.2 r.3
command_back (command.Add a) r = addition_back a r
command_back (command.Event e) r = event_back e r
command_back (command.Run t q) r = run_back t q r
command_back (command.Ask q) r = question_back q r
