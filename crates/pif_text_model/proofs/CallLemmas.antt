-- The text of a request is read as that request, is short, and has neither LF nor an equals sign.
use Rattle.std.proofs.Common.{◌≡◌, ℕ, ◌+◌, ◌≤◌, ◌&&◌, Bool, true, List, [], ◌∷◌, ◌++◌, Option, Some, None, is_some, length, option_map, refl, ap, ◌∙◌, append-nil, arith, decimal, codes}
use Rattle.std.specs.Prelude.{IfSome}
use Rattle.std.proofs.lemmas.Bool.{and_parts}
use Rattle.pif_types.specs.declared.requests.Request.{Request}
use Rattle.pif_types.specs.declared.requests.Request.TheVariants as request
use Rattle.pif_text_model.specs.declared.calls.Arguments.{Arguments}
use Rattle.pif_text_model.specs.declared.calls.CallKind.{CallKind}
use Rattle.pif_text_model.specs.declared.calls.CallKind.TheVariants.{Lock}
use Rattle.pif_text_model.specs.declared.calls.Parameter.{Parameter}
use Rattle.pif_text_model.specs.declared.calls.Parameter.TheVariants.{Thread, Mutex, Cond, Priority, Deadline}
use Rattle.pif_text_model.specs.Calls.{arguments_of, call_named, kind_of, no_arguments, request_with, row_of}
use Rattle.pif_text_model.specs.Commands.{request_in, with_argument, with_arguments}
use Rattle.pif_text_model.specs.CommandTexts.{AreArgumentsWritten, IsRequestWritten, argument_text, arguments_text, request_text, room_of, room_of_one, text_if_any}
use Rattle.pif_text_model.specs.Numbers.{IsName, IsNumber, cond_in, mutex_in, number_in, thread_in}
use Rattle.pif_text_model.specs.Replies.{cond_name, mutex_name, thread_name}
use Rattle.pif_text_model.specs.Words.{words}
use Rattle.pif_text_model.proofs.Names.{cond-no_space, cond_back, first_word, has_no_space, last_word, mutex-no_space, mutex_back, number-no_space, thread-no_space, thread_back}
use Rattle.pif_text_model.proofs.Numerals.{number_decimal}
use Rattle.pif_text_model.proofs.Plain.{IsPlain, behind, lacks, plain-append, plain-cond, plain-more, plain-mutex, plain-number, plain-thread}

-- ---- the words of calls

-- the word of a call is read as that call, and fits a line
record IsFit (k : CallKind) : Type 0 where
  back : call_named (row_of k).name ≡ Some k
  no_space : has_no_space (row_of k).name ≡ true
  no_end : lacks 10 (row_of k).name ≡ true
  no_equals : lacks 61 (row_of k).name ≡ true
  room : length (row_of k).name + room_of (row_of k).parameters ≤ 44

fits : (k : CallKind) → IsFit k
unfolding call_named
fits Lock = record { back = refl; no_space = refl; no_end = refl; no_equals = refl; room = omega arith }
fits k = record { back = refl; no_space = refl; no_end = refl; no_equals = refl; room = omega arith }

-- the arguments of a request make it of its call
made_back : (q : Request) → request_with (kind_of q) (arguments_of q) ≡ Some q
unfolding request_with
made_back (request.Lock m) = refl
made_back q = refl

-- ---- the words of arguments

-- the texts of the arguments for these parameters
abbrev texts : List Parameter → Arguments → List (List ℕ)
texts [] a = []
texts (p ∷ ps) a = argument_text p a ∷ texts ps a

if_any-no_space : (text : ℕ → List ℕ) (P : ℕ → Type 0) → ((n : ℕ) → P n → has_no_space (text n) ≡ true)
    → (o : Option ℕ) → IfSome o P → has_no_space (text_if_any text o) ≡ true
if_any-no_space text P f (Some n) r = f n r
if_any-no_space text P f None r = refl

argument-no_space : (p : Parameter) (a : Arguments) → AreArgumentsWritten a → has_no_space (argument_text p a) ≡ true
argument-no_space Thread a r =
    if_any-no_space thread_name IsName (λ t n. thread-no_space t n.1) a.thread r.thread
argument-no_space Mutex a r = if_any-no_space mutex_name IsName (λ m n. mutex-no_space m n.1) a.mutex r.mutex
argument-no_space Cond a r = if_any-no_space cond_name IsName (λ c n. cond-no_space c n.1) a.cond r.cond
argument-no_space Priority a r = if_any-no_space decimal IsNumber (λ p n. number-no_space p n) a.priority r.priority
argument-no_space Deadline a r = if_any-no_space decimal IsNumber (λ d n. number-no_space d n) a.deadline r.deadline

words-texts : (word : List ℕ) (ps : List Parameter) (a : Arguments) → has_no_space word ≡ true → AreArgumentsWritten a
    → words (word ++ arguments_text ps a) ≡ word ∷ texts ps a
words-texts word [] a e r = ap words (append-nil word) ∙ last_word word e
words-texts word (p ∷ ps) a e r =
    first_word word (argument_text p a ++ arguments_text ps a) e
    ∙ ap (λ l. word ∷ l) (words-texts (argument_text p a) ps a (argument-no_space p a r) r)

-- ---- arguments that are read back

-- arguments with another's for this parameter
abbrev taken : Parameter → (from a : Arguments) → Arguments
taken Thread from a = record a { thread = from.thread }
taken Mutex from a = record a { mutex = from.mutex }
taken Cond from a = record a { cond = from.cond }
taken Priority from a = record a { priority = from.priority }
taken Deadline from a = record a { deadline = from.deadline }

abbrev all_taken : List Parameter → (from a : Arguments) → Arguments
all_taken [] from a = a
all_taken (p ∷ ps) from a = all_taken ps from (taken p from a)

-- whether there is an argument for this parameter
abbrev has : Parameter → Arguments → Bool
has Thread a = is_some a.thread
has Mutex a = is_some a.mutex
has Cond a = is_some a.cond
has Priority a = is_some a.priority
has Deadline a = is_some a.deadline

abbrev has_all : List Parameter → Arguments → Bool
has_all [] a = true
has_all (p ∷ ps) a = has p a && has_all ps a

-- a number is read from its own text
if_any-back : (text : ℕ → List ℕ) (read : List ℕ → Option ℕ) (P : ℕ → Type 0)
    → ((n : ℕ) → P n → read (text n) ≡ Some n) → (put : Option ℕ → Arguments) (o : Option ℕ) → IfSome o P
    → is_some o ≡ true → option_map (λ n. put (Some n)) (read (text_if_any text o)) ≡ Some (put o)
if_any-back text read P f put (Some n) r e = ap (option_map (λ k. put (Some k))) (f n r)
if_any-back text read P f put None r e = absurd (cc)

argument_back : (p : Parameter) (from a : Arguments) → AreArgumentsWritten from → has p from ≡ true
    → with_argument p (argument_text p from) a ≡ Some (taken p from a)
unfolding with_argument
argument_back Thread from a r e =
    if_any-back thread_name thread_in IsName (λ t n. thread_back t n.0 n.1) (λ o. record a { thread = o }) from.thread
    r.thread e
argument_back Mutex from a r e =
    if_any-back mutex_name mutex_in IsName (λ m n. mutex_back m n.0 n.1) (λ o. record a { mutex = o }) from.mutex r.mutex e
argument_back Cond from a r e =
    if_any-back cond_name cond_in IsName (λ c n. cond_back c n.0 n.1) (λ o. record a { cond = o }) from.cond r.cond e
argument_back Priority from a r e =
    if_any-back decimal number_in IsNumber number_decimal (λ o. record a { priority = o }) from.priority r.priority e
argument_back Deadline from a r e =
    if_any-back decimal number_in IsNumber number_decimal (λ o. record a { deadline = o }) from.deadline r.deadline e

arguments_back : (ps : List Parameter) (from a : Arguments) → AreArgumentsWritten from → has_all ps from ≡ true
    → with_arguments ps (texts ps from) a ≡ Some (all_taken ps from a)
unfolding with_arguments
arguments_back [] from a r e = refl
arguments_back (p ∷ ps) from a r e =
    let t = and_parts (has p from) (has_all ps from) e in
    rw (argument_back p from a r t.0) (arguments_back ps from (taken p from a) r t.1)

-- a request has an argument for each parameter of its call, and no others
complete : (q : Request) → has_all (row_of (kind_of q)).parameters (arguments_of q) ≡ true
complete (request.Lock m) = refl
complete q = refl

no_others : (q : Request) → all_taken (row_of (kind_of q)).parameters (arguments_of q) no_arguments ≡ arguments_of q
no_others (request.Lock m) = refl
no_others q = refl

own_arguments : (q : Request) → IsRequestWritten q
    → with_arguments (row_of (kind_of q)).parameters (texts (row_of (kind_of q)).parameters (arguments_of q)) no_arguments
    ≡ Some (arguments_of q)
own_arguments q r =
    arguments_back (row_of (kind_of q)).parameters (arguments_of q) no_arguments r (complete q) ∙ ap Some (no_others q)

-- the words of a request make it
pub request_back : (q : Request) → IsRequestWritten q → request_in (words (request_text q)) ≡ Some q
unfolding request_in request_text
request_back q r =
    let fit = fits (kind_of q) in
    ap request_in (words-texts (row_of (kind_of q)).name (row_of (kind_of q)).parameters (arguments_of q) fit.no_space r)
    ∙ rw (fit.back, own_arguments q r) (made_back q)

-- ---- how long it is

if_any-plain : (most : ℕ) (text : ℕ → List ℕ) (P : ℕ → Type 0) → ((n : ℕ) → P n → IsPlain most (text n))
    → (o : Option ℕ) → IfSome o P → IsPlain most (text_if_any text o)
if_any-plain most text P f (Some n) r = f n r
if_any-plain most text P f None r = record { no_end = refl; no_equals = refl; short = omega arith }

after_space : (most : ℕ) (text : List ℕ) → IsPlain most text → IsPlain (1 + most) (codes " " ++ text)
after_space most text p = behind 1 most (codes " ") text refl refl (omega arith) p

argument-plain : (p : Parameter) (a : Arguments) → AreArgumentsWritten a
    → IsPlain (room_of_one p) (codes " " ++ argument_text p a)
argument-plain Thread a r =
    after_space 11 _ (if_any-plain 11 thread_name IsName (λ t n. plain-thread t n.1) a.thread r.thread)
argument-plain Mutex a r =
    after_space 11 _ (if_any-plain 11 mutex_name IsName (λ m n. plain-mutex m n.1) a.mutex r.mutex)
argument-plain Cond a r =
    after_space 11 _ (if_any-plain 11 cond_name IsName (λ c n. plain-cond c n.1) a.cond r.cond)
argument-plain Priority a r =
    after_space 10 _ (if_any-plain 10 decimal IsNumber plain-number a.priority r.priority)
argument-plain Deadline a r =
    after_space 10 _ (if_any-plain 10 decimal IsNumber plain-number a.deadline r.deadline)

arguments-plain : (ps : List Parameter) (a : Arguments) → AreArgumentsWritten a
    → IsPlain (room_of ps) (arguments_text ps a)
arguments-plain [] a r = record { no_end = refl; no_equals = refl; short = omega arith }
arguments-plain (p ∷ ps) a r =
    plain-append (room_of_one p) (room_of ps) (codes " " ++ argument_text p a) (arguments_text ps a) (argument-plain p a r)
    (arguments-plain ps a r)

pub request-plain : (q : Request) → IsRequestWritten q → IsPlain 44 (request_text q)
unfolding request_text
request-plain q r =
    let row = row_of (kind_of q) in
    let fit = fits (kind_of q) in
    plain-more (length row.name + room_of row.parameters) 44 _ fit.room
    (plain-append (length row.name) (room_of row.parameters) row.name (arguments_text row.parameters (arguments_of q))
    (record { no_end = fit.no_end; no_equals = fit.no_equals; short = omega arith })
    (arguments-plain row.parameters (arguments_of q) r))
