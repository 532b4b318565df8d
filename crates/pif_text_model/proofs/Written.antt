-- The commands that lines ask for have numbers that a line can write.
use Rattle.std.proofs.Common.{◌≡◌, ℕ, true, false, List, [], ◌∷◌, Option, Some, None, option_map, codes, subst, bytes_eq}
use Rattle.std.specs.Prelude.{IfSome}
use Rattle.pif_types.specs.declared.requests.Request.{Request}
use Rattle.pif_types.specs.declared.requests.Request.TheVariants as request
use Rattle.pif_model.specs.declared.events.Event.TheVariants.{Go, End, Tick}
use Rattle.pif_text_model.specs.declared.calls.Arguments.{Arguments}
use Rattle.pif_text_model.specs.declared.calls.CallKind.{CallKind}
use Rattle.pif_text_model.specs.declared.calls.CallKind.TheVariants.{Lock, TryLock, Unlock, Consistent, Wait, Signal, Broadcast, SetPrio, TimedLock, TimedWait}
use Rattle.pif_text_model.specs.declared.calls.Parameter.{Parameter}
use Rattle.pif_text_model.specs.declared.calls.Parameter.TheVariants as parameter
use Rattle.pif_text_model.specs.declared.commands.Addition.TheVariants.{Thread, Mutex, Cond}
use Rattle.pif_text_model.specs.declared.commands.Command.{Command}
use Rattle.pif_text_model.specs.declared.commands.Command.TheVariants as command
use Rattle.pif_text_model.specs.Calls.{call_named, no_arguments, request_with, row_of}
use Rattle.pif_text_model.specs.Commands.{kind_in, with_argument, with_arguments, request_in, robust_in, limits_in, command_of_one, command_of_two, command_of_more, command_of_words, command_in}
use Rattle.pif_text_model.specs.CommandTexts.{AreArgumentsWritten, IsRequestWritten, IsWritten}
use Rattle.pif_text_model.specs.Numbers.{IsName, IsNumber, cond_in, mutex_in, number_in, thread_in}
use Rattle.pif_text_model.specs.Questions.{question_in_one, question_in_two}
use Rattle.pif_text_model.specs.Words.{words}
use Rattle.pif_text_model.proofs.QuestionLemmas.{question_of_one-written, question_of_two-written}
use Rattle.pif_text_model.proofs.Yields.{Yields, yields_more, if_yields, map_yields, bind_yields, anything, number-small, thread-small, mutex-small, cond-small}

-- ---- requests

-- arguments of which each is such
written : (a : Arguments) → IfSome a.thread IsName → IfSome a.mutex IsName → IfSome a.cond IsName
    → IfSome a.priority IsNumber → IfSome a.deadline IsNumber → AreArgumentsWritten a
written a t m c p d = record { thread = t; mutex = m; cond = c; priority = p; deadline = d }

-- arguments with one more
argument-small : (p : Parameter) (word : List ℕ) (a : Arguments) → AreArgumentsWritten a
    → Yields AreArgumentsWritten (with_argument p word a)
unfolding with_argument
argument-small parameter.Thread word a r =
    let Q = AreArgumentsWritten in
    map_yields Q (λ t. record a { thread = Some t }) (thread_in word)
    (yields_more IsName _ (thread_in word) (thread-small word) (λ t n. written _ n r.mutex r.cond r.priority r.deadline))
argument-small parameter.Mutex word a r =
    let Q = AreArgumentsWritten in
    map_yields Q (λ m. record a { mutex = Some m }) (mutex_in word)
    (yields_more IsName _ (mutex_in word) (mutex-small word) (λ m n. written _ r.thread n r.cond r.priority r.deadline))
argument-small parameter.Cond word a r =
    let Q = AreArgumentsWritten in
    map_yields Q (λ c. record a { cond = Some c }) (cond_in word)
    (yields_more IsName _ (cond_in word) (cond-small word) (λ c n. written _ r.thread r.mutex n r.priority r.deadline))
argument-small parameter.Priority word a r =
    let Q = AreArgumentsWritten in
    map_yields Q (λ p. record a { priority = Some p }) (number_in word)
    (yields_more IsNumber _ (number_in word) (number-small word) (λ p n. written _ r.thread r.mutex r.cond n r.deadline))
argument-small parameter.Deadline word a r =
    let Q = AreArgumentsWritten in
    map_yields Q (λ d. record a { deadline = Some d }) (number_in word)
    (yields_more IsNumber _ (number_in word) (number-small word) (λ d n. written _ r.thread r.mutex r.cond r.priority n))

-- with one for each parameter
arguments-small : (ps : List Parameter) (ws : List (List ℕ)) (a : Arguments) → AreArgumentsWritten a
    → Yields AreArgumentsWritten (with_arguments ps ws a)
unfolding with_arguments
arguments-small [] [] a r = r
arguments-small [] (word ∷ more) a r = tt
arguments-small (p ∷ ps) [] a r = tt
arguments-small (p ∷ ps) (word ∷ more) a r =
    bind_yields AreArgumentsWritten AreArgumentsWritten (with_argument p word a) _ (argument-small p word a r)
    (λ b h. arguments-small ps more b h)

none-small : AreArgumentsWritten no_arguments
none-small = written _ tt tt tt tt tt

-- of one name alone
of_name : (make : ℕ → Request) (o : Option ℕ) → ((m : ℕ) → IsName m → IsRequestWritten (make m)) → IfSome o IsName
    → Yields IsRequestWritten (option_map make o)
of_name make o f h = map_yields IsRequestWritten make o (yields_more IsName _ o h f)

-- what arguments make of a call
made-small : (k : CallKind) (a : Arguments) → AreArgumentsWritten a → Yields IsRequestWritten (request_with k a)
unfolding request_with
made-small Lock a r = of_name request.Lock a.mutex (λ m n. written _ tt n tt tt tt) r.mutex
made-small TryLock a r = of_name request.TryLock a.mutex (λ m n. written _ tt n tt tt tt) r.mutex
made-small Unlock a r = of_name request.Unlock a.mutex (λ m n. written _ tt n tt tt tt) r.mutex
made-small Consistent a r = of_name request.Consistent a.mutex (λ m n. written _ tt n tt tt tt) r.mutex
made-small Signal a r = of_name request.Signal a.cond (λ c n. written _ tt tt n tt tt) r.cond
made-small Broadcast a r = of_name request.Broadcast a.cond (λ c n. written _ tt tt n tt tt) r.cond
made-small Wait a r =
    bind_yields IsName IsRequestWritten a.cond _ r.cond
    (λ c n. bind_yields IsName IsRequestWritten a.mutex _ r.mutex
    (λ m k. written _ tt k n tt tt))
made-small SetPrio a r =
    bind_yields IsName IsRequestWritten a.thread _ r.thread
    (λ t n. bind_yields IsNumber IsRequestWritten a.priority _ r.priority
    (λ p k. written _ n tt tt k tt))
made-small TimedLock a r =
    bind_yields IsName IsRequestWritten a.mutex _ r.mutex
    (λ m n. bind_yields IsNumber IsRequestWritten a.deadline _ r.deadline
    (λ d k. written _ tt n tt tt k))
made-small TimedWait a r =
    bind_yields IsName IsRequestWritten a.cond _ r.cond
    (λ c n. bind_yields IsName IsRequestWritten a.mutex _ r.mutex
    (λ m k. bind_yields IsNumber IsRequestWritten a.deadline _ r.deadline
    (λ d l. written _ tt k n tt l)))

-- what words make
request-small : (ws : List (List ℕ)) → Yields IsRequestWritten (request_in ws)
unfolding request_in
request-small [] = tt
request-small (name ∷ more) =
    bind_yields (λ k. Unit {0}) IsRequestWritten (call_named name) _ (anything (call_named name))
    (λ k u. bind_yields AreArgumentsWritten IsRequestWritten (with_arguments (row_of k).parameters more no_arguments) _
    (arguments-small (row_of k).parameters more no_arguments none-small)
    (λ a h. made-small k a h))

-- ---- commands

-- of one word
one-small : (name : List ℕ) → Yields IsWritten (command_of_one name)
unfolding command_of_one
one-small name = map_yields IsWritten command.Ask (question_in_one name) (question_of_one-written name)

-- of two words
two-small : (name word : List ℕ) → Yields IsWritten (command_of_two name word)
unfolding command_of_two
two-small name word =
    let P = IsWritten in
    if_yields P (bytes_eq name (codes "go")) _ _ (map_yields P (λ t. command.Event (Go t)) (thread_in word) (thread-small word))
    (if_yields P (bytes_eq name (codes "finish")) _ _ (map_yields P (λ t. command.Run t None) (thread_in word) (thread-small word))
    (if_yields P (bytes_eq name (codes "end")) _ _ (map_yields P (λ t. command.Event (End t)) (thread_in word) (thread-small word))
    (if_yields P (bytes_eq name (codes "tick")) _ _ (map_yields P (λ n. command.Event (Tick n)) (number_in word) (number-small word))
    (if_yields P (bytes_eq name (codes "thread")) _ _ (map_yields P (λ p. command.Add (Thread p)) (number_in word) (number-small word))
    (if_yields P (bytes_eq name (codes "mutex")) _ _
    (map_yields P (λ kind. command.Add (Mutex kind false)) (kind_in word) (anything (kind_in word)))
    (if_yields P (bytes_eq name (codes "cond")) _ _ (map_yields P (λ m. command.Add (Cond m)) (mutex_in word) (mutex-small word))
    (map_yields P command.Ask (question_in_two name word) (question_of_two-written name word))))))))

-- that add a robust mutex
robust-small : (kind : List ℕ) (more : List (List ℕ)) → Yields IsWritten (robust_in kind more)
unfolding robust_in
robust-small kind [] = tt
robust-small kind (last ∷ []) =
    if_yields IsWritten (bytes_eq last (codes "robust")) _ _
    (map_yields IsWritten (λ k. command.Add (Mutex k true)) (kind_in kind) (anything (kind_in kind))) tt
robust-small kind (last ∷ other ∷ more) = tt

-- that set limits
limits-small : (first : List ℕ) (more : List (List ℕ)) → Yields IsWritten (limits_in first more)
unfolding limits_in
limits-small first [] = tt
limits-small first (second ∷ []) = tt
limits-small first (second ∷ third ∷ []) = tt
limits-small first (second ∷ third ∷ fourth ∷ []) =
    let P = IsWritten in
    bind_yields IsNumber P (number_in first) _ (number-small first)
    (λ t a. bind_yields IsNumber P (number_in second) _ (number-small second)
    (λ m b. bind_yields IsNumber P (number_in third) _ (number-small third)
    (λ c d. bind_yields IsNumber P (number_in fourth) _ (number-small fourth) (λ s e. (a, b, d, e)))))
limits-small first (second ∷ third ∷ fourth ∷ other ∷ more) = tt

-- of three words or more
more-small : (name word : List ℕ) (more : List (List ℕ)) → Yields IsWritten (command_of_more name word more)
unfolding command_of_more
more-small name word more =
    let P = IsWritten in
    if_yields P (bytes_eq name (codes "call")) _ _
    (bind_yields IsName P (thread_in word) _ (thread-small word)
    (λ t n. bind_yields IsRequestWritten P (request_in more) _ (request-small more) (λ q k. (n, k))))
    (if_yields P (bytes_eq name (codes "begin")) _ _
    (bind_yields IsName P (thread_in word) _ (thread-small word)
    (λ t n. bind_yields IsRequestWritten P (request_in more) _ (request-small more) (λ q k. (n, k))))
    (if_yields P (bytes_eq name (codes "limits")) _ _ (limits-small word more)
    (if_yields P (bytes_eq name (codes "mutex")) _ _ (robust-small word more) tt)))

-- of any words
words-small : (ws : List (List ℕ)) → Yields IsWritten (command_of_words ws)
unfolding command_of_words
words-small [] = tt
words-small (a ∷ []) = one-small a
words-small (a ∷ b ∷ []) = two-small a b
words-small (a ∷ b ∷ c ∷ more) = more-small a b (c ∷ more)

-- the command that a line asks for
pub command_in-written : (line : List ℕ) (c : Command) → command_in line ≡ Some c → IsWritten c
unfolding command_in
command_in-written line c e = subst (Yields IsWritten) e (words-small (words line))
