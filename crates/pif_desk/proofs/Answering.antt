-- The answers of a history that a run gives are the answered calls of its threads' clients, together.
use Rattle.std.proofs.Common.{◌≡◌, ◌⊎◌, ℕ, ◌+◌, Bool, true, false, ◌==◌, ◌||◌, List, [], ◌∷◌, length, count_by, sum_by, reverse, Option, Some, None, is_some, refl, sym, ap, ◌∙◌, subst, inl, inr, arith, if◌then◌else◌}
use Rattle.std.specs.List.{All, list_any}
use Rattle.std.proofs.lemmas.Bool.{cases_eq, eq-eqb, ne_eqb, true≢false}
use Rattle.std.proofs.lemmas.List.Elements.{All-head, All-tail}
use Rattle.std.proofs.lemmas.List.Sums.{sum_by-cons}
use Rattle.std.proofs.lemmas.List.Sorted.{list_any-IsPermutation, IsPermutation-reverse, sum_by-IsPermutation}
use Rattle.pif_types.specs.Bounds.{Bounds}
use Rattle.pif_types.specs.declared.errors.Refusal.{Refusal}
use Rattle.pif_types.specs.declared.requests.Request.{Request}
use Rattle.pif_model.specs.declared.events.Event.{Event}
use Rattle.pif_model.specs.declared.events.Event.TheVariants.{Begin, Go, End, Tick}
use Rattle.pif_model.specs.declared.events.Seen.TheVariants.{Begun, Answered, Ended, Refused}
use Rattle.pif_model.specs.declared.events.Entry.{Entry}
use Rattle.pif_model.specs.declared.events.Entry.TheVariants.{Thread as AddThread, Mutex as AddMutex, Cond as AddCond, Step as Happened}
use Rattle.pif_model.specs.Deadlines.{plain, reported_result}
use Rattle.pif_model.specs.Refusals.{go_refused}
use Rattle.pif_model.specs.History.{open_call, open_after}
use Rattle.pif_model.specs.Posix.{Call as MachineCall, World, is_thread, is_living, thread_at, refusal_of, Step, IsRun}
use Rattle.pif_model.specs.Posix.Step.{thread_added, mutex_added, cond_added, refused, begun, went, waits, answered as step_answered, ended, ticked}
use Rattle.pif_model.specs.Posix.IsRun.{start, next}
use Rattle.pif_model_simulation.proofs.runs.Holding.{request_of}
use Rattle.pif_model_simulation.proofs.runs.Holders.{IsHeld-IsRun}
use Rattle.pif_desk.specs.declared.log.Mark.{Mark}
use Rattle.pif_desk.specs.declared.log.Mark.TheVariants.{Begun as MarkBegun, Answered as MarkAnswered, Ended as MarkEnded, Nothing}
use Rattle.pif_desk.specs.declared.log.Reply.{Reply}
use Rattle.pif_desk.specs.declared.log.Call.{Call}
use Rattle.pif_desk.specs.Logs.{Log, with_reply, new_call, with_answer, is_last_open, mark_in, log_after, calls_of}
use Rattle.pif_desk.specs.Rooms.{ClientState, history_of}
use Rattle.pif_desk.specs.Settling.{is_answer, adds, answered_calls, Settles}
use Rattle.pif_desk.proofs.Receipts.{mark_answered}
use Rattle.pif_desk.proofs.Threads.{run_adds}
use Rattle.pif_desk.proofs.Pigeons.{one_client}

-- OPEN CALLS

-- what tells nothing changes nothing
quiet : (b : Bool) (at : ℕ) (l : Log) → log_after (if b then Nothing else Nothing) at l ≡ l
quiet true at l = refl
quiet false at l = refl

-- if a call is open by a history, the last one in its thread's log is, after one more entry
open_on : (t : ℕ) (e : Entry) (at : ℕ) (l : Log) (before : Option Request)
    → (is_some before ≡ true → is_last_open l.calls ≡ true)
    → is_some (open_after t e before) ≡ true → is_last_open (log_after (mark_in t e) at l).calls ≡ true
open_on t (AddThread u p) at l before ih o = ih o
open_on t (AddMutex m k r) at l before ih o = ih o
open_on t (AddCond c m) at l before ih o = ih o
open_on t (Happened (Begin u p) Begun) at l before ih o = by_test (u == t) o
  where
    by_test : (b : Bool) → is_some (if b then Some (plain p) else before) ≡ true
        → is_last_open (log_after (if b then MarkBegun p else Nothing) at l).calls ≡ true
    by_test true o = refl
    by_test false o = ih o
open_on t (Happened (Go u) (Answered a)) at l before ih o = by_test (u == t) o
  where
    by_test : (b : Bool) → is_some (if b then None else before) ≡ true
        → is_last_open (log_after (if b then MarkAnswered a else Nothing) at l).calls ≡ true
    by_test true o = absurd (true≢false (sym o))
    by_test false o = ih o
open_on t (Happened (End u) Ended) at l before ih o = by_test (u == t) o
  where
    by_test : (b : Bool) → is_some (if b then None else before) ≡ true
        → is_last_open (log_after (if b then MarkEnded else Nothing) at l).calls ≡ true
    by_test true o = absurd (true≢false (sym o))
    by_test false o = ih o
open_on t (Happened (Begin u p) seen) at l before ih o =
    ap (λ (k : Log). is_last_open k.calls) (quiet (u == t) at l) ∙ ih o
open_on t (Happened (Go u) seen) at l before ih o =
    ap (λ (k : Log). is_last_open k.calls) (quiet (u == t) at l) ∙ ih o
open_on t (Happened (End u) seen) at l before ih o =
    ap (λ (k : Log). is_last_open k.calls) (quiet (u == t) at l) ∙ ih o
open_on t (Happened (Tick n) seen) at l before ih o = ih o

-- if a call is open by a history, the last one in its thread's log is
open_in_log : (t : ℕ) (h : List Entry) → is_some (open_call t h) ≡ true → is_last_open (calls_of t h).calls ≡ true
open_in_log t [] o = absurd (true≢false (sym o))
open_in_log t (e ∷ h) o = open_on t e (length h) (calls_of t h) (open_call t h) (open_in_log t h) o

-- HOW MANY CALLS OF A LOG ARE ANSWERED

-- what a mark adds
abbrev answers_told : Mark → ℕ
answers_told (MarkAnswered a) = 1
answers_told _ = 0

-- an answer answers the call that is open
counted-answered : (a at : ℕ) (l : Log) → is_last_open l.calls ≡ true
    → answered_calls (with_answer a at l) ≡ answered_calls l + 1
counted-answered a at l o = by_calls l.calls o
  where
    by_reply : (r : Option Reply) (p : Request) (cs : List Call) → (if is_some r then false else true) ≡ true
        → count_by (λ (c : Call). is_some c.reply) (with_reply (record {
          answer = a;
          at = at;
        }) ((record { request = p; reply = r }) ∷ cs))
        ≡ count_by (λ (c : Call). is_some c.reply) ((record { request = p; reply = r }) ∷ cs) + 1
    by_reply (Some r) p cs o = absurd (true≢false (sym o))
    by_reply None p cs o =
        let x = sum_by-cons (λ (c : Call). if is_some c.reply then 1 else 0)
        (record { request = p; reply = Some (record { answer = a; at = at }) }) cs in
        let y = sum_by-cons (λ (c : Call). if is_some c.reply then 1 else 0) (record {
          request = p;
          reply = None;
        }) cs in
        omega (arith, x, y)

    by_calls : (cs : List Call) → is_last_open cs ≡ true
        → count_by (λ (c : Call). is_some c.reply) (with_reply (record { answer = a; at = at }) cs)
        ≡ count_by (λ (c : Call). is_some c.reply) cs + 1
    by_calls [] o = absurd (true≢false (sym o))
    by_calls (c ∷ cs) o = by_reply c.reply c.request cs o

-- what is no answer answers none
counted-quiet : (m : Mark) (at : ℕ) (l : Log) → answers_told m ≡ 0
    → answered_calls (log_after m at l) ≡ answered_calls l
counted-quiet (MarkBegun q) at l z =
    let x = sum_by-cons (λ (c : Call). if is_some c.reply then 1 else 0) (new_call q) l.calls in omega (arith, x)
counted-quiet (MarkAnswered a) at l z = absurd (omega (arith, z))
counted-quiet MarkEnded at l z = refl
counted-quiet Nothing at l z = refl

-- ALL CLIENTS TOGETHER

-- the answered calls of the threads of these clients, by a history
abbrev total : List Entry → List ClientState → ℕ
total h cs = sum_by (λ c. answered_calls (calls_of c.thread h)) cs

total-nil : (cs : List ClientState) → total [] cs ≡ 0
total-nil [] = refl
total-nil (c ∷ cs) =
    let e = total-nil cs in
    let x = sum_by-cons (λ (d : ClientState). answered_calls (calls_of d.thread [])) c cs in omega (arith, x, e)

-- sums of the same numbers
same_sums : (f g : ClientState → ℕ) (cs : List ClientState) → All (λ c. f c ≡ g c) cs → sum_by f cs ≡ sum_by g cs
same_sums f g [] all = refl
same_sums f g (c ∷ cs) all =
    let ih = same_sums f g cs (All-tail (λ d. f d ≡ g d) c cs all) in
    let e = All-head (λ d. f d ≡ g d) c cs all in
    omega (arith, sum_by-cons f c cs, sum_by-cons g c cs, ih, e)

-- the sum of sums
sum_of_sums : (f g k : ClientState → ℕ) → ((c : ClientState) → f c ≡ g c + k c) → (cs : List ClientState)
    → sum_by f cs ≡ sum_by g cs + sum_by k cs
sum_of_sums f g k e [] = refl
sum_of_sums f g k e (c ∷ cs) =
    let ih = sum_of_sums f g k e cs in
    omega (arith, sum_by-cons f c cs, sum_by-cons g c cs, sum_by-cons k c cs, ih, e c)

-- an entry that is no answer answers no call
no_answer : (t : ℕ) (e : Entry) → is_answer e ≡ false → answers_told (mark_in t e) ≡ 0
no_answer t e none = by_mark (mark_in t e) refl
  where
    by_mark : (m : Mark) → mark_in t e ≡ m → answers_told m ≡ 0
    by_mark (MarkBegun q) told = refl
    by_mark (MarkAnswered a) told = absurd (true≢false (sym (ap is_answer (mark_answered t e a told)) ∙ none))
    by_mark MarkEnded told = refl
    by_mark Nothing told = refl

total-quiet : (e : Entry) (h : List Entry) (cs : List ClientState) → is_answer e ≡ false → total (e ∷ h) cs ≡ total h cs
total-quiet e h cs none =
    same_sums (λ c. answered_calls (calls_of c.thread (e ∷ h))) (λ c. answered_calls (calls_of c.thread h)) cs
    (λ k d in'. counted-quiet (mark_in _ e) (length h) (calls_of _ h) (no_answer _ e none))

-- an answer of t, whose call is open, answers one call of each client of t
total-answer : (t a : ℕ) (h : List Entry) (cs : List ClientState) → is_last_open (calls_of t h).calls ≡ true
    → total (Happened (Go t) (Answered a) ∷ h) cs ≡ total h cs + count_by (λ c. c.thread == t) cs
total-answer t a h cs o =
    sum_of_sums (λ c. answered_calls (calls_of c.thread (Happened (Go t) (Answered a) ∷ h)))
    (λ c. answered_calls (calls_of c.thread h)) (λ c. if c.thread == t then 1 else 0) (λ c. each c.thread
    (cases_eq t c.thread)) cs
  where
    each : (u : ℕ) → (t ≡ u) ⊎ (t ≡ u → ⊥)
        → answered_calls (calls_of u (Happened (Go t) (Answered a) ∷ h))
        ≡ answered_calls (calls_of u h) + (if u == t then 1 else 0)
    each u (inl e) =
        ap (λ b. answered_calls (log_after (if b then MarkAnswered a else Nothing) (length h) (calls_of u h)))
        (eq-eqb t u e)
        ∙ counted-answered a (length h) (calls_of u h) (subst (λ n. is_last_open (calls_of n h).calls ≡ true) e o)
        ∙ ap (λ b. answered_calls (calls_of u h) + (if b then 1 else 0)) (sym (eq-eqb u t (sym e)))
    each u (inr d) =
        ap (λ b. answered_calls (log_after (if b then MarkAnswered a else Nothing) (length h) (calls_of u h)))
        (ne_eqb t u d)
        ∙ (let z : answered_calls (calls_of u h) ≡ answered_calls (calls_of u h) + 0 = omega arith in z)
        ∙ ap (λ b. answered_calls (calls_of u h) + (if b then 1 else 0)) (sym (ne_eqb u t (λ e. d (sym e))))

-- RUNS

-- an entry of a run is no answer, or the answer of a thread that may go on
abbrev AnswerOrNot : Entry → World → Type 0
AnswerOrNot e w = (is_answer e ≡ false) ⊎ ((t : ℕ) × (a : ℕ) × (e ≡ Happened (Go t) (Answered a))
    × (refusal_of w (Go t) ≡ None))

refused-no_answer : (x : Event) (r : Refusal) → is_answer (Happened x (Refused r)) ≡ false
refused-no_answer (Begin t q) r = refl
refused-no_answer (Go t) r = refl
refused-no_answer (End t) r = refl
refused-no_answer (Tick n) r = refl

answer_or_not : (l : Bounds) (w : World) (e : Entry) (v : World) → Step l w e v → AnswerOrNot e w
answer_or_not l w e v (thread_added t p is number few low high after) = inl (ap is_answer is)
answer_or_not l w e v (mutex_added m k r is number few after) = inl (ap is_answer is)
answer_or_not l w e v (cond_added c m is known number few after) = inl (ap is_answer is)
answer_or_not l w e v (refused x r is why after) = inl (ap is_answer is ∙ refused-no_answer x r)
answer_or_not l w e v (begun t q is may after) = inl (ap is_answer is)
answer_or_not l w e v (went t is goes awake) = inl (ap is_answer is)
answer_or_not l w e v (waits t u is goes after rests) = inl (ap is_answer is)
answer_or_not l w e v (step_answered t a q u is goes has after awake) =
    inr (t, reported_result q (thread_at w t).timer.expired a, is, goes.allowed)
answer_or_not l w e v (ended t is ends) = inl (ap is_answer is)
answer_or_not l w e v (ticked n is may after) = inl (ap is_answer is)

-- a thread that may go on was added, and has a call open
go_allowed : (known living busy : Bool) → go_refused known living busy ≡ None → (known ≡ true) × (busy ≡ true)
go_allowed true true true e = (refl, refl)
go_allowed true true false e = absurd (cc)
go_allowed true false busy e = absurd (cc)
go_allowed false living busy e = absurd (cc)

open_request : (o : Option MachineCall) → is_some o ≡ true → (q : Request) × (request_of o ≡ Some q)
open_request None e = absurd (true≢false (sym e))
open_request (Some c) e = (c.request, refl)

-- the answers of a run are the answered calls of all clients, if each thread that was added has just one
pub answers_of_run : (l : Bounds) (cs : List ClientState) {h : List Entry} {r : List World} {w : World} → IsRun l h r w
    → ((t : ℕ) → list_any (adds t) h ≡ true → count_by (λ c. c.thread == t) cs ≡ 1) → count_by is_answer h ≡ total h cs
answers_of_run l cs (start e) once = sym (total-nil cs)
answers_of_run l cs (next {h = h} {e = e} {w = w} {v = v} run step) once =
    by_answer (answers_of_run l cs run earlier) (answer_or_not l w e v step)
  where
    behind : (b : Bool) {c : Bool} → c ≡ true → (b || c) ≡ true
    behind true k = refl
    behind false k = k

    earlier : (t : ℕ) → list_any (adds t) h ≡ true → count_by (λ c. c.thread == t) cs ≡ 1
    earlier t k = once t (behind (adds t e) k)

    more : count_by is_answer (e ∷ h) ≡ (if is_answer e then 1 else 0) + count_by is_answer h
    more = sum_by-cons (λ (x : Entry). if is_answer x then 1 else 0) e h

    by_answer : count_by is_answer h ≡ total h cs → AnswerOrNot e w → count_by is_answer (e ∷ h) ≡ total (e ∷ h) cs
    by_answer ih (inl none) =
        let one = ap {B = ℕ} (λ (b : Bool). if b then 1 else 0) none in
        let same = total-quiet e h cs none in
        omega (arith, more, one, same, ih)
    by_answer ih (inr (t, a, is, may)) =
        let allowed = go_allowed (is_thread w t) (is_living w t) (is_some (thread_at w t).call) may in
        let asked = open_request (thread_at w t).call allowed.1 in
        let request = ((IsHeld-IsRun l run).each t).request ∙ asked.1 in
        let last = open_in_log t h (ap (λ (o : Option Request). is_some o) request) in
        let alone = earlier t (run_adds l run t allowed.0) in
        let one = ap {B = ℕ} (λ (x : Entry). if is_answer x then 1 else 0) is in
        let sum = ap (λ (x : Entry). total (x ∷ h) cs) is ∙ total-answer t a h cs last in
        omega (arith, more, one, sum, alone, ih)

-- the answers of a journal with which clients settle are their answered calls
pub answers_settle : (l : Bounds) (cs : List ClientState) (j : List Entry) (r : List World) (w : World)
    → IsRun l (history_of j) r w → Settles cs j → count_by is_answer j ≡ sum_by (λ c. answered_calls c.log) cs
answers_settle l cs j r w run settles =
    sym (sum_by-IsPermutation (λ (x : Entry). if is_answer x then 1 else 0) j (reverse j) (IsPermutation-reverse j))
    ∙ answers_of_run l cs run once
    ∙ same_sums (λ c. answered_calls (calls_of c.thread (history_of j))) (λ c. answered_calls c.log) cs
    (λ k d in'. ap (λ (x : Log). answered_calls x) (sym (settles.exact k d in')))
  where
    once : (t : ℕ) → list_any (adds t) (history_of j) ≡ true → count_by (λ c. c.thread == t) cs ≡ 1
    once t here = one_client cs j settles.counted settles.known t
        (list_any-IsPermutation (adds t) j (reverse j) (IsPermutation-reverse j) ∙ here)
