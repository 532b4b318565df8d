-- A journal that has one entry more: the core stands after it, its last entry fits, and logs stay just the calls of
-- their threads.
use Rattle.std.proofs.Common.{◌≡◌, ℕ, Bool, true, false, ◌==◌, nat_lt, List, [], ◌∷◌, ◌++◌, length, Option, Some, None, unwrap_or, refl, sym, ap, ◌∙◌, subst, if◌then◌else◌}
use Rattle.std.proofs.lemmas.List.{reverse-append, length-reverse}
use Rattle.std.proofs.lemmas.Bool.{eq-eqb, true≢false}
use Rattle.pif_types.specs.Bounds.{Bounds}
use Rattle.pif_types.specs.declared.errors.Refusal.{Refusal}
use Rattle.pif_types.specs.declared.errors.Refusal.TheVariants.{Past}
use Rattle.pif_model.specs.declared.events.Event.{Event}
use Rattle.pif_model.specs.declared.events.Event.TheVariants.{Begin, Go as Goes, End as Ends, Tick}
use Rattle.pif_model.specs.declared.events.Seen.{Seen}
use Rattle.pif_model.specs.declared.events.Seen.TheVariants.{Refused}
use Rattle.pif_model.specs.declared.events.Entry.{Entry}
use Rattle.pif_model.specs.declared.events.Entry.TheVariants.{Step as Happened}
use Rattle.pif_model.specs.Posix.{World, refusal_of, Step, IsRun}
use Rattle.pif_model.specs.Posix.Step.{thread_added, mutex_added, cond_added, refused, begun, went, waits, answered, ended, ticked}
use Rattle.pif_model.specs.Posix.IsRun.{next}
use Rattle.pif_model.specs.Standing.{Stands}
use Rattle.pif_model.specs.Table.{Table}
use Rattle.pif_desk.specs.declared.log.Mark.{Mark}
use Rattle.pif_desk.specs.declared.log.Mark.TheVariants.{Nothing}
use Rattle.pif_desk.specs.declared.log.Act.{Act}
use Rattle.pif_desk.specs.declared.log.Act.TheVariants.{Begin as Begins, Go, End}
use Rattle.pif_desk.specs.Logs.{Log, event_of, mark_of, mark_in, is_answer_to, is_answer_of, log_after, calls_of}
use Rattle.pif_desk.specs.Rooms.{ClientState, history_of, IsExact, StandsAfter}

-- one entry more is the newest of the history
pub history-more : (j : List Entry) (e : Entry) → history_of (j ++ e ∷ []) ≡ e ∷ history_of j
history-more j e = reverse-append j (e ∷ [])

-- a core that stood after a journal stands after it with one entry more, if it stands on after each history
pub stands_on : (s v : Table) (j k : List Entry) (e : Entry) → k ≡ j ++ e ∷ []
    → ((h : List Entry) (r : List World) (w : World) → Stands s h r w → (u : World) × Stands v (e ∷ h) (w ∷ r) u)
    → StandsAfter s j → StandsAfter v k
stands_on s v j k e more on st =
    let u = on (history_of j) st.states st.last st.stands in
    record {
      states = st.last ∷ st.states;
      last = u.0;
      stands = subst (λ h. Stands v h (st.last ∷ st.states) u.0) (sym (ap history_of more ∙ history-more j e)) u.1;
    }

-- an entry whose event is answered as it can be
abbrev Fits : Entry → Bool
Fits (Happened x seen) = is_answer_of x seen
Fits _ = true

-- a tick is refused as one to the past
past_fits : (n : ℕ) (before : Bool) (r : Refusal) → (if before then Some Past else None) ≡ Some r
    → is_answer_of (Tick n) (Refused r) ≡ true
past_fits n true r e = ap (λ (o : Option Refusal). is_answer_of (Tick n) (Refused (unwrap_or o Past))) (sym e)
past_fits n false r e = absurd (cc)

-- a refusal can be
refusal_fits : (w : World) (x : Event) (r : Refusal) → refusal_of w x ≡ Some r → is_answer_of x (Refused r) ≡ true
refusal_fits w (Begin t q) r why = refl
refusal_fits w (Goes t) r why = refl
refusal_fits w (Ends t) r why = refl
refusal_fits w (Tick n) r why = past_fits n (nat_lt n w.time) r why

-- each entry of a run fits
step_fits : (l : Bounds) (w : World) (e : Entry) (v : World) → Step l w e v → Fits e ≡ true
step_fits l w e v (thread_added t p is number few low high after) = ap Fits is
step_fits l w e v (mutex_added m k r is number few after) = ap Fits is
step_fits l w e v (cond_added c m is known number few after) = ap Fits is
step_fits l w e v (refused x r is why after) = ap Fits is ∙ refusal_fits w x r why
step_fits l w e v (begun t q is may after) = ap Fits is
step_fits l w e v (went t is goes awake) = ap Fits is
step_fits l w e v (waits t u is goes after rests) = ap Fits is
step_fits l w e v (answered t a q u is goes has after awake) = ap Fits is
step_fits l w e v (ended t is ends) = ap Fits is
step_fits l w e v (ticked n is may after) = ap Fits is

-- the last answer of a history that a run gives is one that can be
run_fits : (l : Bounds) (x : Event) (seen : Seen) (h : List Entry) (r : List World) (w : World)
    → IsRun l (Happened x seen ∷ h) r w → is_answer_of x seen ≡ true
run_fits l x seen h [] v run = elim run [ ]
run_fits l x seen h (w ∷ r) v (next run step) = step_fits l w (Happened x seen) v step

-- the last answer of a journal after which a core stands is one that can be
pub answer_fits : (s : Table) (j k : List Entry) (x : Event) (seen : Seen) → k ≡ j ++ Happened x seen ∷ []
    → StandsAfter s k → is_answer_of x seen ≡ true
answer_fits s j k x seen more st =
    run_fits s.limits x seen (history_of j) st.states st.last
    (subst (λ h. IsRun s.limits h st.states st.last) (ap history_of more
    ∙ history-more j (Happened x seen)) st.stands.run)

-- an answer of the event by which a thread does this is one to what it does
pub act_fits : (act : Act) (t : ℕ) (seen : Seen) → is_answer_of (event_of act t) seen ≡ true
    → is_answer_to act seen ≡ true
act_fits (Begins q) t seen fits = fits
act_fits Go t seen fits = fits
act_fits End t seen fits = fits

-- what a thread's own event tells of its log
mark_in-own : (t : ℕ) (act : Act) (seen : Seen) → mark_in t (Happened (event_of act t) seen) ≡ mark_of act seen
mark_in-own t act seen = by_act act
  where
    same : (b : Bool) (m : Mark) → b ≡ true → (if b then m else Nothing) ≡ m
    same true m e = refl
    same false m e = absurd (true≢false (sym e))

    by_act : (act : Act) → mark_in t (Happened (event_of act t) seen) ≡ mark_of act seen
    by_act (Begins q) = same (t == t) (mark_of (Begins q) seen) (eq-eqb t t refl)
    by_act Go = same (t == t) (mark_of Go seen) (eq-eqb t t refl)
    by_act End = same (t == t) (mark_of End seen) (eq-eqb t t refl)

-- a log that was just the calls of its thread is so after the thread's own event
pub exact_on : (t : ℕ) (j k : List Entry) (act : Act) (seen : Seen) (l m : Log)
    → k ≡ j ++ Happened (event_of act t) seen ∷ [] → m ≡ log_after (mark_of act seen) (length j) l
    → l ≡ calls_of t (history_of j) → m ≡ calls_of t (history_of k)
exact_on t j k act seen l m more after exact =
    after ∙ ap (log_after (mark_of act seen) (length j)) exact
    ∙ ap (λ x. log_after x (length j) (calls_of t (history_of j))) (sym (mark_in-own t act seen))
    ∙ ap (λ n. log_after (mark_in t (Happened (event_of act t) seen)) n (calls_of t (history_of j))) (sym
    (length-reverse j))
    ∙ ap (calls_of t) (sym (ap history_of more ∙ history-more j (Happened (event_of act t) seen)))

-- a log that was just the calls of its thread is so after a tick, of which it has nothing
pub exact_after_tick : (n : ℕ) (seen : Seen) (j k : List Entry) → k ≡ j ++ Happened (Tick n) seen ∷ []
    → (c : ClientState) → IsExact c j → IsExact c k
exact_after_tick n seen j k more c exact =
    exact ∙ ap (calls_of c.thread) (sym (ap history_of more ∙ history-more j (Happened (Tick n) seen)))
