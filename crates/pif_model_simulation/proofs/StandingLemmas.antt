-- Standing goes along with `finish` and `call`.
use Rattle.std.proofs.Common.{◌≡◌, ℕ, suc, zero, List, [], ◌∷◌, ◌++◌, inl, inr, sym, subst, append_assoc}
use Rattle.pif_types.specs.declared.requests.Request.{Request}
use Rattle.pif_model.specs.declared.events.Event.{Event}
use Rattle.pif_model.specs.declared.events.Event.TheVariants.{Begin, Go}
use Rattle.pif_model.specs.declared.events.Seen.TheVariants.{Went}
use Rattle.pif_model.specs.declared.events.Entry.{Entry}
use Rattle.pif_model.specs.declared.events.Entry.TheVariants.{Step as Happened}
use Rattle.pif_model.specs.Posix.{World}
use Rattle.pif_model.specs.Standing.{Stands}
use Rattle.pif_model.specs.Table.{Table}
use Rattle.pif_model.specs.Lines.{Outcome, event_outcome, goes_on}
use Rattle.pif_model_simulation.proofs.StandingLaws.{event_stands}
use Rattle.pif_model_simulation.specs.Calls.{StandsOn, call_outcome, after_call, after_finish, after_going, steps_before, went}
use Rattle.pif_model_simulation.proofs.CallLemmas.{call_other, call_refused, called-other, called-refused, goes_on-other, goes_on-went, after_going-other, after_going-went, is_refused, is_went}

-- a run that goes on from a state that itself was reached by one step more
later : {s : Table} {h : List Entry} {r : List World} {w v : World} → StandsOn s h (w ∷ r) v → StandsOn s h r w
later {s} {h} {r} {w} {v} on = record {
  more = on.more ++ v ∷ [];
  last = on.last;
  stands = subst (λ (states : List World). Stands s h states on.last)
      (sym (append_assoc on.more (v ∷ []) (w ∷ r))) on.stands;
}

-- a run that goes on from where another has gone on
pub along : {s v : Table} {h k : List Entry} {r : List World} {w : World} (on : StandsOn s h r w)
    → StandsOn v k (on.more ++ w ∷ r) on.last → StandsOn v k r w
along {s} {v} {h} {k} {r} {w} on next = record {
  more = next.more ++ on.last ∷ on.more;
  last = next.last;
  stands = subst (λ (states : List World). Stands v k states next.last)
      (sym (append_assoc next.more (on.last ∷ on.more) (w ∷ r))) next.stands;
}

-- a core that stands stands on after one event
once : (s : Table) (e : Event) (h : List Entry) (r : List World) (w : World) → Stands s h r w
    → StandsOn (event_outcome e s).after (Happened e (event_outcome e s).seen ∷ h) r w
once s e h r w st =
    let next = event_stands s e h r w st in
    record { more = []; last = next.0; stands = next.1 }

-- a core that stands stands on after a step beyond which none is allowed
last : (t : ℕ) (s : Table) (h : List Entry) (r : List World) (w : World) → Stands s h r w
    → StandsOn (goes_on 0 t s).after (after_going 0 t s h) r w
unfolding goes_on steps_before went
last t s h r w st = once s (Go t) h r w st

-- a core that stands stands on once a thread went on
going : (more t : ℕ) (s : Table) (h : List Entry) (r : List World) (w : World) → Stands s h r w
    → StandsOn (goes_on more t s).after (after_going more t s h) r w
going zero t s h r w st = last t s h r w st
going (suc more) t s h r w st =
    let o : Outcome = event_outcome (Go t) s in
    elim (is_went o.seen) [
      | inl e ↦
          let next = event_stands s (Go t) h r w st in
          let k = Happened (Go t) Went ∷ h in
          let rest = going more t o.after k (w ∷ r) next.0
          (subst (λ x. Stands o.after (Happened (Go t) x ∷ h) (w ∷ r) next.0) e next.1) in
          subst (λ l. StandsOn (goes_on (suc more) t s).after l r w) (sym (after_going-went more t s h e))
          (subst (λ (x : Outcome). StandsOn x.after (after_going more t o.after k) r w) (sym (goes_on-went more t s e))
          (later rest))
      | inr n ↦
          subst (λ l. StandsOn (goes_on (suc more) t s).after l r w) (sym (after_going-other (suc more) t s h n))
          (subst (λ (x : Outcome). StandsOn x.after (Happened (Go t) o.seen ∷ h) r w)
          (sym (goes_on-other (suc more) t s n)) (once s (Go t) h r w st))
    ]

-- a core that stands stands on once a thread has finished
pub finish_stands : (s v : Table) (t : ℕ) → v ≡ (goes_on 23 t s).after
    → (h : List Entry) (r : List World) (w : World) → Stands s h r w → StandsOn v (after_finish t s h) r w
finish_stands s v t b h r w st = rw b (going 23 t s h r w st)

-- and after a whole call
pub call_stands : (s v : Table) (t : ℕ) (q : Request) → v ≡ (call_outcome t q s).after
    → (h : List Entry) (r : List World) (w : World) → Stands s h r w → StandsOn v (after_call t q s h) r w
call_stands s v t q b h r w st =
    let o : Outcome = event_outcome (Begin t q) s in
    let k = Happened (Begin t q) o.seen ∷ h in
    rw b (elim (is_refused o.seen) [
      | inl a ↦
          subst (λ l. StandsOn (call_outcome t q s).after l r w) (sym (called-refused t q s h a.0 a.1))
          (subst (λ (x : Outcome). StandsOn x.after k r w) (sym (call_refused t q s a.0 a.1))
          (once s (Begin t q) h r w st))
      | inr n ↦
          let next = event_stands s (Begin t q) h r w st in
          subst (λ l. StandsOn (call_outcome t q s).after l r w) (sym (called-other t q s h n))
          (subst (λ (x : Outcome). StandsOn x.after (after_finish t o.after k) r w) (sym (call_other t q s n))
          (later (going 23 t o.after k (w ∷ r) next.0 next.1)))
    ])

-- and after another whole call, from a table that is known under another name
pub next_stands : (s u v : Table) (t : ℕ) (q : Request) (k : List Entry) (r : List World) (w : World)
    → StandsOn s k r w → s ≡ u → v ≡ (call_outcome t q s).after → StandsOn v (after_call t q u k) r w
next_stands s u v t q k r w on same b =
    subst (λ x. StandsOn v (after_call t q x k) r w) same
    (along on (call_stands s v t q b k (on.more ++ w ∷ r) on.last on.stands))
