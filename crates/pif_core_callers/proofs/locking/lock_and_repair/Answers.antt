-- Who has made a mutex consistent still holds it.
use Rattle.std.proofs.Common.{Result, Ok, refl, sym, ap, ◌∙◌, ◌+◌, subst}
use Rattle.pif_types.specs.declared.requests.Request.TheVariants.{Lock, Consistent}
use Rattle.pif_model.specs.declared.events.Seen.{Seen}
use Rattle.pif_model.specs.declared.events.Seen.TheVariants.{Answered}
use Rattle.pif_model.specs.History.{hold_count}
use Rattle.pif_model.specs.Table.{Table}
use Rattle.pif_model_simulation.specs.Calls.{call_outcome, after_call}
use Rattle.pif_core_callers.specs.declared.locking.Held.{Held}
use Rattle.pif_core_callers.specs.Holding.{HoldsOn, if_died, after_lock}
use Rattle.pif_core_callers.proofs.FineLemmas.{consistent_fine}
use Rattle.pif_core_callers.proofs.HoldLemmas.{consistent_holds, died_stands, in_order}
use Rattle.pif_core_callers.proofs.OrderLemmas.{lock_fine}
use Rattle.pif_core_callers.proofs.locking.lock_and_repair.Goals as goal

pub returns-in-Answered-eq0-clause-holds : goal.returns-in-Answered-eq0-clause-holds
returns-in-Answered-eq0-clause-holds c = λ h r w st.
    let t = c.args.thread in
    let m = c.args.mutex in
    let u = after_lock t m c.args.core.now in
    let k = after_call t (Lock m) c.args.core.now h in
    let n = hold_count t m h + 1 in
    subst (λ (f : Result Held Seen). HoldsOn t m n c.call.new.self (if_died f k (after_call t (Consistent m) u k)) r w)
    (ap Ok (sym c.in-Ok-OwnerDied.field-0-is) ∙ sym c.in-Ok-OwnerDied.is ∙ c.lock_and_hold.ensures.answer)
    (subst (λ (s : Table). HoldsOn t m n c.call.new.self (after_call t (Consistent m) s k) r w)
    c.lock_and_hold.ensures.after
    (consistent_holds c.lock_and_hold.new.core c.call.new.self t m (hold_count t m h) k r w
    (c.in-Ok-OwnerDied.ensures.holds h r w st)
    (sym c.call.ensures.seen ∙ c.in-Answered-eq0.is ∙ ap Answered c.in-Answered-eq0.field-0-test) c.call.ensures.after))

pub returns-in-Answered-eq0-clause-stands : goal.returns-in-Answered-eq0-clause-stands
returns-in-Answered-eq0-clause-stands c =
    died_stands c.args.core.now c.lock_and_hold.new.core c.call.new.self c.args.thread c.args.mutex
    (ap Ok (sym c.in-Ok-OwnerDied.field-0-is) ∙ sym c.in-Ok-OwnerDied.is ∙ c.lock_and_hold.ensures.answer)
    c.lock_and_hold.ensures.stands c.lock_and_hold.ensures.after c.call.ensures.after

pub returns-in_default-clause-stands : goal.returns-in_default-clause-stands
returns-in_default-clause-stands c =
    died_stands c.args.core.now c.lock_and_hold.new.core c.call.new.self c.args.thread c.args.mutex
    (ap Ok (sym c.in-Ok-OwnerDied.field-0-is) ∙ sym c.in-Ok-OwnerDied.is ∙ c.lock_and_hold.ensures.answer)
    c.lock_and_hold.ensures.stands c.lock_and_hold.ensures.after c.call.ensures.after

pub returns-in-Ok-InOrder-clause-holds : goal.returns-in-Ok-InOrder-clause-holds
returns-in-Ok-InOrder-clause-holds c = λ h r w st.
    let t = c.args.thread in
    let m = c.args.mutex in
    let k = after_call t (Lock m) c.args.core.now h in
    subst (λ (f : Result Held Seen). HoldsOn t m (hold_count t m h + 1) c.lock_and_hold.new.core
    (if_died f k (after_call t (Consistent m) (after_lock t m c.args.core.now) k)) r w)
    (ap Ok (sym c.in-Ok-InOrder.field-0-is) ∙ sym c.in-Ok-InOrder.is ∙ c.lock_and_hold.ensures.answer)
    (c.in-Ok-InOrder.ensures.holds h r w st)

pub returns-in_default-2-clause-stands : goal.returns-in_default-2-clause-stands
returns-in_default-2-clause-stands c =
    died_stands c.args.core.now c.lock_and_hold.new.core c.call.new.self c.args.thread c.args.mutex
    (ap Ok (sym c.in-Ok-OwnerDied.field-0-is) ∙ sym c.in-Ok-OwnerDied.is ∙ c.lock_and_hold.ensures.answer)
    c.lock_and_hold.ensures.stands c.lock_and_hold.ensures.after c.call.ensures.after

pub returns-in-Answered-eq0-clause-fine : goal.returns-in-Answered-eq0-clause-fine
returns-in-Answered-eq0-clause-fine c = λ h r w st apart.
    consistent_fine c.lock_and_hold.new.core c.call.new.self c.args.thread c.args.mutex
    (c.lock_and_hold.ensures.stands h r w st).stands.sound
    (sym c.call.ensures.seen ∙ c.in-Answered-eq0.is ∙ ap Answered c.in-Answered-eq0.field-0-test) c.call.ensures.after

pub returns-in-Ok-InOrder-clause-fine : goal.returns-in-Ok-InOrder-clause-fine
returns-in-Ok-InOrder-clause-fine c = λ h r w st apart.
    lock_fine c.args.core.now c.lock_and_hold.new.core c.args.thread c.args.mutex h r w st (apart refl)
    (in_order (call_outcome c.args.thread (Lock c.args.mutex) c.args.core.now).seen
    (ap Ok (sym c.in-Ok-InOrder.field-0-is) ∙ sym c.in-Ok-InOrder.is ∙ c.lock_and_hold.ensures.answer))
    c.lock_and_hold.ensures.after
