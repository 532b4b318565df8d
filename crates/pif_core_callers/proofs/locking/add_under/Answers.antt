-- Who has locked and unlocked holds as often as before.
use Rattle.std.proofs.Common.{Result, sym, ◌∙◌, subst}
use Rattle.pif_types.specs.declared.requests.Request.TheVariants.{Lock, Unlock}
use Rattle.pif_model.specs.declared.events.Seen.{Seen}
use Rattle.pif_model.specs.History.{hold_count}
use Rattle.pif_model.specs.Table.{Table}
use Rattle.pif_core_callers.specs.declared.locking.Held.{Held}
use Rattle.pif_model_simulation.specs.Calls.{StandsOn, after_call}
use Rattle.pif_core_callers.specs.Holding.{CountsOn, if_taken, after_lock}
use Rattle.pif_core_callers.proofs.HoldLemmas.{unlock_leaves}
use Rattle.pif_model_simulation.proofs.StandingLemmas.{next_stands}
use Rattle.pif_core_callers.proofs.locking.add_under.Goals as goal

pub returns-clause-stands : goal.returns-clause-stands
returns-clause-stands c = λ h r w st.
    let t = c.args.thread in
    let m = c.args.mutex in
    let u = after_lock t m c.args.core.now in
    let k = after_call t (Lock m) c.args.core.now h in
    subst (λ (f : Result Held Seen). StandsOn c.call.new.self (if_taken f k (after_call t (Unlock m) u k)) r w)
    (sym c.in_ok-lock_and_hold.was ∙ c.lock_and_hold.ensures.answer)
    (next_stands c.lock_and_hold.new.core u c.call.new.self t (Unlock m) k r w
    (c.lock_and_hold.ensures.stands h r w st) c.lock_and_hold.ensures.after c.call.ensures.after)

pub returns-clause-left : goal.returns-clause-left
returns-clause-left c = λ h r w st e.
    let t = c.args.thread in
    let m = c.args.mutex in
    let k = after_call t (Lock m) c.args.core.now h in
    subst (λ (s : Table). CountsOn t m (hold_count t m h) c.call.new.self (after_call t (Unlock m) s k) r w)
    c.lock_and_hold.ensures.after
    (unlock_leaves c.lock_and_hold.new.core c.call.new.self t m (hold_count t m h) k r w
    (c.in_ok-lock_and_hold.ensures.holds h r w st) (sym c.call.ensures.seen ∙ e) c.call.ensures.after)
