-- Who was woken and finds what it waited for holds the mutex.
use Rattle.std.proofs.Common.{rules, ◌≡◌, sym, ap, ◌∙◌, ◌+◌, subst}
use Rattle.pif_types.specs.declared.requests.Request.TheVariants.{Wait}
use Rattle.pif_model.specs.declared.events.Seen.TheVariants.{Answered}
use Rattle.pif_model.specs.Lines.{goes_on}
use Rattle.pif_model.specs.Table.{Table}
use Rattle.pif_model_simulation.specs.Calls.{StandsOn, call_outcome, after_finish}
use Rattle.pif_core_callers.specs.Holding.{HoldsOn}
use Rattle.pif_core_callers.specs.Waiting.{if_waited}
use Rattle.pif_core_callers.proofs.HoldLemmas.{finished_only, met_by, resumed_stands, wait_holds}
use Rattle.pif_core_callers.proofs.waiting.resume_wait.Goals as goal

pub returns-in-Answered-eq0-clause-stands : goal.returns-in-Answered-eq0-clause-stands
returns-in-Answered-eq0-clause-stands c = λ h r w st.
    resumed_stands c.args.core.now c.finish.new.self c.wait_unless.new.core c.args.thread c.args.cond c.args.mutex
    c.args.is_met (goes_on 23 c.args.thread c.args.core.now).seen (after_finish c.args.thread c.args.core.now h) r w
    (sym c.finish.ensures.seen ∙ c.in-Answered-eq0.is ∙ ap Answered c.in-Answered-eq0.field-0-test)
    (c.finish.ensures.stands h r w st) c.finish.ensures.after c.wait_unless.ensures.after

pub returns-in-Answered-eq0-clause-holds : goal.returns-in-Answered-eq0-clause-holds
returns-in-Answered-eq0-clause-holds c = λ met.
    let t = c.args.thread in
    let m = c.args.mutex in
    let again = call_outcome t (Wait c.args.cond m) c.finish.new.self in
    let is = met_by c.args.is_met again.seen (sym c.wait_unless.ensures.answer ∙ met) in
    let same = c.wait_unless.ensures.after ∙ ap (λ b. if_waited b c.finish.new.self again.after) is in (
      is,
      λ h r w st n busy count.
          subst (λ (v : Table). HoldsOn t m (n + 1) v (after_finish t c.args.core.now h) r w) (sym same)
          (wait_holds c.args.core.now c.finish.new.self t c.args.cond m n
          (sym c.finish.ensures.seen ∙ c.in-Answered-eq0.is ∙ ap Answered c.in-Answered-eq0.field-0-test)
          c.finish.ensures.after h r w st busy count),
    )

pub returns-in_default-clause-stands : goal.returns-in_default-clause-stands
returns-in_default-clause-stands c = λ h r w st.
    let n : (goes_on 23 c.args.thread c.args.core.now).seen ≡ Answered 0 → ⊥ = λ e. search rules in
    subst (λ k. StandsOn c.finish.new.self k r w)
    (finished_only c.args.is_met (goes_on 23 c.args.thread c.args.core.now).seen _ _ n)
    (c.finish.ensures.stands h r w st)
