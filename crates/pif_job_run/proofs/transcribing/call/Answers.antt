use Rattle.std.proofs.Common.{◌≡◌, sym, ap, ◌∙◌, arith}
use Rattle.pif_types.specs.declared.errors.Refusal.{Refusal}
use Rattle.pif_model.specs.declared.events.Event.TheVariants.{Begin}
use Rattle.pif_model.specs.declared.events.Seen.TheVariants.{Refused}
use Rattle.pif_model.specs.Lines.{Outcome, event_outcome, goes_on}
use Rattle.pif_model_simulation.proofs.CallLemmas.{call_other, call_refused}
use Rattle.pif_script_model.proofs.EntryLemmas.{call-refused, call-begun}
use Rattle.pif_job_run.proofs.transcribing.call.Goals as goal

pub returns-in-Refused-clause-seen : goal.returns-in-Refused-clause-seen
returns-in-Refused-clause-seen c =
    let seen = sym c.step.ensures.seen ∙ c.in-Refused.is in
    sym seen ∙ ap (λ (o : Outcome). o.seen)
    (sym (call_refused c.args.thread c.args.request c.args.core.now c.in-Refused.refusal seen))

pub returns-in-Refused-clause-after : goal.returns-in-Refused-clause-after
returns-in-Refused-clause-after c =
    let seen = sym c.step.ensures.seen ∙ c.in-Refused.is in
    c.step.ensures.after ∙ ap (λ (o : Outcome). o.after)
    (sym (call_refused c.args.thread c.args.request c.args.core.now c.in-Refused.refusal seen))

pub returns-in-Refused-clause-told : goal.returns-in-Refused-clause-told
returns-in-Refused-clause-told c =
    call-refused c.args.thread c.args.request c.args.core.now c.in-Refused.refusal _ _
    (sym c.step.ensures.seen ∙ c.in-Refused.is) c.step.ensures.told

pub returns-in_default : goal.returns-in_default
returns-in_default c =
    let begun : (r : Refusal) → (event_outcome (Begin c.args.thread c.args.request) c.args.core.now).seen ≡ Refused r → ⊥ =
    λ r e. c.in_default.not-Refused r (c.step.ensures.seen ∙ e) in
    let same = ap (goes_on 23 c.args.thread) c.step.ensures.after
    ∙ sym (call_other c.args.thread c.args.request c.args.core.now begun) in
    record {
      seen = c.finish.ensures.seen ∙ ap (λ (o : Outcome). o.seen) same;
      after = c.finish.ensures.after ∙ ap (λ (o : Outcome). o.after) same;
      told = call-begun c.args.thread c.args.request c.args.core.now c.step.new.core c.args.output.now.items
          c.step.new.output.items c.finish.new.output.items begun c.step.ensures.after c.step.ensures.told
          c.finish.ensures.told;
      room = omega (arith, c.step.ensures.room, c.finish.ensures.room);
    }
