use Rattle.std.proofs.Common.{◌-◌, sym, ap, ◌∙◌, arith}
use Rattle.pif_model.specs.Lines.{Outcome}
use Rattle.pif_model_simulation.proofs.CallLemmas.{goes_on-other, goes_on-turn, goes_on-last}
use Rattle.pif_script_model.proofs.EntryLemmas.{going-turn, going-stops, going-last}
use Rattle.pif_job_run.proofs.transcribing.finish.Goals as goal

pub returns-in_default : goal.returns-in_default
returns-in_default c =
    let last = goes_on-other (23 - c.loop-turn._turn) c.args.thread c.loop-turn.core
    (λ e. c.in_default.not-Went (c.step.ensures.seen ∙ e)) in
    let same = sym last ∙ c.loop-turn.invariant.0 in
    record {
      seen = c.step.ensures.seen ∙ ap (λ (o : Outcome). o.seen) same;
      after = c.step.ensures.after ∙ ap (λ (o : Outcome). o.after) same;
      told = going-stops (23 - c.loop-turn._turn) c.args.thread c.loop-turn.core c.loop-turn.output.items
          c.step.new.output.items c.args.output.now.items c.args.core.now
          (λ e. c.in_default.not-Went (c.step.ensures.seen ∙ e)) c.loop-turn.invariant.1 c.step.ensures.told;
      room = omega (arith, c.step.ensures.room, c.loop-turn.invariant.2, c.loop-turn-test.true);
    }

pub loop-turn-preserved : goal.loop-turn-preserved
loop-turn-preserved c = (
  goes_on-turn c.loop-turn._turn c.args.thread c.loop-turn.core c.step.new.core c.loop-turn-test.true
      (sym c.step.ensures.seen ∙ c.in-Went.is) c.step.ensures.after
      ∙ c.loop-turn.invariant.0,
  going-turn c.loop-turn._turn c.args.thread c.loop-turn.core c.step.new.core c.loop-turn.output.items
      c.step.new.output.items _ c.loop-turn-test.true
      (sym c.step.ensures.seen ∙ c.in-Went.is) c.step.ensures.after c.loop-turn.invariant.1 c.step.ensures.told,
  omega (arith, c.step.ensures.room, c.loop-turn.invariant.2),
)

pub returns-clause-seen : goal.returns-clause-seen
returns-clause-seen c =
    let last = goes_on-last c.loop-turn._turn c.args.thread c.loop-turn.core c.loop-turn-test.false in
    c.step-2.ensures.seen ∙ ap (λ (o : Outcome). o.seen)
    (sym last ∙ c.loop-turn.invariant.0)

pub returns-clause-after : goal.returns-clause-after
returns-clause-after c =
    let last = goes_on-last c.loop-turn._turn c.args.thread c.loop-turn.core c.loop-turn-test.false in
    c.step-2.ensures.after ∙ ap (λ (o : Outcome). o.after)
    (sym last ∙ c.loop-turn.invariant.0)

pub returns-clause-told : goal.returns-clause-told
returns-clause-told c =
    going-last c.loop-turn._turn c.args.thread c.loop-turn.core c.loop-turn.output.items c.step-2.new.output.items
    c.args.output.now.items c.args.core.now c.loop-turn-test.false c.loop-turn.invariant.1 c.step-2.ensures.told
