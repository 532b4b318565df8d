-- A thread goes on: the loop is the definition's, no step is refused, and it ends.
use Rattle.std.proofs.Common.{◌-◌, sym, ap, ◌∙◌, arith}
use Rattle.pif_model.specs.Lines.{Outcome}
use Rattle.pif_model_simulation.proofs.Bound.{went_on}
use Rattle.pif_model_simulation.proofs.CallLemmas.{goes_on-other, goes_on-turn}
use Rattle.pif_core.proofs.Turns.{turns_left}
use Rattle.pif_core.proofs.cores.Core.go_through.Goals as goal

pub loop-turn-preserved : goal.loop-turn-preserved
loop-turn-preserved c =
    let went = sym c.go_on.ensures.seen ∙ c.in-Went.is in
    let left = turns_left c.loop-turn._turn c.args.thread c.loop-turn.self c.args.self.now c.loop-turn.invariant.same
    went in
    record {
      within = omega (arith, left);
      allowed = went_on c.args.thread c.loop-turn.self c.go_on.new.self c.loop-turn.invariant.allowed went
          c.go_on.ensures.after;
      same = goes_on-turn c.loop-turn._turn c.args.thread c.loop-turn.self c.go_on.new.self left went
          c.go_on.ensures.after
          ∙ c.loop-turn.invariant.same;
    }

pub returns-in_default : goal.returns-in_default
returns-in_default c =
    let last = goes_on-other (23 - c.loop-turn._turn) c.args.thread c.loop-turn.self
    (λ e. c.in_default.not-Went (c.go_on.ensures.seen ∙ e)) in
    let same = sym last ∙ c.loop-turn.invariant.same in
    record {
      seen = c.go_on.ensures.seen ∙ ap (λ (o : Outcome). o.seen) same;
      after = c.go_on.ensures.after ∙ ap (λ (o : Outcome). o.after) same;
    }
