use Rattle.std.proofs.Common.{ℕ, List, Option, subst}
use Rattle.pif_cli.specs.Words.{JudgesAs}
use Rattle.pif_cli.proofs.judging.judge_input.Goals as goal

pub returns : goal.returns
returns g c = (
  c.judge_as.result,
  subst (λ (name : Option (List ℕ)). JudgesAs c.args.asked name (g.R.Read.remaining c.args.input.now)
      (g.R.Read.remaining c.judge_as.new.input) (g.W.Write.contents c.args.output.now)
      (g.W.Write.contents c.judge_as.new.output) c.judge_as.result) c.told_name-told.ensures c.judge_as.ensures,
  c.as_judged.ensures,
)
