use Rattle.std.proofs.Common.{subst}
use Rattle.pif_job_explore.specs.Exploring.{ExploresTo}
use Rattle.pif_job_explore.specs.declared.exploring.Exploring.{Exploring}
use Rattle.pif_cli.proofs.words.explore_input.Goals as goal

pub returns : goal.returns
returns g c = (
  c.explore_text.result,
  subst (λ (asked : Exploring). ExploresTo asked (g.R.Read.remaining c.args.input.now)
      (g.R.Read.remaining c.explore_text.new.reader) (g.W.Write.contents c.args.output.now)
      (g.W.Write.contents c.explore_text.new.writer) c.explore_text.result) c.exploring_of-exploring.ensures
      c.explore_text.ensures,
  c.as_explored.ensures,
)
