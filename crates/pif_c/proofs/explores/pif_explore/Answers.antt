-- How it is explored is handed on, and the number is that of how the job ended.
use Rattle.std.proofs.Common.{ℕ, subst}
use Rattle.pif_job_explore.specs.Exploring.{ExploresTo}
use Rattle.pif_job_explore.specs.declared.exploring.Exploring.{Exploring}
use Rattle.pif_c.specs.Texts.{IsHandedOut, Wholly}
use Rattle.pif_c.proofs.explores.pif_explore.Goals as goal

pub returns : goal.returns
returns c = record {
  text = c.explore_whole-text.result.0.items;
  done = c.explore_whole-text.result.1;
  does =
      subst (λ (x : Exploring). Wholly (ExploresTo x) c.args.program.now c.explore_whole-text.result.0.items c.explore_whole-text.result.1)
      c.exploring_of-asked.ensures c.explore_whole-text.ensures;
  handed =
      subst (λ (n : ℕ). IsHandedOut c.explore_whole-text.result.0.items n c.args.out.now c.hand_out.new.out c.hand_out.result)
      c.explored_number.ensures c.hand_out.ensures;
}
