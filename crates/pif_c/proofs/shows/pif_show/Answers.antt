-- The detail is handed on, and the number is that of how the job ended.
use Rattle.std.proofs.Common.{ℕ, subst}
use Rattle.pif_script_model.specs.declared.details.Detail.{Detail}
use Rattle.pif_c.specs.Shows.{ShowsTold}
use Rattle.pif_c.specs.Texts.{IsHandedOut, Wholly}
use Rattle.pif_c.proofs.shows.pif_show.Goals as goal

pub returns : goal.returns
returns c = record {
  text = c.show_whole-text.result.0.items;
  done = c.show_whole-text.result.1;
  does =
      subst (λ (d : Detail). Wholly (ShowsTold d) c.args.story.now c.show_whole-text.result.0.items c.show_whole-text.result.1)
      c.detail_of.ensures c.show_whole-text.ensures;
  handed =
      subst (λ (n : ℕ). IsHandedOut c.show_whole-text.result.0.items n c.args.out.now c.hand_out.new.out c.hand_out.result)
      c.ended_number.ensures c.hand_out.ensures;
}
