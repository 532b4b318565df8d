use Rattle.std.proofs.Common.{◌∙◌, ap, map, sym}
use Rattle.std.specs.Prelude.{codes, filter}
use Rattle.pif_text_core.specs.Waiting.{has}
use Rattle.pif_text_core.specs.Texts.{held_name, held_text, listed}
use Rattle.pif_text_core.proofs.HeldLemmas.{first_next, held_next}
use Rattle.pif_text_core.proofs.ListLemmas.{is_nil, numbers_none}
use Rattle.pif_text_core.proofs.TellingLemmas.{nothing, same, then}
use Rattle.pif_text_core.proofs.threads.show_held.Goals as goal

pub loop-place-init : goal.loop-place-init
unfolding held_text
loop-place-init g c = (
  same (ap (λ ns. listed (codes "; holds ") (map (held_name c.args.core.now) (filter (has c.args.thread c.args.core.now) ns))) (sym numbers_none)) (nothing _ _),
  ap (λ ns. is_nil (filter (has c.args.thread c.args.core.now) ns)) (sym numbers_none),
)

pub loop-place-preserved : goal.loop-place-preserved
loop-place-preserved g c = (
  same (held_next c.args.thread c.args.core.now c.loop-place.place c.loop-place.is_first c.loop-place.invariant.1)
      (then c.loop-place.invariant.0 c.show_if_held-is_first.ensures.told),
  c.show_if_held-is_first.ensures.first
      ∙ first_next c.args.thread c.args.core.now c.loop-place.place c.loop-place.is_first c.loop-place.invariant.1,
)
