use Rattle.std.proofs.Common.{◌++◌, ◌∙◌, [], ap, sym, take_all}
use Rattle.std.specs.Prelude.{flat_map}
use Rattle.pif_story.specs.Parts.{part_text}
use Rattle.pif_story.proofs.PartLemmas.{parts_joined}
use Rattle.pif_story.proofs.parts.append_parts.Goals as goal

pub returns : goal.returns
returns c =
    let start = c.args.text.now.items in
    let parts = c.args.parts.now in
    c.loop-part.invariant
    ∙ ap (λ found. start ++ flat_map part_text found) (take_all c.loop-part.part-index parts c.loop-part-test.false)
    ∙ ap (λ l. start ++ l) (sym (parts_joined [] parts))
