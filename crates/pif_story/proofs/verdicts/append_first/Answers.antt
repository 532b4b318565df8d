use Rattle.std.proofs.Common.{◌++◌, ◌∙◌, ap, take, take_all}
use Rattle.std.specs.Prelude.{flat_map}
use Rattle.pif_script_model.specs.Verdicts.{flaw_line, flaw_of}
use Rattle.pif_script_model.proofs.OrderLemmas.{flaws_told}
use Rattle.pif_story.proofs.verdicts.append_first.Goals as goal

pub returns : goal.returns
returns c =
    let start = c.args.text.now.items in
    let name = c.args.name.now in
    let whole = take_all c.loop-flaw.flaw-index (take c.min.result c.args.flaws.now) c.loop-flaw-test.false in
    c.loop-flaw.invariant ∙ ap (λ found. start ++ flat_map (λ flaw. flaw_line name (flaw_of flaw)) found) whole
    ∙ ap (λ l. start ++ l) (flaws_told name c.args.flaws.now c.min.result c.min.ensures)
