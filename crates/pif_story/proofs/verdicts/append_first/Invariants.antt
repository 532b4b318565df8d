use Rattle.std.proofs.Common.{◌≡◌, ◌++◌, take}
use Rattle.std.specs.Prelude.{flat_map}
use Rattle.pif_script_model.specs.Verdicts.{flaw_line, flaw_of}
use Rattle.pif_story.proofs.verdicts.append_first.Given as goal

abbrev pub invariant-loop-flaw : goal.invariant-loop-flaw
invariant-loop-flaw l =
    l.text.items
    ≡ l.initial.text.items ++ flat_map (λ found. flaw_line l.name (flaw_of found)) (take l.flaw-index l.flaw-items)
