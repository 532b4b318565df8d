use Rattle.std.proofs.Common.{◌≡◌, take}
use Rattle.pif_script_model.specs.Lines.{without_blanks}
use Rattle.pif_story.proofs.lines.without_blanks.Given as goal

abbrev pub invariant-loop-place : goal.invariant-loop-place
invariant-loop-place l = without_blanks (take l.place l.text) ≡ without_blanks l.text
