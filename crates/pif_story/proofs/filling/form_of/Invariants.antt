use Rattle.std.proofs.Common.{◌≡◌, ◌+◌, length}
use Rattle.std.specs.Prelude.{option_copied}
use Rattle.std.specs.Option.{option_map_or}
use Rattle.pif_script_model.specs.Filling.{form_from}
use Rattle.pif_script_model.specs.Lines.{lines, lines_behind}
use Rattle.pif_story.proofs.filling.form_of.Given as goal

abbrev pub invariant-lines : goal.invariant-lines
invariant-lines l = form_from (lines l.fn.story) ≡ form_from (lines_behind (option_copied l.rest))

abbrev pub decreases-lines : goal.decreases-lines
decreases-lines l = option_map_or (λ text. length text.now + 1) l.rest 0
