use Rattle.std.proofs.Common.{◌≡◌, ◌+◌, ◌++◌, length}
use Rattle.std.specs.Prelude.{flat_map, option_copied}
use Rattle.std.specs.Option.{option_map_or}
use Rattle.pif_script_model.specs.Lines.{lines_behind}
use Rattle.pif_story.specs.Names.{names_in, naming_line}
use Rattle.pif_story.proofs.names.names_in.Given as goal

abbrev pub invariant-lines : goal.invariant-lines
invariant-lines l = names_in l.fn.story ≡ l.names.items ++ flat_map naming_line (lines_behind (option_copied l.rest))

abbrev pub decreases-lines : goal.decreases-lines
decreases-lines l = option_map_or (λ text. length text.now + 1) l.rest 0
