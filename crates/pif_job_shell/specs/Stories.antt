-- The story of a session.
use Rattle.std.specs.Prelude.{ℕ, ◌≡◌, List, [], Ok}
use Rattle.pif_text_model.specs.declared.commands.Command.{Command}
use Rattle.pif_script_model.specs.CommandLines.{script_lines}
use Rattle.pif_script_model.specs.Checks.{fill_telling}

-- the story of these commands: filling in their script has no fault, and gives this
abbrev pub IsStoryOf : List Command → List ℕ → Type 0
IsStoryOf cs story = fill_telling [] (script_lines cs) ≡ (story, Ok tt)
