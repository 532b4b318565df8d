-- The graph at the end of a story.
use Rattle.std.specs.Prelude.{ℕ, List, [], ◌∷◌, Option, Some, None, Result, Ok, Err, map, option_and_then}
use Rattle.pif_model.specs.Table.{Table}
use Rattle.pif_text_model.specs.declared.commands.Command.{Command}
use Rattle.pif_text_model.specs.declared.replies.Cause.{Cause}
use Rattle.pif_script_model.specs.Running.{Answer, outcome_behind}
use Rattle.pif_script_model.specs.Rows.{Asked, asked_by}
use Rattle.pif_script_model.specs.Stories.{NumberedRow, rows_of}
use Rattle.pif_story_states.specs.Graphs.{graph, parts_of}

-- the core that a command leaves; one that is a fault leaves none
abbrev pub core_left : Result Answer Cause → Option Table
core_left (Ok answer) = Some answer.1
core_left (Err cause) = None

-- the core after a command: the first one makes it
abbrev pub core_after : Option Table → Command → Option Table
core_after before c = core_left (outcome_behind before c)

-- the core after commands. There is none without a command, and none if one is a fault
unfoldable pub core_behind : Option Table → List Asked → Option Table
core_behind before [] = before
core_behind before (asked ∷ more) =
    elim (option_and_then (core_after before) asked.2) [ None ↦ None | Some s ↦ core_behind (Some s) more ]

-- the nodes and edges of a core: none if there is no core
abbrev pub parts_if : Option Table → List ℕ
parts_if None = []
parts_if (Some s) = parts_of s

-- the graph of a core
abbrev pub graph_if : Option Table → List ℕ
graph_if core = graph (parts_if core)

-- the graph after commands of a story
unfoldable pub graph_from : List NumberedRow → List ℕ
graph_from rows = graph_if (core_behind None (map asked_by rows))

-- the graph at the end of a story
abbrev pub graph_text : List ℕ → List ℕ
graph_text story = graph_from (rows_of story)
