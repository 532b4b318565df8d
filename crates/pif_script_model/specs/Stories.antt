-- Stories: the commands in them, and the script that is left when all else is taken out.
use Rattle.std.specs.Prelude.{ℕ, List, [], ◌∷◌, ◌++◌, Option, option_map, filter_map, flat_map, length}
use Rattle.std.specs.List.{enumerate_from}
use Rattle.pif_script_model.specs.Lines.{StoryRow, plain_lines, row_in}

-- what a line says, behind the line's number
abbrev pub NumberedRow : Type 0
NumberedRow = ℕ × StoryRow

abbrev pub numbered_row : ℕ × List ℕ → Option NumberedRow
numbered_row line = option_map (λ row. (line.0, row)) (row_in line.1)

-- what lines with nothing but their words say, if the number of the first is this
unfoldable pub rows_from : ℕ → List (List ℕ) → List NumberedRow
rows_from number lines = filter_map numbered_row (enumerate_from number lines)

-- the commands of a story, with the answers that are written behind them and the numbers of their lines, from 1
abbrev pub rows_of : List ℕ → List NumberedRow
rows_of story = rows_from 1 (plain_lines story)

-- how many commands lines with nothing but their words have
unfoldable pub count_in : List (List ℕ) → ℕ
count_in lines = length (filter_map row_in lines)

-- a command as a line of a script
abbrev pub row_line : StoryRow → List ℕ
row_line row = row.0 ++ 10 ∷ []

-- commands as a script
unfoldable pub script_by : List NumberedRow → List ℕ
script_by rows = flat_map (λ row. row_line row.1) rows

-- the script that is left of a story when its comments, its empty lines and its answers are taken out: a line for each
-- of its commands, with one space between its words
unfoldable pub script_of : List ℕ → List ℕ
script_of story = script_by (rows_of story)
