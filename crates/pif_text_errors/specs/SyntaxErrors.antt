-- Where the syntax error of a line stands.
use Rattle.std.specs.Prelude.{ℕ, List, ◌≡◌, ◌+◌, ◌-◌, ◌≤◌, length}
use Rattle.std.specs.List.{slice_range}
use Rattle.pif_text_errors.specs.declared.syntax_errors.SyntaxError.{SyntaxError}

-- The column of the syntax error is that of a byte of the line, from 1, or the next one behind the line; and its word
-- is what the line has there.
abbrev pub IsIn : List ℕ → SyntaxError → Type 0
IsIn line syntax_error =
    (1 ≤ syntax_error.column)
    × (syntax_error.column + length syntax_error.word.now ≤ length line + 1)
    × (syntax_error.word.now ≡ slice_range line (syntax_error.column - 1) (syntax_error.column - 1 + length syntax_error.word.now))
