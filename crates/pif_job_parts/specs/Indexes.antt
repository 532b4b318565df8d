-- The index of a history in parts: what it says, and how that is written.
use Rattle.std.specs.Prelude.{ℕ, zero, suc, ◌+◌, ◌-◌, nat_lt, List, [], ◌∷◌, ◌++◌, Option, Some, None, codes, decimal, flat_map, if◌then◌else◌}
use Rattle.pif_parts.specs.declared.parts.Span.{Span}
use Rattle.pif_job_parts.specs.declared.indexes.Index.{Index}
use Rattle.pif_job_parts.specs.declared.indexes.Run.{Run}

-- so many numbers, from n on
abbrev pub numbers_from : (n count : ℕ) → List ℕ
numbers_from n zero = []
numbers_from n (suc k) = n ∷ numbers_from (n + 1) k

-- the numbers of lines, of which those of each run follow one another
abbrev pub numbers_of : List Run → List ℕ
numbers_of runs = flat_map (λ r. numbers_from r.number r.count) runs

-- the number at this place, from 0
abbrev pub number_at : List Run → ℕ → Option ℕ
number_at [] k = None
number_at (r ∷ rs) k = if nat_lt k r.count then Some (r.number + k) else number_at rs (k - r.count)

-- a row of an index: its word, and numbers
abbrev pub row_text : List ℕ → List ℕ → List ℕ
row_text word numbers = word ++ flat_map (λ n. codes " " ++ decimal n) numbers ++ codes "\n"

abbrev pub span_row : Span → List ℕ
span_row s = row_text (codes "part") (s.first ∷ s.count ∷ s.before ∷ [])

abbrev pub run_row : Run → List ℕ
run_row r = row_text (codes "at") (r.number ∷ r.count ∷ [])

-- the text of an index: of how many lines and calls the history has, of its parts, and of its lines' numbers
abbrev pub index_text : Index → List ℕ
index_text i =
    codes "pif-parts 1\n" ++ row_text (codes "lines") (i.lines ∷ []) ++ row_text (codes "calls") (i.calls ∷ [])
    ++ flat_map span_row i.spans.items ++ flat_map run_row i.runs.items

-- the name of the file of the part of this number, from 1
abbrev pub file_name : ℕ → List ℕ
file_name k = codes "part-" ++ decimal k ++ codes ".history"
