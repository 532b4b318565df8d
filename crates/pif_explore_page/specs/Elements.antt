-- Arrays of JSON.
use Rattle.std.specs.Prelude.{ℕ, List, codes}
use Rattle.std.specs.List.{join_by}

-- the elements of an array, each by its text: a comma stands between each two (RFC 8259, section 5)
abbrev pub elements : {A : Type 0} → (A → List ℕ) → List A → List ℕ
elements text xs = join_by text (codes ",") xs
