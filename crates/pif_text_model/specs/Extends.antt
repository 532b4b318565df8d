-- That text was written behind what was there.
use Rattle.std.specs.Prelude.{ℕ, List, Option}
use Rattle.std.specs.Io.KnownBytes.{Appends}

-- a writer holds text behind what it held
pub record Extends (held holds : Option (List ℕ)) : Type 0 where
  pub text : List ℕ
  pub appended : Appends held holds text

-- what stood in front of what a writer held stands in front of what it holds
abbrev pub Stays : (held holds : Option (List ℕ)) → Type 0
Stays held holds = (front : Option (List ℕ)) → Extends front held → Extends front holds
