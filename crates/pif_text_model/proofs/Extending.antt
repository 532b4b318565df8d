-- Text that is written in parts.
use Rattle.std.proofs.Common.{ℕ, List, ◌++◌, Option}
use Rattle.std.proofs.KnownBytes.{Appends-kept, Appends-trans}
use Rattle.std.specs.Io.KnownBytes.{Appends, Keeps}
use Rattle.pif_text_model.specs.Extends.{Stays}

-- bytes were written behind what was there
pub Stays-appended : (a b : Option (List ℕ)) (bytes : List ℕ) → Appends a b bytes → Stays a b
Stays-appended a b bytes p =
    λ front q. record { text = q.text ++ bytes; appended = Appends-trans front a b q.text bytes q.appended p }

-- nothing was written
pub Stays-kept : (a b : Option (List ℕ)) → Keeps a b → Stays a b
Stays-kept a b p = λ front q. record { text = q.text; appended = Appends-kept front a b q.text q.appended p }
