-- A text on its way to a writer.
use Rattle.std.specs.Prelude.{ℕ, ◌≡◌, Bool, false, List, Option}
use Rattle.std.specs.Io.KnownBytes.{Appends, append_known}
use Rattle.pif_text_model.specs.Extends.{Stays}

-- what is kept of a text until it is written, and whether a write has failed
pub record Sheet : Type 0 where
  pub kept : List ℕ
  pub failed : Bool

-- a text was told by way of a sheet to a writer: what the writer held stays in front; and if no write has failed up to
-- now, then what it holds and what is kept for it are what they were, with the text behind that
pub record Tells (old new : Sheet) (held holds : Option (List ℕ)) (text : List ℕ) : Type 0 where
  pub stays : Stays held holds
  pub told : new.failed ≡ false → (old.failed ≡ false) × Appends (append_known held old.kept) (append_known holds new.kept) text
