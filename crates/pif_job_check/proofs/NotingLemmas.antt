-- A check that is told, with the notes on the story that was read.
use Rattle.std.proofs.Common.{◌≡◌, false, ℕ, List, Option, Result, Ok, Err, inl, inr, sym, ap, ◌∙◌, subst}
use Rattle.std.specs.Io.KnownBytes.{Appends}
use Rattle.pif_script_model.specs.declared.faults.CliFault.{CliFault}
use Rattle.pif_script_model.specs.declared.faults.CliFault.TheVariants.{Read, Write, NoMemory, Script, Differs}
use Rattle.pif_script_model.specs.Migrating.{ReadsTo}
use Rattle.pif_script_model.specs.Checks.{Telling, TellsTo, WritesTelling, check_telling, checked_telling}
use Rattle.pif_story.specs.declared.missing.Note.{Note}
use Rattle.pif_story.specs.Notes.{TellsNoting, story_notes}

-- all was told, and these are the notes
pub noted : (name : List ℕ) (a b h k : Option (List ℕ)) (bytes text : List ℕ) (notes : List Note) (end : Result (Unit {0}) CliFault)
    (x : Unit {0}) → ReadsTo a b bytes → ◌≡◌ {A = Telling} (text, end) (checked_telling false name bytes)
    → notes ≡ story_notes bytes → WritesTelling h k text end (Ok x)
    → TellsNoting (check_telling name) a b h k (Ok notes)
noted name a b h k bytes text notes end x r t n (inl w) = (
  bytes,
  r.0,
  r.1,
  (
    sym (w.0 ∙ ap (λ (x : Telling). x.1) t),
    r.2,
    subst (λ l. Appends h k l) (ap (λ (x : Telling). x.0) t) w.1,
  ),
  n,
)
noted name a b h k bytes text notes end x r t n (inr w) = cc

-- not all was told
pub not_noted : (telling : List ℕ → Telling) (a b h k : Option (List ℕ)) (fault : CliFault)
    → TellsTo telling a b h k (Err fault) → TellsNoting telling a b h k (Err fault)
not_noted telling a b h k fault t = (t.0, t.1, t.2, t.3, tt)

-- what was told, whatever is noted
pub told_of_noted : (notes : List Note) (telling : List ℕ → Telling) (a b h k : Option (List ℕ))
    → TellsNoting telling a b h k (Ok notes) → TellsTo telling a b h k (Ok tt)
told_of_noted notes telling a b h k t = (t.0, t.1, t.2, t.3)

pub told_of_failed : (telling : List ℕ → Telling) (a b h k : Option (List ℕ)) (fault : CliFault)
    → TellsNoting telling a b h k (Err fault) → TellsTo telling a b h k (Err fault)
told_of_failed telling a b h k fault t = (t.0, t.1, t.2, t.3)
