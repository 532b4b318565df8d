-- A story that is in memory is read as it was where it came from.
use Rattle.std.proofs.Common.{◌≡◌, ◌≤◌, ℕ, List, [], ◌∷◌, ◌++◌, length, length-append, Option, Some, None, Result, Ok, Err, append-nil, arith, inl, inr, refl, sym, ◌∙◌, ap}
use Rattle.std.specs.Io.KnownBytes.{Consumes}
use Rattle.std.proofs.KnownBytes.{Keeps-refl}
use Rattle.pif_script_model.specs.declared.faults.CliFault.{CliFault}
use Rattle.pif_script_model.specs.declared.faults.CliFault.TheVariants.{Read, Write, NoMemory, Script, Differs}
use Rattle.pif_script_model.specs.Migrating.{FailsToRead, IsAllRead, ReadsTo}
use Rattle.pif_script_model.specs.Checks.{IsUntold}
use Rattle.pif_script_model.specs.StoryShowing.{LeavesScript, LeavesScriptTo, ShowsStoryTo}
use Rattle.pif_story.specs.declared.missing.Note.{Note}
use Rattle.pif_story.specs.Notes.{Shows, ShowsNoting, story_notes}

-- nothing is left
nothing : (xs : List ℕ) → length xs ≤ 0 → xs ≡ []
nothing [] short = refl
nothing (x ∷ xs) short = absurd (omega (arith, short))

-- what was read is the whole, if all was read, or as many bytes as a story may have and one more
whole : (story read : List ℕ) (left : Option (List ℕ)) → Consumes (Some story) left read → length story ≤ 16777217
    → IsAllRead read left → read ≡ story
whole story read None consumes short all = absurd consumes
whole story read (Some rest) consumes short (inl long) =
    let gone = nothing rest (omega (arith, ap length consumes, length-append read rest, short, long)) in
    sym (consumes ∙ ap (λ xs. read ++ xs) gone ∙ append-nil read)
whole story read (Some rest) consumes short (inr gone) = sym (consumes ∙ ap (λ xs. read ++ xs) gone ∙ append-nil read)

-- the script that is left of what was read is that of where it came from
leaves_of : (before after left : Option (List ℕ)) (story : List ℕ) (script : Result (List ℕ) CliFault)
    → ReadsTo before after story → LeavesScriptTo (Some story) left script → LeavesScript story after script
leaves_of before after left story (Ok script) from here =
    let same = whole story here.0 left here.1 from.1 here.3.0 in
    (from.2, rw same at here.3.1, rw same at here.3.2)
leaves_of before after left story (Err (Script line cause)) from here =
    let same = whole story here.0 left here.1 from.1 here.3.0 in
    (from.2, rw same at here.3.1, rw same at here.3.2, here.3.3)
leaves_of before after left story (Err (Differs line)) from here = absurd here.3
leaves_of before after left story (Err Read) from here = tt
leaves_of before after left story (Err Write) from here = absurd here.3
leaves_of before after left story (Err NoMemory) from here = tt

-- a story in memory is not shown, since memory ran out
pub unlisted : (held : Option (List ℕ)) (story : List ℕ)
    → (left : Option (List ℕ)) × ShowsStoryTo (Some story) left held held (Err NoMemory)
unlisted held story =
    (Some story, (Err NoMemory, ([], refl, omega arith, tt), (refl, Keeps-refl held)))

-- ---- with notes

-- a story that was read is shown from memory
shows_read : (before after left held holds : Option (List ℕ)) (story : List ℕ) (result : Result (Unit {0}) CliFault)
    → ReadsTo before after story → ShowsStoryTo (Some story) left held holds result
    → Shows story after held holds result
shows_read before after left held holds story result from here =
    (here.0, leaves_of before after left story here.0 from here.1, here.2)

-- and these are its notes
pub noted : (notes : List Note) (before after left held holds : Option (List ℕ)) (story : List ℕ)
    → ReadsTo before after story → ShowsStoryTo (Some story) left held holds (Ok tt) → notes ≡ story_notes story
    → ShowsNoting before after held holds (Ok notes)
noted notes before after left held holds story from here same =
    (story, from.0, from.1, shows_read before after left held holds story (Ok tt) from here, same)

-- it ended before its end
pub not_noted : (before after left held holds : Option (List ℕ)) (story : List ℕ) (fault : CliFault)
    → ReadsTo before after story → ShowsStoryTo (Some story) left held holds (Err fault)
    → ShowsNoting before after held holds (Err fault)
not_noted before after left held holds story fault from here =
    (story, from.0, from.1, shows_read before after left held holds story (Err fault) from here, tt)

-- not all was read
pub not_read : (before after held : Option (List ℕ)) (fault : CliFault) → FailsToRead before after fault
    → ShowsNoting before after held held (Err fault)
not_read before after held Read from = (from.0, from.1, from.2, (Err Read, tt, (refl, Keeps-refl held)), tt)
not_read before after held NoMemory from =
    (from.0, from.1, from.2, (Err NoMemory, tt, (refl, Keeps-refl held)), tt)
not_read before after held Write from = absurd from
not_read before after held (Script line cause) from = absurd from
not_read before after held (Differs line) from = absurd from

-- all was read, and then memory ran out
pub not_kept : (before after held : Option (List ℕ)) (story : List ℕ) (fault : CliFault)
    → ReadsTo before after story → IsUntold fault → ShowsNoting before after held held (Err fault)
not_kept before after held story Read from is =
    (story, from.0, from.1, (Err Read, tt, (refl, Keeps-refl held)), tt)
not_kept before after held story NoMemory from is =
    (story, from.0, from.1, (Err NoMemory, tt, (refl, Keeps-refl held)), tt)
not_kept before after held story Write from is = absurd is
not_kept before after held story (Script line cause) from is = absurd is
not_kept before after held story (Differs line) from is = absurd is
