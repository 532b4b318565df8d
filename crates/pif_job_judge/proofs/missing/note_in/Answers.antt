use Rattle.std.proofs.Common.{◌≡◌, ◌∙◌, ◌∷◌, [], List, ℕ, length, refl, ap, arith}
use Rattle.pif_story.specs.declared.missing.Missing.{Missing}
use Rattle.pif_story.specs.declared.missing.Note.{Note}
use Rattle.pif_story.specs.Notes.{is_told, note_at, with_note}
use Rattle.pif_job_judge.specs.Missing.{told_text}
use Rattle.pif_job_judge.proofs.missing.note_in.Goals as goal

-- the first note behind none is the only one
only : (told notes given : List Note) (n number : ℕ) (text wanted : List ℕ) (m : Missing) → told ≡ []
    → notes ≡ with_note told (note_at n text m) → given ≡ notes → n ≡ number → text ≡ wanted → given ≡ note_at number wanted m ∷ []
unfolding with_note is_told
only told notes given n number text wanted m none grown same counted is = same ∙ grown ∙ rw (none, counted, is) refl

pub returns-in-empty : goal.returns-in-empty
returns-in-empty c =
    let e = only c.new-notes.result.items c.note_at.new.notes.items c.as_slice-2.result.now c.from.result c.args.number
    c.as_slice.result.now (told_text c.args.line.now) c.args.missing.now c.new-notes.ensures c.note_at.ensures
    c.as_slice-2.ensures.value c.from.ensures (c.as_slice.ensures.value ∙ c.told_text-text.ensures) in
    absurd (omega (arith, ap length e, c.in-empty.len_below))

pub returns-in-len1-up : goal.returns-in-len1-up
returns-in-len1-up c =
    rw (only c.new-notes.result.items c.note_at.new.notes.items c.as_slice-2.result.now c.from.result c.args.number
    c.as_slice.result.now (told_text c.args.line.now) c.args.missing.now c.new-notes.ensures c.note_at.ensures
    c.as_slice-2.ensures.value c.from.ensures (c.as_slice.ensures.value ∙ c.told_text-text.ensures)) refl
