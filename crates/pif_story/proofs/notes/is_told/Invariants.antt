use Rattle.std.proofs.Common.{◌≡◌, drop}
use Rattle.pif_story.specs.Notes.{is_told}
use Rattle.pif_story.proofs.notes.is_told.Given as goal

abbrev pub invariant-loop-note : goal.invariant-loop-note
invariant-loop-note l = is_told l.missing l.notes ≡ is_told l.missing (drop l.note-index l.notes)
