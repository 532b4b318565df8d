use Rattle.std.proofs.Common.{take}
use Rattle.std.specs.Io.KnownBytes.{Appends}
use Rattle.pif_story.specs.Notes.{notes_text}
use Rattle.pif_story.proofs.texts.write_notes.Given as goal

abbrev pub invariant-loop-note : goal.invariant-loop-note
invariant-loop-note g l =
    Appends (g.W.Write.contents l.fn.writer) (g.W.Write.contents l.writer) (notes_text l.name (take l.note-index l.notes))
