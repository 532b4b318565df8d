use Rattle.std.proofs.Common.{Err, refl, subst, sym, take}
use Rattle.std.proofs.lemmas.Result.{err_from_is_err_and}
use Rattle.pif_script_model.specs.Runs.{Writes}
use Rattle.pif_script_model.proofs.RunLemmas.{Writes-more}
use Rattle.pif_story.specs.Notes.{note_line, notes_text}
use Rattle.pif_story.proofs.WritingLemmas.{lines_at}
use Rattle.pif_story.proofs.texts.write_notes.Goals as goal

pub returns-in_err-write_note : goal.returns-in_err-write_note
returns-in_err-write_note g c =
    let p = err_from_is_err_and c.from_residual.result c.from_residual.ensures.1 in
    let name = c.args.name.now in
    let notes = c.args.notes.now in
    let i = c.loop-note.note-index in
    rw (p.1, p.2) (subst (λ l. Writes (g.W.Write.contents c.args.writer.now) (g.W.Write.contents c.write_note.new.writer)
    l (Err c.in_err-write_note.field-0.0)) (sym (lines_at (note_line name) notes i _ c.loop-note-test.true))
    (Writes-more (notes_text name (take i notes)) _ _ _ _ _ _ c.in_err-write_note.field-0.0 c.loop-note.invariant refl
    c.in_err-write_note.ensures))
