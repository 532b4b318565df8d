use Rattle.std.proofs.Common.{[], append-nil, sym, subst, ◌++◌, ◌∙◌, ap, Ok, Err}
use Rattle.std.proofs.KnownBytes.{Appends-nil}
use Rattle.std.proofs.lemmas.Result.{err_from_is_err_and}
use Rattle.pif_story.proofs.WritingLemmas.{Writes-behind, Writes-front}
use Rattle.pif_story.proofs.texts.write_note.Goals as goal

pub returns-in_err-write_whole : goal.returns-in_err-write_whole
returns-in_err-write_whole g c =
    let p = err_from_is_err_and c.from_residual.result c.from_residual.ensures.1 in
    rw (p.1, p.2) (Writes-front c.args.name.now _ _ _ c.in_err-write_whole.field-0.0 c.in_err-write_whole.ensures)

pub returns : goal.returns
returns g c =
    let text = c.as_slice.ensures.value ∙ c.note_text.ensures in
    Writes-behind c.args.name.now c.as_slice.result.now _ _ _ _ c.write_whole-2.result c.in_ok-write_whole.ensures text
    c.write_whole-2.ensures
