use Rattle.std.proofs.lemmas.Result.{err_from_is_err_and}
use Rattle.pif_job_run.proofs.StoryLemmas.{not_kept, not_noted, not_read, noted}
use Rattle.pif_job_run.proofs.story_shows.show_noting.Goals as goal

pub returns-in_err-story-clause-failed : goal.returns-in_err-story-clause-failed
returns-in_err-story-clause-failed g c =
    let p = err_from_is_err_and c.from_residual.result c.from_residual.ensures.1 in
    rw (p.1, p.2) (not_read _ _ _ c.in_err-story.field-0.0 c.in_err-story.ensures.failed)

pub returns-in_err-notes-clause-failed : goal.returns-in_err-notes-clause-failed
returns-in_err-notes-clause-failed g c =
    let p = err_from_is_err_and c.from_residual-in_err-notes.result c.from_residual-in_err-notes.ensures.1 in
    rw (p.1, p.2) (not_kept _ _ _ c.in_ok-story.story.items c.in_err-notes.field-0.0
    c.in_ok-story.ensures.read c.in_err-notes.ensures.failed)

pub returns-in_err-show_named-in-Ok-clause-failed : goal.returns-in_err-show_named-in-Ok-clause-failed
returns-in_err-show_named-in-Ok-clause-failed g c =
    let p = err_from_is_err_and c.from_residual-in_err-show_named-in-Ok.result
    c.from_residual-in_err-show_named-in-Ok.ensures.1 in
    let shown = rw c.as_slice-text.ensures.value at c.in_err-show_named-in-Ok.ensures.ends.1 in
    rw (p.1, p.2) (not_noted _ _ _ _ _ c.in_ok-story.story.items c.in_err-show_named-in-Ok.field-0.0
    c.in_ok-story.ensures.read shown)

pub returns-in-Ok-clause-noted : goal.returns-in-Ok-clause-noted
returns-in-Ok-clause-noted g c =
    let shown = rw c.as_slice-text.ensures.value at c.in_ok-show_named-in-Ok.ensures.ends.1 in
    let notes = rw c.as_slice-text.ensures.value at c.in_ok-notes.ensures.notes in
    noted _ _ _ _ _ _ c.in_ok-story.story.items c.in_ok-story.ensures.read shown notes

pub returns-clause-failed : goal.returns-clause-failed
returns-clause-failed g c =
    not_kept _ _ _ c.in_ok-story.story.items _ c.in_ok-story.ensures.read tt
