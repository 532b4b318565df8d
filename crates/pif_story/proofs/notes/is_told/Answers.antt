use Rattle.std.proofs.Common.{sym, ◌∙◌}
use Rattle.pif_story.proofs.NoteLemmas.{told_behind, told_here, told_none}
use Rattle.pif_story.proofs.notes.is_told.Goals as goal

pub loop-note-preserved : goal.loop-note-preserved
loop-note-preserved c =
    c.loop-note.invariant
    ∙ told_behind c.args.missing.now c.args.notes.now c.loop-note.note-index _ c.loop-note-test.true
    (sym c.is_same.ensures ∙ c.if-is_same.false)

pub returns-then-is_same : goal.returns-then-is_same
returns-then-is_same c =
    sym (c.loop-note.invariant
    ∙ told_here c.args.missing.now c.args.notes.now c.loop-note.note-index _ c.loop-note-test.true
    (sym c.is_same.ensures ∙ c.if-is_same.true))

pub returns : goal.returns
returns c =
    sym (c.loop-note.invariant
    ∙ told_none c.args.missing.now c.args.notes.now c.loop-note.note-index c.loop-note-test.false)
