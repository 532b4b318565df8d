use Rattle.std.proofs.lemmas.Result.{err_from_is_err_and}
use Rattle.pif_job_shell.proofs.TalkLemmas.{talks_failed, talks_on, talks_out}
use Rattle.pif_job_shell.proofs.shells.converse.Goals as goal

pub returns-in_err-turn : goal.returns-in_err-turn
returns-in_err-turn g c =
    let p = err_from_is_err_and c.from_residual.result c.from_residual.ensures.1 in
    rw (p.1, p.2) (talks_failed (g.R.Read.remaining c.args.reader.now) (g.R.Read.remaining c.loop-turn.reader)
    (g.R.Read.remaining c.turn.new.reader) (g.W.Write.contents c.args.writer.now)
    (g.W.Write.contents c.loop-turn.writer) (g.W.Write.contents c.turn.new.writer) c.in_err-turn.field-0.0
    c.loop-turn.invariant c.in_err-turn.ensures)

pub returns-then-not-branch : goal.returns-then-not-branch
returns-then-not-branch g c =
    talks_out (g.R.Read.remaining c.args.reader.now) (g.R.Read.remaining c.loop-turn.reader)
    (g.R.Read.remaining c.turn.new.reader) (g.W.Write.contents c.args.writer.now)
    (g.W.Write.contents c.loop-turn.writer) (g.W.Write.contents c.turn.new.writer)
    c.loop-turn.invariant c.in_ok-turn.ensures

pub loop-turn-preserved : goal.loop-turn-preserved
loop-turn-preserved g c =
    talks_on (g.R.Read.remaining c.args.reader.now) (g.R.Read.remaining c.loop-turn.reader)
    (g.R.Read.remaining c.turn.new.reader) (g.W.Write.contents c.args.writer.now)
    (g.W.Write.contents c.loop-turn.writer) (g.W.Write.contents c.turn.new.writer)
    c.loop-turn.invariant c.in_ok-turn.ensures
