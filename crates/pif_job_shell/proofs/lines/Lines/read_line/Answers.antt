use Rattle.std.proofs.lemmas.Result.{err_from_is_err_and}
use Rattle.pif_job_shell.proofs.LineLemmas.{reads_more}
use Rattle.pif_job_shell.proofs.lines.Lines.read_line.Goals as goal

pub returns-in_err-read_more : goal.returns-in_err-read_more
returns-in_err-read_more g c =
    let p = err_from_is_err_and c.from_residual.result c.from_residual.ensures.1 in
    rw p.1 (reads_more (g.R.Read.remaining c.args.reader.now) (g.R.Read.remaining c.loop-turn.reader)
    (g.R.Read.remaining c.read_more.new.reader) c.loop-turn.invariant c.in_err-read_more.ensures)

pub returns-then-not-branch : goal.returns-then-not-branch
returns-then-not-branch g c =
    let read = rw c.if-not-branch.true at c.in_ok-read_more.ensures in (
      reads_more (g.R.Read.remaining c.args.reader.now) (g.R.Read.remaining c.loop-turn.reader)
          (g.R.Read.remaining c.read_more.new.reader) c.loop-turn.invariant read.0,
      read.1,
    )

pub loop-turn-preserved : goal.loop-turn-preserved
loop-turn-preserved g c =
    let read = rw c.if-not-branch.false at c.in_ok-read_more.ensures in
    reads_more (g.R.Read.remaining c.args.reader.now) (g.R.Read.remaining c.loop-turn.reader)
    (g.R.Read.remaining c.read_more.new.reader) c.loop-turn.invariant read
