use Rattle.std.proofs.Common.{take, arith}
use Rattle.std.proofs.lemmas.Result.{err_from_is_err_and}
use Rattle.pif_script.specs.Scanners.{scan_of}
use Rattle.pif_script_model.proofs.LeavingLemmas.{GoesOn-closed}
use Rattle.pif_script_model.proofs.RunLemmas.{RunsFrom-read_failed}
use Rattle.pif_script_model.proofs.FeedLemmas.{RunsFrom-fed}
use Rattle.pif_script.proofs.script.turn.Goals as goal

pub returns-in-Err-clause-answer : goal.returns-in-Err-clause-answer
returns-in-Err-clause-answer g c =
    RunsFrom-read_failed g.L.Listener.hearing (scan_of c.args.scanner.now) _ _ _ c.in-Err.ensures.bytes

pub returns-then-count-eq0-clause-answer : goal.returns-then-count-eq0-clause-answer
returns-then-count-eq0-clause-answer g c =
    let read = rw c.if-count-eq0.true at c.in-Ok.ensures.bytes in
    GoesOn-closed g.L.Listener.hearing (scan_of c.args.scanner.now) _ _ _ _ c.close.result read.0
    (c.in-Ok.ensures.bytes.1 c.if-count-eq0.true (omega arith))
    c.close.ensures

pub returns-in_err-feed-clause-answer : goal.returns-in_err-feed-clause-answer
returns-in_err-feed-clause-answer g c =
    let p = err_from_is_err_and c.from_residual.result c.from_residual.ensures.1 in
    rw (p.1, p.2) (RunsFrom-fed g.L.Listener.hearing (scan_of c.args.scanner.now) (scan_of c.feed.new.scanner)
    (take c.in-Ok.count c.read.new.buf) _ _ _ _ c.in_err-feed.field-0.0 c.in-Ok.ensures.bytes.0
    c.in_err-feed.ensures.answer)
