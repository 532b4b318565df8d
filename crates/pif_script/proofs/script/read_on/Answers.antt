use Rattle.std.proofs.Common.{Err, refl}
use Rattle.std.proofs.lemmas.Result.{err_from_is_err_and}
use Rattle.pif_script.specs.Scanners.{scan_of}
use Rattle.pif_script_model.proofs.LeavingLemmas.{RunsOn-ended, RunsOn-failed}
use Rattle.pif_script_model.proofs.RunLemmas.{Goes-start, Goes-more}
use Rattle.pif_script.proofs.script.read_on.Goals as goal

pub loop-init : goal.loop-init
loop-init g c =
    Goes-start g.L.Listener.hearing (scan_of c.args.scanner.now) (scan_of c.args.scanner.now) _ _ refl

pub returns-in_err-turn : goal.returns-in_err-turn
returns-in_err-turn g c =
    let p = err_from_is_err_and c.from_residual.result c.from_residual.ensures.1 in
    rw (p.1, p.2) (RunsOn-failed g.L.Listener.hearing (scan_of c.args.scanner.now) (scan_of c.loop.scanner)
    (scan_of c.turn.new.scanner) _ _ _ _ _ _ c.in_err-turn.field-0.0 c.loop.invariant
    c.in_err-turn.ensures.answer)

pub returns-then-not-branch : goal.returns-then-not-branch
returns-then-not-branch g c =
    let answer = rw c.if-not-branch.true at c.in_ok-turn.ensures.answer in
    RunsOn-ended g.L.Listener.hearing (scan_of c.args.scanner.now) (scan_of c.loop.scanner)
    (scan_of c.turn.new.scanner) _ _ _ _ _ _ c.loop.invariant answer

pub loop-preserved : goal.loop-preserved
loop-preserved g c =
    let answer = rw c.if-not-branch.false at c.in_ok-turn.ensures.answer in
    Goes-more g.L.Listener.hearing (scan_of c.args.scanner.now) (scan_of c.loop.scanner)
    (scan_of c.turn.new.scanner) _ _ _ _ _ _ c.loop.invariant answer
