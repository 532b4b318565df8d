use Rattle.std.proofs.Common.{arith}
use Rattle.std.proofs.lemmas.Result.{err_from_is_err_and}
use Rattle.pif_script.specs.Scanners.{scan_of}
use Rattle.pif_script_model.proofs.LineLemmas.{TakesSome-plain, TakesSome-byte, TakesSome-ended}
use Rattle.pif_script.proofs.scanner.Scanner.take_part.Goals as goal

pub returns-then-plain-self-clause-answer : goal.returns-then-plain-self-clause-answer
returns-then-plain-self-clause-answer g c =
    TakesSome-plain g.L.Listener.hearing (scan_of c.args.self.now) c.args.bytes.now c.args.plain c.args.output.now.items _
    c.requires.within (omega arith) (omega arith) c.requires.before c.keep.ensures

pub returns-in_err-take-clause-answer : goal.returns-in_err-take-clause-answer
returns-in_err-take-clause-answer g c =
    let p = err_from_is_err_and c.from_residual.result c.from_residual.ensures.1 in
    rw (p.1, p.2) (TakesSome-ended g.L.Listener.hearing (scan_of c.args.self.now) c.args.bytes.now
    c.args.output.now.items c.take.new.output.items (scan_of c.args.self.now) c.in_err-take.field-0.0 c.requires.some
    c.in_err-take.ensures.answer)

pub returns-clause-answer : goal.returns-clause-answer
returns-clause-answer g c =
    TakesSome-byte g.L.Listener.hearing (scan_of c.args.self.now) c.args.bytes.now c.args.output.now.items
    c.take.new.output.items _ c.in_ok-take.field-0 c.requires.some c.in_ok-take.ensures.answer
