use Rattle.pif_script.specs.Scanners.{scan_of}
use Rattle.pif_script_model.proofs.LineLemmas.{TakesSome-line, TakesSome-unheard}
use Rattle.pif_script.proofs.scanner.Scanner.take_line.Goals as goal

pub returns-in-Err-clause-answer : goal.returns-in-Err-clause-answer
returns-in-Err-clause-answer g c =
    let r = c.requires in
    TakesSome-unheard g.L.Listener.hearing (scan_of c.args.self.now) c.args.bytes.now c.args.plain r.fresh r.fits.0
    r.fits.1 r.fits.2 r.before r.found c.args.output.now.items c.answer.new.output.items c.answer.new.listener
    (scan_of c.args.self.now) c.in-Err.stop c.in-Err.ensures.answer

pub returns-clause-answer : goal.returns-clause-answer
returns-clause-answer g c =
    let r = c.requires in
    TakesSome-line g.L.Listener.hearing (scan_of c.args.self.now) c.args.bytes.now c.args.plain r.fresh r.fits.0 r.fits.1
    r.fits.2 r.before r.found c.args.output.now.items c.answer.new.output.items c.answer.new.listener c.named-self.result
    c.in-Ok.field-0 c.in-Ok.ensures.answer c.named-self.ensures
