use Rattle.std.proofs.Common.{arith}
use Rattle.pif_history_text.specs.Reading.{heard_of, place_of}
use Rattle.pif_history_text.proofs.PlaceLemmas.{full_closed, full_cut, full_failed}
use Rattle.pif_history_text.proofs.reading.close_full.Goals as goal

pub returns-then-count-eq0-clause-read : goal.returns-then-count-eq0-clause-read
returns-then-count-eq0-clause-read g c = λ before h.
    full_closed before (g.R.Read.remaining c.args.reader.now) (g.R.Read.remaining c.read_some.new.reader)
    c.read_some.new.chunk c.in-Ok.count (place_of c.args.text.now) (heard_of c.close.new.self.history) c.close.result h
    c.in-Ok.ensures c.if-count-eq0.true (omega (arith, c.read_some.auto.chunk)) c.requires.open c.close.ensures.closed

pub returns-clause-read : goal.returns-clause-read
returns-clause-read g c = λ before h.
    full_cut before (g.R.Read.remaining c.args.reader.now) (g.R.Read.remaining c.read_some.new.reader)
    c.read_some.new.chunk c.in-Ok.count (place_of c.args.text.now) c.cut_off.result h c.in-Ok.ensures (omega arith)
    (omega (arith, c.read_some.auto.chunk)) c.requires.open c.cut_off.ensures

pub returns-in-Err-clause-read : goal.returns-in-Err-clause-read
returns-in-Err-clause-read g c = λ before h.
    full_failed before (g.R.Read.remaining c.args.reader.now) (g.R.Read.remaining c.read_some.new.reader)
    c.read_some.new.chunk (place_of c.args.text.now) c.in-Err.fault h c.requires.open c.in-Err.ensures
