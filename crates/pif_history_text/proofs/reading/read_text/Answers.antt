use Rattle.std.proofs.Common.{arith}
use Rattle.pif_history_text.specs.Reading.{heard_of, place_of}
use Rattle.pif_history_text.proofs.PlaceLemmas.{part_closed, part_failed, part_more}
use Rattle.pif_history_text.proofs.reading.read_text.Goals as goal

pub returns-in-Err-clause-read : goal.returns-in-Err-clause-read
returns-in-Err-clause-read g c =
    part_failed (g.R.Read.remaining c.args.reader.now) (g.R.Read.remaining c.loop-taken.reader)
    (g.R.Read.remaining c.read_part.new.reader) c.loop-taken.taken c.min-room.result (place_of c.loop-taken.text)
    (place_of c.read_part.new.text) c.in-Err.fault c.loop-taken.invariant.0 (omega arith) c.loop-taken.invariant.1 c.in-Err.ensures.taken

pub returns-then-count-eq0-clause-read : goal.returns-then-count-eq0-clause-read
returns-then-count-eq0-clause-read g c =
    part_closed (g.R.Read.remaining c.args.reader.now) (g.R.Read.remaining c.loop-taken.reader)
    (g.R.Read.remaining c.read_part.new.reader) c.loop-taken.taken c.min-room.result c.in-Ok.count
    (place_of c.loop-taken.text) (place_of c.read_part.new.text) (heard_of c.close.new.self.history) c.close.result
    c.loop-taken.invariant.0 c.loop-taken.invariant.3 c.in-Ok.ensures.taken c.if-count-eq0.true c.in-Ok.ensures.open
    c.close.ensures.closed

pub loop-taken-preserved : goal.loop-taken-preserved
loop-taken-preserved g c =
    let taken = c.in-Ok.ensures.taken in (
      part_more (g.R.Read.remaining c.args.reader.now) (g.R.Read.remaining c.loop-taken.reader)
          (g.R.Read.remaining c.read_part.new.reader) c.loop-taken.taken c.min-room.result c.in-Ok.count
          (place_of c.loop-taken.text) (place_of c.read_part.new.text) c.loop-taken.invariant.0 taken,
      c.in-Ok.ensures.open,
      omega (arith, c.in-Ok.ensures.count, c.loop-taken.invariant.2),
      omega (arith, taken.3),
      c.in-Ok.ensures.paired c.loop-taken.invariant.4,
    )
