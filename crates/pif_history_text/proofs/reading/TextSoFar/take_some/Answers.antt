use Rattle.std.proofs.Common.{◌<◌, length, arith}
use Rattle.pif_history_text.specs.Reading.{place_of}
use Rattle.pif_history_text.proofs.PlaceLemmas.{Brings-front, Brings-line_fault}
use Rattle.pif_history_text.proofs.reading.TextSoFar.take_some.Goals as goal

pub returns-in-Err-clause-taken : goal.returns-in-Err-clause-taken
returns-in-Err-clause-taken c =
    Brings-front (place_of c.args.self.now) (place_of c.keep.new.self) (place_of c.keep.new.self) c.args.bytes.now
    c.before_feed-plain.result c.in-Err.fault c.in-Err.ensures.kept

pub returns-in-Err-end_line-clause-taken : goal.returns-in-Err-end_line-clause-taken
returns-in-Err-end_line-clause-taken c =
    let bytes = c.args.bytes.now in
    let plain = c.before_feed-plain.result in
    let lt : plain < length bytes = omega arith in
    Brings-line_fault (place_of c.args.self.now) (place_of c.keep.new.self) (place_of c.end_line.new.self)
    (place_of c.end_line.new.self) bytes plain c.in-Err-end_line.fault lt (c.before_feed-plain.ensures.found lt)
    c.in-Ok.ensures.kept c.in-Err-end_line.ensures.ended
