use Rattle.std.proofs.Common.{arith}
use Rattle.pif_history_text.specs.Reading.{heard_of, place_of}
use Rattle.pif_history_text.proofs.PlaceLemmas.{Brings-long}
use Rattle.pif_history_text.proofs.reading.TextSoFar.keep.Goals as goal

pub returns-then-bytes-len-clause-kept : goal.returns-then-bytes-len-clause-kept
returns-then-bytes-len-clause-kept c =
    rw c.fault.ensures (Brings-long (heard_of c.args.self.now.history) c.args.self.now.line.items c.args.bytes.now
    (place_of c.args.self.now) c.requires.open c.requires.plain (omega arith))
