use Rattle.pif_history_text.specs.Reading.{heard_of, place_of}
use Rattle.pif_history_text.proofs.PlaceLemmas.{Brings-ended, Brings-ended_fault}
use Rattle.pif_history_text.proofs.reading.TextSoFar.end_line.Goals as goal

pub returns-in-Ok-clause-ended : goal.returns-in-Ok-clause-ended
returns-in-Ok-clause-ended c =
    Brings-ended (heard_of c.args.self.now.history) (heard_of c.hear.new.self.history) c.args.self.now.line.items
    c.clear.new.self.items c.requires.open c.clear.ensures c.in-Ok.ensures.heard

pub returns-in-Err-clause-ended : goal.returns-in-Err-clause-ended
returns-in-Err-clause-ended c =
    Brings-ended_fault (heard_of c.args.self.now.history) (heard_of c.hear.new.self.history) c.args.self.now.line.items
    (place_of c.args.self.now) c.in-Err.fault c.requires.open c.in-Err.ensures.heard
