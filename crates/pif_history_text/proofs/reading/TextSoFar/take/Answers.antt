use Rattle.std.proofs.Common.{arith, length-drop}
use Rattle.std.proofs.lemmas.List.{take_rest}
use Rattle.pif_history_text.specs.Reading.{place_of}
use Rattle.pif_history_text.proofs.PlaceLemmas.{IsTaking-more, IsTaking-fault}
use Rattle.pif_history_text.proofs.reading.TextSoFar.take.Goals as goal

pub loop-rest-preserved : goal.loop-rest-preserved
loop-rest-preserved c =
    rw take_rest (
      IsTaking-more (place_of c.args.self.now) c.args.bytes.now (place_of c.loop-rest.self) (place_of c.take_some.new.self)
          c.loop-rest.rest.now c.in-Ok.count c.loop-rest.invariant.0 c.in-Ok.ensures.taken.1,
      c.in-Ok.ensures.open,
      simp length-drop (omega (arith, c.in-Ok.ensures.count, c.in-Ok.ensures.taken.0, c.loop-rest.invariant.2)),
      λ h. c.in-Ok.ensures.paired (c.loop-rest.invariant.3 h),
    )

pub returns-in-Err-clause-taken : goal.returns-in-Err-clause-taken
returns-in-Err-clause-taken c =
    IsTaking-fault (place_of c.args.self.now) c.args.bytes.now (place_of c.loop-rest.self) (place_of c.take_some.new.self)
    c.loop-rest.rest.now c.in-Err.fault c.loop-rest.invariant.0 c.in-Err.ensures.taken
