-- Each bell is one more, and there is room for it.
use Rattle.std.proofs.Common.{arith}
use Rattle.pif_desk.proofs.sleepers.put_bells.Goals as goal

pub loop-thread-init : goal.loop-thread-init
loop-thread-init c = record { counted = c.requires.empty; room = c.requires.room }

pub push_within-requires : goal.push_within-requires
push_within-requires c = omega (arith, c.loop-thread.invariant.counted, c.loop-thread.invariant.room)

pub loop-thread-preserved : goal.loop-thread-preserved
loop-thread-preserved c = record {
  counted = omega (arith, c.push_within.ensures.len, c.loop-thread.invariant.counted);
  room = omega (arith, c.push_within.ensures.room, c.loop-thread.invariant.room);
}

pub returns : goal.returns
returns c = omega (arith, c.loop-thread.invariant.counted)
