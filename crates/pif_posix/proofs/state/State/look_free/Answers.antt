use Rattle.std.proofs.Common.{arith}
use Rattle.pif_posix.proofs.SeeingLending.{looks_free_more}
use Rattle.pif_posix.proofs.state.State.look_free.Goals as goal

pub loop-i-preserved : goal.loop-i-preserved
loop-i-preserved c =
    looks_free_more c.args.mutexes.now c.loop-i.i _ c.args.self.now c.loop-i.self c.own.new.self (omega (arith, c.loop-i-test.true)) c.loop-i.invariant c.in_ok-own.ensures
