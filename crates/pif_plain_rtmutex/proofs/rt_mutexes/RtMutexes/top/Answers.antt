use Rattle.std.proofs.Common.{◌≡◌, length, arith, ap, subst}
use Rattle.pif_kernel_model.specs.Owners.{Owners, AreSoundOwners}
use Rattle.pif_plain_rtmutex.proofs.TopLemmas.{first-some, top-state}
use Rattle.pif_plain_rtmutex.proofs.rt_mutexes.RtMutexes.top.Goals as goal

pub returns-clause-top : goal.returns-clause-top
returns-clause-top c =
    let all : c.loop-t.t ≡ length c.args.self.now.seats = omega (arith, c.len-t-end.ensures, ap (λ (v : Owners). length v.seats) c.self.view_is, c.self.inside.rows.ok) in
    first-some c.new.result c.args.self.now c.args.key c.loop-t.t c.loop-t.first all c.new.ensures.valid c.new.ensures.value c.loop-t.invariant

pub returns-clause-state : goal.returns-clause-state
returns-clause-state c = top-state c.new.result c.args.self.now c.args.key (subst AreSoundOwners c.self.view_is c.self.invariant.sound) (returns-clause-top c)
