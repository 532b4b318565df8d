use Rattle.std.proofs.Common.{arith, ◌≤◌, sym}
use Rattle.pif_robust.proofs.TiesLemmas.{named_mutex-some}
use Rattle.pif_robust.proofs.CallLemmas.{Shows-pending, head_within}
use Rattle.pif_robust.proofs.lists.RobustLists.set_pending.Goals as goal

pub invariant_of-self : goal.invariant_of-self
invariant_of-self c =
    let some : 1 ≤ c.args.m = omega (arith, c.get.ensures.value, c.get.ensures.range) in
    (Shows-pending c.self.view_is c.self.invariant c.args.m c.get-2.ensures.range c.get-2.ensures.value
    (head_within c.self.view_is c.self.invariant c.get-2.ensures.value c.requires.thread)
    c.index_mut.ensures.value (sym (named_mutex-some c.args.m some)) c.requires.mutex).invariant

pub returns : goal.returns
returns c =
    let some : 1 ≤ c.args.m = omega (arith, c.get.ensures.value, c.get.ensures.range) in
    let now = Shows-pending c.self.view_is c.self.invariant c.args.m c.get-2.ensures.range c.get-2.ensures.value
    (head_within c.self.view_is c.self.invariant c.get-2.ensures.value c.requires.thread)
    c.index_mut.ensures.value (sym (named_mutex-some c.args.m some)) c.requires.mutex in
    record { pending = now.view; sound = now.sound }
