use Rattle.std.proofs.Common.{arith, ◌≡◌, ap, length}
use Rattle.pif_robust.proofs.CallLemmas.{Shows-joined, join_within}
use Rattle.pif_robust.proofs.lists.RobustLists.link_head.Goals as goal

pub join-requires-clause-next_in : goal.join-requires-clause-next_in
join-requires-clause-next_in c = λ x h.
    omega (
      arith,
      join_within c.self.view_is c.self.invariant c.args.t c.args.m c.requires c.get.ensures.range
          c.get.ensures.value c.index.ensures x h,
      ap length c.deref_mut.ensures.value,
    )

pub invariant_of-self : goal.invariant_of-self
invariant_of-self c =
    let size : length c.join.new.links ≡ c.self.inside.links.len = omega
    (arith, c.join.auto.links, c.deref_mut.ensures.len) in
    let count : length c.join.new.heads ≡ c.self.inside.heads.len = omega
    (arith, c.join.auto.heads, c.deref_mut-2.ensures.len) in
    (Shows-joined c.self.view_is c.self.invariant c.args.t c.args.m c.requires c.get.ensures.range c.get.ensures.value
    c.index.ensures
    c.deref_mut.ensures.value c.deref_mut-2.ensures.value c.join.ensures.links c.join.ensures.heads size
    count).invariant

pub returns : goal.returns
returns c =
    let size : length c.join.new.links ≡ c.self.inside.links.len = omega
    (arith, c.join.auto.links, c.deref_mut.ensures.len) in
    let count : length c.join.new.heads ≡ c.self.inside.heads.len = omega
    (arith, c.join.auto.heads, c.deref_mut-2.ensures.len) in
    let now = Shows-joined c.self.view_is c.self.invariant c.args.t c.args.m c.requires c.get.ensures.range
    c.get.ensures.value c.index.ensures
    c.deref_mut.ensures.value c.deref_mut-2.ensures.value c.join.ensures.links c.join.ensures.heads size count in
    record { listed = now.view; sound = now.sound }
