use Rattle.std.proofs.Common.{arith, ◌≡◌, sym, ◌∙◌, ap, length}
use Rattle.pif_robust.specs.Links.{link_at}
use Rattle.pif_robust.proofs.CallLemmas.{Shows-cut, cut_within, next_within, previous_within}
use Rattle.pif_robust.proofs.lists.RobustLists.unlink.Goals as goal

pub cut-requires-clause-link_in : goal.cut-requires-clause-link_in
cut-requires-clause-link_in c =
    omega (
      arith,
      cut_within c.self.view_is c.self.invariant c.args.t c.args.m c.requires,
      ap length
          c.deref_mut.ensures.value,
    )

pub cut-requires-clause-next_in : goal.cut-requires-clause-next_in
cut-requires-clause-next_in c = λ x h.
    let is = ap (λ ns. (link_at ns c.args.m).next) c.deref_mut.ensures.value in
    omega (
      arith,
      next_within c.self.view_is c.self.invariant c.args.t c.args.m c.requires x
          (sym is ∙ h),
      ap length c.deref_mut.ensures.value,
    )

pub cut-requires-clause-previous_in : goal.cut-requires-clause-previous_in
cut-requires-clause-previous_in c = λ x h.
    let is = ap (λ ns. (link_at ns c.args.m).previous) c.deref_mut.ensures.value in
    omega (
      arith,
      previous_within c.self.view_is c.self.invariant c.args.t c.args.m c.requires x
          (sym is ∙ h),
      ap length c.deref_mut.ensures.value,
    )

pub invariant_of-self : goal.invariant_of-self
invariant_of-self c =
    let size : length c.cut.new.links ≡ c.self.inside.links.len = omega
    (arith, c.cut.auto.links, c.deref_mut.ensures.len) in
    let count : length c.cut.new.heads ≡ c.self.inside.heads.len = omega
    (arith, c.cut.auto.heads, c.deref_mut-2.ensures.len) in
    (Shows-cut c.self.view_is c.self.invariant c.args.t c.args.m c.requires
    c.deref_mut.ensures.value c.deref_mut-2.ensures.value c.cut.ensures.links c.cut.ensures.heads size count).invariant

pub returns : goal.returns
returns c =
    let size : length c.cut.new.links ≡ c.self.inside.links.len = omega
    (arith, c.cut.auto.links, c.deref_mut.ensures.len) in
    let count : length c.cut.new.heads ≡ c.self.inside.heads.len = omega
    (arith, c.cut.auto.heads, c.deref_mut-2.ensures.len) in
    let now = Shows-cut c.self.view_is c.self.invariant c.args.t c.args.m c.requires
    c.deref_mut.ensures.value c.deref_mut-2.ensures.value c.cut.ensures.links c.cut.ensures.heads size count in
    record { unlisted = now.view; sound = now.sound }
