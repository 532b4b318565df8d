use Rattle.std.proofs.Common.{◌≡◌, ℕ, List, Some, None, arith, ap, sym, subst, ◌∙◌, length}
use Rattle.std.proofs.lemmas.Bool.{both_ways}
use Rattle.pif_model.specs.RobustList.{robust_at}
use Rattle.pif_robust.specs.declared.links.Link.{Link}
use Rattle.pif_model_lemmas.specs.RobustWalks.{first_or}
use Rattle.pif_robust.specs.Links.{IsChain}
use Rattle.pif_model_lemmas.proofs.RobustEntries.{first_or-has}
use Rattle.pif_robust.proofs.WalkLemmas.{IsFollowed, next-pending, follows, follows-next}
use Rattle.pif_robust.proofs.lists.RobustLists.walk_next.Goals.{After-index}
use Rattle.pif_robust.proofs.lists.RobustLists.walk_next.Goals as goal

pub returns-then-is_pending-clause-next : goal.returns-then-is_pending-clause-next
returns-then-is_pending-clause-next c =
    next-pending (robust_at c.args.self.now c.args.t) c.args.m c.head-head.ensures.pending
    (c.is_pending.ensures.0 c.if-is_pending.true)

-- the mutex isn't the pending one
other : (c : After-index) → c.head-head.result.pending ≡ Some c.args.m → ⊥
other c e = both_ways c.is_pending.result c.if-is_pending.false (c.is_pending.ensures.1 e)

pub index-requires : goal.index-requires
index-requires c =
    let more : IsFollowed c.self.inside.links.items c.args.t c.args.m (robust_at c.args.self.now c.args.t)
    = follows c.self.view_is c.self.invariant c.args.t c.args.m c.requires c.head-head.ensures.pending
    (λ e. both_ways c.is_pending.result c.if-is_pending.false (c.is_pending.ensures.1 e)) in
    omega (arith, more.within, c.get.ensures.value, c.self.inside.links.ok.0)

pub settle-requires : goal.settle-requires
settle-requires c = λ x h.
    let a = (goal.at.settle-requires c).After-index in
    let more : IsFollowed c.self.inside.links.items c.args.t c.args.m (robust_at c.args.self.now c.args.t)
    = follows c.self.view_is c.self.invariant c.args.t c.args.m c.requires c.head-head.ensures.pending (other a) in
    omega (
      arith,
      ap length c.deref.ensures.value,
      more.inside x (first_or-has more.back x
          (sym (follows-next c.self.view_is c.self.invariant c.args.t c.args.m c.requires c.head-head.ensures.pending
          (other a) c.get.ensures.value c.index.ensures) ∙ h)),
    )

pub returns-clause-next : goal.returns-clause-next
returns-clause-next c =
    let a = (goal.at.returns-clause-next c).After-index in
    let more : IsFollowed c.self.inside.links.items c.args.t c.args.m (robust_at c.args.self.now c.args.t)
    = follows c.self.view_is c.self.invariant c.args.t c.args.m c.requires c.head-head.ensures.pending (other a) in
    c.settle.ensures c.args.t (robust_at c.args.self.now c.args.t).pending (Some c.args.m) more.back
    c.head-head.ensures.pending
    (subst (λ (ns : List Link). IsChain ns c.args.t (Some c.args.m) more.back None)
    (sym c.deref.ensures.value) more.chain)
    more.once more.some
    (follows-next c.self.view_is c.self.invariant c.args.t c.args.m c.requires c.head-head.ensures.pending
    (other a) c.get.ensures.value c.index.ensures)
    ∙ ap (λ (ks : List ℕ). first_or ks None) (sym more.rest)
