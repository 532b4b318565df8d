use Rattle.std.proofs.Common.{arith, ◌<◌, ◌≤◌, ◌∙◌, sym, ap, subst, length, set}
use Rattle.pif_model.specs.RobustList.{Robust, no_robust_row, robust_at, without_robust}
use Rattle.pif_robust.specs.declared.lists.RobustLists.TheInside.{Inside}
use Rattle.pif_robust.specs.Links.{empty_head}
use Rattle.pif_robust.proofs.SeenLemmas.{Shows}
use Rattle.pif_robust.proofs.ForgetLemmas.{without_robust-listed, without-shorter, Shows-emptied}
use Rattle.pif_robust.proofs.CallLemmas.{with_robust-outside, Shows-seen}
use Rattle.pif_robust.proofs.lists.RobustLists.forget.Goals as goal
use Rattle.pif_robust.proofs.lists.RobustLists.forget.Goals.{then-place-len, else-place-len}

pub loop-m-smaller : goal.loop-m-smaller
loop-m-smaller c = omega (
  arith,
  without-shorter c.loop-m.self c.args.t c.in-Some.m (sym c.head.ensures.first ∙ c.in-Some.is),
  ap (λ (v : Robust). length (robust_at v c.args.t).listed) c.unlink.ensures.unlisted,
)

pub loop-m-preserved : goal.loop-m-preserved
loop-m-preserved c = ap (without_robust c.args.t) c.unlink.ensures.unlisted
    ∙ without_robust-listed c.loop-m.self c.args.t c.in-Some.m ∙ c.loop-m.invariant

-- the fields once the head is that of nobody, or as they were if there is no head
shown : (c : goal.Joined-place-len) → Shows c.if-place-len.self-inside.links.items
    c.if-place-len.self-inside.heads.items (without_robust c.args.t c.args.self.now)
shown c =
    let P : Inside → Type 0 = λ s. Shows s.links.items s.heads.items (without_robust c.args.t c.args.self.now) in
    elim c.if-place-len.branch [
      | then-place-len w ↦
          let within : c.get-place.result < length c.self.inside.heads.items = omega arith in
          subst P (sym w.self-inside-is)
          (subst (Shows c.self.inside.links.items (set c.self.inside.heads.items c.get-place.result empty_head))
          c.loop-m.invariant
          (Shows-emptied c.self.view_is c.self.invariant c.get-place.ensures.range c.get-place.ensures.value within
          (sym c.head.ensures.first ∙ c.in_default.is)))
      | else-place-len w ↦
          let out : length c.self.inside.heads.items ≤ c.get-place.result = omega arith in
          subst P (sym w.self-inside-is)
          (subst (Shows c.self.inside.links.items c.self.inside.heads.items)
          (sym (with_robust-outside c.self.view_is c.self.invariant no_robust_row c.get-place.ensures.value out)
          ∙ c.loop-m.invariant)
          (Shows-seen c.self.view_is c.self.invariant))
    ]

pub invariant_of-self : goal.invariant_of-self
invariant_of-self c = (shown c).invariant

pub returns-clause-forgotten : goal.returns-clause-forgotten
returns-clause-forgotten c = (shown c).view

pub returns-clause-sound : goal.returns-clause-sound
returns-clause-sound c = (shown c).sound
