-- Each hop propagates the priority to whom the thread waits for.
use Rattle.std.proofs.Common.{◌≡◌, ◌+◌, ◌-◌, suc, length, sym, ap, ◌∙◌, arith}
use Rattle.pif_kernel_model.specs.Owners.{waits_for}
use Rattle.pif_kernel_model.specs.Boosts.{priority_at}
use Rattle.pif_kernel_model.proofs.Greatest.{waits_for-none, waits_for-owner}
use Rattle.pif_plain.proofs.Propagation.{handed-set, still_handed, still_handed-hop, still_handed-end, still_handed-all, still_handed-done}
use Rattle.pif_plain.proofs.propagate.propagate.Goals as goal

pub loop-hop-init : goal.loop-hop-init
loop-hop-init c = λ u l.
    still_handed-all (length c.args.owners.now.seats) (suc (length c.args.owners.now.seats) - 0)
    (waits_for c.args.owners.now) c.args.prio c.args.t
    (priority_at c.args.greatest.now) u (omega arith)

pub returns-in-None : goal.returns-in-None
returns-in-None c = record {
  values = λ u l.
      let seats = length c.args.owners.now.seats in
      let none : waits_for c.args.owners.now c.loop-hop.at ≡ 0 = waits_for-none c.args.owners.now c.loop-hop.at (sym c.in-None.ensures.value) in
      let left : suc seats - c.loop-hop._hop ≡ suc (seats - c.loop-hop._hop) = omega (arith, c.loop-hop-test.true, c.threads-hop-end.ensures.value) in
      let before = c.loop-hop.invariant u l in
      still_handed-end seats (waits_for c.args.owners.now) c.args.prio c.loop-hop.at (priority_at c.loop-hop.greatest)
      (priority_at c.raise.new.greatest)
      (handed-set seats c.args.prio c.loop-hop.at c.loop-hop.greatest c.raise.new.greatest
      (omega (arith, c.raise.ensures.long, c.threads-hop-end.ensures.value, c.threads-hop-end.ensures.most))
      c.raise.ensures.value)
      u l (seats - c.loop-hop._hop) none
      ∙ ap (λ hops. still_handed hops (waits_for c.args.owners.now) c.args.prio c.loop-hop.at
      (priority_at c.loop-hop.greatest) u) (sym left)
      ∙ before;
}

pub loop-hop-preserved : goal.loop-hop-preserved
loop-hop-preserved c = λ u l.
    let seats = length c.args.owners.now.seats in
    let owner : waits_for c.args.owners.now c.loop-hop.at ≡ c.owner-at.result =
    waits_for-owner c.args.owners.now c.loop-hop.at c.in-Some.state c.owner-at.result (sym c.waits_on.ensures.value ∙ c.in-Some.is) c.owner-at.ensures.value in
    let left : suc seats - c.loop-hop._hop ≡ suc (seats - c.loop-hop._hop) = omega (arith, c.loop-hop-test.true, c.threads-hop-end.ensures.value) in
    let next : suc seats - (c.loop-hop._hop + 1) ≡ seats - c.loop-hop._hop = omega arith in
    (λ i. still_handed (next i) (waits_for c.args.owners.now) c.args.prio (sym owner i)
    (priority_at c.raise.new.greatest) u)
    ∙ still_handed-hop seats (waits_for c.args.owners.now) c.args.prio c.loop-hop.at (priority_at c.loop-hop.greatest)
    (priority_at c.raise.new.greatest)
    (handed-set seats c.args.prio c.loop-hop.at c.loop-hop.greatest c.raise.new.greatest
    (omega (arith, c.raise.ensures.long, c.threads-hop-end.ensures.value, c.threads-hop-end.ensures.most))
    c.raise.ensures.value)
    u l (seats - c.loop-hop._hop) (λ z. absurd (omega (arith, owner, c.owner-at.type_inv)))
    ∙ ap (λ hops. still_handed hops (waits_for c.args.owners.now) c.args.prio c.loop-hop.at
    (priority_at c.loop-hop.greatest) u) (sym left)
    ∙ c.loop-hop.invariant u l

pub returns : goal.returns
returns c = record {
  values = λ u l.
      sym (still_handed-done (suc (length c.args.owners.now.seats) - c.loop-hop._hop) (waits_for c.args.owners.now)
      c.args.prio c.loop-hop.at
      (priority_at c.loop-hop.greatest) u (omega (arith, c.loop-hop-test.false, c.threads-hop-end.ensures.value)))
      ∙ c.loop-hop.invariant u l;
}
