-- Each thread in turn propagates its base priority.
use Rattle.std.proofs.Common.{◌≡◌, ◌+◌, ◌∙◌, ap, length, arith}
use Rattle.pif_kernel_model.specs.Owners.{waits_for}
use Rattle.pif_kernel_model.specs.Boosts.{base_of, priority_at, after_propagation}
use Rattle.pif_kernel_model.proofs.Greatest.{greatest_start, greatest_all}
use Rattle.pif_plain.proofs.Propagation.{handed_by-more, propagation-none}
use Rattle.pif_kernel_model.proofs.PrioLemmas.{none_given}
use Rattle.pif_kernel_model.proofs.Walks.{numbered}
use Rattle.pif_plain.proofs.propagate.propagate_all.Goals as goal
use Rattle.pif_plain.proofs.propagate.propagate_all.Goals.{in-Some, in_default}

pub loop-place-init : goal.loop-place-init
loop-place-init c = λ u l. c.requires.none u ∙ greatest_start c.args.owners.now u c.threads-place-end.ensures.sound

pub loop-place-preserved : goal.loop-place-preserved
loop-place-preserved c = λ u l.
    let at : c.unwrap-t.result ≡ c.loop-place.place + 1 =
    numbered c.new.result c.unwrap-t.result (c.loop-place.place + 1) c.unwrap-t.ensures c.new.ensures.value in
    let was = c.loop-place.invariant u l in
    let more = handed_by-more (c.loop-place.place + 1) c.unwrap-t.result (length c.args.owners.now.seats)
    (waits_for c.args.owners.now) (base_of c.args.owners.now)
    (priority_at c.loop-place.greatest) u at was in
    elim c.match-base.branch [
      | in-Some w ↦
          ap (λ xs. priority_at xs u) w.greatest-is ∙ w.propagate.ensures.values u l
          ∙ ap (λ p. after_propagation (length c.args.owners.now.seats) (waits_for c.args.owners.now) p
          c.unwrap-t.result (priority_at c.loop-place.greatest) u)
          (numbered c.base.result w.in-Some.prio (base_of c.args.owners.now c.unwrap-t.result) w.in-Some.is
          c.base.ensures.value)
          ∙ more
      | in_default w ↦
          ap (λ xs. priority_at xs u) w.greatest-is
          ∙ propagation-none (length c.args.owners.now.seats) (base_of c.args.owners.now c.unwrap-t.result)
          c.unwrap-t.result
          (waits_for c.args.owners.now) (priority_at c.loop-place.greatest) u
          (none_given c.base.result _ c.base.ensures.given w.in_default.is) ∙ more
    ]

pub returns : goal.returns
returns c = record {
  values = λ t l.
      greatest_all c.args.owners.now t (c.loop-place.place + 1) (priority_at c.loop-place.greatest t)
      (omega (arith, c.loop-place-test.false, c.loop-place.auto.place-end, c.threads-place-end.ensures.value))
      (c.loop-place.invariant t l);
}
