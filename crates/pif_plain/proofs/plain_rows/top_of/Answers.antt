use Rattle.std.proofs.Common.{ℕ, ◌==◌, if◌then◌else◌, Option, Some, refl, sym, ap, ◌∙◌}
use Rattle.pif_model.specs.PiKernel.{Parking}
use Rattle.pif_kernel_model.specs.Takings.{goes_before}
use Rattle.pif_kernel_model.proofs.NextParked.{parked_more, parked_all}
use Rattle.pif_plain.proofs.plain_rows.top_of.Goals as goal

pub loop-parking-init : goal.loop-parking-init
loop-parking-init g c = refl

pub loop-parking-preserved : goal.loop-parking-preserved
loop-parking-preserved g c =
    let f : ℕ → ℕ = g.P.Priorities.priority_of c.args.priorities.now in
    let x : Parking = c.parking-item.result in
    c.top_with-top.ensures
    ∙ ap (λ (o : Option ℕ). if x.cond == c.args.c then
    (if goes_before f x.thread o then Some x.thread else o) else o) c.loop-parking.invariant
    ∙ sym (parked_more f c.args.list.now c.loop-parking.parking-index c.args.c x c.loop-parking-test.true
    (sym c.parking-item.is))

pub returns : goal.returns
returns g c =
    let f : ℕ → ℕ = g.P.Priorities.priority_of c.args.priorities.now in
    c.loop-parking.invariant
    ∙ parked_all f c.args.list.now c.loop-parking.parking-index c.args.c c.loop-parking-test.false
