use Rattle.std.proofs.Common.{ℕ, ◌==◌, List, map, filter, sym, ap, ◌∙◌, arith}
use Rattle.std.specs.List.{slice_get}
use Rattle.pif_model.specs.Graph.{by_greatest}
use Rattle.pif_model.specs.PiKernel.{parked_pairs}
use Rattle.pif_kernel_model.proofs.WaitingOrder.{by_greatest-found, by_greatest-passed, by_greatest-none}
use Rattle.pif_plain.proofs.plain_rows.nth_of.Goals as goal

pub returns-in-Some : goal.returns-in-Some
returns-in-Some g c =
    let us : List ℕ = map (λ (w : ℕ × ℕ). w.0) (filter (λ (w : ℕ × ℕ). w.1 == c.args.c) (parked_pairs c.args.list.now)) in
    sym (c.loop-above.invariant
    ∙ by_greatest-found (g.P.Priorities.priority_of c.args.priorities.now) us c.loop-above.above c.loop-above.before c.loop-above-test.true c.in-Some.t c.in-Some.ensures.nth)

pub loop-above-preserved : goal.loop-above-preserved
loop-above-preserved g c =
    let us : List ℕ = map (λ (w : ℕ × ℕ). w.0) (filter (λ (w : ℕ × ℕ). w.1 == c.args.c) (parked_pairs c.args.list.now)) in
    c.loop-above.invariant
    ∙ by_greatest-passed (g.P.Priorities.priority_of c.args.priorities.now) us c.loop-above.above c.loop-above.before c.loop-above-test.true c.nth_of_level.new.before c.in_default.ensures.fewer

pub returns : goal.returns
returns g c =
    let f : ℕ → ℕ = g.P.Priorities.priority_of c.args.priorities.now in
    let us : List ℕ = map (λ (w : ℕ × ℕ). w.0) (filter (λ (w : ℕ × ℕ). w.1 == c.args.c) (parked_pairs c.args.list.now)) in
    sym (c.loop-above.invariant
    ∙ ap (λ (n : ℕ). slice_get (by_greatest f n us) c.loop-above.before) (omega arith)
    ∙ ap (λ (vs : List ℕ). slice_get vs c.loop-above.before) (by_greatest-none f us))
