use Rattle.std.proofs.Common.{◌≡◌, ℕ, ◌-◌, ◌∷◌, ◌++◌, List, [], replicate, Option, Some, None, arith, ap, ◌∙◌}
use Rattle.std.proofs.lemmas.List.{append_assoc}
use Rattle.pif_quick.proofs.Opening.{nones-end}
use Rattle.pif_quick.proofs.quick.open.push_spaced.Goals as goal

pub loop-preserved : goal.loop-preserved
loop-preserved g c =
    c.in_ok-push-2.ensures ∙ (ap (λ (l : List (Option g.row.T.Denot)). l ++ None ∷ []) c.loop.invariant
    ∙ (append_assoc c.args.slots.now.items _ _
    ∙ ap (λ (l : List (Option g.row.T.Denot)). c.args.slots.now.items ++ Some c.args.value ∷ l)
    (nones-end g.row.T.Denot c.loop.counter c.loop.auto.counter)))

pub returns : goal.returns
returns g c =
    let e : c.loop.counter ≡ 8 = omega arith in
    c.loop.invariant ∙ ap (λ (n : ℕ). c.args.slots.now.items ++ Some c.args.value ∷ replicate (n - 1) None) e
