-- Each hop goes on to whom the thread waits for.
use Rattle.std.proofs.Common.{◌≡◌, ◌-◌, ◌+◌, ℕ, suc, length, sym, ap, ◌∙◌, arith}
use Rattle.std.proofs.lemmas.Bool.{eqb-true, eqb-false}
use Rattle.pif_model.specs.Graph.{reaches_within}
use Rattle.pif_kernel_model.specs.Owners.{waits_for}
use Rattle.pif_kernel_model.proofs.Greatest.{closes, waits_for-none, waits_for-owner}
use Rattle.pif_model_lemmas.proofs.Following.{reaches_here}
use Rattle.pif_model_lemmas.proofs.Hops.{reached_never, reached_hop, reached_last}
use Rattle.pif_plain.proofs.cycles.would_close.Goals as goal

pub returns-then-eq : goal.returns-then-eq
returns-then-eq c =
    closes c.args.owners.now c.args.owner c.args.t _
    (sym (reaches_here _ _ c.loop-hop.at c.args.t (eqb-true c.loop-hop.at c.args.t (sym c.eq.ensures ∙ c.if-eq.true))) ∙ c.loop-hop.invariant)

pub returns-in-None : goal.returns-in-None
returns-in-None c =
    closes c.args.owners.now c.args.owner c.args.t _
    (sym (reached_never _ _ c.loop-hop.at c.args.t (eqb-false c.loop-hop.at c.args.t (sym c.eq.ensures ∙ c.if-eq.false))
    (waits_for-none c.args.owners.now c.loop-hop.at (sym c.in-None.ensures.value))) ∙ c.loop-hop.invariant)

pub loop-hop-preserved : goal.loop-hop-preserved
loop-hop-preserved c =
    let next : waits_for c.args.owners.now c.loop-hop.at ≡ c.owner-at.result =
    waits_for-owner c.args.owners.now c.loop-hop.at c.in-Some.state c.owner-at.result (sym c.in-Some.ensures.value) c.owner-at.ensures.value in
    ap (λ (x : ℕ). reaches_within (suc (length c.args.owners.now.seats) - (c.loop-hop._hop + 1)) (waits_for c.args.owners.now) x c.args.t) (sym next)
    ∙ sym (reached_hop (suc (length c.args.owners.now.seats)) c.loop-hop._hop (waits_for c.args.owners.now) c.loop-hop.at c.args.t (omega arith)
    (eqb-false c.loop-hop.at c.args.t (sym c.eq.ensures ∙ c.if-eq.false)) (λ e. omega arith))
    ∙ c.loop-hop.invariant

pub returns : goal.returns
returns c =
    let none : suc (length c.args.owners.now.seats) - c.loop-hop._hop ≡ 0 = omega arith in
    closes c.args.owners.now c.args.owner c.args.t c.eq-2.result
    (c.eq-2.ensures ∙ sym (reached_last (waits_for c.args.owners.now) c.loop-hop.at c.args.t)
    ∙ ap (λ (n : ℕ). reaches_within n (waits_for c.args.owners.now) c.loop-hop.at c.args.t) (sym none) ∙ c.loop-hop.invariant)
