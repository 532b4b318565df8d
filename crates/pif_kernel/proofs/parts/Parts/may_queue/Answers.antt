use Rattle.std.proofs.Common.{◌≡◌, true, false, not, Bool, if◌then◌else◌, length, subst, sym, ap, ◌∙◌, refl}
use Rattle.pif_model.specs.Graph.{reaches_within}
use Rattle.pif_model.specs.PiKernel.{is_living, waits_for, may_queue}
use Rattle.pif_kernel_model.specs.Inside.{Inside, IsSoundInside, kernel_of}
use Rattle.pif_kernel.specs.declared.parts.Parts.TheView.{view}
use Rattle.pif_kernel.proofs.Answering.{closes_seen}
use Rattle.pif_kernel.proofs.parts.Parts.may_queue.Goals as goal

pub returns-then-lives : goal.returns-then-lives
returns-then-lives g c =
    let p : Inside = view _ g.C.Chains c.self.inside in
    let lives : is_living (kernel_of p) c.args.owner ≡ true
    = ap (λ (x : Inside). is_living (kernel_of x) c.args.owner) c.self.view_is ∙ sym c.lives.ensures ∙ c.if-lives.true in
    let closes : reaches_within (length (kernel_of p).seats) (waits_for (kernel_of p)) c.args.owner c.args.u
    ≡ c.would_close.result
    = closes_seen p (subst IsSoundInside (sym c.self.view_is) c.requires) c.args.u c.args.owner c.would_close.result lives
    c.would_close.ensures in
    turned c.would_close.result
    ∙ sym (rw (lives, closes) refl)
    ∙ ap (λ (x : Inside). may_queue c.args.u c.args.owner (kernel_of x)) c.self.view_is
  where
    turned : (b : Bool) → not b ≡ (if b then false else true)
    turned true = refl
    turned false = refl
