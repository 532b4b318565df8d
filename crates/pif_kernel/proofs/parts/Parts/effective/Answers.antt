use Rattle.std.proofs.Common.{◌≡◌, true, subst, sym, ap, ◌∙◌, Some, None, if◌then◌else◌}
use Rattle.pif_model.specs.PiKernel.{effective_in, is_living}
use Rattle.pif_kernel_model.specs.Inside.{Inside, IsSoundInside, kernel_of}
use Rattle.pif_kernel.specs.declared.parts.Parts.TheView.{view}
use Rattle.pif_kernel_model.proofs.Standing.{effective_answer}
use Rattle.pif_kernel.proofs.parts.Parts.effective.Goals as goal

pub returns-then-lives : goal.returns-then-lives
returns-then-lives g c =
    let P : Inside → Type 0
    = λ p. c.local.result ≡ (if is_living (kernel_of p) c.args.t then Some
    (effective_in (kernel_of p) c.args.t) else None) in
    let lives : is_living (kernel_of (view _ g.C.Chains c.self.inside)) c.args.t ≡ true
    = ap (λ (x : Inside). is_living (kernel_of x) c.args.t) c.self.view_is ∙ sym c.lives.ensures ∙ c.if-lives.true in
    subst P c.self.view_is (effective_answer (view _ g.C.Chains c.self.inside)
    (subst IsSoundInside (sym c.self.view_is) c.requires) c.args.t c.local.result lives c.local.ensures.given
    c.local.ensures.value)
