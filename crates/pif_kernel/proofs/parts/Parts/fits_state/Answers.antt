use Rattle.std.proofs.Common.{◌≡◌, ◌≢◌, true, Some, ◌==◌, sym, ap, ◌∙◌, arith}
use Rattle.std.proofs.lemmas.Bool.Decides.{nat_tests}
use Rattle.pif_model.specs.PiKernel.{state_at, is_living}
use Rattle.pif_kernel_model.specs.Inside.{Inside, kernel_of, state_key_at}
use Rattle.pif_kernel.specs.declared.parts.Parts.TheView.{view}
use Rattle.pif_kernel.proofs.Answering.{none_zero, some_value}
use Rattle.pif_kernel_model.proofs.CallFacts.{some_state, no_state, state_named}
use Rattle.pif_kernel_model.proofs.RequeueAnswers.{fits_stateless, fits_numberless, fits_owner}
use Rattle.pif_kernel.proofs.parts.Parts.fits_state.Goals as goal

pub returns-in-None : goal.returns-in-None
returns-in-None g c =
    fits_stateless c.args.number (state_at (kernel_of c.args.self.now) c.args.m) (kernel_of c.args.self.now)
    (no_state c.args.self.now c.args.m (sym c.key.ensures ∙ c.in-None.is))

pub returns-in-None-new : goal.returns-in-None-new
returns-in-None-new g c =
    let at : state_key_at c.args.self.now c.args.m ≡ Some c.in-Some.key = sym c.key.ensures ∙ c.in-Some.is in
    fits_numberless c.args.number (state_at (kernel_of c.args.self.now) c.args.m) (kernel_of c.args.self.now)
    (some_state c.args.self.now c.requires.sound c.args.m c.in-Some.key at)
    (none_zero c.new.result c.args.number c.in-None-new.is c.new.ensures.valid)

pub returns-else-not-lives : goal.returns-else-not-lives
returns-else-not-lives g c =
    let at : state_key_at c.args.self.now c.args.m ≡ Some c.in-Some.key = sym c.key.ensures ∙ c.in-Some.is in
    let v
    = some_value c.new.result c.args.number c.in-Some-new.owner c.in-Some-new.is c.new.ensures.valid
    c.new.ensures.value in
    let s : state_at (kernel_of c.args.self.now) c.args.m ≡ c.owner.result
    = sym (ap (λ (x : Inside). state_at (kernel_of x) c.args.m) c.self.view_is)
    ∙ state_named (view _ g.C.Chains c.self.inside) c.args.m c.in-Some.key c.owner.result
    (ap (λ (x : Inside). state_key_at x c.args.m) c.self.view_is ∙ at) c.owner.ensures.value in
    let lives : is_living (kernel_of c.args.self.now) c.args.number ≡ true
    = ap (is_living (kernel_of c.args.self.now)) (sym v.0) ∙ sym c.lives.ensures ∙ c.if-not-lives.false in
    let number : c.args.number ≢ 0 = λ z. absurd (omega (arith, v.1, z)) in
    let same : c.eq.result ≡ (c.owner.result == c.in-Some-new.owner) = grind (arith, nat_tests, c.eq.ensures) in
    same ∙ (λ i. sym s i == v.0 i)
    ∙ fits_owner c.args.number (state_at (kernel_of c.args.self.now) c.args.m) (kernel_of c.args.self.now)
    (some_state c.args.self.now c.requires.sound c.args.m c.in-Some.key at) number lives
