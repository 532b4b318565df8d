use Rattle.std.proofs.Common.{◌≡◌, ℕ, List, subst, ap, ◌∙◌, arith}
use Rattle.std.specs.List.{slice_get}
use Rattle.pif_model.specs.PiKernel.{ready_in}
use Rattle.pif_kernel_model.specs.Inside.{Inside, kernel_of}
use Rattle.pif_kernel.specs.declared.parts.Parts.TheView.{view}
use Rattle.pif_kernel_model.proofs.WaitingOrder.{all_below-seen}
use Rattle.pif_kernel.proofs.parts.Parts.ready.Goals as goal

pub returns : goal.returns
returns g c =
    let P : Inside → Type 0 = λ p. c.nth.result ≡ slice_get (ready_in (kernel_of p)) c.args.place in
    subst P c.self.view_is (c.nth.ensures
    ∙ ap (λ (us : List ℕ). slice_get us c.args.place) (all_below-seen (view _ g.C.Chains c.self.inside) 99 (omega arith)))
