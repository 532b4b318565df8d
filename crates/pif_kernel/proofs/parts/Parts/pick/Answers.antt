use Rattle.std.proofs.Common.{◌≡◌, ◌==◌, subst, Some, None, if◌then◌else◌}
use Rattle.pif_model.specs.PiKernel.{pick_in}
use Rattle.pif_kernel_model.specs.Inside.{Inside, kernel_of}
use Rattle.pif_kernel.specs.declared.parts.Parts.TheView.{view}
use Rattle.pif_kernel_model.proofs.Picked.{pick_seen}
use Rattle.pif_kernel.proofs.parts.Parts.pick.Goals as goal

pub returns : goal.returns
returns g c =
    let P : Inside → Type 0
    = λ p. c.pick.result ≡ (if pick_in (kernel_of p) == 0 then None else Some (pick_in (kernel_of p))) in
    subst P c.self.view_is (pick_seen (view _ g.C.Chains c.self.inside) c.pick.result c.pick.ensures.none c.pick.ensures.first)
