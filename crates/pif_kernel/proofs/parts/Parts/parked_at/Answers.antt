use Rattle.std.proofs.Common.{subst, sym, ap, ◌∙◌}
use Rattle.std.specs.List.{slice_get}
use Rattle.pif_model.specs.PiKernel.{parked_in}
use Rattle.pif_kernel_model.specs.Inside.{Inside, IsSoundInside, kernel_of}
use Rattle.pif_kernel.specs.declared.parts.Parts.TheView.{view}
use Rattle.pif_kernel_model.proofs.WaitingOrder.{parked_in_order}
use Rattle.pif_kernel.proofs.parts.Parts.parked_at.Goals as goal

pub returns : goal.returns
returns g c =
    let p : Inside = view _ g.C.Chains c.self.inside in
    c.nth_parked.ensures
    ∙ parked_in_order p (subst IsSoundInside (sym c.self.view_is) c.requires) c.args.c c.args.place
    ∙ ap (λ (x : Inside). slice_get (parked_in (kernel_of x) c.args.c) c.args.place) c.self.view_is
