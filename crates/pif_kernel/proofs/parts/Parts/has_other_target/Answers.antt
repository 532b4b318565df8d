use Rattle.std.proofs.Common.{not, ap, ◌∙◌}
use Rattle.pif_model.specs.PiKernel.{has_other_target}
use Rattle.pif_kernel_model.specs.Inside.{Inside, kernel_of}
use Rattle.pif_kernel.specs.declared.parts.Parts.TheView.{view}
use Rattle.pif_kernel_model.proofs.NextParked.{target_seen}
use Rattle.pif_kernel.proofs.parts.Parts.has_other_target.Goals as goal

pub returns : goal.returns
returns g c =
    let p : Inside = view _ g.C.Chains c.self.inside in
    ap not c.match_requeue.ensures ∙ target_seen p c.args.c c.args.m
    ∙ ap (λ (x : Inside). has_other_target (kernel_of x) c.args.c c.args.m) c.self.view_is
