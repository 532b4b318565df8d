use Rattle.std.proofs.Common.{Some, None, if◌then◌else◌, subst, sym, ap, ◌∙◌}
use Rattle.pif_model.specs.PiKernel.{has_parked, top_parked}
use Rattle.pif_kernel_model.specs.Inside.{Inside, IsSoundInside, kernel_of}
use Rattle.pif_kernel.specs.declared.parts.Parts.TheView.{view}
use Rattle.pif_kernel_model.proofs.NextParked.{next_seen}
use Rattle.pif_kernel.proofs.parts.Parts.next_parked.Goals as goal

pub returns : goal.returns
returns g c =
    let p : Inside = view _ g.C.Chains c.self.inside in
    record {
      next = c.top_parked.ensures ∙ next_seen p (subst IsSoundInside (sym c.self.view_is) c.requires.sound) c.args.c
          ∙ ap (λ (x : Inside). if has_parked (kernel_of x) c.args.c then Some (top_parked (kernel_of x) c.args.c) else None) c.self.view_is;
    }
