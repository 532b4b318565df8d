use Rattle.std.proofs.Common.{◌≡◌, true, subst, sym, ap, ◌∙◌}
use Rattle.pif_model.specs.PiKernel.{has_seat}
use Rattle.pif_model.specs.PiKernel.{seat_at as kernel_seat_at}
use Rattle.pif_kernel_model.specs.Inside.{Inside, IsSoundInside, kernel_of}
use Rattle.pif_kernel.specs.declared.parts.Parts.TheView.{view}
use Rattle.pif_kernel_model.proofs.Seats.{added_seen, base_seen}
use Rattle.pif_kernel_model.proofs.Standing.{fits}
use Rattle.pif_kernel.proofs.parts.Parts.base.Goals as goal

pub unwrap-requires : goal.unwrap-requires
unwrap-requires g c =
    let p : Inside = view _ g.C.Chains c.self.inside in
    let h : IsSoundInside p = subst IsSoundInside (sym c.self.view_is) c.requires.sound in
    let known : has_seat (kernel_of p) c.args.t ≡ true
    = subst (λ (x : Inside). has_seat (kernel_of x) c.args.t ≡ true) (sym c.self.view_is) c.requires.added in
    let added = added_seen p (fits p h) c.args.t known in
    c.base.ensures.given.1 (h.placed.admitted c.args.t added.0 added.1)

pub returns : goal.returns
returns g c =
    let p : Inside = view _ g.C.Chains c.self.inside in
    let h : IsSoundInside p = subst IsSoundInside (sym c.self.view_is) c.requires.sound in
    (rw c.unwrap.ensures at c.base.ensures.value)
    ∙ sym (base_seen p (fits p h) c.args.t)
    ∙ ap (λ (x : Inside). (kernel_seat_at (kernel_of x) c.args.t).base) c.self.view_is
