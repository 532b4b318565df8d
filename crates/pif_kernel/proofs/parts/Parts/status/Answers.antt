use Rattle.std.proofs.Common.{◌≡◌, true, get_or, subst, sym, ap, ◌∙◌, arith}
use Rattle.std.proofs.lemmas.List.{get_or_default}
use Rattle.pif_model.specs.declared.lines.Status.TheVariants.{Ready}
use Rattle.pif_model.specs.declared.lines.Woken.TheVariants.{Fresh}
use Rattle.pif_model.specs.PiKernel.{has_seat, seat_at}
use Rattle.pif_kernel_model.specs.Inside.{Inside, IsSoundInside, kernel_of}
use Rattle.pif_kernel.specs.declared.parts.Parts.TheView.{view}
use Rattle.pif_kernel_model.proofs.Seats.{added_seen, status_seen}
use Rattle.pif_kernel_model.proofs.Standing.{fits}
use Rattle.pif_kernel.proofs.parts.Parts.status.Goals as goal

pub index-requires : goal.index-requires
index-requires g c =
    let p : Inside = view _ g.C.Chains c.self.inside in
    let h : IsSoundInside p = subst IsSoundInside (sym c.self.view_is) c.requires.sound in
    let known : has_seat (kernel_of p) c.args.t ≡ true
    = subst (λ (x : Inside). has_seat (kernel_of x) c.args.t ≡ true) (sym c.self.view_is) c.requires.added in
    omega (arith, (added_seen p (fits p h) c.args.t known).1, c.get.ensures.value)

pub returns : goal.returns
returns g c =
    let p : Inside = view _ g.C.Chains c.self.inside in
    let h : IsSoundInside p = subst IsSoundInside (sym c.self.view_is) c.requires.sound in
    let known : has_seat (kernel_of p) c.args.t ≡ true
    = subst (λ (x : Inside). has_seat (kernel_of x) c.args.t ≡ true) (sym c.self.view_is) c.requires.added in
    c.index.ensures ∙ ap (λ n. get_or p.statuses n c.index.result.now) c.get.ensures.value
    ∙ get_or_default p.statuses c.args.t c.index.result.now (Ready Fresh) (added_seen p (fits p h) c.args.t known).1
    ∙ sym (status_seen p (fits p h) c.args.t)
    ∙ ap (λ (x : Inside). (seat_at (kernel_of x) c.args.t).status) c.self.view_is
