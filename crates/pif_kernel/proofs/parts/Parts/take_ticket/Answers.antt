use Rattle.std.proofs.Common.{◌≡◌, ◌<◌, subst, sym, ap, ◌∙◌, arith}
use Rattle.pif_kernel_model.specs.Inside.{Inside, IsSoundInside, kernel_of}
use Rattle.pif_kernel.specs.declared.parts.Parts.TheView.{view}
use Rattle.pif_kernel_model.proofs.Waiters.{arrivals_few}
use Rattle.pif_kernel_model.proofs.RenumberSound.{kernel_next, sound_next}
use Rattle.pif_kernel.proofs.parts.Parts.take_ticket.Goals as goal
use Rattle.pif_kernel.proofs.parts.Parts.take_ticket.Goals.{then-self, else-self}

pub returns-clause-same : goal.returns-clause-same
returns-clause-same g c =
    let same : kernel_of c.if-self.self ≡ kernel_of c.args.self.now =
    elim c.if-self.branch [
      | then-self w ↦ ap kernel_of w.self-is
          ∙ w.renumber.ensures.same
      | else-self w ↦ (let e : c.if-self.self ≡ c.args.self.now = cc in ap kernel_of e)
    ] in
    kernel_next (view _ g.C.Chains c.self-2.inside) _ ∙ ap kernel_of c.self-2.view_is ∙ same

pub returns-clause-sound : goal.returns-clause-sound
returns-clause-sound g c =
    let sound : IsSoundInside c.if-self.self =
    elim c.if-self.branch [
      | then-self w ↦ subst IsSoundInside (sym w.self-is) w.renumber.ensures.sound
      | else-self w ↦
          (let e : c.if-self.self ≡ c.args.self.now = cc in subst IsSoundInside (sym e) c.requires.sound)
    ] in
    sound_next (view _ g.C.Chains c.self-2.inside) (subst IsSoundInside (sym c.self-2.view_is) sound)

pub overflow_add-self : goal.overflow_add-self
overflow_add-self g c =
    let below : c.if-self.self.next < 18446744073709551615 =
    elim c.if-self.branch [
      | then-self w ↦
          omega (
            arith,
            ap (λ (x : Inside). x.next) w.self-is,
            w.renumber.ensures.next,
            arrivals_few c.args.self.now c.requires.sound,
          )
      | else-self w ↦
          omega (
            arith,
            ap (λ (x : Inside). x.next) w.self-is,
            w.if-self.false,
            c.self.ranges,
            ap (λ (x : Inside). x.next) c.self.view_is,
          )
    ] in
    omega (arith, below, ap (λ (x : Inside). x.next) c.self-2.view_is)
