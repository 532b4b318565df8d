use Rattle.std.proofs.Common.{◌≡◌, true, subst, sym, ◌∙◌, ap, arith}
use Rattle.pif_model.specs.PiKernel.{has_seat, is_ready, seat_at, kernel_after_stop}
use Rattle.pif_kernel_model.specs.Chained.{Chained}
use Rattle.pif_kernel_model.specs.Inside.{Inside, IsSoundInside, kernel_of}
use Rattle.pif_kernel.specs.declared.parts.Parts.TheView.{view}
use Rattle.pif_kernel_model.proofs.Found.{found_so}
use Rattle.pif_kernel_model.proofs.Seats.{added_seen}
use Rattle.pif_kernel_model.proofs.Standing.{fits, ready_queued}
use Rattle.pif_kernel_model.proofs.RestSound.{kernel_stopped, sound_stopped}
use Rattle.pif_kernel.proofs.parts.Parts.stop.Goals as goal

pub index_mut-requires : goal.index_mut-requires
index_mut-requires g c =
    let p : Inside = view _ g.C.Chains c.self.inside in
    let h : IsSoundInside p = subst IsSoundInside (sym c.self.view_is) c.requires.sound in
    let known : has_seat (kernel_of p) c.args.t ≡ true
    = subst (λ (x : Inside). has_seat (kernel_of x) c.args.t ≡ true) (sym c.self.view_is) c.requires.added in
    omega (arith, (added_seen p (fits p h) c.args.t known).1, c.get.ensures.value)

pub take_out-requires : goal.take_out-requires
take_out-requires g c =
    let p : Inside = view _ g.C.Chains c.self.inside in
    let h : IsSoundInside p = subst IsSoundInside (sym c.self.view_is) c.requires.sound in
    ready_queued p h c.args.t (subst (λ (x : Inside). has_seat (kernel_of x) c.args.t ≡ true)
    (sym c.self.view_is) c.requires.added)
    (subst (λ (x : Inside). is_ready (seat_at (kernel_of x) c.args.t).status ≡ true)
    (sym c.self.view_is) c.requires.ready)

pub returns : goal.returns
returns g c =
    let p : Inside = view _ g.C.Chains c.self.inside in
    let h : IsSoundInside p = subst IsSoundInside (sym c.self.view_is) c.requires.sound in
    let known : has_seat (kernel_of p) c.args.t ≡ true
    = subst (λ (x : Inside). has_seat (kernel_of x) c.args.t ≡ true) (sym c.self.view_is) c.requires.added in
    let ready : is_ready (seat_at (kernel_of p) c.args.t).status ≡ true
    = subst (λ (x : Inside). is_ready (seat_at (kernel_of x) c.args.t).status ≡ true)
    (sym c.self.view_is) c.requires.ready in
    let x : Chained = g.C.Chains.seen c.take_out.new.self in
    let e = found_so _ (kernel_after_stop c.args.t (kernel_of c.args.self.now)) (
      kernel_stopped p x.queue x.table c.args.t h known ready c.take_out.ensures.place
          c.take_out.ensures.levels c.take_out.ensures.holds
          ∙ ap (λ (x : Inside). kernel_after_stop c.args.t (kernel_of x)) c.self.view_is,
      sound_stopped p x.queue x.table c.args.t h known ready c.take_out.ensures.place
          c.take_out.ensures.levels c.take_out.ensures.holds,
    ) in
    record {
      after = rw (c.get.ensures.value, c.take_out.ensures.owners, c.take_out.ensures.keys, c.take_out.ensures.parked) e.0;
      sound = rw (c.get.ensures.value, c.take_out.ensures.owners, c.take_out.ensures.keys, c.take_out.ensures.parked) e.1;
    }
