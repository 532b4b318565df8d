use Rattle.std.proofs.Common.{◌≡◌, ◌⊎◌, ℕ, true, false, subst, sym, ap, ◌∙◌, refl, inl, inr}
use Rattle.pif_model.specs.declared.lines.Status.{Status}
use Rattle.pif_model.specs.declared.lines.Status.TheVariants.{Stopped, Ended}
use Rattle.pif_model.specs.PiKernel.{is_ready, is_parked, queued_on, seat_at, is_living, parkings_without}
use Rattle.pif_model_lemmas.proofs.kernel.Facts.{living-added}
use Rattle.pif_model_lemmas.proofs.kernel.Statuses.{ready-unparked}
use Rattle.pif_nodes_model.specs.Levels.{Queue}
use Rattle.pif_kernel_model.specs.Chained.{Chained}
use Rattle.pif_kernel_model.specs.Inside.{Inside, IsSoundInside, kernel_of}
use Rattle.pif_kernel_model.specs.Leaving.{IsLeft}
use Rattle.pif_kernel.specs.declared.parts.Parts.TheView.{view}
use Rattle.pif_kernel_model.proofs.Seats.{status_seen}
use Rattle.pif_kernel_model.proofs.ParkingFacts.{unparked_absent}
use Rattle.pif_kernel_model.proofs.Standing.{fits, ready_queued}
use Rattle.pif_kernel_model.proofs.Waiters.{ready_idle}
use Rattle.pif_kernel_model.proofs.LeavingFacts.{left_idle, unready_off}
use Rattle.pif_kernel.proofs.parts.Parts.take_off.Goals as goal

pub status-requires-clause-added : goal.status-requires-clause-added
status-requires-clause-added g c = living-added (kernel_of c.args.self.now) c.args.t c.requires.living

pub take_out-requires : goal.take_out-requires
take_out-requires g c =
    let p : Inside = view _ g.C.Chains c.self.inside in
    let h : IsSoundInside p = subst IsSoundInside (sym c.self.view_is) c.requires.sound in
    let lives : is_living (kernel_of p) c.args.t ≡ true
    = subst (λ (x : Inside). is_living (kernel_of x) c.args.t ≡ true) (sym c.self.view_is) c.requires.living in
    ready_queued p h c.args.t (living-added (kernel_of p) c.args.t lives)
    (ap (λ (x : Inside). is_ready (seat_at (kernel_of x) c.args.t).status) c.self.view_is
    ∙ ap is_ready (sym c.status.ensures ∙ c.in-Ready.is))

pub returns-in-Ready : goal.returns-in-Ready
returns-in-Ready g c =
    let p : Inside = view _ g.C.Chains c.self.inside in
    let h : IsSoundInside p = subst IsSoundInside (sym c.self.view_is) c.requires.sound in
    let lives : is_living (kernel_of p) c.args.t ≡ true
    = subst (λ (x : Inside). is_living (kernel_of x) c.args.t ≡ true) (sym c.self.view_is) c.requires.living in
    let ready : is_ready (seat_at (kernel_of p) c.args.t).status ≡ true
    = ap (λ (x : Inside). is_ready (seat_at (kernel_of x) c.args.t).status) c.self.view_is
    ∙ ap is_ready (sym c.status.ensures ∙ c.in-Ready.is) in
    let y : Chained = g.C.Chains.seen c.take_out.new.self in
    rw (c.take_out.ensures.owners, c.take_out.ensures.keys, c.take_out.ensures.parked)
    (subst (λ (x : Inside). IsLeft x (record p { queue = y.queue; table = y.table }) c.args.t c.args.t) c.self.view_is
    (left_idle p c.args.t h (living-added (kernel_of p) c.args.t lives) (ready_idle p h c.args.t ready)
    y.queue y.table c.take_out.ensures.levels c.take_out.ensures.place c.take_out.ensures.holds p.parked
    (unparked_absent p h c.args.t (ready-unparked (seat_at (kernel_of p) c.args.t).status ready))))

pub returns-in-Parked : goal.returns-in-Parked
returns-in-Parked g c =
    let p : Inside = view _ g.C.Chains c.self.inside in
    let h : IsSoundInside p = subst IsSoundInside (sym c.self.view_is) c.requires.sound in
    let lives : is_living (kernel_of p) c.args.t ≡ true
    = subst (λ (x : Inside). is_living (kernel_of x) c.args.t ≡ true) (sym c.self.view_is) c.requires.living in
    let status : (seat_at (kernel_of p) c.args.t).status ≡ c.status.result
    = ap (λ (x : Inside). (seat_at (kernel_of x) c.args.t).status) c.self.view_is ∙ sym c.status.ensures in
    let y : Chained = g.C.Chains.seen c.unpark.new.self in
    let kept = c.unpark.ensures.kept in
    rw (c.unpark.ensures.owners, kept.keys, kept.parked)
    (subst (λ (x : Inside). IsLeft x (record p { queue = y.queue; table = y.table; parked = parkings_without p.parked c.args.t })
    c.args.t c.args.t) c.self.view_is
    (left_idle p c.args.t h (living-added (kernel_of p) c.args.t lives)
    (ap queued_on (sym (status_seen p (fits p h) c.args.t) ∙ status ∙ c.in-Parked.is))
    y.queue y.table
    (λ r lr. kept.levels r lr ∙ unready_off p h c.args.t (ap is_ready (status ∙ c.in-Parked.is)) r lr)
    (kept.queue ∙ ap (λ (n : ℕ). record p.queue { mask = n }) (sym (ap (λ (q : Queue). q.mask) kept.queue)))
    kept.holds (parkings_without p.parked c.args.t) refl))

unready : (x : Status) → ((x ≡ Stopped) ⊎ (x ≡ Ended)) → is_ready x ≡ false
unready x (inl e) = ap is_ready e
unready x (inr e) = ap is_ready e

idle : (x : Status) → ((x ≡ Stopped) ⊎ (x ≡ Ended)) → queued_on x ≡ 0
idle x (inl e) = ap queued_on e
idle x (inr e) = ap queued_on e

not_parked : (x : Status) → ((x ≡ Stopped) ⊎ (x ≡ Ended)) → is_parked x ≡ false
not_parked x (inl e) = ap is_parked e
not_parked x (inr e) = ap is_parked e

pub returns-in-Stopped : goal.returns-in-Stopped
returns-in-Stopped g c =
    let p : Inside = c.args.self.now in
    let h : IsSoundInside p = c.requires.sound in
    left_idle p c.args.t h (living-added (kernel_of p) c.args.t c.requires.living)
    (ap queued_on (sym (status_seen p (fits p h) c.args.t) ∙ sym c.status.ensures)
    ∙ idle c.status.result c.in-Stopped.is)
    p.queue p.table
    (unready_off p h c.args.t (ap is_ready (sym c.status.ensures) ∙ unready c.status.result c.in-Stopped.is)) refl
    h.placed.holds p.parked
    (unparked_absent p h c.args.t (ap is_parked (sym c.status.ensures) ∙ not_parked c.status.result c.in-Stopped.is))
