use Rattle.std.proofs.Common.{◌≡◌, true, [], ◌∷◌, ◌++◌, subst, sym, ◌∙◌, ap, arith}
use Rattle.pif_nodes_model.specs.Lists.{has}
use Rattle.pif_model_lemmas.proofs.kernel.Statuses.{ready-unparked}
use Rattle.pif_model.specs.PiKernel.{Kernel, has_seat, is_ready, seat_at, kernel_after_parking}
use Rattle.pif_kernel_model.specs.Chained.{Chained, KeepsLevels}
use Rattle.pif_kernel_model.specs.Fields.{chains_of}
use Rattle.pif_kernel_model.specs.Inside.{Inside, IsSoundInside, kernel_of}
use Rattle.pif_kernel.specs.declared.parts.Parts.TheView.{view}
use Rattle.pif_kernel_model.proofs.Found.{found_so}
use Rattle.pif_kernel_model.proofs.ParkingFacts.{unparked_unnamed}
use Rattle.pif_kernel_model.proofs.Seats.{added_seen}
use Rattle.pif_kernel_model.proofs.Standing.{fits, effective_level, ready_queued}
use Rattle.pif_kernel_model.proofs.TableMoved.{moved, kernel_moved, sound_in_table, levels_kept_beside}
use Rattle.pif_kernel_model.proofs.Waiters.{ready_free}
use Rattle.pif_kernel_model.proofs.RestSound.{kernel_parked, sound_parked}
use Rattle.pif_kernel.proofs.parts.Parts.park.Goals.{Start, After-park}
use Rattle.pif_kernel.proofs.parts.Parts.park.Goals as goal

-- what is known before
held : (g : _) (c : Start g) (p : Inside) → p ≡ c.args.self.now
    → IsSoundInside p × (has_seat (kernel_of p) c.args.t ≡ true)
    × (is_ready (seat_at (kernel_of p) c.args.t).status ≡ true)
held g c p is = (
  subst IsSoundInside (sym is) c.requires.sound,
  subst (λ (x : Inside). has_seat (kernel_of x) c.args.t ≡ true) (sym is) c.requires.added,
  subst (λ (x : Inside). is_ready (seat_at (kernel_of x) c.args.t).status ≡ true) (sym is) c.requires.ready,
)

pub index_mut-requires : goal.index_mut-requires
index_mut-requires g c =
    let p : Inside = view _ g.C.Chains c.self.inside in
    let d = held g (goal.at.index_mut-requires g c).Start p c.self.view_is in
    omega (arith, (added_seen p (fits p d.0) c.args.t d.1).1, c.get.ensures.value)

pub park-requires : goal.park-requires
park-requires g c =
    let p : Inside = view _ g.C.Chains c.self.inside in
    let d = held g (goal.at.park-requires g c).Start p c.self.view_is in
    record {
      row = omega (arith, (added_seen p (fits p d.0) c.args.t d.1).1, d.0.placed.few, d.0.placed.rows);
      admitted = omega (arith, d.0.local c.args.t, (effective_level p d.0 c.args.t d.1).0);
      cond = c.requires.cond;
      free = ready_free p d.0 c.args.t d.2;
      unparked = unparked_unnamed p d.0 c.args.t (ready-unparked (seat_at (kernel_of p) c.args.t).status d.2);
    }

pub take_out-requires : goal.take_out-requires
take_out-requires g c =
    let p : Inside = view _ g.C.Chains c.self.inside in
    let d = held g (goal.at.take_out-requires g c).Start p c.self.view_is in
    let on = ready_queued p d.0 c.args.t d.1 d.2 in
    (on.0, on.1, ap (has c.args.t) (c.park.ensures.kept.levels on.0 on.1) ∙ on.2)

-- each level is as it was once it is parked
kept : (g : _) (c : After-park g) → KeepsLevels (chains_of (view _ g.C.Chains c.self.inside))
    (record (g.C.Chains.seen c.park.new.self) {
      keys = (view _ g.C.Chains c.self.inside).keys;
      parked = (view _ g.C.Chains c.self.inside).parked;
    })
kept g c =
    let p : Inside = view _ g.C.Chains c.self.inside in
    levels_kept_beside (chains_of p) (g.C.Chains.seen c.park.new.self) p.keys
    (p.parked ++ record { thread = c.args.t; cond = c.args.c; target = c.args.m } ∷ []) c.park.ensures.kept

pub returns : goal.returns
returns g c =
    let a = goal.at.returns g c in
    let p : Inside = view _ g.C.Chains c.self.inside in
    let d = held g a.Start p c.self.view_is in
    let y : Chained = record (g.C.Chains.seen c.park.new.self) { keys = p.keys; parked = p.parked } in
    let k : KeepsLevels (chains_of p) y = kept g a.After-park in
    let there : Inside = moved p y k in
    let sound : IsSoundInside there = sound_in_table p y k d.0 in
    let added : has_seat (kernel_of there) c.args.t ≡ true
    = ap (λ (z : Kernel). has_seat z c.args.t) (kernel_moved p y k) ∙ d.1 in
    let ready : is_ready (seat_at (kernel_of there) c.args.t).status ≡ true
    = ap (λ (z : Kernel). is_ready (seat_at z c.args.t).status) (kernel_moved p y k) ∙ d.2 in
    let x : Chained = g.C.Chains.seen c.take_out.new.self in
    let e = found_so _ (kernel_after_parking c.args.t c.args.c c.args.m (kernel_of c.args.self.now)) (
      kernel_parked there x.queue x.table c.args.t sound added ready c.take_out.ensures.place
          c.take_out.ensures.levels c.take_out.ensures.holds c.args.c c.args.m
          ∙ ap (kernel_after_parking c.args.t c.args.c c.args.m) (kernel_moved p y k ∙ ap kernel_of c.self.view_is),
      sound_parked there x.queue x.table c.args.t sound added ready c.take_out.ensures.place
          c.take_out.ensures.levels c.take_out.ensures.holds c.args.c c.args.m,
    ) in
    record {
      after = rw (
        c.get.ensures.value,
        c.take_out.ensures.owners,
        c.park.ensures.owners,
        c.take_out.ensures.keys,
        c.park.ensures.kept.keys,
        c.take_out.ensures.parked,
        c.park.ensures.kept.parked,
      ) e.0;
      sound = rw (
        c.get.ensures.value,
        c.take_out.ensures.owners,
        c.park.ensures.owners,
        c.take_out.ensures.keys,
        c.park.ensures.kept.keys,
        c.take_out.ensures.parked,
        c.park.ensures.kept.parked,
      ) e.1;
    }
