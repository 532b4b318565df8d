use Rattle.std.proofs.Common.{[], ◌∷◌, ◌++◌, set, is_some, subst, sym, ap, ◌∙◌, arith, rules}
use Rattle.pif_model.specs.declared.lines.Status.TheVariants.{Queued}
use Rattle.pif_model.specs.PiKernel.{Kernel, has_seat, is_ready, kernel_after_queueing}
use Rattle.pif_model.specs.PiKernel.{seat_at as kernel_seat_at}
use Rattle.pif_nodes_model.specs.Lists.{has, list_without}
use Rattle.pif_nodes_model.specs.Levels.{Queue}
use Rattle.pif_model_lemmas.proofs.kernel.Facts.{living-added}
use Rattle.pif_model_lemmas.proofs.kernel.Statuses.{ready-unparked}
use Rattle.pif_kernel_model.specs.Chained.{Chained}
use Rattle.pif_kernel_model.specs.Inside.{Inside, kernel_of, state_key_at}
use Rattle.pif_kernel_model.specs.Opened.{IsOpened}
use Rattle.pif_kernel.specs.declared.parts.Parts.TheView.{view}
use Rattle.pif_kernel_model.proofs.Found.{found_so}
use Rattle.pif_kernel_model.proofs.WalkSound.{IsWalkable, on_levels, on_running, on_local, ended}
use Rattle.pif_kernel_model.proofs.QueueingFacts.{IsEntered, entry, folded, no_cycle, local_low, place, free, on_level, before_walk}
use Rattle.pif_kernel_model.proofs.ParkingFacts.{unparked_unnamed}
use Rattle.pif_kernel_model.proofs.Seats.{added_seen}
use Rattle.pif_kernel_model.proofs.Standing.{fits}
use Rattle.pif_kernel_model.proofs.Waiters.{room_for}
use Rattle.pif_kernel.proofs.parts.Parts.queue_on.Goals.{After-local, After-take_out}
use Rattle.pif_kernel.proofs.parts.Parts.queue_on.Goals as goal

pub state_of-key-requires : goal.state_of-key-requires
state_of-key-requires g c = record {
  mutex = omega (arith, c.take_ticket-ticket.ensures.sound.placed.keys, c.requires.mutex);
  key = c.requires.key ∙ sym (ap (λ (x : Inside). state_key_at x c.args.m) c.take_ticket-ticket.ensures.frame);
  owner =
      omega (
        arith,
        (added_seen c.take_ticket-ticket.new.self
            (fits c.take_ticket-ticket.new.self c.take_ticket-ticket.ensures.sound) c.args.owner
            (ap (λ (k : Kernel). has_seat k c.args.owner) c.take_ticket-ticket.ensures.same
            ∙ living-added (kernel_of c.args.self.now) c.args.owner c.requires.living)).1,
        c.take_ticket-ticket.ensures.sound.placed.few,
        c.take_ticket-ticket.ensures.sound.placed.rows,
      );
  room = λ none.
      (room_for c.take_ticket-ticket.new.self c.take_ticket-ticket.ensures.sound c.args.t
      (ap (λ (k : Kernel). has_seat k c.args.t) c.take_ticket-ticket.ensures.same ∙ c.requires.added)
      (ap (λ (k : Kernel). is_ready (kernel_seat_at k c.args.t).status) c.take_ticket-ticket.ensures.same
      ∙ c.requires.ready)).0;
}

-- what is known once a ticket was taken and there is an owner state
entered : (g : _) (c : After-local g)
    → IsEntered c.args.self.now c.take_ticket-ticket.new.self
    (view _ g.C.Chains c.self.inside) c.args.t c.args.m c.args.owner c.state_of-key.result c.take_ticket-ticket.result
entered g c =
    let x : Inside = view _ g.C.Chains c.self.inside in
    let p : Inside = c.take_ticket-ticket.new.self in
    folded c.args.self.now (record p { queue = x.queue; table = x.table }) x c.args.t c.args.m c.args.owner c.state_of-key.result c.take_ticket-ticket.result
    (entry c.args.self.now p x c.args.t c.args.m c.args.owner c.state_of-key.result c.take_ticket-ticket.result
    (search rules)
    (record {
      added = c.requires.added;
      ready = c.requires.ready;
      mutex = c.requires.mutex;
      living = c.requires.living;
      state = c.requires.state;
      unreached = c.requires.unreached;
    })
    c.take_ticket-ticket.ensures.next c.take_ticket-ticket.ensures.rises
    c.take_ticket-ticket.ensures.same c.take_ticket-ticket.ensures.sound
    (subst (λ (z : Inside). IsOpened p z c.args.m c.args.owner c.state_of-key.result)
    (sym c.self.view_is) c.state_of-key.ensures))

pub unwrap-prio-requires : goal.unwrap-prio-requires
unwrap-prio-requires g c =
    let i = entered g (goal.at.unwrap-prio-requires g c).After-local in
    c.local.ensures.given.1 (local_low _ _ _ _ _ _ _ _ i)

pub enqueue-requires-clause-state : goal.enqueue-requires-clause-state
enqueue-requires-clause-state g c = ap is_some (entered g (goal.at.enqueue-requires-clause-state g c).After-local).opens.owned

pub enqueue-requires-clause-free : goal.enqueue-requires-clause-free
enqueue-requires-clause-free g c = free _ _ _ _ _ _ _ _ (entered g (goal.at.enqueue-requires-clause-free g c).After-local)

pub enqueue-requires-clause-unparked : goal.enqueue-requires-clause-unparked
enqueue-requires-clause-unparked g c =
    let i = entered g (goal.at.enqueue-requires-clause-unparked g c).After-local in
    unparked_unnamed _ i.sound c.args.t (ready-unparked _ i.ready)

pub index_mut-requires : goal.index_mut-requires
index_mut-requires g c =
    omega (arith, place _ _ _ _ _ _ _ _ (entered g (goal.at.index_mut-requires g c).After-local), c.get.ensures.value)

pub enqueue-requires-clause-no_cycle : goal.enqueue-requires-clause-no_cycle
enqueue-requires-clause-no_cycle g c =
    no_cycle _ _ _ _ _ _ _ _ (entered g (goal.at.enqueue-requires-clause-no_cycle g c).After-local)

pub take_out-requires : goal.take_out-requires
take_out-requires g c =
    let on = on_level _ _ _ _ _ _ _ _ (entered g (goal.at.take_out-requires g c).After-local) in
    (on.0, on.1, ap (has c.args.t) (c.enqueue.ensures.kept.levels on.0 on.1) ∙ on.2)

-- what is kept before the walk
queued : (g : _) (c : After-take_out g)
    → IsEntered c.args.self.now c.take_ticket-ticket.new.self
    (view _ g.C.Chains c.self.inside) c.args.t c.args.m c.args.owner c.state_of-key.result c.take_ticket-ticket.result
    → IsWalkable (record (view _ g.C.Chains c.self.inside) {
      statuses = set c.self.inside.statuses.items c.args.t
          (Queued c.args.m);
      owners = (g.C.Chains.seen c.take_out.new.self).owners;
      queue = (g.C.Chains.seen c.take_out.new.self).queue;
      table = (g.C.Chains.seen c.take_out.new.self).table;
      arrivals =
          (view _ g.C.Chains c.self.inside).arrivals ++ (c.args.t, c.args.m) ∷ [];
    })
    c.args.owner (kernel_after_queueing c.args.t c.args.m c.args.owner (kernel_of c.args.self.now))
queued g c i =
    let value = rw c.unwrap-prio.ensures at c.local.ensures.value in
    let y : Chained = g.C.Chains.seen c.enqueue.new.self in
    let z : Chained = g.C.Chains.seen c.take_out.new.self in
    before_walk _ _ _ _ _ _ _ _ i c.unwrap-prio.result z.owners z.queue z.table value
    (c.take_out.ensures.owners ∙ c.enqueue.ensures.queued)
    (c.take_out.ensures.place ∙ ap (λ (q : Queue). record q { mask = z.queue.mask }) c.enqueue.ensures.kept.queue)
    (λ r lr. c.take_out.ensures.levels r lr ∙ ap (list_without c.args.t) (c.enqueue.ensures.kept.levels r lr))
    c.take_out.ensures.holds

pub walk-requires : goal.walk-requires
walk-requires g c =
    let a = goal.at.walk-requires g c in
    let w = queued g a.After-take_out (entered g a.After-local) in
    record {
      admitted = w.admitted;
      repaired = w.repaired;
      ready = on_levels _ _ _ w;
      running =
          on_running _ _ _ w;
      level = on_local _ _ _ w;
    }

pub returns : goal.returns
returns g c =
    let a = goal.at.returns g c in
    let w = queued g a.After-take_out (entered g a.After-local) in
    let e
    = ended _ _ _ w (g.C.Chains.seen c.walk.new.self).owners (g.C.Chains.seen c.walk.new.self).queue (g.C.Chains.seen c.walk.new.self).table c.walk.ensures.repaired c.walk.ensures.levels
    c.walk.ensures.place c.walk.ensures.holds in
    let f = found_so _ _ e in
    record {
      after = rw (
        c.get.ensures.value,
        c.walk.ensures.keys,
        c.take_out.ensures.keys,
        c.enqueue.ensures.kept.keys,
        c.walk.ensures.parked,
        c.take_out.ensures.parked,
        c.enqueue.ensures.kept.parked,
      ) f.0;
      sound = rw (
        c.get.ensures.value,
        c.walk.ensures.keys,
        c.take_out.ensures.keys,
        c.enqueue.ensures.kept.keys,
        c.walk.ensures.parked,
        c.take_out.ensures.parked,
        c.enqueue.ensures.kept.parked,
      ) f.1;
    }
