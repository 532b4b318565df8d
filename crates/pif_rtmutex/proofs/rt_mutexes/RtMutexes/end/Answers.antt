use Rattle.std.proofs.Common.{◌≡◌, ◌≢◌, ◌∙◌, ap, sym, subst, ℕ, List, Some, arith}
use Rattle.std.specs.FinMap.{FinMap, get, remove, len}
use Rattle.std.specs.Ordering.{nat_cmp}
use Rattle.slab.specs.Slab.{Slab}
use Rattle.slab.specs.Slab.{get as value_at}
use Rattle.pif_kernel_model.specs.OwnerMaps.{owners_of}
use Rattle.pif_kernel_model.proofs.MapLemmas.{get-remove_other}
use Rattle.pif_kernel_model.proofs.OwnersLemmas.{sound-ended}
use Rattle.pif_rtmutex.specs.Fields.{State, slab_with, states_from}
use Rattle.pif_kernel_model.specs.States.{States, owners_in}
use Rattle.pif_kernel_model.specs.Holds.{HoldsStates}
use Rattle.pif_rtmutex.proofs.FieldLemmas.{state-value, state-contains, states-removed, len-states}
use Rattle.pif_rtmutex.proofs.ReadLemmas.{row-below}
use Rattle.pif_rtmutex.proofs.StateLemmas.{holds-state, spare-given}
use Rattle.pif_rtmutex.proofs.MakeLemmas.{state-ended, from_ended}
use Rattle.pif_rtmutex.proofs.rt_mutexes.RtMutexes.end.Goals as goal

pub remove-state-requires : goal.remove-state-requires
remove-state-requires c =
    state-contains (λ (x : State). x.owner) c.self.inside.states c.args.self.now.owners c.get.result c.args.key
    (ap (λ (m : States). m.owners) c.self.view_is) c.get.ensures c.requires.state

pub push_reserved-requires : goal.push_reserved-requires
push_reserved-requires c =
    omega (
      arith,
      c.self.invariant.stack,
      c.self.invariant.spare.count,
      c.self.inside.free.ok,
      len-states
          (λ (x : State). x.owner) c.self.inside.states,
      c.remove-state.ensures.len,
    )

pub invariant_of-self : goal.invariant_of-self
invariant_of-self c =
    let s : Slab State = c.self.inside.states in
    let m : States = c.args.self.now in
    let t = c.args.table.now in
    let k : ℕ = c.args.key in
    let r : ℕ = c.state.inside.row in
    let free : List ℕ = c.push_reserved.new.self.items in
    let owners =
    states-removed (λ (x : State). x.owner) s c.remove-state.new.self c.get.result c.remove-state.ensures.updates in
    let places =
    states-removed (λ (x : State). x.row) s c.remove-state.new.self c.get.result c.remove-state.ensures.updates in
    let at : value_at s c.get.result ≡ Some (record { owner = c.state.inside.owner; row = r }) =
    c.remove-state.ensures.value ∙ ap Some (sym c.state.view_is) in
    let place : get m.places k ≡ Some r =
    state-value (λ (x : State). x.row) s m.places c.get.result k
    (Some (record { owner = c.state.inside.owner; row = r }))
    (ap (λ (m : States). m.places) c.self.view_is) c.get.ensures at in
    let old : States =
    (states_from c.self.inside.first_list c.self.inside.first_node c.self.inside.threads c.self.inside.rows.items
    c.self.inside.free.items c.self.inside.states) in
    let was : get old.places c.get.result ≡ Some r =
    (λ i. get (ap (λ (m : States). m.places) c.self.view_is i) (c.get.ensures i)) ∙ place in
    record {
      most = c.self.invariant.most;
      lists = c.self.invariant.lists;
      nodes = c.self.invariant.nodes;
      rows = c.self.invariant.rows;
      room = omega (arith, c.self.invariant.room, c.remove-state.ensures.capacity);
      stack = omega (arith, c.self.invariant.stack, c.push_reserved.ensures.capacity);
      spare =
          spare-given old free (owners_of (slab_with (λ (x : State). x.owner) c.remove-state.new.self))
          (owners_of (slab_with (λ (x : State). x.row) c.remove-state.new.self))
          c.get.result r c.self.invariant.spare c.push_reserved.ensures.items was
          (omega (
            arith,
            row-below m t k r c.requires.holds.waiters place,
            ap (λ (m : States). m.threads)
                c.self.view_is,
          ))
          (omega (
            arith,
            len-states (λ (x : State). x.owner) s,
            len-states
                (λ (x : State). x.owner) c.remove-state.new.self,
            c.remove-state.ensures.len,
          ))
          (λ j q e.
          let kept : (j ≢ c.get.result) × (get old.places j ≡ Some q) =
          from_ended old.places c.get.result j q (ap (λ (f : FinMap nat_cmp ℕ). get f j) (sym places) ∙ e) in
          let theirs : get m.places j ≡ Some q = ap (λ (m : States). get m.places j) (sym c.self.view_is) ∙ kept.1 in (
            kept.1,
            λ same. kept.0 (c.requires.holds.waiters.alone j k q theirs (place ∙ ap Some (sym same))
                ∙ sym c.get.ensures),
          ));
    }

pub returns : goal.returns
returns c =
    let s : Slab State = c.self.inside.states in
    let m : States = c.args.self.now in
    let t = c.args.table.now in
    let k : ℕ = c.args.key in
    let r : ℕ = c.state.inside.row in
    let free : List ℕ = c.push_reserved.new.self.items in
    let owners =
    states-removed (λ (x : State). x.owner) s c.remove-state.new.self c.get.result c.remove-state.ensures.updates in
    let places =
    states-removed (λ (x : State). x.row) s c.remove-state.new.self c.get.result c.remove-state.ensures.updates in
    let then : States = record m { free = free; owners = remove m.owners k; places = remove m.places k } in
    let now : states_from c.self.inside.first_list c.self.inside.first_node c.self.inside.threads
    c.self.inside.rows.items free c.remove-state.new.self ≡ then =
    (λ i. record {
      first_list = c.self.inside.first_list;
      first_node = c.self.inside.first_node;
      threads = c.self.inside.threads;
      rows = c.self.inside.rows.items;
      free = free;
      owners = owners i;
      places = places i;
    })
    ∙ (λ i. record (c.self.view_is i) {
      free = free;
      owners = remove (c.self.view_is i).owners (c.get.ensures i);
      places = remove (c.self.view_is i).places (c.get.ensures i);
    }) in
    record {
      ended = ap (λ (n : States). owners_in n t) now;
      count =
          omega (
            arith,
            len-states (λ (x : State). x.owner) s,
            len-states (λ (x : State). x.owner) c.remove-state.new.self,
            c.remove-state.ensures.len,
            ap (λ (m : States). len m.owners) c.self.view_is,
          );
      rows = λ i q ne e. ap (λ (n : States). get n.places i) now ∙ get-remove_other m.places k i ne ∙ e;
      place = now ∙ sym (ap (λ (n : States). record m { free = n.free; owners = n.owners; places = n.places }) now);
      holds =
          subst (λ (n : States). HoldsStates n t) (sym now)
          (holds-state m free (remove m.owners k) (remove m.places k) t k c.requires.holds
          (state-ended m t k c.requires.free)
          (sound-ended k (owners_in m t) c.requires.free c.requires.holds.waiters.sound));
    }
