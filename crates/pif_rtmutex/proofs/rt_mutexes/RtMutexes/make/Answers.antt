use Rattle.std.proofs.Common.{◌≡◌, ◌∙◌, ◌<◌, ap, sym, subst, ℕ, true, List, [], ◌∷◌, ◌++◌, Option, Some, None, IsSome, arith, length, option_to_list}
use Rattle.std.proofs.lemmas.Bool.{false≢true}
use Rattle.std.specs.FinMap.{FinMap, get, insert, len}
use Rattle.std.specs.Ordering.{nat_cmp}
use Rattle.slab.specs.Slab.{Slab, Updates}
use Rattle.pif_nodes_model.specs.Lists.{has}
use Rattle.pif_nodes_model.proofs.ListLemmas.{has-right, has-head}
use Rattle.pif_kernel_model.specs.Owners.{waits_on}
use Rattle.pif_kernel_model.specs.OwnerMaps.{owners_of}
use Rattle.pif_kernel_model.proofs.MapLemmas.{get-insert_other}
use Rattle.pif_kernel_model.proofs.OwnersLemmas.{sound-made}
use Rattle.pif_rtmutex.specs.Fields.{State, slab_with, states_from}
use Rattle.pif_kernel_model.specs.States.{States, IsThread, wait_of, owners_in}
use Rattle.pif_kernel_model.specs.Holds.{HoldsStates}
use Rattle.pif_rtmutex.proofs.FieldLemmas.{state-value, states-put, len-states}
use Rattle.pif_kernel_model.proofs.ViewLemmas.{length-seats, waits_on-owners_in}
use Rattle.pif_kernel_model.proofs.WaiterLemmas.{waits-state}
use Rattle.pif_rtmutex.proofs.StateLemmas.{holds-state, spare-taken}
use Rattle.pif_rtmutex.proofs.MakeLemmas.{state-made, from_made}
use Rattle.pif_rtmutex.proofs.rt_mutexes.RtMutexes.make.Goals as goal

pub unwrap-row-requires : goal.unwrap-row-requires
unwrap-row-requires c =
    let less : 0 < length c.self.inside.free.items =
    omega (
      arith,
      c.self.invariant.spare.count,
      c.requires.room,
      length-seats c.args.self.now c.args.table.now,
      c.requires.holds.waiters.rows,
      ap (λ (m : States). len m.owners) c.self.view_is,
      ap (λ (m : States). m.threads) c.self.view_is,
    ) in
    c.pop.ensures.variant.1 (omega (arith, less, c.self.inside.free.ok))

pub insert_reserved-number-requires : goal.insert_reserved-number-requires
insert_reserved-number-requires c =
    omega (
      arith,
      c.self.invariant.room,
      c.requires.room,
      length-seats c.args.self.now c.args.table.now,
      c.requires.holds.waiters.rows,
      ap (λ (m : States). len m.owners) c.self.view_is,
      ap (λ (m : States). m.threads) c.self.view_is,
      len-states (λ (x : State). x.owner) c.self.inside.states,
    )

pub invariant_of-self : goal.invariant_of-self
invariant_of-self c =
    let s : Slab State = c.self.inside.states in
    let free : List ℕ = c.pop.new.self.items in
    let j : ℕ = c.insert_reserved-number.result in
    let r : ℕ = c.unwrap-row.result in
    let x : State = record { owner = c.args.owner; row = r } in
    let updates : Updates s c.insert_reserved-number.new.self j (Some x) =
    subst (λ (y : State). Updates s c.insert_reserved-number.new.self j (Some y)) c.of.ensures.state
    c.insert_reserved-number.ensures.updates in
    let split : c.self.inside.free.items ≡ free ++ r ∷ [] =
    c.pop.ensures.items ∙ ap (λ (o : Option ℕ). free ++ option_to_list o) c.unwrap-row.ensures in
    let owners = states-put (λ (x : State). x.owner) s c.insert_reserved-number.new.self j x updates in
    let places = states-put (λ (x : State). x.row) s c.insert_reserved-number.new.self j x updates in
    record {
      most = c.self.invariant.most;
      lists = c.self.invariant.lists;
      nodes = c.self.invariant.nodes;
      rows = c.self.invariant.rows;
      room = omega (arith, c.self.invariant.room, c.insert_reserved-number.ensures.capacity);
      stack = omega (arith, c.self.invariant.stack, c.pop.ensures.capacity);
      spare =
          spare-taken
          (states_from c.self.inside.first_list c.self.inside.first_node c.self.inside.threads
          c.self.inside.rows.items c.self.inside.free.items c.self.inside.states) free
          (owners_of (slab_with (λ (x : State). x.owner) c.insert_reserved-number.new.self))
          (owners_of (slab_with (λ (x : State). x.row) c.insert_reserved-number.new.self)) r
          c.self.invariant.spare split
          (omega (
            arith,
            len-states (λ (x : State). x.owner) s,
            len-states
                (λ (x : State). x.owner) c.insert_reserved-number.new.self,
            c.insert_reserved-number.ensures.len,
          ))
          (λ i q e. from_made (owners_of (slab_with (λ (x : State). x.row) s)) j r i q
          (ap (λ (f : FinMap nat_cmp ℕ). get f i) (sym places) ∙ e));
    }

pub returns : goal.returns
returns c =
    let s : Slab State = c.self.inside.states in
    let free : List ℕ = c.pop.new.self.items in
    let j : ℕ = c.insert_reserved-number.result in
    let r : ℕ = c.unwrap-row.result in
    let x : State = record { owner = c.args.owner; row = r } in
    let updates : Updates s c.insert_reserved-number.new.self j (Some x) =
    subst (λ (y : State). Updates s c.insert_reserved-number.new.self j (Some y)) c.of.ensures.state
    c.insert_reserved-number.ensures.updates in
    let split : c.self.inside.free.items ≡ free ++ r ∷ [] =
    c.pop.ensures.items ∙ ap (λ (o : Option ℕ). free ++ option_to_list o) c.unwrap-row.ensures in
    let owners = states-put (λ (x : State). x.owner) s c.insert_reserved-number.new.self j x updates in
    let places = states-put (λ (x : State). x.row) s c.insert_reserved-number.new.self j x updates in
    let m : States = c.args.self.now in
    let t = c.args.table.now in
    let k : ℕ = c.new.result in
    let then : States =
    record m { free = free; owners = insert m.owners k c.args.owner; places = insert m.places k r } in
    let now : states_from c.self.inside.first_list c.self.inside.first_node c.self.inside.threads
    c.self.inside.rows.items free c.insert_reserved-number.new.self ≡ then =
    (λ i. record {
      first_list = c.self.inside.first_list;
      first_node = c.self.inside.first_node;
      threads = c.self.inside.threads;
      rows = c.self.inside.rows.items;
      free = free;
      owners = owners i;
      places = places i;
    })
    ∙ (λ i. record (c.self.view_is i) {
      free = free;
      owners = insert (c.self.view_is i).owners (sym c.new.ensures i) c.args.owner;
      places = insert (c.self.view_is i).places (sym c.new.ensures i) r;
    }) in
    let fresh : get m.owners k ≡ None =
    state-value (λ (x : State). x.owner) s m.owners j k None (ap (λ (m : States). m.owners) c.self.view_is)
    (sym c.new.ensures) c.insert_reserved-number.ensures.was_vacant in
    let last : has r c.self.inside.free.items ≡ true = ap (has r) split ∙ has-right r free (r ∷ []) (has-head r []) in
    let low : r < m.threads =
    omega (arith, c.self.invariant.spare.below r last, ap (λ (m : States). m.threads) c.self.view_is) in
    let unused : (i : ℕ) → get m.places i ≡ Some r → ⊥ =
    λ i e. false≢true (sym (c.self.invariant.spare.apart i r (ap (λ (m : States). get m.places i) c.self.view_is ∙ e))
    ∙ last) in
    let owner : IsThread m c.args.owner =
    (c.of.ensures.thread, omega (arith, c.requires.owner, length-seats m t, c.requires.holds.waiters.rows)) in
    record {
      fresh = fresh;
      made = ap (λ (n : States). owners_in n t) now;
      count =
          omega (
            arith,
            len-states (λ (x : State). x.owner) s,
            len-states (λ (x : State). x.owner) c.insert_reserved-number.new.self,
            c.insert_reserved-number.ensures.len,
            ap (λ (m : States). len m.owners) c.self.view_is,
          );
      free = λ u e.
          let waits : wait_of m u ≡ Some k = sym (waits_on-owners_in then t u)
          ∙ ap (λ (n : States). waits_on (owners_in n t) u) (sym now) ∙ e in
          let some : IsSome {T = ℕ} None = subst IsSome fresh (waits-state m t u k c.requires.holds.waiters waits) in
          false≢true some;
      rows = λ i q e. ap (λ (n : States). get n.places i) now ∙ get-insert_other m.places k r i
          (λ same. false≢true (subst IsSome (ap (get m.owners) same ∙ fresh) (c.requires.holds.waiters.stated i q e))) ∙ e;
      place = now ∙ sym (ap (λ (n : States). record m { free = n.free; owners = n.owners; places = n.places }) now);
      holds =
          subst (λ (n : States). HoldsStates n t) (sym now)
          (holds-state m free (insert m.owners k c.args.owner) (insert m.places k r) t k c.requires.holds
          (state-made m t k c.args.owner r c.requires.holds fresh owner low unused)
          (sound-made k c.args.owner (owners_in m t) fresh c.requires.holds.waiters.sound));
    }
