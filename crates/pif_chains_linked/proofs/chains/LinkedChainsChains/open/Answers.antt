use Rattle.std.proofs.Common.{◌≡◌, ◌≢◌, ◌+◌, ◌<◌, ℕ, Option, Some, None, IsSome, length, get_or, set, refl, subst, sym, ap, ◌∙◌, arith}
use Rattle.std.specs.FinMap.{get, insert}
use Rattle.pif_kernel_model.specs.Owners.{Owners, count, owner_at, with_owner}
use Rattle.pif_kernel_model.proofs.OwnersLemmas.{owner_at-with_owner_same}
use Rattle.pif_kernel_model.specs.States.{owners_in}
use Rattle.pif_kernel_model.specs.Entries.{Found, found_in}
use Rattle.pif_kernel_model.specs.Chained.{Chained, KeepsLevels}
use Rattle.pif_chains_linked.specs.Linked.{key_count}
use Rattle.pif_chains_linked.proofs.Keys.{keys_length, keys_at, found_none}
use Rattle.pif_chains_linked.proofs.Standing.{linked}
use Rattle.pif_kernel_model.proofs.SamePlace.{same_place_made}
use Rattle.pif_chains_linked.proofs.Words.{row_free, worded_owners, linked_worded, worded_kept}
use Rattle.pif_chains_linked.proofs.chains.LinkedChainsChains.open.Goals as goal

pub make-key-requires-clause-holds : goal.make-key-requires-clause-holds
make-key-requires-clause-holds c = c.self.invariant.stand.owners

pub make-key-requires-clause-owner : goal.make-key-requires-clause-owner
make-key-requires-clause-owner c = subst (λ (x : Chained). c.args.owner < length x.owners.seats) (sym c.self.view_is) c.requires.owner

pub make-key-requires-clause-room : goal.make-key-requires-clause-room
make-key-requires-clause-room c = subst (λ (x : Chained). count x.owners + 1 < length x.owners.seats) (sym c.self.view_is) c.requires.room

pub row-row-requires-clause-state : goal.row-row-requires-clause-state
row-row-requires-clause-state c =
    subst IsSome (sym (ap (λ (v : Owners). owner_at v c.make-key.result) c.make-key.ensures.made
    ∙ owner_at-with_owner_same c.make-key.result c.args.owner (owners_in c.self.inside.owners c.self.inside.table))) refl

pub put-requires-clause-free : goal.put-requires-clause-free
put-requires-clause-free c =
    row_free c.self.inside.owners c.self.inside.queue c.self.inside.buckets c.self.inside.table c.self.inside.next c.self.invariant
    c.make-key.new.self c.make-key.result c.row-row.result c.make-key.ensures.fresh c.make-key.ensures.rows c.row-row.ensures.alone

few : (c : goal.After-put) → c.get.result < key_count
few c =
    omega (
      arith,
      c.get.ensures.value,
      subst (λ (x : Chained). c.args.m < length x.keys) (sym c.self.view_is) c.requires.mutex,
      keys_length c.self.inside.buckets.entries c.self.inside.table,
    )

pub put-requires-clause-none : goal.put-requires-clause-none
put-requires-clause-none c =
    let few : c.args.m < key_count
    = omega (
      arith,
      subst (λ (x : Chained). c.args.m < length x.keys) (sym c.self.view_is) c.requires.mutex,
      keys_length c.self.inside.buckets.entries c.self.inside.table,
    ) in
    ap (λ w. found_in c.self.inside.buckets.entries c.self.inside.table w) c.get.ensures.value
    ∙ found_none c.self.inside.buckets.entries c.self.inside.table c.args.m
    (sym (keys_at c.self.inside.buckets.entries c.self.inside.table c.args.m few)
    ∙ subst (λ (x : Chained). get_or x.keys c.args.m None ≡ None) (sym c.self.view_is) c.requires.none)

own : (c : goal.After-put) (f : Found) → Some (record { key = c.make-key.result; row = c.row-row.result }) ≡ Some f
    → get c.make-key.new.self.places f.key ≡ Some f.row
own c f e = subst (λ (o : Option Found). HasPlace o) e c.row-row.ensures.value
  where
    HasPlace : Option Found → Type 0
    HasPlace None = Unit {0}
    HasPlace (Some g) = get c.make-key.new.self.places g.key ≡ Some g.row

others : (c : goal.After-put) (v : ℕ) (f : Found) → v ≢ c.get.result
    → found_in c.self.inside.buckets.entries c.self.inside.table v ≡ Some f → get c.make-key.new.self.places f.key ≡ Some f.row
others c v f ne is = c.make-key.ensures.rows f.key f.row (c.self.invariant.words v f is).row

pub invariant_of-self : goal.invariant_of-self
invariant_of-self c =
    linked_worded c.self.inside.owners c.self.inside.queue c.self.inside.buckets c.self.inside.table c.self.inside.next c.self.invariant
    c.make-key.new.self (same_place_made _ _ c.make-key.ensures.place) c.make-key.ensures.holds
    (insert c.self.inside.owners.owners c.make-key.result c.args.owner) c.make-key.ensures.made c.get.result (few c)
    (Some (record { key = c.make-key.result; row = c.row-row.result })) (own c) (others c) c.put.new.self c.put.new.table
    c.put.ensures.put c.put.ensures.parked c.put.ensures.place c.put.ensures.rows c.put.ensures.outside c.put.ensures.holds

owned : (c : goal.After-put) → owners_in c.make-key.new.self c.put.new.table
    ≡ with_owner c.make-key.result c.args.owner (owners_in c.self.inside.owners c.self.inside.table)
owned c =
    worded_owners c.self.inside.owners c.self.inside.queue c.self.inside.buckets c.self.inside.table c.self.inside.next c.self.invariant
    c.make-key.new.self (same_place_made _ _ c.make-key.ensures.place) c.make-key.ensures.holds
    (insert c.self.inside.owners.owners c.make-key.result c.args.owner) c.make-key.ensures.made c.get.result (few c)
    (Some (record { key = c.make-key.result; row = c.row-row.result })) (own c) (others c) c.put.new.self c.put.new.table
    c.put.ensures.put c.put.ensures.parked c.put.ensures.place c.put.ensures.rows c.put.ensures.outside c.put.ensures.holds

pub returns : goal.returns
returns c = record {
  fresh = subst (λ (x : Chained). owner_at x.owners c.make-key.result ≡ None) c.self.view_is c.make-key.ensures.fresh;
  made = owned c ∙ ap (λ (x : Chained). with_owner c.make-key.result c.args.owner x.owners) c.self.view_is;
  count =
      ap count (owned c ∙ sym c.make-key.ensures.made) ∙ c.make-key.ensures.count
      ∙ ap (λ (x : Chained). count x.owners + 1) c.self.view_is;
  kept =
      subst (λ (x : Chained × ℕ). KeepsLevels (record x.0 { keys = set x.0.keys x.1 (Some c.make-key.result) })
      (linked c.make-key.new.self c.self.inside.queue c.put.new.self c.put.new.table))
      (λ i. (c.self.view_is i, c.get.ensures.value i))
      (worded_kept c.self.inside.owners c.self.inside.queue c.self.inside.buckets c.self.inside.table c.self.inside.next c.self.invariant
      c.make-key.new.self (same_place_made _ _ c.make-key.ensures.place) c.make-key.ensures.holds
      (insert c.self.inside.owners.owners c.make-key.result c.args.owner) c.make-key.ensures.made c.get.result (few c)
      (Some (record { key = c.make-key.result; row = c.row-row.result })) (own c) (others c) c.put.new.self c.put.new.table
      c.put.ensures.put c.put.ensures.parked c.put.ensures.place c.put.ensures.rows c.put.ensures.outside c.put.ensures.holds);
}
