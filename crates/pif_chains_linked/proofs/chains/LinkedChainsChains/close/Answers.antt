use Rattle.std.proofs.Common.{◌≡◌, ◌≢◌, ◌+◌, ◌<◌, ℕ, Some, None, IsSome, length, get_or, set, subst, sym, ap, ◌∙◌}
use Rattle.std.proofs.lemmas.Option.{same_Some}
use Rattle.std.specs.FinMap.{get, remove}
use Rattle.pif_kernel_model.specs.Owners.{count, owner_at, HasNoWaiter, without_state}
use Rattle.pif_kernel_model.specs.States.{owners_in}
use Rattle.pif_kernel_model.specs.Entries.{Found, found_in}
use Rattle.pif_kernel_model.specs.Buckets.{Buckets}
use Rattle.pif_kernel_model.specs.Chained.{Chained, KeepsLevels}
use Rattle.pif_chains_linked.specs.Linked.{key_count}
use Rattle.pif_chains_linked.proofs.Standing.{linked}
use Rattle.pif_kernel_model.proofs.SamePlace.{same_place_made}
use Rattle.pif_chains_linked.proofs.Words.{mutex_word, one_word, worded_owners, linked_worded, worded_kept}
use Rattle.pif_chains_linked.proofs.chains.LinkedChainsChains.close.Goals as goal

pub end-requires-clause-holds : goal.end-requires-clause-holds
end-requires-clause-holds c = c.self.invariant.stand.owners

pub end-requires-clause-state : goal.end-requires-clause-state
end-requires-clause-state c = subst (λ (x : Chained). IsSome (owner_at x.owners c.args.key)) (sym c.self.view_is) c.requires.state

pub end-requires-clause-free : goal.end-requires-clause-free
end-requires-clause-free c = subst (λ (x : Chained). HasNoWaiter x.owners c.args.key) (sym c.self.view_is) c.requires.free

pub row-row-requires-clause-holds : goal.row-row-requires-clause-holds
row-row-requires-clause-holds c = c.self.invariant.stand.owners

pub row-row-requires-clause-state : goal.row-row-requires-clause-state
row-row-requires-clause-state c = subst (λ (x : Chained). IsSome (owner_at x.owners c.args.key)) (sym c.self.view_is) c.requires.state

pub forget_at-requires-clause-row : goal.forget_at-requires-clause-row
forget_at-requires-clause-row c =
    let w =
    mutex_word c.self.inside.owners c.self.inside.queue c.self.inside.buckets c.self.inside.table c.self.inside.next c.self.invariant
    c.get.result c.args.m c.args.key c.get.ensures.value
    (subst (λ (x : Chained). get_or x.keys c.args.m None ≡ Some c.args.key) (sym c.self.view_is) c.requires.mutex) in (
      w.0,
      w.1,
      same_Some w.0.row c.row-row.result
          (sym (c.self.invariant.words c.get.result w.0 w.1).row ∙ ap (get c.self.inside.owners.places) w.2 ∙ c.row-row.ensures.value),
    )

-- the word of the mutex
word : (c : goal.After-forget_at) → (f : Found) × (found_in c.self.inside.buckets.entries c.self.inside.table c.get.result ≡ Some f)
    × (f.key ≡ c.args.key) × (c.get.result < key_count)
word c =
    mutex_word c.self.inside.owners c.self.inside.queue c.self.inside.buckets c.self.inside.table c.self.inside.next c.self.invariant
    c.get.result c.args.m c.args.key c.get.ensures.value
    (subst (λ (x : Chained). get_or x.keys c.args.m None ≡ Some c.args.key) (sym c.self.view_is) c.requires.mutex)

none : (c : goal.After-forget_at) (f : Found) → None ≡ Some f → get c.end.new.self.places f.key ≡ Some f.row
none c f e = absurd cc

others : (c : goal.After-forget_at) (v : ℕ) (f : Found) → v ≢ c.get.result
    → found_in c.self.inside.buckets.entries c.self.inside.table v ≡ Some f → get c.end.new.self.places f.key ≡ Some f.row
others c v f ne is =
    c.end.ensures.rows f.key f.row
    (λ same. ne (one_word c.self.inside.owners c.self.inside.queue c.self.inside.buckets c.self.inside.table c.self.inside.next c.self.invariant
    v c.get.result f (word c).0 is (word c).1 (same ∙ sym (word c).2)))
    (c.self.invariant.words v f is).row

same_words : (b b' : Buckets) → b' ≡ b → b' ≡ record b { entries = record b.entries { items = b'.entries.items } }
same_words b b' e =
    e ∙ (λ i. record b { entries = record b.entries { items = ap (λ (x : Buckets). x.entries.items) (sym e) i } })

pub invariant_of-self : goal.invariant_of-self
invariant_of-self c =
    linked_worded c.self.inside.owners c.self.inside.queue c.self.inside.buckets c.self.inside.table c.self.inside.next c.self.invariant
    c.end.new.self (same_place_made _ _ c.end.ensures.place) c.end.ensures.holds
    (remove c.self.inside.owners.owners c.args.key) c.end.ensures.ended c.get.result (word c).3
    None (none c) (others c) c.forget_at.new.self c.forget_at.new.table
    c.forget_at.ensures.forgotten c.forget_at.ensures.parked (same_words _ _ c.forget_at.ensures.place)
    (ap (λ (x : Buckets). length x.entries.items) c.forget_at.ensures.place) c.forget_at.ensures.outside c.forget_at.ensures.holds

owned : (c : goal.After-forget_at) → owners_in c.end.new.self c.forget_at.new.table
    ≡ without_state c.args.key (owners_in c.self.inside.owners c.self.inside.table)
owned c =
    worded_owners c.self.inside.owners c.self.inside.queue c.self.inside.buckets c.self.inside.table c.self.inside.next c.self.invariant
    c.end.new.self (same_place_made _ _ c.end.ensures.place) c.end.ensures.holds
    (remove c.self.inside.owners.owners c.args.key) c.end.ensures.ended c.get.result (word c).3
    None (none c) (others c) c.forget_at.new.self c.forget_at.new.table
    c.forget_at.ensures.forgotten c.forget_at.ensures.parked (same_words _ _ c.forget_at.ensures.place)
    (ap (λ (x : Buckets). length x.entries.items) c.forget_at.ensures.place) c.forget_at.ensures.outside c.forget_at.ensures.holds

pub returns : goal.returns
returns c = record {
  ended = owned c ∙ ap (λ (x : Chained). without_state c.args.key x.owners) c.self.view_is;
  count =
      ap (λ v. count v + 1) (owned c ∙ sym c.end.ensures.ended) ∙ c.end.ensures.count
      ∙ ap (λ (x : Chained). count x.owners) c.self.view_is;
  kept =
      subst (λ (x : Chained × ℕ). KeepsLevels (record x.0 { keys = set x.0.keys x.1 None })
      (linked c.end.new.self c.self.inside.queue c.forget_at.new.self c.forget_at.new.table))
      (λ i. (c.self.view_is i, c.get.ensures.value i))
      (worded_kept c.self.inside.owners c.self.inside.queue c.self.inside.buckets c.self.inside.table c.self.inside.next c.self.invariant
      c.end.new.self (same_place_made _ _ c.end.ensures.place) c.end.ensures.holds
      (remove c.self.inside.owners.owners c.args.key) c.end.ensures.ended c.get.result (word c).3
      None (none c) (others c) c.forget_at.new.self c.forget_at.new.table
      c.forget_at.ensures.forgotten c.forget_at.ensures.parked (same_words _ _ c.forget_at.ensures.place)
      (ap (λ (x : Buckets). length x.entries.items) c.forget_at.ensures.place) c.forget_at.ensures.outside c.forget_at.ensures.holds);
}
