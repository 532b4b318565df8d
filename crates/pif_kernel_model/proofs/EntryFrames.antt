-- The owner states of words stand as they stood once others changed the table and kept what is theirs.
use Rattle.std.proofs.Common.{◌≡◌, ◌⊎◌, ℕ, ◌+◌, ◌%◌, ◌<◌, true, eqb, List, length, Some, None, IsSome, option_map, sym, ◌∙◌, ap, subst, inl, inr, arith}
use Rattle.std.proofs.lemmas.Bool.{false≢true}
use Rattle.std.proofs.lemmas.Option.{same_Some}
use Rattle.std.specs.List.{filter}
use Rattle.pif_nodes_model.specs.Lists.{has, first_of}
use Rattle.pif_nodes_model.specs.Table.{NodeLists, list_at, holder, IsApart}
use Rattle.pif_kernel_model.specs.QueueFrames.{KeepsUser}
use Rattle.pif_kernel_model.specs.Entries.{Entries, node_of, word_of_node, found_at, found_in, IsRow, HoldsEntries}
use Rattle.pif_kernel_model.proofs.Firsts.{option-cases}
use Rattle.pif_kernel_model.proofs.EntryLemmas.{bucket-below, is-some}

module _ (e : Entries) (was now : NodeLists)
    (keeps : KeepsUser e.first_list 64 e.first_node (length e.items) was now) where
  bucket-kept : (b : ℕ) → b < 64 → list_at now (e.first_list + b) ≡ list_at was (e.first_list + b)
  bucket-kept b l = keeps.kept.lists (e.first_list + b) (omega arith) (omega (arith, l))

  -- each word has the owner state that it had
  pub found-framed : (w : ℕ) → found_in e now w ≡ found_in e was w
  found-framed w =
      ap (λ (xs : List ℕ). option_map (found_at e) (first_of (filter (λ n. eqb (word_of_node e n) w) xs)))
      (bucket-kept (w % 64) (bucket-below w))

  -- the node of a row is in a bucket if it was
  was-some : HoldsEntries e was → (r : ℕ) → IsRow e r → IsSome (holder now (node_of e r))
      → IsSome (holder was (node_of e r))
  was-some h r row held = by_holder (option-cases (holder was (node_of e r)))
    where
      by_holder : ((holder was (node_of e r) ≡ None) ⊎ ((j : ℕ) × (holder was (node_of e r) ≡ Some j)))
          → IsSome (holder was (node_of e r))
      by_holder (inl none) =
          let wrong : IsSome {T = ℕ} None =
          subst IsSome (keeps.free (node_of e r) (omega arith) (omega (arith, row)) none) held in
          absurd (false≢true wrong)
      by_holder (inr some) = is-some (holder was (node_of e r)) some.0 some.1

  pub entries-framed : HoldsEntries e was → IsApart now → HoldsEntries e now
  entries-framed h apart =
      record {
        apart = apart;
        lists = omega (arith, h.lists, keeps.kept.list_count);
        nodes = omega (arith, h.nodes, keeps.kept.node_count);
        entered = λ b n l there. h.entered b n l (ap (has n) (sym (bucket-kept b l)) ∙ there);
        alone = λ r l row held. by_holder r l row held (option-cases (holder was (node_of e r)));
        once = λ r s row other held held-other word.
            h.once r s row other (was-some h r row held) (was-some h s other held-other) word;
      }
    where
      by_holder : (r l : ℕ) → IsRow e r → holder now (node_of e r) ≡ Some l
          → ((holder was (node_of e r) ≡ None) ⊎ ((j : ℕ) × (holder was (node_of e r) ≡ Some j)))
          → (b : ℕ) × (b < 64) × (l ≡ e.first_list + b)
      by_holder r l row held (inl none) =
          let wrong : Some l ≡ None = sym held ∙ keeps.free (node_of e r) (omega arith) (omega (arith, row)) none in
          absurd cc
      by_holder r l row held (inr some) =
          let at : (b : ℕ) × (b < 64) × (some.0 ≡ e.first_list + b) = h.alone r some.0 row some.1 in
          let there : has (node_of e r) (list_at was (e.first_list + at.0)) ≡ true =
          h.apart.listed (e.first_list + at.0) (node_of e r) (some.1 ∙ ap Some at.2) in
          let here : holder now (node_of e r) ≡ Some (e.first_list + at.0) =
          apart.alone (e.first_list + at.0) (node_of e r)
          (ap (has (node_of e r)) (bucket-kept at.0 at.1) ∙ there) in
          (at.0, at.1, same_Some l (e.first_list + at.0) (sym held ∙ here))
