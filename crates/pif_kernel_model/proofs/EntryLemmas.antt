-- Where the owner state of a word stands.
use Rattle.std.proofs.Common.{◌≡◌, ◌≢◌, ◌⊎◌, ℕ, ◌+◌, ◌%◌, ◌<◌, true, eqb, Option, Some, None, IsSome, option_map, refl, sym, ◌∙◌, ap, subst, inl, inr, arith}
use Rattle.std.proofs.Math.Nat.{mod-lt}
use Rattle.std.proofs.lemmas.Bool.{eqb-true, eq-eqb}
use Rattle.pif_nodes_model.specs.Lists.{has}
use Rattle.pif_nodes_model.specs.Table.{NodeLists, list_at, holder}
use Rattle.pif_kernel_model.specs.Entries.{Entries, Found, bucket_of, node_of, row_of, word_of_node, node_with, found_at, found_in, IsRow, IsEntered, HoldsEntries}
use Rattle.pif_kernel_model.proofs.Firsts.{option-cases, first-passes, passes-first}

-- a bucket is one of 64
pub bucket-below : (w : ℕ) → w % 64 < 64
bucket-below w = mod-lt w (omega arith)

-- something is there
pub is-some : (o : Option ℕ) (x : ℕ) → o ≡ Some x → IsSome o
is-some o x e = subst IsSome (sym e) refl

module _ (e : Entries) (t : NodeLists) (h : HoldsEntries e t) where
  -- the node of the owner state of a word is in the bucket of the word, and has the word
  pub with-stands : (w n : ℕ) → node_with e t w ≡ Some n
      → (holder t n ≡ Some (bucket_of e w)) × (word_of_node e n ≡ w) × IsEntered e (w % 64) n
  with-stands w n at =
      let first : (has n (list_at t (bucket_of e w)) ≡ true) × (eqb (word_of_node e n) w ≡ true) =
      first-passes (λ m. eqb (word_of_node e m) w) (list_at t (bucket_of e w)) n at in (
        h.apart.alone (bucket_of e w) n first.0,
        eqb-true (word_of_node e n) w first.1,
        h.entered (w % 64) n (bucket-below w) first.0,
      )

  -- and a node that is there and has the word is that node
  pub stands-with : (w n : ℕ) → holder t n ≡ Some (bucket_of e w) → word_of_node e n ≡ w → node_with e t w ≡ Some n
  stands-with w n held word =
      let there : has n (list_at t (bucket_of e w)) ≡ true = h.apart.listed (bucket_of e w) n held in
      let first : (m : ℕ) × (node_with e t w ≡ Some m) =
      passes-first (λ m. eqb (word_of_node e m) w) (list_at t (bucket_of e w)) n there (eq-eqb (word_of_node e n) w word) in
      let other : (holder t first.0 ≡ Some (bucket_of e w)) × (word_of_node e first.0 ≡ w) × IsEntered e (w % 64) first.0 =
      with-stands w first.0 first.1 in
      let one : IsEntered e (w % 64) n = h.entered (w % 64) n (bucket-below w) there in
      let here : node_of e (row_of e n) ≡ n = omega (arith, one.low) in
      let same : row_of e n ≡ row_of e first.0 =
      h.once (row_of e n) (row_of e first.0) one.row other.2.row
      (is-some (holder t (node_of e (row_of e n))) (bucket_of e w) (ap (holder t) here ∙ held))
      (is-some (holder t (node_of e (row_of e first.0))) (bucket_of e w)
      (ap (holder t) (omega (arith, other.2.low)) ∙ other.0))
      (word ∙ sym other.1) in
      let node : first.0 ≡ n = omega (arith, one.low, other.2.low, same) in
      first.1 ∙ ap Some node

  -- a row that no word has is in no list
  pub row-free : (r : ℕ) → IsRow e r → ((w : ℕ) (f : Found) → found_in e t w ≡ Some f → f.row ≢ r)
      → holder t (node_of e r) ≡ None
  row-free r row free = by_holder (option-cases (holder t (node_of e r)))
    where
      by_holder : ((holder t (node_of e r) ≡ None) ⊎ ((l : ℕ) × (holder t (node_of e r) ≡ Some l)))
          → holder t (node_of e r) ≡ None
      by_holder (inl none) = none
      by_holder (inr some) =
          let n : ℕ = node_of e r in
          let in' : (b : ℕ) × (b < 64) × (some.0 ≡ e.first_list + b) = h.alone r some.0 row some.1 in
          let list : holder t n ≡ Some (e.first_list + in'.0) = some.1 ∙ ap Some in'.2 in
          let is : IsEntered e in'.0 n = h.entered in'.0 n in'.1 (h.apart.listed (e.first_list + in'.0) n list) in
          let w : ℕ = word_of_node e n in
          let at : node_with e t w ≡ Some n =
          stands-with w n (list ∙ ap (λ b. Some (e.first_list + b)) (sym is.bucket)) refl in
          absurd (free w (found_at e n) (ap (option_map (found_at e)) at) (omega arith))

-- a word that has no owner state has no node
pub no-node : (e : Entries) (t : NodeLists) (w : ℕ) → found_in e t w ≡ None → node_with e t w ≡ None
no-node e t w none = by_node (option-cases (node_with e t w))
  where
    by_node : ((node_with e t w ≡ None) ⊎ ((n : ℕ) × (node_with e t w ≡ Some n))) → node_with e t w ≡ None
    by_node (inl is) = is
    by_node (inr some) =
        let wrong : Some (found_at e some.0) ≡ None = sym (ap (option_map (found_at e)) some.1) ∙ none in absurd cc
