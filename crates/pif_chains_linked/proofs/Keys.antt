-- The keys of the mutexes, as they are found by words.
use Rattle.std.proofs.Common.{◌≡◌, ◌≢◌, ◌⊎◌, ℕ, ◌<◌, ◌≤◌, ◌==◌, true, false, length, get_or, set, if◌then◌else◌, Option, Some, None, option_map, refl, sym, ap, ◌∙◌, inl, inr, arith}
use Rattle.std.proofs.lemmas.Bool.{cases_eq, cases_lt}
use Rattle.std.proofs.lemmas.Bool.Decides.{nat_tests}
use Rattle.std.proofs.lemmas.Option.{same_Some}
use Rattle.std.proofs.lemmas.List.{get_or_past, get_or-set_same, get_or-set_other, length-set}
use Rattle.std.proofs.lemmas.List.FromFn.{fill_by_all, length-map-range_with_len, get_or-map-range_with_len}
use Rattle.pif_nodes_model.specs.Table.{NodeLists}
use Rattle.pif_kernel_model.specs.Entries.{Entries, Found, entry_at, found_at, found_in, node_with, HoldsEntries}
use Rattle.pif_kernel_model.proofs.EntryLemmas.{with-stands}
use Rattle.pif_chains_linked.specs.Linked.{key_count, key_of, keys_in}

-- what stands at a number that is changed, and at another
pub at_same : {A : Type 0} → (u t : ℕ) (x y : A) → u ≡ t → (if u == t then x else y) ≡ x
at_same u t x y e = let here : (u == t) ≡ true = grind (arith, nat_tests) in rw here refl

pub at_other : {A : Type 0} → (u t : ℕ) (x y : A) → u ≢ t → (if u == t then x else y) ≡ y
at_other u t x y ne = let there : (u == t) ≡ false = grind (arith, nat_tests) in rw there refl

module _ (e : Entries) (t : NodeLists) where
  pub keys_length : length (keys_in e t) ≡ key_count
  keys_length = length-map-range_with_len (λ w. key_of (found_in e t w)) 0 key_count

  pub keys_at : (w : ℕ) → w < key_count → get_or (keys_in e t) w None ≡ key_of (found_in e t w)
  keys_at w l =
      get_or-map-range_with_len (λ v. key_of (found_in e t v)) 0 key_count w w None l (omega arith)

  -- also beyond all mutexes, if no word is found
  pub keys_found : (w : ℕ) → ((f : Found) → found_in e t w ≡ Some f → w < key_count)
      → get_or (keys_in e t) w None ≡ key_of (found_in e t w)
  keys_found w few = by_place (cases_lt w key_count)
    where
      by_found : (o : Option Found) → found_in e t w ≡ o → key_count ≤ w → found_in e t w ≡ None
      by_found None is p = is
      by_found (Some f) is p = let l : w < key_count = few f is in absurd (omega (arith, l, p))

      by_place : ((w < key_count) ⊎ (key_count ≤ w)) → get_or (keys_in e t) w None ≡ key_of (found_in e t w)
      by_place (inl l) = keys_at w l
      by_place (inr p) =
          get_or_past (keys_in e t) w None (omega (arith, keys_length, p))
          ∙ ap key_of (sym (by_found (found_in e t w) refl p))

  -- a word with a key was found, and one without was not
  pub found_some : (w k : ℕ) → key_of (found_in e t w) ≡ Some k → (f : Found) × (found_in e t w ≡ Some f) × (f.key ≡ k)
  found_some w k key = by_found (found_in e t w) refl
    where
      by_found : (o : Option Found) → found_in e t w ≡ o → (f : Found) × (found_in e t w ≡ Some f) × (f.key ≡ k)
      by_found None is = let wrong : None ≡ Some k = sym (ap key_of is) ∙ key in absurd cc
      by_found (Some f) is = (f, is, same_Some f.key k (sym (ap key_of is) ∙ key))

  pub found_none : (w : ℕ) → key_of (found_in e t w) ≡ None → found_in e t w ≡ None
  found_none w key = by_found (found_in e t w) refl
    where
      by_found : (o : Option Found) → found_in e t w ≡ o → found_in e t w ≡ None
      by_found None is = is
      by_found (Some f) is = let wrong : Some f.key ≡ None = sym (ap key_of is) ∙ key in absurd cc

  -- the row of a word has that word
  pub row_word : HoldsEntries e t → (w : ℕ) (f : Found) → found_in e t w ≡ Some f → (entry_at e f.row).word ≡ w
  row_word h w f is = by_node (node_with e t w) refl
    where
      by_node : (o : Option ℕ) → node_with e t w ≡ o → (entry_at e f.row).word ≡ w
      by_node None at = let wrong : None ≡ Some f = sym (ap (option_map (found_at e)) at) ∙ is in absurd cc
      by_node (Some n) at =
          let same : Some (found_at e n) ≡ Some f = sym (ap (option_map (found_at e)) at) ∙ is in
          let rows : Some (found_at e n).row ≡ Some f.row = ap (option_map (λ (x : Found). x.row)) same in
          ap (λ r. (entry_at e r).word) (sym (same_Some (found_at e n).row f.row rows)) ∙ (with-stands e t h w n at).1

-- a word has another key, or none
pub keys_changed : (e e' : Entries) (t t' : NodeLists) (w : ℕ) (x : Option Found) → w < key_count
    → ((v : ℕ) → found_in e' t' v ≡ (if v == w then x else found_in e t v))
    → keys_in e' t' ≡ set (keys_in e t) w (key_of x)
keys_changed e e' t t' w x few change =
    sym (fill_by_all (λ v. key_of (found_in e' t' v)) (set (keys_in e t) w (key_of x)) key_count None
    (length-set (keys_in e t) w (key_of x) ∙ keys_length e t) (λ v l. by_word v l (cases_eq v w)))
  where
    by_word : (v : ℕ) → v < key_count → ((v ≡ w) ⊎ (v ≡ w → ⊥))
        → get_or (set (keys_in e t) w (key_of x)) v None ≡ key_of (found_in e' t' v)
    by_word v l (inl same) =
        ap (λ j. get_or (set (keys_in e t) w (key_of x)) j None) same
        ∙ get_or-set_same (keys_in e t) w (key_of x) None (omega (arith, few, keys_length e t))
        ∙ ap key_of (sym (change v ∙ at_same v w x (found_in e t v) same))
    by_word v l (inr ne) =
        get_or-set_other (keys_in e t) w v (key_of x) None ne ∙ keys_at e t v l
        ∙ ap key_of (sym (change v ∙ at_other v w x (found_in e t v) ne))
