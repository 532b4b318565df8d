-- Members of objects, one more each time.
use Rattle.std.proofs.Common.{◌≡◌, ℕ, ◌+◌, ◌<◌, ◌≤◌, List, [], ◌∷◌, ◌++◌, length, take, refl, sym, ap, ◌∙◌, append-nil, append_assoc, arith, get_or}
use Rattle.std.specs.Prelude.{map}
use Rattle.std.proofs.lemmas.List.{map-append, take_all, take_more}
use Rattle.pif_text.specs.Json.{separated}
use Rattle.pif_text.specs.Members.{member_text, members_text}
use Rattle.pif_text.specs.declared.members.Member.{Member}
use Rattle.pif_text.proofs.ListLemmas.{comma_behind, comma_first, comma_next, separated_more, separated_none}

-- the texts of members
abbrev pub texts : List Member → List (List ℕ)
texts members = map member_text members

as-texts : (members : List Member) → members_text members ≡ separated (texts members)
unfolding separated
as-texts [] = refl
as-texts (m ∷ []) = refl
as-texts (m ∷ n ∷ more) = ap (λ l. member_text m ++ 44 ∷ l) (as-texts (n ∷ more))

module _ (all : List Member) where
  -- at first nothing is appended
  pub members_start : (before : List ℕ) → before ≡ before ++ separated (texts (take 0 all))
  members_start before = sym (rw separated_none (append-nil before))

  pub members_comma_start : [] ≡ comma_behind (texts (take 0 all))
  members_comma_start = sym comma_first

  next : (place : ℕ) (d : Member) → place < length all
      → texts (take (place + 1) all) ≡ texts (take place all) ++ member_text (get_or all place d) ∷ []
  next place d within =
      ap texts (take_more all place d within) ∙ map-append member_text (take place all) (get_or all place d ∷ [])

  -- the next one, behind what has to stand before it
  pub members_on : (before whole comma : List ℕ) (place : ℕ) (d : Member) → place < length all
      → whole ≡ before ++ separated (texts (take place all)) → comma ≡ comma_behind (texts (take place all))
      → (whole ++ comma) ++ member_text (get_or all place d) ≡ before ++ separated (texts (take (place + 1) all))
  members_on before whole comma place d within w c =
      rw (w, c, next place d within, separated_more (texts (take place all)) (member_text (get_or all place d)))
      (simp append_assoc)

  pub members_comma : (place : ℕ) → place < length all → 44 ∷ [] ≡ comma_behind (texts (take (place + 1) all))
  members_comma place within = by_first all refl
    where
      nothing : {n : ℕ} → n ≡ 0 → place < n → ⊥
      nothing e l = omega arith

      by_first : (l : List Member) → all ≡ l → 44 ∷ [] ≡ comma_behind (texts (take (place + 1) all))
      by_first [] e = absurd (nothing (ap length e) within)
      by_first (d ∷ l) e =
          rw (next place d within) (sym (comma_next (texts (take place all)) (member_text (get_or all place d))))

  -- none is left
  pub members_whole : (before whole : List ℕ) (place : ℕ) → length all ≤ place
      → whole ≡ before ++ separated (texts (take place all)) → whole ≡ before ++ members_text all
  members_whole before whole place end w =
      w ∙ ap (λ l. before ++ separated (texts l)) (take_all place all end) ∙ sym (ap (λ l. before ++ l) (as-texts all))
