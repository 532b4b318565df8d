-- Chains of waiting, one thread after the other.
use Rattle.std.proofs.Common.{◌≡◌, ℕ, suc, ◌+◌, ◌-◌, ◌<◌, ◌≤◌, List, [], ◌∷◌, ◌++◌, Option, Some, None, refl, sym, ap, ◌∙◌, append-nil, append_assoc, arith}
use Rattle.pif_model.specs.Table.{Table}
use Rattle.pif_text_core.specs.Waiting.{awaited, blocker}
use Rattle.pif_text.specs.Json.{name_text}
use Rattle.pif_story_states.specs.Objects.{chain_from, mutex_link}

-- what stands behind the mutex for which a thread waits
abbrev rest_by : Table → ℕ → Option ℕ → List ℕ
rest_by s more None = []
rest_by s more (Some owner) = 44 ∷ chain_from more s owner

chain_more : (s : Table) (t place most : ℕ) → place < most
    → chain_from (most - place) s t
    ≡ name_text 116 t ++ mutex_link (awaited t s) ++ rest_by s (most - (place + 1)) (blocker t s)
unfolding chain_from
chain_more s t place most l =
    let same : most - place ≡ suc (most - (place + 1)) = omega arith in
    rw same (by_option (blocker t s))
  where
    by_option : (o : Option ℕ)
        → name_text 116 t ++ mutex_link (awaited t s)
        ++ elim o [ None ↦ [] | Some owner ↦ (44 ∷ []) ++ chain_from (most - (place + 1)) s owner ]
        ≡ name_text 116 t ++ mutex_link (awaited t s) ++ rest_by s (most - (place + 1)) o
    by_option None = refl
    by_option (Some owner) = refl

chain_last : (s : Table) (t : ℕ) → chain_from 0 s t ≡ name_text 116 t
unfolding chain_from
chain_last s t = refl

module _ (whole text : List ℕ) (s : Table) (t place most : ℕ)
    (made : whole ≡ text ++ chain_from (most - place) s t) where
  made_more : place < most
      → whole ≡ ((text ++ name_text 116 t) ++ mutex_link (awaited t s)) ++ rest_by s (most - (place + 1)) (blocker t s)
  made_more l = rw (made, chain_more s t place most l) (simp append_assoc)

  -- a thread that waits for one that is waited for
  pub chain_on : (owner : ℕ) → place < most → blocker t s ≡ Some owner
      → whole ≡ (((text ++ name_text 116 t) ++ mutex_link (awaited t s)) ++ 44 ∷ []) ++ chain_from (most - (place + 1)) s owner
  chain_on owner l e =
      made_more l ∙ ap (λ o. ((text ++ name_text 116 t) ++ mutex_link (awaited t s)) ++ rest_by s (most - (place + 1)) o) e
      ∙ sym (append_assoc ((text ++ name_text 116 t) ++ mutex_link (awaited t s)) (44 ∷ []) (chain_from (most - (place + 1)) s owner))

  -- the last thread of a chain
  pub chain_out : place < most → blocker t s ≡ None → (text ++ name_text 116 t) ++ mutex_link (awaited t s) ≡ whole
  chain_out l e =
      sym (made_more l ∙ ap (λ o. ((text ++ name_text 116 t) ++ mutex_link (awaited t s)) ++ rest_by s (most - (place + 1)) o) e
      ∙ append-nil ((text ++ name_text 116 t) ++ mutex_link (awaited t s)))

  -- as many as there may be
  pub chain_end : most ≤ place → text ++ name_text 116 t ≡ whole
  chain_end l =
      let same : most - place ≡ 0 = omega arith in
      sym (made ∙ ap (λ n. text ++ chain_from n s t) same ∙ ap (λ x. text ++ x) (chain_last s t))
