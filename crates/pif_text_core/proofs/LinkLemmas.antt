-- The links of a chain, one after the other, as they are told, and as they are compared with those of another core.
use Rattle.std.proofs.Common.{◌≡◌, ℕ, suc, ◌+◌, ◌-◌, ◌<◌, ◌≤◌, Bool, true, false, cond, List, [], ◌++◌, Option, Some, None, refl, sym, ap, ◌∙◌, subst, append-nil, append_assoc, arith}
use Rattle.std.specs.Prelude.{◌&&◌, codes}
use Rattle.pif_model.specs.Table.{Table}
use Rattle.pif_text_model.specs.Replies.{mutex_name}
use Rattle.pif_text_core.specs.Waiting.{awaited, begins_chain}
use Rattle.pif_text_core.specs.declared.parts.Holder.{Holder}
use Rattle.pif_text_core.specs.Changes.{awaited_holder, link_stays, links_stay, met_or_none}
use Rattle.pif_text_core.specs.Texts.{chain_line, chain_line_at, holder_of, holder_text, if_some, links_text}

one_less : (n place : ℕ) → place < n → n - place ≡ suc (n - (place + 1))
one_less n place lt = omega (arith, lt)

-- ---- links that are written

abbrev behind : (names : List (List ℕ)) → Table → ℕ → Option Holder → List ℕ
behind names s more o = if_some (λ h. codes " -> " ++ holder_text names h ++ links_text names more s h.owner) o

abbrev linked : (names : List (List ℕ)) → Table → ℕ → Option ℕ → List ℕ
linked names s more o = if_some (λ m. codes " -> " ++ mutex_name m ++ behind names s more (holder_of m s)) o

more_links : (names : List (List ℕ)) (s : Table) (t more : ℕ) → links_text names (suc more) s t ≡ linked names s more (awaited t s)
unfolding links_text
more_links names s t more = refl

no_links : (names : List (List ℕ)) (s : Table) (t : ℕ) → links_text names 0 s t ≡ []
unfolding links_text
no_links names s t = refl

regroup : (a b c d : List ℕ) → a ++ (b ++ (c ++ d)) ≡ ((a ++ b) ++ c) ++ d
regroup a b c d = sym (append_assoc a b (c ++ d)) ∙ sym (append_assoc (a ++ b) c d)

module _ (names : List (List ℕ)) (s : Table) (t n place : ℕ) (whole text : List ℕ) (told : whole ≡ text ++ links_text names (n - place) s t) where
  links_here : place < n → whole ≡ text ++ linked names s (n - (place + 1)) (awaited t s)
  links_here lt =
      told ∙ ap (λ k. text ++ links_text names k s t) (one_less n place lt)
      ∙ ap (λ l. text ++ l) (more_links names s t (n - (place + 1)))

  -- a thread that waits for none
  pub links_end : place < n → awaited t s ≡ None → text ≡ whole
  links_end lt a =
      sym (links_here lt ∙ ap (λ o. text ++ linked names s (n - (place + 1)) o) a ∙ append-nil text)

  module _ (m : ℕ) (lt : place < n) (a : awaited t s ≡ Some m) where
    links_at : whole ≡ text ++ linked names s (n - (place + 1)) (Some m)
    links_at = links_here lt ∙ ap (λ o. text ++ linked names s (n - (place + 1)) o) a

    -- a mutex that nobody holds
    pub links_open : holder_of m s ≡ None → text ++ (codes " -> " ++ mutex_name m) ≡ whole
    links_open e =
        sym (links_at ∙ ap (λ o. text ++ (codes " -> " ++ mutex_name m ++ behind names s (n - (place + 1)) o)) e
        ∙ ap (λ l. text ++ l) (append-nil (codes " -> " ++ mutex_name m)))

    -- a mutex that is held
    pub links_next : (h : Holder) → holder_of m s ≡ Some h
        → whole ≡ ((text ++ (codes " -> " ++ mutex_name m)) ++ (codes " -> " ++ holder_text names h)) ++ links_text names (n - (place + 1)) s h.owner
    links_next h e =
        links_at ∙ ap (λ o. text ++ (codes " -> " ++ mutex_name m ++ behind names s (n - (place + 1)) o)) e
        ∙ regroup text (codes " -> " ++ mutex_name m) (codes " -> " ++ holder_text names h) (links_text names (n - (place + 1)) s h.owner)

  -- no more places
  pub links_out : n ≤ place → text ≡ whole
  links_out le =
      let e : n - place ≡ 0 = omega (arith, le) in
      sym (told ∙ ap (λ k. text ++ links_text names k s t) e ∙ ap (λ l. text ++ l) (no_links names s t) ∙ append-nil text)

pub links_first : (names : List (List ℕ)) (s : Table) (t n : ℕ) → links_text names n s t ≡ [] ++ links_text names (n - 0) s t
links_first names s t n = let e : n ≡ n - 0 = omega arith in ap (λ k. links_text names k s t) e

-- a thread with which no chain begins
pub no_chain : (names : List (List ℕ)) (s : Table) (t n : ℕ) (b : Bool) → b ≡ begins_chain s t → b ≡ false → t ≡ n → [] ≡ chain_line_at names s n
no_chain names s t n b e f g = subst (λ k. [] ≡ chain_line_at names s k) g (by_test (begins_chain s t) (sym e ∙ f))
  where
    by_test : (x : Bool) → x ≡ false → [] ≡ cond x (chain_line names s t) []
    by_test true h = absurd (cc)
    by_test false h = refl

-- ---- links that stay

abbrev behind_stays : (more : ℕ) → (before now : Table) → Option Holder → Bool
behind_stays more before now o = met_or_none (λ h. links_stay more before now h.owner) o

more_stay : (before now : Table) (t more : ℕ)
    → links_stay (suc more) before now t ≡ (link_stays before now t && behind_stays more before now (awaited_holder t now))
unfolding links_stay
more_stay before now t more = refl

no_stay : (before now : Table) (t : ℕ) → links_stay 0 before now t ≡ true
unfolding links_stay
no_stay before now t = refl

module _ (before now : Table) (t n place : ℕ) (whole : Bool) (told : whole ≡ links_stay (n - place) before now t) where
  stays_here : place < n
      → whole ≡ (link_stays before now t && behind_stays (n - (place + 1)) before now (awaited_holder t now))
  stays_here lt = told ∙ ap (λ k. links_stay k before now t) (one_less n place lt) ∙ more_stay before now t (n - (place + 1))

  -- no more places
  pub stays_out : n ≤ place → true ≡ whole
  stays_out le =
      let e : n - place ≡ 0 = omega (arith, le) in
      sym (told ∙ ap (λ k. links_stay k before now t) e ∙ no_stay before now t)

  module _ (lt : place < n) (b : Bool) (same : b ≡ link_stays before now t) where
    -- another link
    pub stays_no_more : b ≡ false → false ≡ whole
    stays_no_more f =
        sym (stays_here lt ∙ ap (λ x. x && behind_stays (n - (place + 1)) before now (awaited_holder t now)) (sym same ∙ f))

    stays_behind : b ≡ true → whole ≡ behind_stays (n - (place + 1)) before now (awaited_holder t now)
    stays_behind f =
        stays_here lt ∙ ap (λ x. x && behind_stays (n - (place + 1)) before now (awaited_holder t now)) (sym same ∙ f)

    -- the last link
    pub stays_to_end : b ≡ true → awaited_holder t now ≡ None → true ≡ whole
    stays_to_end f a = sym (stays_behind f ∙ ap (behind_stays (n - (place + 1)) before now) a)

    -- one that others follow
    pub stays_next : b ≡ true → (h : Holder) → awaited_holder t now ≡ Some h
        → whole ≡ links_stay (n - (place + 1)) before now h.owner
    stays_next f h a = stays_behind f ∙ ap (behind_stays (n - (place + 1)) before now) a

pub stays_first : (before now : Table) (t n : ℕ) → links_stay n before now t ≡ links_stay (n - 0) before now t
stays_first before now t n = let e : n ≡ n - 0 = omega arith in ap (λ k. links_stay k before now t) e
