-- Lists of turns: what a longer one has of a pass, and what it left.
use Rattle.std.proofs.Common.{◌≡◌, ◌≢◌, ◌⊎◌, ℕ, ◌==◌, Bool, true, false, List, [], ◌∷◌, ◌++◌, if◌then◌else◌, Option, Some, None, sym, refl, ap, ◌∙◌, subst, inl, inr, ne_eqb, eq-eqb}
use Rattle.std.proofs.lemmas.List.{append_assoc}
use Rattle.pif_quick.specs.declared.rule.Turn.{Turn}
use Rattle.pif_quick.specs.declared.rule.Record.{Record}
use Rattle.pif_quick.specs.Turns.{left_by, IsChainOfTurns, turns_by, IsOlder, IsSound, with_open, closed, closed_from}

module _ {T : Type 0} where
  turns_by-cons : (p : ℕ) (c : Bool) (x : T × T) (ts us : List (Turn T))
      → turns_by p (ts ++ us) ≡ turns_by p ts ++ turns_by p us
      → (if c then x ∷ turns_by p (ts ++ us) else turns_by p (ts ++ us)) ≡
      (if c then x ∷ turns_by p ts else turns_by p ts) ++ turns_by p us
  turns_by-cons p true x ts us e = ap (λ (l : List (T × T)). x ∷ l) e
  turns_by-cons p false x ts us e = e

  pub turns_by-append : (p : ℕ) (ts us : List (Turn T)) → turns_by p (ts ++ us) ≡ turns_by p ts ++ turns_by p us
  turns_by-append p [] us = refl
  turns_by-append p (t ∷ ts) us = turns_by-cons p (t.pass == p) (t.found, t.left) ts us (turns_by-append p ts us)

  -- newer turns of others add none of one's own
  pub turns_by-others : (p : ℕ) (newer ts : List (Turn T)) → turns_by p newer ≡ []
      → turns_by p (newer ++ ts) ≡ turns_by p ts
  turns_by-others p newer ts e = turns_by-append p newer ts ∙ ap (λ (l : List (T × T)). l ++ turns_by p ts) e

  pub turns_by-one : (p : ℕ) (t : Turn T) (ts : List (Turn T)) → t.pass ≡ p
      → turns_by p (t ∷ ts) ≡ (t.found, t.left) ∷ turns_by p ts
  turns_by-one p t ts e = ap (λ (c : Bool). if c then (t.found, t.left) ∷ turns_by p ts else turns_by p ts)
      (eq-eqb t.pass p e)

  pub turns_by-other : (p : ℕ) (t : Turn T) (ts : List (Turn T)) → t.pass ≢ p → turns_by p (t ∷ ts) ≡ turns_by p ts
  turns_by-other p t ts n = ap (λ (c : Bool). if c then (t.found, t.left) ∷ turns_by p ts else turns_by p ts)
      (ne_eqb t.pass p n)

  -- an older part of a chain is one
  pub chain-older : (o : Option T) (newer ts : List (Turn T)) → IsChainOfTurns o (newer ++ ts) → IsChainOfTurns o ts
  chain-older o [] ts h = h
  chain-older o (t ∷ newer) ts h = chain-older o newer ts h.1

  -- if there is an opening value, some value was left
  pub left_by-some : (o : Option T) (x : T) (log : List (Turn T)) → o ≡ Some x → (f : T) × (left_by o log ≡ Some f)
  left_by-some o x [] e = (x, e)
  left_by-some o x (t ∷ ts) e = (t.left, refl)

  -- an open turn is no closed one
  pub open-not_none : (f : T) → ◌≡◌ {A = Option T} (Some f) None → ⊥
  open-not_none f e = cc

  -- an older part of a list is one of a longer list
  pub older-more : (extra xs ys : List (Turn T)) → IsOlder xs ys → IsOlder xs (extra ++ ys)
  older-more extra xs ys h = (extra ++ h.0, append_assoc extra h.0 xs ∙ ap (λ (l : List (Turn T)). extra ++ l) h.1)

  tail_or : List (Turn T) → List (Turn T) → List (Turn T)
  tail_or d [] = d
  tail_or d (t ∷ ts) = ts

  -- of two older parts of one list, each with what is newer, one is an older part of the other
  pub older-either : (a b xs ys : List (Turn T)) → a ++ xs ≡ b ++ ys → IsOlder xs ys ⊎ IsOlder ys xs
  unfolding tail_or
  older-either [] b xs ys e = inr (b, sym e)
  older-either (t ∷ a) [] xs ys e = inl (t ∷ a, e)
  older-either (t ∷ a) (u ∷ b) xs ys e = older-either a b xs ys (ap (tail_or []) e)

  -- the record whose open turn found f is sound, if the turns and what they left are known
  pub sound-opened : (p : ℕ) (f : T) (newer : List (Turn T)) (r : Record T) → IsChainOfTurns r.opening (newer ++ r.turns)
      → left_by r.opening (newer ++ r.turns) ≡ Some f
      → turns_by p newer ≡ [] → turns_by p r.turns ≡ r.made → IsSound p (with_open f newer r)
  sound-opened p f newer r chain left others own = record {
    chain = chain;
    open_turn = λ g e. left ∙ e;
    own = turns_by-others p newer r.turns others ∙ own;
    last = λ e. absurd (open-not_none f e);
  }

  -- the record whose open turn, which found f, left v
  pub closed-is : (p : ℕ) (v f : T) (r : Record T) → r.found ≡ Some f → closed p v r ≡ closed_from p v (Some f) r
  closed-is p v f r e = ap (λ (o : Option T). closed_from p v o r) e

  -- a closed record is sound
  pub sound-closed : (p : ℕ) (v f : T) (r : Record T) → r.found ≡ Some f → IsSound p r → IsSound p (closed p v r)
  sound-closed p v f r e s = subst (IsSound p) (sym (closed-is p v f r e)) record {
    chain = (s.open_turn f e, s.chain);
    open_turn = λ g h. cc;
    own = turns_by-one p (record { pass = p; found = f; left = v }) r.turns refl
        ∙ ap (λ (l : List (T × T)). (f, v) ∷ l) s.own;
    last = λ _. refl;
  }
