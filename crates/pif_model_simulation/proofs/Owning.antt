-- What a sound mutex says of its waiters, its owner state and its health, and what a new word leaves of it.
use Rattle.std.proofs.Common.{◌≡◌, ◌≢◌, ℕ, Bool, true, false, cond, ◌==◌, List, [], ◌∷◌, map, filter, refl, sym, ap, ◌∙◌, if◌then◌else◌, eq-eqb, ap₂}
use Rattle.std.proofs.lemmas.Bool.{true≢false, or_parts}
use Rattle.pif_model.specs.Graph.{has_waiter, first_greatest, next_waiter}
use Rattle.pif_model.specs.Word.{Word}
use Rattle.pif_model.specs.World.Health.{Fine}
use Rattle.pif_model.specs.Table.{Cell}
use Rattle.pif_model.specs.Projection.{health_of}
use Rattle.pif_model.specs.Soundness.{CountIsSound, CellIsSound}
use Rattle.pif_model_lemmas.proofs.Waiting.{by_test}
use Rattle.pif_model_simulation.proofs.Kept.{held_once}

-- if the kernel has no owner state, or the word no flag, nobody waits
module _ {added : ℕ → Bool} {waited : Bool} {c : Cell} (h : CellIsSound added waited c) where
  -- nobody waits for a mutex whose word has not the flag
  pub none_from_flag : c.word.waiters ≡ false → waited ≡ false
  none_from_flag e = by_test (λ b. waited ≡ b → b ≡ false) waited
      (λ k x. absurd (true≢false (sym (h.contended k) ∙ e))) (λ k x. refl) refl

  -- nobody waits for an owned mutex of which the kernel has no owner state
  pub none_from_state : c.word.number ≢ 0 → c.state_owner ≡ 0 → waited ≡ false
  none_from_state n e = by_test (λ b. c.state_owner ≡ (if b then c.word.number else 0) → b ≡ false) waited
      (λ k x. absurd (n (sym x ∙ e))) (λ k x. refl) h.state

  -- a mutex for which nobody waits has no owner state
  pub state_from_none : waited ≡ false → c.state_owner ≡ 0
  state_from_none e = h.state ∙ ap (λ b. if b then c.word.number else 0) e

  -- the kernel's owner state is empty or names the owner
  pub state_agrees : (if c.state_owner == 0 then true else c.state_owner == c.word.number) ≡ true
  state_agrees = by_test (λ b. c.state_owner ≡ (if b then c.word.number else 0)
      → (if c.state_owner == 0 then true else c.state_owner == c.word.number) ≡ true) waited
      (λ k e. ap (λ b. if c.state_owner == 0 then true else b) (eq-eqb c.state_owner c.word.number e)
      ∙ either (c.state_owner == 0))
      (λ k e. ap (λ b. if b then true else c.state_owner == c.word.number) (eq-eqb c.state_owner 0 e))
      h.state
    where
      either : (b : Bool) → (if b then true else true) ≡ true
      either true = refl
      either false = refl

  -- a stalled mutex is in order
  pub stalled_in_order : c.robust ≡ false → health_of c.health c.word.died ≡ Fine
  stalled_in_order e = ap₂ health_of (h.stalled e).1 (h.stalled e).0

  -- a mutex held once and for which nobody waits stays sound with another word and health word, if these say of a
  -- stalled one what they said, an owner was added, and no disorder is told of a free one without OWNER_DIED
  pub reworded : (x : Word) (a : ℕ) → c.count ≡ 1 → waited ≡ false → (c.robust ≡ false → (x.died ≡ false) × (a ≡ 0))
      → (x.number ≢ 0 → added x.number ≡ true)
      → (x.number ≡ 0 → x.died ≡ false → (x.waiters ≡ false) × (a ≢ 1))
      → CellIsSound added waited (record c { word = x; health = a })
  reworded x a once e stalled owner clean = record {
    count = held_once c.kind x.number c.count once;
    stalled = stalled;
    owner = owner;
    free = λ z. e;
    clean = clean;
    state = state_from_none e ∙ ap (λ b. if b then x.number else 0) (sym e);
    contended = λ k. absurd (true≢false (sym k ∙ e));
  }

  -- an owned mutex stays sound with the same number and flag of waiters, if it is robust
  pub rehealthed : (b : Bool) (a : ℕ) → c.robust ≡ true → c.word.number ≢ 0
      → CellIsSound added waited (record c { word = record c.word { died = b }; health = a })
  rehealthed b a robust owned = record {
    count = h.count;
    stalled = λ e. absurd (true≢false (sym robust ∙ e));
    owner = h.owner;
    free = λ z. absurd (owned z);
    clean = λ z. absurd (owned z);
    state = h.state;
    contended = h.contended;
  }

  -- held this often, a mutex is sound
  pub recounted : (n : ℕ) → CountIsSound c.kind c.word.number n → CellIsSound added waited (record c { count = n })
  recounted n e = record {
    count = e;
    stalled = h.stalled;
    owner = h.owner;
    free = h.free;
    clean = h.clean;
    state = h.state;
    contended = h.contended;
  }

-- who waits for nobody's mutex
pub waiters_none : (ws : List (ℕ × ℕ)) (m : ℕ) → has_waiter ws m ≡ false → filter (λ (w : ℕ × ℕ). w.1 == m) ws ≡ []
waiters_none [] m h = refl
waiters_none (w ∷ ws) m h =
    let p = or_parts (w.1 == m) (has_waiter ws m) h in
    ap (λ b. cond b (w ∷ filter (λ (w : ℕ × ℕ). w.1 == m) ws) (filter (λ (w : ℕ × ℕ). w.1 == m) ws)) p.0
    ∙ waiters_none ws m p.1

-- a mutex for which nobody waits has no next waiter
pub next_none : (f : ℕ → ℕ) (ws : List (ℕ × ℕ)) (m : ℕ) → has_waiter ws m ≡ false → next_waiter f ws m ≡ 0
unfolding next_waiter first_greatest
next_none f ws m h = ap (λ (l : List (ℕ × ℕ)). (first_greatest (map (λ (w : ℕ × ℕ). (w.0, f w.0)) l)).0)
    (waiters_none ws m h)
