-- A walk over a journal from its end, step by step.
use Rattle.std.proofs.Common.{◌≡◌, ◌≢◌, ℕ, ◌+◌, ◌-◌, ◌≤◌, ◌<◌, Bool, true, false, List, [], ◌∷◌, length, take, get_or, reverse, Option, Some, None, refl, sym, ap, ◌∙◌, subst, arith, if◌then◌else◌}
use Rattle.std.specs.Prelude.{◌↔◌}
use Rattle.std.proofs.lemmas.List.{reverse-append, length-reverse, take_more, length-take-le}
use Rattle.pif_model.specs.declared.events.Entry.{Entry}
use Rattle.pif_desk.specs.declared.log.Reply.{Reply}
use Rattle.pif_desk.specs.declared.log.Call.{Call}
use Rattle.pif_desk.specs.declared.log.Mark.{Mark}
use Rattle.pif_desk.specs.Logs.{Log, mark_in, log_after, no_calls, calls_of}
use Rattle.pif_desk.specs.Rooms.{history_of}
use Rattle.pif_desk.specs.Settling.{with_reply_if_any, IsRestOfLog}

-- LISTS

-- the elements up to a place, the last first
pub reverse-take_more : {A : Type 0} (xs : List A) (n : ℕ) (d : A) → n < length xs
    → reverse (take (n + 1) xs) ≡ get_or xs n d ∷ reverse (take n xs)
reverse-take_more {A} xs n d h = ap (λ (l : List A). reverse l) (take_more xs n d h)
    ∙ reverse-append (take n xs) (get_or xs n d ∷ [])

-- REPLIES

pub pending-none : (p : Option Reply) → with_reply_if_any p [] ≡ []
pending-none None = refl
pending-none (Some r) = refl

-- THE WHOLE WALK

-- after the walk none is
pub none_left : (calls : List Call) (e : Bool) (left : ℕ) (reply : Option Reply) (seen : Bool) → left ≤ length calls
    → IsRestOfLog calls e left reply seen no_calls ↔ ((left ≡ 0) × (seen ≡ e))
none_left calls e left reply seen within = (
  (λ h. (
    sym (length-take-le left calls within) ∙ sym (length-reverse (take left calls))
        ∙ ap (λ (cs : List Call). length cs) (sym h.calls_left ∙ pending-none reply),
    sym (plain seen) ∙ h.ended_left,
  )),
  (λ h. record {
    calls_left = pending-none reply ∙ ap (λ n. reverse (take n calls)) (sym h.0);
    ended_left = plain seen ∙ h.1;
  }),
)
  where
    plain : (b : Bool) → (if b then true else false) ≡ b
    plain true = refl
    plain false = refl

-- the calls of a thread up to a place of the journal
pub calls_of-more : (t : ℕ) (j : List Entry) (n : ℕ) (d : Entry) → n < length j
    → calls_of t (history_of (take (n + 1) j))
    ≡ log_after (mark_in t (get_or j n d)) n (calls_of t (history_of (take n j)))
calls_of-more t j n d h =
    ap (calls_of t) (reverse-take_more j n d h)
    ∙ ap (λ k. log_after (mark_in t (get_or j n d)) k (calls_of t (history_of (take n j))))
    (length-reverse (take n j) ∙ length-take-le n j (omega (arith, h)))

-- the calls of a thread up to a place of the journal, by what the entry before it tells
module _ (t : ℕ) (j : List Entry) (at : ℕ) (x : Entry) (m : Mark) (some : 0 < at) (within : at ≤ length j)
    (read : x ≡ get_or j (at - 1) x) (told : m ≡ mark_in t x) where
  told_here : calls_of t (history_of (take at j)) ≡ log_after m (at - 1) (calls_of t (history_of (take (at - 1) j)))
  told_here =
      let one : at - 1 + 1 ≡ at = omega (arith, some) in
      ap (λ n. calls_of t (history_of (take n j))) (sym one)
      ∙ calls_of-more t j (at - 1) x (omega (arith, some, within))
      ∙ ap (λ e. log_after (mark_in t e) (at - 1) (calls_of t (history_of (take (at - 1) j)))) (sym read)
      ∙ ap (λ k. log_after k (at - 1) (calls_of t (history_of (take (at - 1) j)))) (sym told)

  -- the walk goes on
  pub walk_goes_on : (P : Type 0) (F G : Log → Type 0) → ((l : Log) → F (log_after m (at - 1) l) ↔ G l)
      → (P ↔ F (calls_of t (history_of (take at j)))) → P ↔ G (calls_of t (history_of (take (at - 1) j)))
  walk_goes_on P F G step h = (
    (λ p. (step (calls_of t (history_of (take (at - 1) j)))).0 (subst F told_here (h.0 p))),
    (λ g. h.1 (subst F (sym told_here) ((step (calls_of t (history_of (take (at - 1) j)))).1 g))),
  )

  -- the walk stops
  pub walk_stops : (P : Type 0) (F : Log → Type 0) → ((l : Log) → F (log_after m (at - 1) l) → ⊥)
      → (P ↔ F (calls_of t (history_of (take at j)))) → P → ⊥
  walk_stops P F stop h p = stop (calls_of t (history_of (take (at - 1) j))) (subst F told_here (h.0 p))

-- two facts that never hold say the same
pub neither : {P Q : Type 0} → (P → ⊥) → (Q → ⊥) → P ↔ Q
neither p q = (λ x. absurd (p x), λ y. absurd (q y))

-- no log is left if calls are left
pub some_left : (calls : List Call) (e : Bool) (left : ℕ) (reply : Option Reply) (seen : Bool) → left ≤ length calls
    → left ≢ 0 → IsRestOfLog calls e left reply seen no_calls → ⊥
some_left calls e left reply seen within some h = some ((none_left calls e left reply seen within).0 h).0
