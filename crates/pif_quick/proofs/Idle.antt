-- Passes that hold nothing.
use Rattle.std.proofs.Common.{◌≡◌, ℕ, zero, suc, ◌<◌, List, [], ◌∷◌, length, get_or, Option, Some, None, refl, ap, ◌∙◌, arith, slice_get}
use mathlib.Core.Logic.{dite}
use native.Mathlib.Decide.{dec_le}
use Rattle.std.proofs.lemmas.List.{get_or_past}
use Rattle.pif_quick.specs.declared.rule.Record.{Record}
use Rattle.pif_quick.specs.declared.quick.Pass.{Pass}
use Rattle.pif_quick.specs.Turns.{fresh}
use Rattle.pif_quick.specs.Quick.{records, spread, IsDealtPass, IsIdle, IsFresh}
use Rattle.atomic_table.specs.Seated.{TableId}
use Rattle.pif_quick.proofs.Opening.{dealt_fresh}

module _ {T : Type 0} where
  value_at : (xs : List T) (i : ℕ) → i < length xs → (x : T) × (slice_get xs i ≡ Some x)
  value_at [] i h = absurd (omega arith)
  value_at (x ∷ xs) zero h = (x, refl)
  value_at (x ∷ xs) (suc i) h = value_at xs i (omega arith)

  -- a fresh pass holds nothing
  pub fresh_idle : (values : List T) (p : Pass T) → IsFresh values p → IsIdle p
  fresh_idle values p f m = dite (dec_le (length (records p)) m)
      (λ past. ap (λ (r : Record T). r.found) (get_or_past (records p) m (fresh None) past))
      (λ inside. let x = value_at values m (let e = f.0 in omega arith) in
      ap (λ (r : Record T). r.found) (f.1 m x.0 x.1))

  -- a pass as it was dealt holds nothing
  pub dealt_idle : (starts : List (Option T)) (z : TableId) (count number : ℕ) (p : Pass T) (values : List T)
      → IsDealtPass starts z count number p → starts ≡ spread values → count ≡ length values → IsIdle p
  dealt_idle starts z count number p values d e c =
      fresh_idle values p (dealt_fresh starts z count number p values d e c)
