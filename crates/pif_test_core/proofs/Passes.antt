-- Passes of the quick path whose records are as they were.
use Rattle.std.proofs.Common.{◌≡◌, List, get_or, None, sym, ap, ◌∙◌, subst}
use Rattle.pif_quick.specs.declared.rule.Record.{Record}
use Rattle.pif_quick.specs.declared.quick.Quick.{Quick}
use Rattle.pif_quick.specs.declared.quick.Pass.{Pass}
use Rattle.pif_quick.specs.declared.quick.Held.{Held}
use Rattle.pif_quick.specs.Turns.{fresh}
use Rattle.pif_quick.specs.Quick.{held_word, IsIdle, IsTurnOf, IsUnchanged}

module _ {T : Type 0} where
  -- a pass whose records are as they were holds nothing if it did
  pub unchanged_idle : (p p' : Pass T) → IsUnchanged p p' → IsIdle p → IsIdle p'
  unchanged_idle p p' u i m = ap (λ (l : List (Record T)). (get_or l m (fresh None)).found) u.1 ∙ i m

  -- what is held stays the open turn if nothing changed
  pub same_turn : (q : Quick T) (p p' : Pass T) (h h' : Held T) → h' ≡ h → IsUnchanged p p' → IsTurnOf q p h
      → IsTurnOf q p' h'
  same_turn q p p' h h' e u t = subst (λ (k : Held T). IsTurnOf q p' k) (sym e) (
    t.0,
    t.1 ∙ sym u.0,
    (t.2.0, ap (λ (l : List (Record T)). (get_or l (held_word h) (fresh None)).found) u.1 ∙ t.2.1),
  )
