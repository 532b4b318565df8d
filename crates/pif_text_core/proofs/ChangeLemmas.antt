-- Lines that were not there before, and those that were.
use Rattle.std.proofs.Common.{◌≡◌, ℕ, Bool, true, false, cond, List, [], Option, Some, refl, sym, ap, ◌∙◌}
use Rattle.std.specs.Prelude.{codes}
use Rattle.pif_model.specs.declared.events.Order.TheVariants as order
use Rattle.pif_model.specs.Table.{Table}
use Rattle.pif_text_core.specs.Waiting.{begins_chain}
use Rattle.pif_text_core.specs.Changes.{new_line, new_ready_line, order_stays}
use Rattle.pif_text_core.specs.Texts.{chain_line, chain_line_at, ready_line}

module _ (line : ℕ → List ℕ) (there : ℕ → Bool) (b : Bool) (t n : ℕ) (e : b ≡ there t) (g : t ≡ n) where
  -- a line that was not there is told
  pub told_new : b ≡ false → line t ≡ new_line (there n) (line n)
  told_new f = ap (λ x. new_line x (line t)) (sym (sym e ∙ f)) ∙ ap (λ k. new_line (there k) (line k)) g

  -- and nothing for one that was
  pub told_old : b ≡ true → [] ≡ new_line (there n) (line n)
  told_old f = ap (λ x. new_line x (line t)) (sym (sym e ∙ f)) ∙ ap (λ k. new_line (there k) (line k)) g

-- no line is new if there is none
pub told_none : (is_there : Bool) (line : List ℕ) → [] ≡ line → [] ≡ new_line is_there line
told_none true line e = refl
told_none false line e = e

-- the line of a chain that begins with a thread
pub chain_begun : (names : List (List ℕ)) (s : Table) (t : ℕ) (b : Bool) → b ≡ begins_chain s t → b ≡ true
    → chain_line names s t ≡ chain_line_at names s t
chain_begun names s t b e f = ap (λ x. cond x (chain_line names s t) []) (sym (sym e ∙ f))

module _ (names : List (List ℕ)) (o : Option Table) (before now : Table) (is : o ≡ Some before) (b : Bool) (e : b ≡ order_stays order.Ready before now) where
  -- the line of the run queue, if its order is another one
  pub ready_new : b ≡ false → ready_line names (codes "  run queue: none\n") now ≡ new_ready_line names o now
  ready_new f =
      ap (λ x. new_line x (ready_line names (codes "  run queue: none\n") now)) (sym (sym e ∙ f))
      ∙ ap (λ p. new_ready_line names p now) (sym is)

  -- and nothing if it is the same
  pub ready_old : b ≡ true → [] ≡ new_ready_line names o now
  ready_old f =
      ap (λ x. new_line x (ready_line names (codes "  run queue: none\n") now)) (sym (sym e ∙ f))
      ∙ ap (λ p. new_ready_line names p now) (sym is)
