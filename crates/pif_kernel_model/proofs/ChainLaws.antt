-- A walk that starts at the one thread whose effective priority is not the greatest of its base priority and of the
-- effective priorities of those that wait for it has nothing else to repair.
use Rattle.std.proofs.Common.{◌≡◌, ◌≢◌, ℕ, ◌==◌, max, length, Some, sym, ap₂, ◌∙◌, arith}
use Rattle.std.proofs.Math.Path.{fun_ext}
use Rattle.pif_nodes_model.specs.declared.keys.Key.{Key}
use Rattle.pif_model.specs.Graph.{greatest_where}
use Rattle.pif_kernel_model.specs.Owners.{Owners, rank_of, waits_for}
use Rattle.pif_model_lemmas.proofs.Greatest.{effective_step}
use Rattle.pif_kernel_model.specs.Boosts.{IsRepairedBut, base_of, local_of, greatest_base}
use Rattle.pif_kernel_model.proofs.Greatest.{out_waits}

-- owner states whose threads have the effective priorities that they had, and in which those that wait for a thread and
-- its base priority are as they were for each thread but one, are left to repair at that one alone
pub repaired_but : (v now : Owners) (start : ℕ) → length now.seats ≡ length v.seats
    → ((x u : ℕ) → u ≢ start → u ≢ 0 → (waits_for v x == u) ≡ (waits_for now x == u))
    → ((u : ℕ) → u ≢ start → base_of v u ≡ base_of now u)
    → ((u : ℕ) → greatest_base v u ≡ local_of now u)
    → ((u : ℕ) (r : Key) → rank_of now u ≡ Some r → r.prio ≡ local_of now u)
    → IsRepairedBut start now
repaired_but v now start long waits base local ranks = record {
  locals = λ t is ne.
      sym (local t)
      ∙ effective_step (length v.seats) (waits_for v) (base_of v) (out_waits v) t (omega (arith, is.1, long))
      (λ z. absurd (omega (arith, is.0)))
      ∙ ap₂ max (base t ne) (greatest t ne (λ z. absurd (omega (arith, is.0))));
  ranks = ranks;
}
  where
    greatest : (t : ℕ) → t ≢ start → t ≢ 0
        → greatest_where (λ (u : ℕ). waits_for v u == t) (greatest_base v) (length v.seats)
        ≡ greatest_where (λ (u : ℕ). waits_for now u == t) (local_of now) (length now.seats)
    greatest t ne nz = λ i. greatest_where (fun_ext (λ x. waits x t ne nz) i) (fun_ext local i) (sym long i)
