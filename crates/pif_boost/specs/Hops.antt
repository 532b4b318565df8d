-- How many hops a walk makes, by the owner states before it.
use Rattle.std.specs.Prelude.{◌≡◌, ◌≢◌, ◌⊎◌, ℕ, zero, suc, ◌+◌, ◌-◌, ◌<◌, ◌≤◌}
use Rattle.pif_kernel_model.specs.Owners.{Owners, waits_for}
use Rattle.pif_kernel_model.specs.Boosts.{local_of, greatest_base}

-- the thread reached from t by following so many times for whom each thread waits
unfoldable pub after_hops : (ℕ → ℕ) → ℕ → ℕ → ℕ
after_hops waits_for t zero = t
after_hops waits_for t (suc hops) = waits_for (after_hops waits_for t hops)

-- A walk from `start` makes so many hops. A hop is one thread whose maximum is compared with the effective priority
-- that it has. The owner states determine the number: only if the thread compared differs and waits does a walk go
-- on.
pub record IsHopCount (v : Owners) (start hops : ℕ) : Type 0 where
  -- the first thread that was compared is `start`
  pub some : 1 ≤ hops
  -- each but the last is to have another effective priority than it has, so that it got that one, and waits for the
  -- next
  pub changed : (i : ℕ) → i + 1 < hops
      → greatest_base v (after_hops (waits_for v) start i) ≢ local_of v (after_hops (waits_for v) start i)
  pub waits : (i : ℕ) → i + 1 < hops → waits_for v (after_hops (waits_for v) start i) ≢ 0
  -- the last has its effective priority already, or waits for nobody
  pub last : (greatest_base v (after_hops (waits_for v) start (hops - 1))
      ≡ local_of v (after_hops (waits_for v) start (hops - 1)))
      ⊎ (waits_for v (after_hops (waits_for v) start (hops - 1)) ≡ 0)
