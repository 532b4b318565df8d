-- What is remembered of a thread once its call begins, by the shape of its request.
use Rattle.std.proofs.Common.{ℕ, ◌≡◌, ◌+◌, true, false, length, is_some, refl, ap, arith}
use Rattle.pif_types.specs.Shapes.{Shape, uses}
use Rattle.pif_types.specs.Shapes.Shape.{Awaits, Wakes}
use Rattle.pif_model.specs.Posix.{World, Memory, memory_by, blocked_below}

-- how many waits a thread has begun once it begins a call
pub waits_after : (w v : World) (s : Shape) (x y : Memory) → (n : ℕ) × (m : ℕ) × (n ≡ m)
    × ((memory_by w s x).waits ≡ x.waits + n) × ((memory_by v s y).waits ≡ y.waits + m)
waits_after w v (Awaits c m d) x y = (1, 1, refl, refl, refl)
waits_after w v _ x y = (0, 0, refl, omega arith, omega arith)

-- a use counts no wait, and finds those that are blocked
pub use_finds : (s : Shape) → is_some (uses s) ≡ true
    → (c : ℕ) × ((w : World) (x : Memory) → ((memory_by w s x).found ≡ blocked_below w c (length w.threads)) × ((memory_by w s x).waits ≡ x.waits))
use_finds (Wakes r c) e = (c, λ w x. (refl, refl))
use_finds _ e = absurd (cc)

-- what a begin that uses nothing remembers isn't taken from the state
pub memory_apart : (w v : World) (s : Shape) (x : Memory) → is_some (uses s) ≡ false → memory_by w s x ≡ memory_by v s x
memory_apart w v (Wakes r c) x e = absurd (cc)
memory_apart w v _ x e = refl

-- a begin remembers the same in two states if on each variable the same threads are blocked, by the same waits
pub memory_same : (w v : World)
    → ((c : ℕ) → blocked_below w c (length w.threads) ≡ blocked_below v c (length v.threads))
    → (s : Shape) (x : Memory) → memory_by w s x ≡ memory_by v s x
memory_same w v same (Wakes r c) x = ap (λ l. record x { found = l }) (same c)
memory_same w v same _ x = refl
