-- Room for one more thread, mutex or condition variable, and what is a priority.
use Rattle.std.proofs.Common.{◌≡◌, ℕ, ◌≤◌, Bool, true, false, length, ap, nat_lt, if◌then◌else◌, arith}
use Rattle.std.proofs.lemmas.Bool.Decides.{nat_tests}
use Rattle.pif_model.specs.Graph.{is_priority}
use Rattle.pif_model.specs.Table.{Table, has_thread_room, has_mutex_room, has_cond_room}
use Rattle.pif_model_lemmas.proofs.Numbers.{from_within}

-- numbers that fail a test of order stand the other way round
not_lt : (a b : ℕ) → b ≤ a → nat_lt a b ≡ false
not_lt a b le = grind (arith, nat_tests)

-- room for one more thread
pub thread_room : (s : Table) → length s.lines ≤ s.limits.threads → has_thread_room s ≡ true
thread_room s le = ap (λ (b : Bool). if b then false else true) (not_lt s.limits.threads (length s.lines) le)

-- room for one more mutex
pub mutex_room : (s : Table) → length s.mutexes ≤ s.limits.mutexes → has_mutex_room s ≡ true
mutex_room s le = ap (λ (b : Bool). if b then false else true) (not_lt s.limits.mutexes (length s.mutexes) le)

-- room for one more condition variable
pub cond_room : (s : Table) → length s.conds ≤ s.limits.conds → has_cond_room s ≡ true
cond_room s le = ap (λ (b : Bool). if b then false else true) (not_lt s.limits.conds (length s.conds) le)

-- 1 to 99 are priorities
pub priority : (p : ℕ) → 1 ≤ p → p ≤ 99 → is_priority p ≡ true
priority p low high = from_within p 100 (omega (arith, low)) (omega (arith, high))
