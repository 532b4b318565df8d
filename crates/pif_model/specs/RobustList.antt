-- The robust lists: for each thread the robust mutexes that it holds, the mutex of which only the link is written, and
-- the mutex that its pending field names. (Linux: 'robust futexes' and its ABI; get_robust_list(2).)
-- Threads and mutexes are numbered from 1; place 0 of the threads stands for nobody, and the number 0 for no mutex.
use Rattle.std.specs.Prelude.{ℕ, ◌≡◌, ◌+◌, ◌≤◌, true, false, Bool, ◌==◌, List, [], ◌∷◌, ◌++◌, replicate, get_or, set, if◌then◌else◌, ⊤}
use Rattle.std.specs.List.{filter, list_any}
use Rattle.pif_types.specs.Bounds.{Bounds}

-- the robust list of a thread
pub record RobustRow : Type 0 where
  -- the mutexes on it, from the head
  pub listed : List ℕ
  -- the mutex whose link to what follows it is written, while the head doesn't name it yet; 0 if there is none
  pub half_linked : ℕ
  -- the mutex that the pending field names, whose taking or releasing is in progress; 0 if there is none
  pub pending : ℕ

-- the robust lists of all threads
pub record Robust : Type 0 where
  -- the threads, by number
  pub threads : List RobustRow
  -- how many mutexes there may be
  pub mutexes : ℕ

-- what stands at place 0 of the threads, and of a thread with nothing on its list
abbrev pub no_robust_row : RobustRow
no_robust_row = record { listed = []; half_linked = 0; pending = 0 }

-- empty lists, one for each thread that the limits allow
abbrev pub no_robust : Bounds → Robust
no_robust l = record { threads = replicate (l.threads + 1) no_robust_row; mutexes = l.mutexes }

abbrev pub robust_at : Robust → ℕ → RobustRow
robust_at v t = get_or v.threads t no_robust_row

-- whether a list of mutexes has m
abbrev pub has_entry : List ℕ → ℕ → Bool
has_entry ms m = list_any (λ k. m == k) ms

-- a list of mutexes without m
abbrev pub without_entry : List ℕ → ℕ → List ℕ
without_entry ms m = filter (λ k. if m == k then false else true) ms

-- whether m is on the list of t
abbrev pub is_listed : Robust → ℕ → ℕ → Bool
is_listed v t m = has_entry (robust_at v t).listed m

-- what the end of a thread goes through: the listed mutexes from the head, without the pending one, and then the
-- pending one, if there is one
abbrev pub walk_of : RobustRow → List ℕ
walk_of x = without_entry x.listed x.pending ++ (if x.pending == 0 then [] else x.pending ∷ [])

-- t as x
abbrev pub with_robust : ℕ → RobustRow → Robust → Robust
with_robust t x v = record v { threads = set v.threads t x }

-- m in the pending field of t
abbrev pub with_pending : ℕ → ℕ → Robust → Robust
with_pending t m v = with_robust t (record (robust_at v t) { pending = m }) v

-- the pending field of t naming no mutex
abbrev pub without_pending : ℕ → Robust → Robust
without_pending t v = with_pending t 0 v

-- m half-linked by t: its link is written, and the head of the list doesn't name it yet
abbrev pub with_half_linked : ℕ → ℕ → Robust → Robust
with_half_linked t m v = with_robust t (record (robust_at v t) { half_linked = m }) v

-- m at the head of the list of t, and nothing half-linked by t
abbrev pub with_listed : ℕ → ℕ → Robust → Robust
with_listed t m v =
    with_robust t (record (robust_at v t) { listed = m ∷ (robust_at v t).listed; half_linked = 0 }) v

-- m off the list of t, and nothing half-linked by t
abbrev pub without_listed : ℕ → ℕ → Robust → Robust
without_listed t m v =
    with_robust t (record (robust_at v t) { listed = without_entry (robust_at v t).listed m; half_linked = 0 }) v

-- nothing on the list of t, nothing half-linked by it, and no mutex in its pending field
abbrev pub without_robust : ℕ → Robust → Robust
without_robust t v = with_robust t no_robust_row v

-- no mutex stands in the list twice
abbrev pub HasNoRepeats : List ℕ → Type 0
HasNoRepeats [] = ⊤
HasNoRepeats (m ∷ ms) = (has_entry ms m ≡ false) × HasNoRepeats ms

-- m is on no list
abbrev pub IsUnlisted : Robust → ℕ → Type 0
IsUnlisted v m = (t : ℕ) → is_listed v t m ≡ false

-- no thread but t has m half-linked
abbrev pub IsHalfLinkedByNoOther : Robust → ℕ → ℕ → Type 0
IsHalfLinkedByNoOther v t m = (u : ℕ) → (robust_at v u).half_linked ≡ m → u ≡ t

-- what holds of robust lists at any time
pub record IsRobust (v : Robust) : Type 0 where
  -- place 0 stands for nobody
  pub nobody : robust_at v 0 ≡ no_robust_row
  pub most : v.mutexes ≤ 1024
  -- the mutexes on a list, half-linked or pending are some of those that there may be
  pub some_listed : (t m : ℕ) → is_listed v t m ≡ true → 1 ≤ m
  pub most_listed : (t m : ℕ) → is_listed v t m ≡ true → m ≤ v.mutexes
  pub half_linked : (t : ℕ) → (robust_at v t).half_linked ≤ v.mutexes
  pub pending : (t : ℕ) → (robust_at v t).pending ≤ v.mutexes
  -- a mutex is on at most one list, and once
  pub once : (t : ℕ) → HasNoRepeats (robust_at v t).listed
  pub alone : (t u m : ℕ) → is_listed v t m ≡ true → is_listed v u m ≡ true → t ≡ u
  -- a half-linked mutex is on no list, and half-linked by no other thread
  pub unlisted : (t m : ℕ) → 1 ≤ m → (robust_at v t).half_linked ≡ m → IsUnlisted v m
  pub one_half : (t m : ℕ) → 1 ≤ m → (robust_at v t).half_linked ≡ m → IsHalfLinkedByNoOther v t m
