-- Threads that wait, each paired with what it waits for, in order of tickets.
use Rattle.std.specs.Prelude.{ℕ, zero, suc, ◌+◌, ◌≤◌, ◌==◌, nat_lt, if◌then◌else◌, List, [], ◌∷◌}
use Rattle.pif_model.specs.Graph.{has_waiter}

-- pairs of a thread and what it waits for, with one more, put before the first that has a greater ticket
abbrev pub put_in : (ℕ → ℕ) → ℕ × ℕ → List (ℕ × ℕ) → List (ℕ × ℕ)
put_in ticket w [] = w ∷ []
put_in ticket w (x ∷ xs) = if nat_lt (ticket w.0) (ticket x.0) then w ∷ x ∷ xs else x ∷ put_in ticket w xs

-- the threads below n that wait, each with what it waits for, in order of tickets; 0 stands for nothing
unfoldable pub in_order : (ℕ → ℕ) → (ℕ → ℕ) → ℕ → List (ℕ × ℕ)
in_order ticket on zero = []
in_order ticket on (suc n) =
    if on n == 0 then in_order ticket on n else put_in ticket (n, on n) (in_order ticket on n)

-- the tickets of these threads rise, from `least` on, and are below `next`
abbrev pub Rise : (ℕ → ℕ) → ℕ → List (ℕ × ℕ) → ℕ → Type 0
Rise ticket least [] next = least ≤ next
Rise ticket least (w ∷ ws) next = (least ≤ ticket w.0) × Rise ticket (ticket w.0 + 1) ws next

-- how many mutexes have a waiter
abbrev pub mutexes_of : List (ℕ × ℕ) → ℕ
mutexes_of [] = 0
mutexes_of (w ∷ ws) = if has_waiter ws w.1 then mutexes_of ws else mutexes_of ws + 1
