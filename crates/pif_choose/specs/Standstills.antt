-- A point at which no thread can go, and who waits for whom there.
use Rattle.std.specs.Prelude.{◌≡◌, ◌≢◌, ◌<◌, ◌≤◌, ◌⊎◌, ℕ, Bool, ◌&&◌, ◌||◌, not, List, [], ◌∷◌, length, Contains, ⊤}
use Rattle.std.specs.List.{list_all, list_any}
use Rattle.pif_choose.specs.declared.standing.Standing.{Standing}
use Rattle.pif_choose.specs.declared.standing.Link.{Link}

-- a thread can't go, no later time changes that, and nothing that comes from outside does
abbrev pub stands_still : Standing → Bool
stands_still s = not (s.goes || s.is_timed || s.is_outside)

-- a deadlock: no thread can take a step, now or later, and one of them wants a lock
abbrev pub is_deadlock : List Standing → Bool
is_deadlock standings = list_all stands_still standings && list_any (λ (s : Standing). s.wants_lock) standings

-- a thread waits for a mutex, and a thread holds that
pub record IsLink (standings : List Standing) (link : Link) : Type 0 where
  pub standing : Standing
  pub there : Contains standings standing
  pub thread : standing.thread ≡ link.thread
  pub mutex : standing.mutex ≡ link.mutex
  pub owner : standing.owner ≡ link.owner
  pub held : link.owner ≢ 0

-- links from a thread on, each from the owner of the one before
abbrev pub IsChain : List Standing → ℕ → List Link → Type 0
IsChain standings thread [] = ⊤
IsChain standings thread (link ∷ links) = (link.thread ≡ thread) × IsLink standings link × IsChain standings link.owner links

-- the thread to which a chain from a thread leads
abbrev pub end_of : ℕ → List Link → ℕ
end_of thread [] = thread
end_of thread (link ∷ links) = end_of link.owner links

-- a thread waits for no thread
abbrev pub WaitsForNobody : List Standing → ℕ → Type 0
WaitsForNobody standings thread = (s : Standing) → Contains standings s → s.thread ≡ thread → s.owner ≡ 0

-- a chain in a room for so many links: it leads to a thread that waits for nobody, or back to where it began, unless the
-- room is full
pub record IsWholeChain (standings : List Standing) (first : ℕ) (links : List Link) (room : ℕ) : Type 0 where
  pub chain : IsChain standings first links
  pub within : length links ≤ room
  pub ends : length links < room → WaitsForNobody standings (end_of first links) ⊎ (end_of first links ≡ first)
