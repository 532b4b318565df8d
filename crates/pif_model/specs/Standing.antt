-- What it means that a core stands after a history, and what that tells a caller.
use Rattle.std.specs.Prelude.{ℕ, ◌≡◌, ◌≢◌, ◌≤◌, true, false, ◌==◌, List, Option, Some, None, option_map, if◌then◌else◌}
use Rattle.std.specs.List.{list_any}
use Rattle.pif_types.specs.declared.requests.Request.{Request}
use Rattle.pif_model.specs.declared.events.Entry.{Entry}
use Rattle.pif_model.specs.declared.lines.Status.{Status}
use Rattle.pif_model.specs.declared.lines.Status.TheVariants.{Ready, Queued, Parked, Stopped, Ended}
use Rattle.pif_model.specs.Graph.{has_waiter, waiting_order, IsEffective, IsPath}
use Rattle.pif_model.specs.Word.{Word, free_word}
use Rattle.pif_model.specs.Posix.{Call, World, WaitsFor, IsRun, thread_at, mutex_at, variable_at, is_thread, is_blocked_on, rests, waits_for, effective_of}
use Rattle.pif_model.specs.Posix.{is_living as lives}
use Rattle.pif_model.specs.World.Health.{Fine, Inconsistent, Unusable}
use Rattle.pif_model.specs.World.Progress.{Stuck}
use Rattle.pif_model.specs.Deadlines.{with_deadline_if_any}
use Rattle.pif_model.specs.Table.{Table}
use Rattle.pif_model.specs.Projection.{HistoryVariables, world_of, Agrees}
use Rattle.pif_model.specs.Soundness.{IsSound}

-- A core with this table stands after the history h (newest entry first) in the state w by a run through the states r
-- (newest first): the run gives h entry by entry and ends in w, w is what the table shows with some history variables
-- that agree with it, and the table is sound.
pub record Stands (s : Table) (h : List Entry) (r : List World) (w : World) : Type 0 where
  pub history_variables : HistoryVariables
  pub agrees : Agrees s history_variables
  pub shows : w ≡ world_of s history_variables
  pub run : IsRun s.limits h r w
  pub sound : IsSound s

-- wherever a core with this table stands, after a history in a state by a run, this holds of history, run and state
abbrev pub WhereStands : Table → (List Entry → List World → World → Type 0) → Type 0
WhereStands s Holds = (h : List Entry) (r : List World) (w : World) → Stands s h r w → Holds h r w

-- WHAT STANDING TELLS A CALLER

-- x may be m's word in this state: its number is the owner's, WAITERS is set if m has waiters, OWNER_DIED only if
-- m is robust and not Fine; with no owner a Fine mutex has the word 0 and an Inconsistent one OWNER_DIED (futex(2),
-- robust futexes)
pub record IsPossible (w : World) (m : ℕ) (x : Word) : Type 0 where
  pub number : x.number ≡ (mutex_at w m).owner
  pub waiters : has_waiter w.waiters m ≡ true → x.waiters ≡ true
  pub died : x.died ≡ true → ((mutex_at w m).robust ≡ true) × ((mutex_at w m).health ≢ Fine)
  pub free : (mutex_at w m).owner ≡ 0 → (mutex_at w m).health ≡ Fine → x ≡ free_word
  pub inconsistent : (mutex_at w m).owner ≡ 0 → (mutex_at w m).health ≡ Inconsistent → x.died ≡ true

-- h may be m's health word in this state: it is 2 exactly if m is Unusable, and 1 only if it is Inconsistent
pub record IsPossibleHealth (w : World) (m h : ℕ) : Type 0 where
  pub unusable : h ≡ 2 → (mutex_at w m).health ≡ Unusable
  pub given_up : (mutex_at w m).health ≡ Unusable → h ≡ 2
  pub inconsistent : h ≡ 1 → (mutex_at w m).health ≡ Inconsistent

-- x and h may be m's word and health word together: an Inconsistent m with health word 0 has OWNER_DIED
abbrev pub ArePossible : World → ℕ → Word → ℕ → Type 0
ArePossible w m x h = (mutex_at w m).health ≡ Inconsistent → h ≡ 0 → x.died ≡ true

-- n may be the condition word of c in this state: it is how often c was used
abbrev pub IsPossibleUses : World → ℕ → ℕ → Type 0
IsPossibleUses w c n = n ≡ (variable_at w c).uses

-- p is the effective priority of t: the greatest of its own base priority and of all that wait for it through any chain
abbrev pub HasEffective : World → ℕ → ℕ → Type 0
HasEffective w t p = IsEffective (λ u. is_thread w u ≡ true) (WaitsFor w) (λ u. (thread_at w u).base) t p

-- p runs next: a living thread that doesn't rest, and no living thread that doesn't rest has a greater effective
-- priority; 0 only if every living thread rests
pub record IsPick (w : World) (p : ℕ) : Type 0 where
  pub runs : p ≢ 0 → (lives w p ≡ true) × (rests w p ≡ false)
  pub greatest : (t : ℕ) → lives w t ≡ true → rests w t ≡ false → (p ≢ 0) × (effective_of w t ≤ effective_of w p)

-- t does in this state what a status says: it may run, is among the waiters of a mutex, is blocked on a variable, waits
-- for good, or has ended
abbrev pub IsDoing : World → ℕ → Status → Type 0
IsDoing w t (Ready x) = (lives w t ≡ true) × (rests w t ≡ false)
IsDoing w t (Queued m) = list_any (λ p. if p.0 == t then p.1 == m else false) w.waiters ≡ true
IsDoing w t (Parked c) = is_blocked_on w c t ≡ true
IsDoing w t Stopped = option_map (λ (c : Call). c.progress) (thread_at w t).call ≡ Some Stuck
IsDoing w t Ended = (is_thread w t ≡ true) × (lives w t ≡ false)

-- the request of t's open call, as it was made
abbrev pub call_of : World → ℕ → Option Request
call_of w t = option_map (λ (c : Call). with_deadline_if_any (thread_at w t).timer.deadline c.request) (thread_at w t).call

-- the owner of m, and how often it holds m
abbrev pub owner_of : World → ℕ → Option (ℕ × ℕ)
owner_of w m =
    if (mutex_at w m).owner == 0 then None else Some ((mutex_at w m).owner, (mutex_at w m).count)

-- the waiters of m in the order in which they get it, as long as no priority changes and nobody comes or goes
abbrev pub waiters_of : World → ℕ → List ℕ
waiters_of w m = waiting_order (effective_of w) w.waiters m

-- us are the threads from t on along whom each waits for, in order, up to the one that waits for nobody: after each one
-- stands the owner of the mutex for which it waits; none if t doesn't live
abbrev pub IsPathFrom : World → ℕ → List ℕ → Type 0
IsPathFrom w t us = IsPath (waits_for w) (if lives w t then t else 0) us
