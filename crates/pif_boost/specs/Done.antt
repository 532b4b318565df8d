-- What a walk has done when it ends, of owner states and a run queue that stand in one table.
use Rattle.std.specs.Prelude.{◌≡◌, ℕ, ◌<◌, true, length}
use Rattle.pif_model.specs.Graph.{IsEffective}
use Rattle.pif_nodes_model.specs.Lists.{has}
use Rattle.pif_nodes_model.specs.Table.{NodeLists}
use Rattle.pif_nodes_model.specs.Levels.{Queue, IsLevel, level_of, Holds}
use Rattle.pif_kernel_model.specs.Owners.{WaitsFor, IsTop}
use Rattle.pif_kernel_model.specs.States.{States, owners_in}
use Rattle.pif_kernel_model.specs.Holds.{HoldsStates}
use Rattle.pif_kernel_model.specs.Boosts.{IsThread, base_of, local_of, IsRepaired, IsRepairedBut, IsNext, joins, level_after_walk}
use Rattle.pif_kernel_model.specs.BoostFrames.{SameBeyond}

-- so many hops of a walk led from the owner states m0 and the run queue q0 in the table t0 to these
pub record IsDone (m0 : States) (t0 : NodeLists) (q0 : Queue) (hops : ℕ) (m : States) (t : NodeLists) (q : Queue) : Type 0 where
  -- each thread has the effective priority that it is to have, also where it waits, and all else of the owner states is
  -- as it was
  pub repaired : IsRepaired (owners_in m0 t0) (owners_in m t)
  -- that is the greatest base priority of it and of all that wait for it through any chain
  pub greatest : (u : ℕ) → IsThread (owners_in m0 t0) u
      → IsEffective (IsThread (owners_in m0 t0)) (WaitsFor (owners_in m0 t0)) (base_of (owners_in m0 t0)) u
      (local_of (owners_in m t) u)
  -- nothing is left to repair
  pub settled : (other : ℕ) → IsRepairedBut other (owners_in m t)
  -- the top waiter of a state is its next one
  pub next : (k u : ℕ) → IsTop (owners_in m t) k u → IsNext (owners_in m t) k u
  -- each thread of the run queue is at the level of the priority that it is to have, in its place if it keeps its
  -- level, and at most one joins another level
  pub levels : (p : ℕ) → IsLevel p → level_of q t p ≡ level_after_walk (owners_in m0 t0) q0 t0 p
  pub level : (u p : ℕ) → IsLevel p → has u (level_of q t p) ≡ true → p ≡ local_of (owners_in m t) u
  pub one : (p r u v : ℕ) → joins (owners_in m0 t0) q0 t0 p u ≡ true → joins (owners_in m0 t0) q0 t0 r v ≡ true → u ≡ v
  -- all else in the table is as it was, and both stand there
  pub outside : SameBeyond m0 q0 t0 t
  pub place : q ≡ record q0 { mask = q.mask }
  pub rows : m ≡ record m0 { rows = m.rows }
  pub holds : Holds q t
  pub states : HoldsStates m t
  -- there are at most as many hops as threads
  pub most : hops < length (owners_in m0 t0).seats
