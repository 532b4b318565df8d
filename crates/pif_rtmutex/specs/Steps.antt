-- What is stored of a state, and what a change of its waiters leaves.
use Rattle.std.specs.Prelude.{◌≡◌, ℕ, Some}
use Rattle.std.specs.FinMap.{get}
use Rattle.pif_nodes_model.specs.Table.{NodeLists}
use Rattle.pif_kernel_model.specs.Owners.{Owners}
use Rattle.pif_kernel_model.specs.States.{States, first_waiter, owners_in}
use Rattle.pif_kernel_model.specs.Holds.{HoldsWaiters, IsToppedBut}
use Rattle.pif_kernel_model.specs.Frames.{SameOutsideStates, KeepsWaiterNodes}
use Rattle.pif_rtmutex.specs.Fields.{State}

-- this is stored of a state
pub record IsStored (m : States) (k : ℕ) (s : State) : Type 0 where
  pub owner : get m.owners k ≡ Some s.owner
  pub row : get m.places k ≡ Some s.row

-- what a change of the waiters of state k, owned by o, leaves of which thread u came, went or got another key: all but
-- the top waiters is right, and the owner states are these
pub record IsStep (m n : States) (t now : NodeLists) (k o u : ℕ) (v : Owners) : Type 0 where
  pub frame : n ≡ record m { rows = n.rows; owners = n.owners }
  pub waiters : HoldsWaiters n now
  pub but : IsToppedBut n now k o (first_waiter m t k)
  pub outside : SameOutsideStates m t now
  pub nodes : KeepsWaiterNodes m u t now
  pub view : owners_in n now ≡ v
