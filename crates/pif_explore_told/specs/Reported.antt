-- Faults in the order in which they are reported, whatever each is written as.
use Rattle.std.specs.Prelude.{ℕ, List, [], ◌++◌, flat_map, Option, Some, None, option_map}
use Rattle.pif_reach.specs.declared.system.Node.{Node}
use Rattle.pif_explore_model.specs.declared.labels.Label.{Label}
use Rattle.pif_explore_model.specs.Situations.{Situation}
use Rattle.pif_explore.specs.declared.stuck_threads.StuckThread.{StuckThread}
use Rattle.pif_explore.specs.declared.telling.Faults.{Faults}
use Rattle.pif_explore_orders.specs.declared.all_faults.AllFaults.{AllFaults}
use Rattle.pif_explore_orders.specs.declared.searching.Unordered.{Unordered}
use Rattle.pif_explore_orders.specs.declared.searching.Unordered.TheVariants as unordered
use Rattle.pif_explore_told.specs.declared.reported.Reported.{Reported}
use Rattle.pif_explore_told.specs.declared.reported.Reported.TheVariants.{Race, Misuse, Deadlock, Cycle, LostWakeUp, Stuck, Livelock, Undecided}

-- a way to write a fault, which a state of these nodes has
abbrev pub Tells : Type 0
Tells = List (Node Situation Label) → Reported → List ℕ

module _ (told : Tells) where
  -- a fault, if there is one
  abbrev pub if_found : List (Node Situation Label) → Option Reported → List ℕ
  if_found nodes None = []
  if_found nodes (Some f) = told nodes f

  abbrev pub stuck_told : List (Node Situation Label) → StuckThread → List ℕ
  stuck_told nodes k = told nodes (Stuck k)

  -- a race that no state shows, or that it wasn't found whether there is one
  abbrev pub unordered_told : List (Node Situation Label) → Unordered → List ℕ
  unordered_told nodes (unordered.Race f) = told f.nodes.items (Race f.racing)
  unordered_told nodes unordered.Nowhere = []
  unordered_told nodes unordered.Open = told nodes Undecided
  unordered_told nodes unordered.Unasked = []

  -- faults of states
  abbrev pub state_faults_told : List (Node Situation Label) → Faults → List ℕ
  state_faults_told nodes f =
      if_found nodes (option_map Race f.race)
      ++ (if_found nodes (option_map Misuse f.misuse)
      ++ (if_found nodes (option_map Deadlock f.deadlock)
      ++ (if_found nodes (option_map Cycle f.cycle)
      ++ (if_found nodes (option_map LostWakeUp f.lost_wake_up)
      ++ (flat_map (stuck_told nodes) f.stuck.items ++ if_found nodes (option_map Livelock f.livelock))))))

  -- all faults
  abbrev pub all_told : List (Node Situation Label) → AllFaults → List ℕ
  all_told nodes f = unordered_told nodes f.unordered ++ state_faults_told nodes f.of_states
