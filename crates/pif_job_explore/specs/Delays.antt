-- What is told of the delays that a file asks for.
use Rattle.std.specs.Prelude.{ℕ, ◌≡◌, List, [], ◌∷◌, ◌++◌}
use Rattle.pif_reach.specs.declared.system.Node.{Node}
use Rattle.pif_explore_model.specs.declared.labels.Label.{Label}
use Rattle.pif_explore_model.specs.Situations.{Plan, Situation}
use Rattle.pif_explore.specs.Delays.{IsDelayTold}
use Rattle.pif_explore_told.specs.declared.delays.Held.{Held}

-- it is told of each of these threads, in their order
pub data AreHeld (p : Plan) (start : Situation) (nodes : List (Node Situation Label)) : List ℕ → List Held → Type 0 where
  none : AreHeld p start nodes [] []
  more : {ts : List ℕ} {hs : List Held} (t : ℕ) (h : Held) → AreHeld p start nodes ts hs → h.thread ≡ t
      → IsDelayTold p start nodes t h.delay → AreHeld p start nodes (ts ++ t ∷ []) (hs ++ h ∷ [])
