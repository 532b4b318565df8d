-- Steps as objects of JSON (RFC 8259, section 4), and schedules as arrays of them, with the members that
-- docs/explore.schema.json has. The state after a step is told by what is other than before.
use Rattle.std.specs.Prelude.{ℕ, ◌≡◌, Bool, false, List, [], ◌∷◌, ◌++◌, codes, decimal, drop, flat_map, length, reverse, slice_get, Option, Some, None}
use Rattle.pif_rules_model.specs.declared.rules.Rule.{Rule}
use Rattle.pif_rules_model.specs.declared.rules.Rule.TheVariants.{EndsApart}
use Rattle.pif_rules_model.specs.Sets.{no_rules}
use Rattle.pif_rules.specs.Sets.{names_of, only}
use Rattle.pif_reach.specs.declared.system.Node.{Node}
use Rattle.pif_reach.specs.declared.system.Way.{Way}
use Rattle.pif_history_told.specs.Runs.{move_object}
use Rattle.pif_history_told.specs.StateObjects.{change_members}
use Rattle.pif_explore_model.specs.declared.labels.Label.{Label}
use Rattle.pif_explore_model.specs.declared.labels.Label.TheVariants.{Moves, Ends, ByRule, EndsByRule}
use Rattle.pif_explore_model.specs.Situations.{Plan, Situation, wide_of}
use Rattle.pif_explore.specs.declared.legs.Leg.{Leg}
use Rattle.pif_explore_told.specs.FoundSchedules.{back_from, schedule, step_line, way_at}
use Rattle.pif_explore_page.specs.Elements.{elements}
use Rattle.pif_explore_page.specs.Texts.{trimmed}

-- the values of cells, that of cell 1 first. Place 0 stands for none
abbrev pub cells_told : List ℕ → List ℕ
cells_told cells = elements decimal (drop 1 cells)

-- the cells of a state, and its threads, mutexes and variables: those that are other than in another one, or all
abbrev pub state_members : (whole : Bool) → Plan → Situation → Situation → List ℕ
state_members whole p s n =
    codes ",\"cells\":[" ++ (cells_told n.cells ++ (codes "]" ++ (change_members whole (wide_of p s) (wide_of p n) ++ codes "}")))

-- a step that has a line of its own
abbrev pub text_object : Plan → Label → Situation → Situation → List ℕ
text_object p l s n =
    codes "{\"text\":\"" ++ (trimmed (step_line p l s n) ++ (codes "\"" ++ state_members false p s n))

-- a step by a rule: a mutex that passes on by `ends_apart` is a step of the end of its thread
abbrev pub rule_kind : Rule → List ℕ
rule_kind EndsApart = codes "end"
rule_kind rule = codes "move"

-- a step from a state to another. A move of an open call, and the end of a thread, are told as of runs of histories
unfoldable pub step_object : Plan → Label → Situation → Situation → List ℕ
step_object p (Moves t) s n = move_object (codes "move") t (names_of no_rules) (wide_of p s) (wide_of p n)
step_object p (Ends t) s n = move_object (codes "end") t (names_of no_rules) (wide_of p s) (wide_of p n)
step_object p (ByRule t rule) s n =
    move_object (rule_kind rule) t (names_of (only p.rules rule)) (wide_of p s) (wide_of p n)
step_object p (EndsByRule t rule) s n =
    move_object (codes "end") t (names_of (only p.rules rule)) (wide_of p s) (wide_of p n)
step_object p l s n = text_object p l s n

-- a step of a run: its label, the state before it, and the state after it
abbrev pub Step : Type 0
Step = Label × Situation × Situation

-- the step from one node to another, if there are both
abbrev pub step_between : Label → Option (Node Situation Label) → Option (Node Situation Label) → List Step
step_between l (Some m) (Some n) = (l, m.state, n.state) ∷ []
step_between l m n = []

-- the step to a node, if it was found by one
abbrev pub step_by : List (Node Situation Label) → Option (Node Situation Label) → Option (Way Label) → List Step
step_by nodes n None = []
step_by nodes n (Some w) = step_between w.label (slice_get nodes w.from) n

abbrev pub step_to : List (Node Situation Label) → ℕ → List Step
step_to nodes k = step_by nodes (slice_get nodes k) (way_at nodes k)

-- the steps of the schedule of the node at a place: those of the run by which it was found
unfoldable pub steps_to : List (Node Situation Label) → ℕ → List Step
steps_to nodes k = flat_map (step_to nodes) (reverse (back_from nodes (length nodes) k))

-- the schedule that is told in lines has just these steps
abbrev pub HasTheseSteps : Type 0
HasTheseSteps =
    (p : Plan) (nodes : List (Node Situation Label)) (k : ℕ)
    → schedule p nodes k ≡ flat_map (λ (x : Step). step_line p x.0 x.1 x.2) (steps_to nodes k)

-- the steps of a stretch
abbrev pub leg_step : List (Node Situation Label) → Leg → List Step
leg_step nodes g = step_between g.label (slice_get nodes g.from) (slice_get nodes g.to)

abbrev pub leg_steps : List (Node Situation Label) → List Leg → List Step
leg_steps nodes legs = flat_map (leg_step nodes) legs

-- steps as the elements of an array: an object for each of them
abbrev pub object_of : Plan → Step → List ℕ
object_of p x = step_object p x.0 x.1 x.2

unfoldable pub steps_told : Plan → List Step → List ℕ
steps_told p steps = elements (object_of p) steps
