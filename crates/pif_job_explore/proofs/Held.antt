-- What is told of delays, one thread after another.
use Rattle.std.proofs.Common.{ℕ, ◌≡◌, ◌<◌, ◌≤◌, ◌+◌, ◌∙◌, List, [], ◌∷◌, ◌++◌, length, take, get_or, sym, ap, subst}
use Rattle.std.proofs.lemmas.List.{take_all, take_more}
use Rattle.pif_reach.specs.declared.system.Node.{Node}
use Rattle.pif_explore_model.specs.declared.labels.Label.{Label}
use Rattle.pif_explore_model.specs.Situations.{Plan, Situation}
use Rattle.pif_explore.specs.Delays.{IsDelayTold}
use Rattle.pif_explore_told.specs.declared.delays.Held.{Held}
use Rattle.pif_job_explore.specs.Delays.{AreHeld}
use Rattle.pif_job_explore.specs.Delays.AreHeld.{more, none}

pub none_held : (p : Plan) (start : Situation) (nodes : List (Node Situation Label)) (all : List ℕ) (new : List Held) → new ≡ []
    → AreHeld p start nodes (take 0 all) new
none_held p start nodes all new e = subst (λ (hs : List Held). AreHeld p start nodes [] hs) (sym e) none

-- one thread more
pub held_more : (p : Plan) (start : Situation) (nodes : List (Node Situation Label)) (all : List ℕ) (i t : ℕ) (h : Held) (old new : List Held)
    → i < length all → t ≡ get_or all i t → new ≡ old ++ h ∷ [] → h.thread ≡ t → AreHeld p start nodes (take i all) old
    → IsDelayTold p start nodes t h.delay → AreHeld p start nodes (take (i + 1) all) new
held_more p start nodes all i t h old new lt e f same held is =
    let next : take (i + 1) all ≡ take i all ++ t ∷ [] = take_more all i t lt ∙ ap (λ (x : ℕ). take i all ++ x ∷ []) (sym e) in
    let one : AreHeld p start nodes (take i all ++ t ∷ []) new =
    subst (λ (hs : List Held). AreHeld p start nodes (take i all ++ t ∷ []) hs) (sym f) (more t h held same is) in
    subst (λ (ts : List ℕ). AreHeld p start nodes ts new) (sym next) one

-- all threads
pub all_held : (p : Plan) (start : Situation) (nodes : List (Node Situation Label)) (all : List ℕ) (i : ℕ) (hs : List Held) → length all ≤ i
    → AreHeld p start nodes (take i all) hs → AreHeld p start nodes all hs
all_held p start nodes all i hs end held = subst (λ (ts : List ℕ). AreHeld p start nodes ts hs) (take_all i all end) held
