-- Steps as elements, one more each time.
use Rattle.std.proofs.Common.{ℕ, ◌≡◌, ◌∙◌, ◌≤◌, List, [], ◌∷◌, ◌++◌, Option, Some, None, length, ap, append-nil, append_assoc, refl, sym}
use Rattle.std.specs.Prelude.{codes, drop, flat_map, option_and_then, reverse, slice_get}
use Rattle.std.proofs.lemmas.List.{flat_map_more, reverse-append}
use Rattle.std.proofs.lemmas.Option.{slice_get_past}
use Rattle.pif_reach.specs.declared.system.Node.{Node}
use Rattle.pif_reach.specs.declared.system.Way.{Way}
use Rattle.pif_history_told.specs.Runs.{comma_behind, move_object}
use Rattle.pif_explore_model.specs.declared.labels.Label.{Label}
use Rattle.pif_explore_model.specs.declared.labels.Label.TheVariants.{Moves, Ends, ByRule, EndsByRule}
use Rattle.pif_explore_model.specs.Situations.{Plan, Situation}
use Rattle.pif_explore_told.specs.FoundSchedules.{back_from, schedule, step_by as line_by, step_from, step_line, step_to as line_to, way_at}
use Rattle.pif_explore_page.specs.Steps.{HasTheseSteps, Step, object_of, step_between, step_by, step_object, step_to, steps_to, steps_told}

-- an object begins with a brace
begins : (p : Plan) (l : Label) (s n : Situation) → step_object p l s n ≡ 123 ∷ drop 1 (step_object p l s n)
unfolding step_object move_object
begins p (Moves t) s n = refl
begins p (Ends t) s n = refl
begins p (ByRule t rule) s n = refl
begins p (EndsByRule t rule) s n = refl
begins p _ s n = refl

-- so that a comma stands behind steps
comma_is : (p : Plan) (x : Step) (more : List Step) → comma_behind (steps_told p (x ∷ more)) ≡ codes ","
unfolding steps_told
comma_is p x more =
    ap (λ (l : List ℕ). comma_behind (l ++ flat_map (λ (y : Step). codes "," ++ object_of p y) more)) (begins p x.0 x.1 x.2)

one_more : (p : Plan) (done : List Step) (x : Step)
    → steps_told p (done ++ x ∷ []) ≡ (steps_told p done ++ comma_behind (steps_told p done)) ++ object_of p x
unfolding steps_told
one_more p [] x = append-nil (object_of p x)
one_more p (y ∷ more) x =
    sym (flat_map_more (λ (z : Step). codes "," ++ object_of p z) (object_of p y) more x)
    ∙ sym (append_assoc (steps_told p (y ∷ more)) (codes ",") (object_of p x))
    ∙ ap (λ (l : List ℕ). (steps_told p (y ∷ more) ++ l) ++ object_of p x) (sym (comma_is p y more))

-- none, and one step more, behind a comma
pub none_told : (p : Plan) → [] ≡ steps_told p []
unfolding steps_told
none_told p = refl

pub step_added : (p : Plan) (done : List Step) (x : Step) (old one new : List ℕ) → old ≡ steps_told p done
    → one ≡ old ++ comma_behind old → new ≡ one ++ object_of p x → new ≡ steps_told p (done ++ x ∷ [])
step_added p done x old one new e f g =
    g ∙ ap (λ (l : List ℕ). l ++ object_of p x) (f ∙ ap (λ (l : List ℕ). l ++ comma_behind l) e) ∙ sym (one_more p done x)

pub not_added : (p : Plan) (done steps : List Step) (old : List ℕ) → steps ≡ [] → old ≡ steps_told p done
    → old ≡ steps_told p (done ++ steps)
not_added p done steps old e f =
    f ∙ ap (λ (xs : List Step). steps_told p xs) (sym (append-nil done) ∙ ap (λ (xs : List Step). done ++ xs) (sym e))

-- steps, from the last place of the way back on
pub step_passed : (f : ℕ → List Step) (at : ℕ) (done whole : List Step) (old rest : List ℕ) → old ≡ rest ++ at ∷ []
    → done ++ flat_map f (reverse old) ≡ whole → (done ++ f at) ++ flat_map f (reverse rest) ≡ whole
step_passed f at done whole old rest e g =
    let turned : reverse old ≡ at ∷ reverse rest = ap (λ (l : List ℕ). reverse l) e ∙ reverse-append rest (at ∷ []) in
    append_assoc done (f at) (flat_map f (reverse rest))
    ∙ ap (λ (l : List ℕ). done ++ flat_map f l) (sym turned) ∙ g

pub way_begins : (nodes : List (Node Situation Label)) (k : ℕ) (back : List ℕ) → back ≡ back_from nodes (length nodes) k
    → [] ++ flat_map (step_to nodes) (reverse back) ≡ steps_to nodes k
unfolding steps_to
way_begins nodes k back e = ap (λ (l : List ℕ). flat_map (step_to nodes) (reverse l)) e

-- which step leads to a node
module _ (nodes : List (Node Situation Label)) (k : ℕ) where
  way_is : (n : Node Situation Label) (w : Option (Way Label)) → slice_get nodes k ≡ Some n → n.way ≡ w → way_at nodes k ≡ w
  way_is n w e f = ap (λ (o : Option (Node Situation Label)). option_and_then (λ (m : Node Situation Label). m.way) o) e ∙ f

  pub no_node : length nodes ≤ k → step_to nodes k ≡ []
  no_node past =
      ap (λ (o : Option (Node Situation Label)). step_by nodes o (option_and_then (λ (m : Node Situation Label). m.way) o))
      (slice_get_past nodes k past)

  pub no_way : (n : Node Situation Label) → slice_get nodes k ≡ Some n → n.way ≡ None → step_to nodes k ≡ []
  no_way n e f = ap (λ (o : Option (Way Label)). step_by nodes (slice_get nodes k) o) (way_is n None e f)

  pub no_first : (n : Node Situation Label) (w : Way Label) → slice_get nodes k ≡ Some n → n.way ≡ Some w → length nodes ≤ w.from
      → step_to nodes k ≡ []
  no_first n w e f past =
      ap (λ (o : Option (Way Label)). step_by nodes (slice_get nodes k) o) (way_is n (Some w) e f)
      ∙ ap (λ (o : Option (Node Situation Label)). step_between w.label o (slice_get nodes k)) (slice_get_past nodes w.from past)

  pub step_is : (n : Node Situation Label) (w : Way Label) (m : Node Situation Label) → slice_get nodes k ≡ Some n → n.way ≡ Some w
      → slice_get nodes w.from ≡ Some m → step_to nodes k ≡ (w.label, m.state, n.state) ∷ []
  step_is n w m e f g =
      ap (λ (o : Option (Way Label)). step_by nodes (slice_get nodes k) o) (way_is n (Some w) e f)
      ∙ (λ i. step_between w.label (g i) (e i))

-- which one leads from a node to another
pub none_from : (l : Label) (o e : Option (Node Situation Label)) → o ≡ None → step_between l o e ≡ []
none_from l o e is = ap (λ (x : Option (Node Situation Label)). step_between l x e) is

pub none_to : (l : Label) (o e : Option (Node Situation Label)) → e ≡ None → step_between l o e ≡ []
none_to l None e is = refl
none_to l (Some m) e is = ap (λ (x : Option (Node Situation Label)). step_between l (Some m) x) is

pub one_between : (l : Label) (o e : Option (Node Situation Label)) (m n : Node Situation Label) → o ≡ Some m → e ≡ Some n
    → step_between l o e ≡ (l, m.state, n.state) ∷ []
one_between l o e m n f g = λ i. step_between l (f i) (g i)

-- the schedule that is told in lines
module _ (p : Plan) where
  from_is : (l : Label) (m : Option (Node Situation Label)) (n : Node Situation Label)
      → step_from p l m n.state ≡ flat_map (λ (x : Step). step_line p x.0 x.1 x.2) (step_between l m (Some n))
  from_is l None n = refl
  from_is l (Some m) n = sym (append-nil (step_line p l m.state n.state))

  by_is : (nodes : List (Node Situation Label)) (n : Option (Node Situation Label)) (w : Option (Way Label))
      → line_by p nodes n w ≡ flat_map (λ (x : Step). step_line p x.0 x.1 x.2) (step_by nodes n w)
  by_is nodes (Some n) (Some w) = from_is w.label (slice_get nodes w.from) n
  by_is nodes (Some n) None = refl
  by_is nodes None None = refl
  by_is nodes None (Some w) =
      sym (ap (λ (xs : List Step). flat_map (λ (x : Step). step_line p x.0 x.1 x.2) xs) (none_to w.label (slice_get nodes w.from) None refl))

  appended : (xs ys : List Step) → flat_map (λ (x : Step). step_line p x.0 x.1 x.2) (xs ++ ys)
      ≡ flat_map (λ (x : Step). step_line p x.0 x.1 x.2) xs ++ flat_map (λ (x : Step). step_line p x.0 x.1 x.2) ys
  appended [] ys = refl
  appended (x ∷ xs) ys =
      ap (λ (l : List ℕ). step_line p x.0 x.1 x.2 ++ l) (appended xs ys)
      ∙ sym (append_assoc (step_line p x.0 x.1 x.2) (flat_map (λ (z : Step). step_line p z.0 z.1 z.2) xs)
      (flat_map (λ (z : Step). step_line p z.0 z.1 z.2) ys))

  all_are : (nodes : List (Node Situation Label)) (ks : List ℕ)
      → flat_map (line_to p nodes) ks ≡ flat_map (λ (x : Step). step_line p x.0 x.1 x.2) (flat_map (step_to nodes) ks)
  all_are nodes [] = refl
  all_are nodes (k ∷ ks) =
      (λ i. by_is nodes (slice_get nodes k) (way_at nodes k) i ++ all_are nodes ks i)
      ∙ sym (appended (step_to nodes k) (flat_map (step_to nodes) ks))

pub has_these_steps : HasTheseSteps
unfolding steps_to schedule
has_these_steps p nodes k = all_are p nodes (reverse (back_from nodes (length nodes) k))
