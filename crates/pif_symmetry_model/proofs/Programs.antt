-- What is read of states of a symmetric program that are the same but for names, and what a thread does between calls.
use Rattle.std.proofs.Common.{ℕ, ◌≡◌, ◌∙◌, Bool, true, false, not, List, [], ◌∷◌, get_or, set, map, length, slice_get, Option, Some, None, is_some, refl, sym, ap, if◌then◌else◌}
use Rattle.pif_model.specs.Posix.{thread_at}
use Rattle.pif_explore_model.specs.declared.programs.Point.{Point}
use Rattle.pif_explore_model.specs.declared.programs.Point.TheVariants as point
use Rattle.pif_explore_model.specs.Situations.{Plan, Situation, IsAt, is_through, is_unstarted_at, is_unstarted, ends_left, is_over, is_ready, last_of, done_at, doings, started_from, places_behind, after_point, values_between, is_wanted, is_answer_of}
use Rattle.pif_symmetry_model.specs.Symmetry.{IsMoved, IsSymmetric, MirrorsState, renamed_point, renamed_point_at}
use Rattle.pif_symmetry_model.proofs.Names.{one_name}
use Rattle.pif_symmetry_model.proofs.Reading.{call_there, living_there, open_same}
use Rattle.pif_symmetry_model.proofs.Places.{moved_set}

-- POINTS

some_same : (f g : ℕ → ℕ) (o : Option Point) → is_some (renamed_point_at f g o) ≡ is_some o
some_same f g None = refl
some_same f g (Some x) = refl

unstarted_by : (f g : ℕ → ℕ) (x : Point) → is_unstarted_at (Some (renamed_point f g x)) ≡ is_unstarted_at (Some x)
unstarted_by f g (point.Call q next) = refl
unstarted_by f g (point.Set x o next) = refl
unstarted_by f g (point.Add x o next) = refl
unstarted_by f g (point.IfCell x w a b) = refl
unstarted_by f g (point.IfAnswer r a b) = refl
unstarted_by f g (point.Choose x l m next) = refl
unstarted_by f g (point.Join u next) = refl
unstarted_by f g (point.Start u next) = refl
unstarted_by f g (point.Unstarted first) = refl
unstarted_by f g point.Exit = refl

unstarted_same : (f g : ℕ → ℕ) (o : Option Point) → is_unstarted_at (renamed_point_at f g o) ≡ is_unstarted_at o
unstarted_same f g None = refl
unstarted_same f g (Some x) = unstarted_by f g x

started_by : (f g : ℕ → ℕ) (x : Point) (i : ℕ) → started_from (Some (renamed_point f g x)) (g i) ≡ g (started_from (Some x) i)
started_by f g (point.Call q next) i = refl
started_by f g (point.Set x o next) i = refl
started_by f g (point.Add x o next) i = refl
started_by f g (point.IfCell x w a b) i = refl
started_by f g (point.IfAnswer r a b) i = refl
started_by f g (point.Choose x l m next) i = refl
started_by f g (point.Join u next) i = refl
started_by f g (point.Start u next) i = refl
started_by f g (point.Unstarted first) i = refl
started_by f g point.Exit i = refl

started_same : (f g : ℕ → ℕ) (o : Option Point) (i : ℕ) → started_from (renamed_point_at f g o) (g i) ≡ g (started_from o i)
started_same f g None i = refl
started_same f g (Some x) i = started_by f g x i

-- where a thread goes on, by the other name of the point
abbrev pub renamed_way : (ℕ → ℕ) → (ℕ × List ℕ) → ℕ × List ℕ
renamed_way g x = (g x.0, x.1)

map_map : {A B C : Type 0} (h : B → C) (k : A → B) (xs : List A) → map (λ x. h (k x)) xs ≡ map h (map k xs)
map_map h k [] = refl
map_map h k (x ∷ xs) = ap (λ (ys : List _). h (k x) ∷ ys) (map_map h k xs)

goes_by : (g : ℕ → ℕ) (b : Bool) (x y : ℕ) (cells : List ℕ)
    → ((if b then g x else g y, cells) ∷ []) ≡ map (renamed_way g) ((if b then x else y, cells) ∷ [])
goes_by g true x y cells = refl
goes_by g false x y cells = refl

joins_by : (g : ℕ → ℕ) (b : Bool) (x : ℕ) (cells : List ℕ)
    → (if b then (g x, cells) ∷ [] else []) ≡ map (renamed_way g) (if b then (x, cells) ∷ [] else [])
joins_by g true x cells = refl
joins_by g false x cells = refl

module _ (f g : ℕ → ℕ) (over also_over : ℕ → Bool) (same : (u : ℕ) → also_over (f u) ≡ over u) (cells : List ℕ) (last : Option ℕ) where
  done_same : (x : Point) → done_at also_over cells last (renamed_point f g x) ≡ map (renamed_way g) (done_at over cells last x)
  done_same (point.Call q next) = refl
  done_same (point.Set x o next) = refl
  done_same (point.Add x o next) = refl
  done_same (point.IfCell x w a b) = goes_by g (is_wanted w cells (get_or cells x 0)) a b cells
  done_same (point.IfAnswer r a b) = goes_by g (is_answer_of last r) a b cells
  done_same (point.Choose x l m next) = map_map (renamed_way g) (λ v. (next, set cells x v)) (values_between l m)
  done_same (point.Join u next) = ap (λ b. if b then (g next, cells) ∷ [] else []) (same u) ∙ joins_by g (over u) next cells
  done_same (point.Start u next) = refl
  done_same (point.Unstarted first) = refl
  done_same point.Exit = refl

-- STATES

module _ (f g : ℕ → ℕ) (p : Plan) (y : IsSymmetric f g p) where
  pub one_point : (a b : ℕ) → g a ≡ g b → a ≡ b
  one_point a b e = sym (y.there a) ∙ ap y.back e ∙ y.there b

  module _ (s n : Situation) (a : MirrorsState f g p s n) where
    pub point_there : (t : ℕ) → slice_get p.points (get_or n.places (f t) (length p.points))
        ≡ renamed_point_at f g (slice_get p.points (get_or s.places t (length p.points)))
    point_there t = ap (slice_get p.points) (a.places.place t) ∙ y.points (get_or s.places t (length p.points))

    pub at_there : (t : ℕ) (x : Point) → IsAt p s t x → IsAt p n (f t) (renamed_point f g x)
    at_there t x h = point_there t ∙ ap (renamed_point_at f g) h

    pub through_there : (t : ℕ) → is_through p n (f t) ≡ is_through p s t
    through_there t =
        ap (λ (o : Option Point). not (is_some o)) (point_there t)
        ∙ ap not (some_same f g (slice_get p.points (get_or s.places t (length p.points))))

    pub ends_there : (t : ℕ) → ends_left p n (f t) ≡ ends_left p s t
    ends_there t =
        let waits : is_unstarted p n (f t) ≡ is_unstarted p s t =
        ap is_unstarted_at (point_there t) ∙ unstarted_same f g (slice_get p.points (get_or s.places t (length p.points))) in
        λ i. if y.enders t i then (if waits i then 0 else a.ends i) else 0

    pub over_there : (t : ℕ) → is_over p n (f t) ≡ is_over p s t
    over_there t = λ i. not (if living_there f s.world n.world a.world t i then not (through_there t i) else false)

    pub ready_there : (t : ℕ) → is_ready n.world (f t) ≡ is_ready s.world t
    ready_there t =
        let busy : is_some (thread_at n.world (f t)).call ≡ is_some (thread_at s.world t).call =
        ap is_some (call_there f s.world n.world a.world t) ∙ open_same f (thread_at s.world t).call in
        λ i. if living_there f s.world n.world a.world t i then not (busy i) else false

    -- what a thread does at a point
    pub doings_there : (t : ℕ) (x : Point) → doings p n (f t) (renamed_point f g x) ≡ map (renamed_way g) (doings p s t x)
    doings_there t x =
        (λ i. done_at (is_over p n) (a.cells i) (a.lasts.place t i) (renamed_point f g x))
        ∙ done_same f g (is_over p s) (is_over p n) over_there s.cells (last_of s t) x

    -- and where the threads are then
    places_there : (x : Point) → IsMoved f (length p.points) g (places_behind p.points x s.places) (places_behind p.points (renamed_point f g x) n.places)
    places_there (point.Start u next) =
        moved_set f (one_name f _ a.world.renaming) (length p.points) g s.places n.places a.places u _ _
        (ap (λ (o : Option Point). started_from o (get_or n.places (f u) (length p.points))) (point_there u)
        ∙ ap (started_from (renamed_point_at f g (slice_get p.points (get_or s.places u (length p.points))))) (a.places.place u)
        ∙ started_same f g (slice_get p.points (get_or s.places u (length p.points))) (get_or s.places u (length p.points)))
    places_there (point.Call q next) = a.places
    places_there (point.Set x o next) = a.places
    places_there (point.Add x o next) = a.places
    places_there (point.IfCell x w b c) = a.places
    places_there (point.IfAnswer r b c) = a.places
    places_there (point.Choose x l m next) = a.places
    places_there (point.Join u next) = a.places
    places_there (point.Unstarted first) = a.places
    places_there point.Exit = a.places

    pub same_point : (x : Point) (t : ℕ) (d : ℕ × List ℕ)
        → MirrorsState f g p (after_point p x t s d) (after_point p (renamed_point f g x) (f t) n (renamed_way g d))
    same_point x t d = record {
      world = a.world;
      places = moved_set f (one_name f _ a.world.renaming) (length p.points) g (places_behind p.points x s.places)
          (places_behind p.points (renamed_point f g x) n.places) (places_there x) t d.0 (g d.0) refl;
      lasts = a.lasts;
      answers = a.answers;
      cells = refl;
      ends = a.ends;
      ticked = a.ticked;
      marks = a.marks;
      gone = a.gone;
      apart = a.apart;
    }
