-- Programs whose threads are alike up to their names, and states of the machine of exploring that are the same but for the
-- names of threads. (C. N. Ip and D. L. Dill, Better verification through symmetry, 1996.)
-- Each thread has points of its own, also if several run one program. So two threads exchange their points, too.
use Rattle.std.specs.Prelude.{ℕ, ◌≡◌, ◌<◌, false, List, get_or, length, slice_get, map, Option, Some, None}
use Rattle.pif_rules_model.specs.Sets.{no_rules}
use Rattle.pif_explore_model.specs.declared.programs.Point.{Point}
use Rattle.pif_explore_model.specs.declared.programs.Point.TheVariants.{Call, Set, Add, IfCell, IfAnswer, Choose, Join, Start, Unstarted, Exit}
use Rattle.pif_explore_model.specs.declared.labels.Label.{Label}
use Rattle.pif_explore_model.specs.declared.labels.Label.TheVariants.{Begins, Moves, Answers, Computes, Exits, Ticks, Ends, ByRule, EndsByRule}
use Rattle.pif_explore_model.specs.Situations.{Plan, Situation, Marks, may_end}
use Rattle.pif_symmetry_model.specs.Renaming.{Mirrors, renamed_request}

-- LISTS

-- what stands at place t of the one list stands at place f t of the other, as h has it. Beyond the ends stands d
pub record IsMoved {A : Type 0} (f : ℕ → ℕ) (d : A) (h : A → A) (xs ys : List A) : Type 0 where
  pub size : length ys ≡ length xs
  pub within : (t : ℕ) → t < length xs → f t < length xs
  pub back_within : (t : ℕ) → f t < length xs → t < length xs
  pub place : (t : ℕ) → get_or ys (f t) d ≡ h (get_or xs t d)

-- PROGRAMS

-- a point, with the names that threads and points have
abbrev pub renamed_point : (f g : ℕ → ℕ) → Point → Point
renamed_point f g (Call q next) = Call (renamed_request f q) (g next)
renamed_point f g (Set x o next) = Set x o (g next)
renamed_point f g (Add x o next) = Add x o (g next)
renamed_point f g (IfCell x w if_so if_not) = IfCell x w (g if_so) (g if_not)
renamed_point f g (IfAnswer a if_so if_not) = IfAnswer a (g if_so) (g if_not)
renamed_point f g (Choose x least most next) = Choose x least most (g next)
renamed_point f g (Join u next) = Join (f u) (g next)
renamed_point f g (Start u next) = Start (f u) (g next)
renamed_point f g (Unstarted first) = Unstarted (g first)
renamed_point f g Exit = Exit

-- so, if there is a point
abbrev pub renamed_point_at : (f g : ℕ → ℕ) → Option Point → Option Point
renamed_point_at f g None = None
renamed_point_at f g (Some x) = Some (renamed_point f g x)

-- A plan is symmetric if threads are called by f, and points by g: the point that is called g i is the point i, with the
-- names that it has then. A thread may end if it may by its other name
pub record IsSymmetric (f g : ℕ → ℕ) (p : Plan) : Type 0 where
  pub back : ℕ → ℕ
  pub there : (i : ℕ) → back (g i) ≡ i
  pub again : (i : ℕ) → g (back i) ≡ i
  pub points : (i : ℕ) → slice_get p.points (g i) ≡ renamed_point_at f g (slice_get p.points i)
  -- where a thread is that has no place
  pub beyond : g (length p.points) ≡ length p.points
  pub enders : (t : ℕ) → may_end p (f t) ≡ may_end p t

-- STATES

-- marks by other names of threads
pub record MirrorsMarks (f : ℕ → ℕ) (m k : Marks) : Type 0 where
  pub lost : k.lost ≡ m.lost
  pub unblocked : IsMoved f false (λ x. x) m.unblocked k.unblocked
  pub late : IsMoved f false (λ x. x) m.late k.late

-- n is s, in which each thread t is called f t, and each point i is called g i
pub record MirrorsState (f g : ℕ → ℕ) (p : Plan) (s n : Situation) : Type 0 where
  pub world : Mirrors f s.world n.world
  pub places : IsMoved f (length p.points) g s.places n.places
  pub lasts : IsMoved {A = Option ℕ} f None (λ x. x) s.lasts n.lasts
  pub answers : IsMoved {A = Option ℕ} g None (λ x. x) s.answers n.answers
  pub cells : n.cells ≡ s.cells
  pub ends : n.ends ≡ s.ends
  pub ticked : n.ticked ≡ s.ticked
  pub marks : MirrorsMarks f s.marks n.marks
  pub gone : n.gone ≡ s.gone
  pub apart : n.apart ≡ map f s.apart

-- a step by the other name of its thread
abbrev pub renamed_label : (ℕ → ℕ) → Label → Label
renamed_label f (Begins t) = Begins (f t)
renamed_label f (Moves t) = Moves (f t)
renamed_label f (Answers t) = Answers (f t)
renamed_label f (Computes t) = Computes (f t)
renamed_label f (Exits t) = Exits (f t)
renamed_label f Ticks = Ticks
renamed_label f (Ends t) = Ends (f t)
renamed_label f (ByRule t rule) = ByRule (f t) rule
renamed_label f (EndsByRule t rule) = EndsByRule (f t) rule

-- a plan without rules
abbrev pub IsPlain : Plan → Type 0
IsPlain p = p.rules ≡ no_rules
