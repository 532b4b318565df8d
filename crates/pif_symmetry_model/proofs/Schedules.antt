-- A step keeps the schedule of a plan by other names, too: as many threads are ahead.
use Rattle.std.proofs.Common.{ℕ, ◌≡◌, ◌∙◌, ◌==◌, Bool, true, false, not, List, length, get_or, slice_get, nat_lt, Option, Some, None, refl, ap, if◌then◌else◌}
use Rattle.std.specs.List.{list_any}
use Rattle.pif_model.specs.Posix.{World, Call, thread_at, waits_for}
use Rattle.pif_posix_steps.specs.Doing.{passing}
use Rattle.pif_rules_model.specs.Lending.{looking_free}
use Rattle.pif_explore_model.specs.declared.programs.Point.{Point}
use Rattle.pif_explore_model.specs.declared.programs.Point.TheVariants as point
use Rattle.pif_explore_model.specs.declared.labels.Label.{Label}
use Rattle.pif_explore_model.specs.declared.labels.Label.TheVariants.{Begins, Moves, Answers, Computes, Exits, Ticks, Ends, ByRule, EndsByRule}
use Rattle.pif_explore_model.specs.Situations.{Plan, Situation, waits_at, is_joining, is_over, is_under_way}
use Rattle.pif_explore_model.specs.Schedules.{may_take, stands_still, wants_to_run, priority_of, is_ahead, count_ahead, reacquires, needs_none, has_turn, keeps_schedule}
use Rattle.pif_explore_model.specs.Exploring.{Steps}
use Rattle.pif_symmetry_model.specs.Renaming.{Mirrors, renamed_call}
use Rattle.pif_symmetry_model.specs.Symmetry.{IsSymmetric, IsPlain, MirrorsState, renamed_point, renamed_point_at, renamed_label}
use Rattle.pif_symmetry_model.proofs.Names.{same_zero, same_among}
use Rattle.pif_symmetry_model.proofs.Reading.{call_there, living_there, waits_there, rests_there, effective_there}
use Rattle.pif_symmetry_model.proofs.Lending.{too_looking_free}
use Rattle.pif_symmetry_model.proofs.Counting.{count_same}
use Rattle.pif_symmetry_model.proofs.Programs.{point_there, over_there, through_there}
use Rattle.pif_symmetry_model.proofs.Steps.{MirroredState}
use Rattle.pif_symmetry_model.proofs.Happening.{too_happens}

-- WHO CAN RUN

module _ (f : ℕ → ℕ) (w v : World) (a : Mirrors f w v) (t : ℕ) where
  takes_there : may_take v (f t) ≡ may_take w t
  takes_there =
      let among : list_any (λ (x : ℕ × ℕ). x.0 == f t) v.waiters ≡ list_any (λ (x : ℕ × ℕ). x.0 == t) w.waiters =
      ap (λ (ws : List (ℕ × ℕ)). list_any (λ (x : ℕ × ℕ). x.0 == f t) ws) a.waiters ∙ same_among f _ a.renaming w.waiters t in
      let nobody : (waits_for v (f t) == 0) ≡ (waits_for w t == 0) =
      ap (λ z. z == 0) (waits_there f w v a t) ∙ same_zero f _ a.renaming (waits_for w t) in
      λ i. if among i then nobody i else false

  still_there : stands_still v (f t) ≡ stands_still w t
  still_there = λ i. if takes_there i then false else rests_there f w v a t i

  reacquires_same : (c : Option Call) (e : Bool) → reacquires (renamed_call f c) e ≡ reacquires c e
  reacquires_same None e = refl
  reacquires_same (Some x) e = refl

  none_there : needs_none v (f t) ≡ needs_none w t
  none_there =
      let again : reacquires (thread_at v (f t)).call (thread_at v (f t)).timer.expired ≡ reacquires (thread_at w t).call (thread_at w t).timer.expired =
      (λ i. reacquires (call_there f w v a t i) ((a.thread t).timer i).expired) ∙ reacquires_same (thread_at w t).call (thread_at w t).timer.expired in
      λ i. if living_there f w v a t i then (if still_there i then true else again i) else true

waits_same : (f g : ℕ → ℕ) (over also : ℕ → Bool) → ((u : ℕ) → also (f u) ≡ over u) → (x : Point)
    → waits_at (Some (renamed_point f g x)) also ≡ waits_at (Some x) over
waits_same f g over also h (point.Call q next) = refl
waits_same f g over also h (point.Set x o next) = refl
waits_same f g over also h (point.Add x o next) = refl
waits_same f g over also h (point.IfCell x w b c) = refl
waits_same f g over also h (point.IfAnswer r b c) = refl
waits_same f g over also h (point.Choose x l m next) = refl
waits_same f g over also h (point.Join u next) = ap not (h u)
waits_same f g over also h (point.Start u next) = refl
waits_same f g over also h (point.Unstarted first) = refl
waits_same f g over also h point.Exit = refl

waits_same_at : (f g : ℕ → ℕ) (over also : ℕ → Bool) → ((u : ℕ) → also (f u) ≡ over u) → (o : Option Point)
    → waits_at (renamed_point_at f g o) also ≡ waits_at o over
waits_same_at f g over also h None = refl
waits_same_at f g over also h (Some x) = waits_same f g over also h x

module _ (f g : ℕ → ℕ) (p : Plan) (y : IsSymmetric f g p) (s n : Situation) (a : MirrorsState f g p s n) where
  joins_there : (t : ℕ) → is_joining p n (f t) ≡ is_joining p s t
  joins_there t =
      ap (λ (o : Option Point). waits_at o (is_over p n)) (point_there f g p y s n a t)
      ∙ waits_same_at f g (is_over p s) (is_over p n) (over_there f g p y s n a) (slice_get p.points (get_or s.places t (length p.points)))

  wants_there : (t : ℕ) → wants_to_run p n (f t) ≡ wants_to_run p s t
  wants_there t =
      let under : is_under_way p n (f t) ≡ is_under_way p s t =
      λ i. if living_there f s.world n.world a.world t i then not (through_there f g p y s n a t i) else false in
      λ i. if under i then (if joins_there t i then false else not (still_there f s.world n.world a.world t i)) else false

  pub priority_there : (t : ℕ) → priority_of p n (f t) ≡ priority_of p s t
  priority_there t =
      effective_there f (looking_free p.prio_none s.world) (looking_free p.prio_none n.world)
      (too_looking_free f p.prio_none s.world n.world a.world) t

  ahead_there : (t u : ℕ) → is_ahead p n (f t) (f u) ≡ is_ahead p s t u
  ahead_there t u = λ i. if wants_there u i then nat_lt (priority_there t i) (priority_there u i) else false

  count_there : (t : ℕ) → count_ahead p n (f t) ≡ count_ahead p s t
  count_there t =
      ap (λ k. length (passing (is_ahead p n (f t)) k)) a.world.threads
      ∙ count_same f (length s.world.threads) a.world.renaming (is_ahead p s t) (is_ahead p n (f t)) (ahead_there t)

  turn_there : (o : Option ℕ) (t : ℕ) → has_turn o p n (f t) ≡ has_turn o p s t
  turn_there None t = refl
  turn_there (Some k) t = λ i. if none_there f s.world n.world a.world t i then true else nat_lt (count_there t i) k

  keeps_there : (l : Label) → keeps_schedule p n (renamed_label f l) ≡ keeps_schedule p s l
  keeps_there (Begins t) = turn_there p.processors t
  keeps_there (Moves t) = turn_there p.processors t
  keeps_there (Answers t) = turn_there p.processors t
  keeps_there (Computes t) = turn_there p.processors t
  keeps_there (Exits t) = turn_there p.processors t
  keeps_there Ticks = refl
  keeps_there (Ends t) = refl
  keeps_there (ByRule t rule) = turn_there p.processors t
  keeps_there (EndsByRule t rule) = refl

  pub too_steps : IsPlain p → (l : Label) (k : Situation) → Steps p s l k → MirroredState f g p (Steps p n (renamed_label f l)) k
  too_steps none l k x =
      let m = too_happens f g p y s n a none l k x.happens in
      record { after = m.after; step = record { happens = m.step; keeps = keeps_there l ∙ x.keeps }; mirrors = m.mirrors }
