-- The outcomes of states that are the same but for names are the same but for names.
use Rattle.std.proofs.Common.{ℕ, zero, suc, ◌≡◌, ◌≢◌, ◌≤◌, ◌<◌, ◌∙◌, Bool, true, false, List, [], ◌∷◌, ◌++◌, length, get_or, map, Option, Some, None, refl, sym, ap, subst, inl, inr, arith, if◌then◌else◌}
use Rattle.std.proofs.lemmas.Bool.{cases_eq, cases_lt}
use Rattle.std.proofs.lemmas.List.{length-append}
use Rattle.pif_types.specs.declared.requests.Request.{Request}
use Rattle.pif_model.specs.Graph.{waited_by}
use Rattle.pif_model.specs.Posix.{Call, Progress, Mutex, thread_at, is_living}
use Rattle.pif_model.specs.World.Progress.{Stuck, Blocked, Fresh, Waiting, Leaving, Has, Checked, Enlisted, Reacquiring, Used}
use Rattle.pif_history_model.specs.Queues.{is_waiter}
use Rattle.pif_explore_model.specs.declared.outcomes.Fate.{Fate}
use Rattle.pif_explore_model.specs.declared.outcomes.Fate.TheVariants.{HasEnded, IsThrough, WaitsFor, WaitsForGood, IsBlockedOn}
use Rattle.pif_explore_model.specs.declared.programs.Point.{Point}
use Rattle.pif_explore_model.specs.declared.programs.Point.TheVariants as point
use Rattle.pif_explore_model.specs.Stepping.{point_of}
use Rattle.pif_explore_model.specs.Situations.{Plan, Situation, is_through}
use Rattle.pif_explore_model.specs.Outcomes.{Outcome, fate_by, fate_at, fate_of_call, fate_of, fates_below, standing_of, outcome_of, IsOutcome}
use Rattle.pif_symmetry_model.specs.Renaming.{renamed_request, renamed_call, renamed_mutex}
use Rattle.pif_symmetry_model.specs.Symmetry.{IsSymmetric, IsPlain, MirrorsState, renamed_point, renamed_point_at, renamed_label}
use Rattle.pif_symmetry_model.specs.Outcomes.{MirrorsOutcome, renamed_fate, renamed_standing}
use Rattle.pif_symmetry_model.proofs.Names.{same_among, same_waited}
use Rattle.pif_symmetry_model.proofs.Reading.{variable_same, named_same, call_there, living_there}
use Rattle.pif_symmetry_model.proofs.Classes.{map_both}
use Rattle.pif_symmetry_model.proofs.Programs.{point_there, through_there}
use Rattle.pif_symmetry_model.proofs.Back.{too_run, final_there}

-- LISTS

push_here : {A : Type 0} (xs : List A) (x d : A) → get_or (xs ++ x ∷ []) (length xs) d ≡ x
push_here [] x d = refl
push_here (y ∷ ys) x d = push_here ys x d

push_other : {A : Type 0} (xs : List A) (x d : A) (u : ℕ) → u ≢ length xs → get_or (xs ++ x ∷ []) u d ≡ get_or xs u d
push_other [] x d zero ne = absurd (ne refl)
push_other [] x d (suc u) ne = refl
push_other (y ∷ ys) x d zero ne = refl
push_other (y ∷ ys) x d (suc u) ne = push_other ys x d u (λ e. ne (omega (arith, e)))

get_beyond : {A : Type 0} (xs : List A) (d : A) (u : ℕ) → length xs ≤ u → get_or xs u d ≡ d
get_beyond [] d u l = refl
get_beyond (x ∷ xs) d zero l = absurd (omega arith)
get_beyond (x ∷ xs) d (suc u) l = get_beyond xs d u (omega (arith, l))

module _ (p : Plan) (s : Situation) where
  fates_length : (n : ℕ) → length (fates_below p s n) ≡ n
  fates_length zero = refl
  fates_length (suc n) = omega (arith, fates_length n, length-append (fates_below p s n) (fate_of p s n ∷ []))

  fates_in : (n u : ℕ) → u < n → get_or (fates_below p s n) u HasEnded ≡ fate_of p s u
  fates_in zero u l = absurd (omega (arith, l))
  fates_in (suc n) u l =
      elim (cases_eq u n) [
        | inl is ↦ subst (λ z. get_or (fates_below p s n ++ fate_of p s n ∷ []) z HasEnded ≡ fate_of p s z) (sym is)
            (subst (λ z. get_or (fates_below p s n ++ fate_of p s n ∷ []) z HasEnded ≡ fate_of p s n) (fates_length n) (push_here (fates_below p s n) (fate_of p s n) HasEnded))
        | inr ne ↦ push_other (fates_below p s n) (fate_of p s n) HasEnded u (λ e. ne (e ∙ fates_length n)) ∙ fates_in n u (omega (arith, l, ne))
      ]

-- FATES

fate_by_same : (f : ℕ → ℕ) (q : Request) (r : Progress) → fate_by (renamed_request f q) r ≡ renamed_fate f (fate_by q r)
fate_by_same f q Stuck = ap (λ m. WaitsForGood m) (named_same f q)
fate_by_same f q (Blocked noted) = ap (λ c. IsBlockedOn c) (variable_same f q)
fate_by_same f q Fresh = refl
fate_by_same f q Waiting = refl
fate_by_same f q Leaving = refl
fate_by_same f q (Has r) = refl
fate_by_same f q Checked = refl
fate_by_same f q (Enlisted b) = refl
fate_by_same f q Reacquiring = refl
fate_by_same f q Used = refl

fate_at_point : (f g : ℕ → ℕ) (x : Point) → fate_at (Some (renamed_point f g x)) ≡ renamed_fate f (fate_at (Some x))
fate_at_point f g (point.Call q next) = refl
fate_at_point f g (point.Set x o next) = refl
fate_at_point f g (point.Add x o next) = refl
fate_at_point f g (point.IfCell x w b c) = refl
fate_at_point f g (point.IfAnswer r b c) = refl
fate_at_point f g (point.Choose x l m next) = refl
fate_at_point f g (point.Join u next) = refl
fate_at_point f g (point.Start u next) = refl
fate_at_point f g (point.Unstarted first) = refl
fate_at_point f g point.Exit = refl

fate_at_same : (f g : ℕ → ℕ) (o : Option Point) → fate_at (renamed_point_at f g o) ≡ renamed_fate f (fate_at o)
fate_at_same f g None = refl
fate_at_same f g (Some x) = fate_at_point f g x

fate_call_same : (f g : ℕ → ℕ) (o : Option Point) (c : Option Call) → fate_of_call (renamed_point_at f g o) (renamed_call f c) ≡ renamed_fate f (fate_of_call o c)
fate_call_same f g o None = fate_at_same f g o
fate_call_same f g o (Some x) = fate_by_same f x.request x.progress

-- a fate out of a choice
out_of_if : (f : ℕ → ℕ) (b : Bool) (x y : Fate) → (if b then renamed_fate f x else renamed_fate f y) ≡ renamed_fate f (if b then x else y)
out_of_if f true x y = refl
out_of_if f false x y = refl

module _ (f g : ℕ → ℕ) (p : Plan) (y : IsSymmetric f g p) (s n : Situation) (a : MirrorsState f g p s n) where
  fate_there : (t : ℕ) → fate_of p n (f t) ≡ renamed_fate f (fate_of p s t)
  fate_there t =
      let waits : is_waiter n.world (f t) ≡ is_waiter s.world t =
      ap (λ (ws : List (ℕ × ℕ)). is_waiter (record n.world { waiters = ws }) (f t)) a.world.waiters ∙ same_among f _ a.world.renaming s.world.waiters t in
      let waited : waited_by n.world.waiters (f t) ≡ waited_by s.world.waiters t =
      ap (λ (ws : List (ℕ × ℕ)). waited_by ws (f t)) a.world.waiters ∙ same_waited f _ a.world.renaming s.world.waiters t in
      let called : fate_of_call (point_of p n (f t)) (thread_at n.world (f t)).call ≡ renamed_fate f (fate_of_call (point_of p s t) (thread_at s.world t).call) =
      (λ i. fate_of_call (point_there f g p y s n a t i) (call_there f s.world n.world a.world t i))
      ∙ fate_call_same f g (point_of p s t) (thread_at s.world t).call in
      let inner : (if is_waiter s.world t then WaitsFor (waited_by s.world.waiters t) else renamed_fate f (fate_of_call (point_of p s t) (thread_at s.world t).call))
      ≡ renamed_fate f (if is_waiter s.world t then WaitsFor (waited_by s.world.waiters t) else fate_of_call (point_of p s t) (thread_at s.world t).call) =
      out_of_if f (is_waiter s.world t) (WaitsFor (waited_by s.world.waiters t)) (fate_of_call (point_of p s t) (thread_at s.world t).call) in
      (λ i. if through_there f g p y s n a t i then IsThrough
      else (if living_there f s.world n.world a.world t i then (if waits i then WaitsFor (waited i) else called i) else HasEnded))
      ∙ ap (λ z. if is_through p s t then IsThrough else (if is_living s.world t then z else HasEnded)) inner
      ∙ ap (λ z. if is_through p s t then IsThrough else z) (out_of_if f (is_living s.world t) _ HasEnded)
      ∙ out_of_if f (is_through p s t) IsThrough _

  outcome_there : MirrorsOutcome f g (outcome_of p s) (outcome_of p n)
  outcome_there = record {
    answers = a.answers;
    fates = record {
      size = fates_length p n (length n.world.threads) ∙ a.world.threads ∙ sym (fates_length p s (length s.world.threads));
      within = λ t l. subst (λ z. f t < z) (sym (fates_length p s (length s.world.threads)))
          (a.world.renaming.below t (subst (λ z. t < z) (fates_length p s (length s.world.threads)) l));
      back_within = λ t l. subst (λ z. t < z) (sym (fates_length p s (length s.world.threads))) (back_below t (subst (λ z. f t < z) (fates_length p s (length s.world.threads)) l));
      place = λ t. elim (cases_lt t (length s.world.threads)) [
        | inl l ↦ fates_in p n (length n.world.threads) (f t) (subst (λ z. f t < z) (sym a.world.threads) (a.world.renaming.below t l))
            ∙ fate_there t ∙ ap (renamed_fate f) (sym (fates_in p s (length s.world.threads) t l))
        | inr l ↦ get_beyond (fates_below p n (length n.world.threads)) HasEnded (f t) (subst (λ z. z ≤ f t) (sym (fates_length p n (length n.world.threads) ∙ a.world.threads)) (above t l))
            ∙ ap (renamed_fate f) (sym (get_beyond (fates_below p s (length s.world.threads)) HasEnded t (subst (λ z. z ≤ t) (sym (fates_length p s (length s.world.threads))) l)))
      ];
    };
    mutexes = ap (map standing_of) a.world.mutexes
        ∙ map_both standing_of (renamed_mutex f) (λ (x : Mutex). renamed_standing f (standing_of x)) (λ x. refl) s.world.mutexes
        ∙ sym (map_both (renamed_standing f) standing_of (λ (x : Mutex). renamed_standing f (standing_of x)) (λ x. refl) s.world.mutexes);
    cells = a.cells;
  }
    where
      back_below : (t : ℕ) → f t < length s.world.threads → t < length s.world.threads
      back_below t l = subst (λ z. z < length s.world.threads) (a.world.renaming.there t) (a.world.renaming.back_below (f t) l)

      above : (t : ℕ) → length s.world.threads ≤ t → length s.world.threads ≤ f t
      above t l =
          elim (cases_lt (f t) (length s.world.threads)) [
            | inl k ↦ absurd (let i : t < length s.world.threads = subst (λ z. z < length s.world.threads) (a.world.renaming.there t) (a.world.renaming.back_below (f t) k) in omega (arith, i, l))
            | inr k ↦ k
          ]

-- each outcome is one by other names
pub too_outcome : (f g : ℕ → ℕ) (p : Plan) → IsSymmetric f g p → IsPlain p → (s n : Situation) → MirrorsState f g p s n
    → (o : Outcome) → IsOutcome p s o → (q : Outcome) × IsOutcome p n q × MirrorsOutcome f g o q
too_outcome f g p y none s n a o x =
    let m = too_run f g p y none s n a x.reaches.steps x.state x.reaches.run in (
      outcome_of p m.0,
      record {
        state = m.0;
        reaches = record { steps = map (renamed_label f) x.reaches.steps; run = m.1 };
        final = final_there f g p y x.state m.0 m.2 none x.final;
        is = refl;
      },
      subst (λ z. MirrorsOutcome f g z (outcome_of p m.0)) x.is (outcome_there f g p y x.state m.0 m.2),
    )
