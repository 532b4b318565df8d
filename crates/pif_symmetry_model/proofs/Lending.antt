-- Steps of the state as lending sees it, by other names.
use Rattle.std.proofs.Common.{ℕ, ◌≡◌, ◌∙◌, ◌==◌, not, List, [], ◌∷◌, Option, Some, None, refl, sym, ap, subst, filter}
use Rattle.pif_types.specs.declared.requests.Request.{Request}
use Rattle.pif_types.specs.declared.requests.Request.TheVariants.{SetPrio}
use Rattle.pif_model.specs.Posix.{World, Call, Progress, thread_at, mutex_at, with_waiter, with_progress}
use Rattle.pif_model.specs.World.Progress.{Waiting}
use Rattle.pif_rules_model.specs.Lending.{looking_free, owned_as_in, is_about, not_named, not_owned}
use Rattle.pif_rules_model.specs.Rules.{Wide, InWorld, SeesLending, MovesOrWaits, ClosesUnseen, WaitsInCycle, of_call, locked_next_by, owned_as_before}
use Rattle.pif_rules_model.specs.Rules.MovesOrWaits.{plain, waits}
use Rattle.pif_symmetry_model.specs.Renaming.{Mirrors, renamed_request, renamed_call}
use Rattle.pif_symmetry_model.specs.Lending.{MirrorsWide}
use Rattle.pif_symmetry_model.proofs.Names.{same_test}
use Rattle.pif_symmetry_model.proofs.Reading.{named_same, mutex_there, owner_there, call_there, go_there}
use Rattle.pif_symmetry_model.proofs.Changes.{same_mutex, same_waiter, same_progress}
use Rattle.pif_symmetry_model.proofs.Moves.{Mirrored, as_step, steps_to, held, leads, too_move}
use Rattle.pif_symmetry_model.proofs.Classes.{mirrors_back}

-- WHAT LENDING SEES

module _ (f : ℕ → ℕ) where
  pub too_looking_free : (ms : List ℕ) (w v : World) → Mirrors f w v → Mirrors f (looking_free ms w) (looking_free ms v)
  too_looking_free [] w v a = a
  too_looking_free (m ∷ ms) w v a =
      too_looking_free ms _ _
      (same_mutex f w v a m (record (mutex_at w m) { owner = 0 }) (record (mutex_at v m) { owner = 0 })
      ((λ i. record (mutex_there f w v a m i) { owner = 0 }) ∙ (λ i. record (mutex_at w m) { owner = sym a.renaming.nobody i })))

  pub too_owned : (ms : List ℕ) (w v : World) → Mirrors f w v → (x y : World) → Mirrors f x y
      → Mirrors f (owned_as_in w ms x) (owned_as_in v ms y)
  too_owned [] w v a x y b = b
  too_owned (m ∷ ms) w v a x y b =
      too_owned ms w v a _ _
      (same_mutex f x y b m (record (mutex_at x m) { owner = (mutex_at w m).owner }) (record (mutex_at y m) { owner = (mutex_at v m).owner })
      (λ i. record (mutex_there f x y b m i) { owner = owner_there f w v a m i }))

about_same : (f : ℕ → ℕ) (c : Option Call) (m : ℕ) → is_about (renamed_call f c) m ≡ is_about c m
about_same f None m = refl
about_same f (Some x) m = ap (λ z. z == m) (named_same f x.request)

locks_same : (f : ℕ → ℕ) (q : Request) (p : Progress) → locked_next_by (renamed_request f q) p ≡ locked_next_by q p
locks_same f (SetPrio t n) p = refl
locks_same f q p = refl

-- what an open call is about to do, or has done, if that doesn't rest on names
of_same : {A : Type 0} (f : ℕ → ℕ) (g : Request → Progress → Option A) → ((q : Request) (p : Progress) → g (renamed_request f q) p ≡ g q p)
    → (c : Option Call) → elim (renamed_call f c) as (λ _. Option A) [ None ↦ None | Some x ↦ g x.request x.progress ]
    ≡ elim c as (λ _. Option A) [ None ↦ None | Some x ↦ g x.request x.progress ]
of_same f g h None = refl
of_same f g h (Some x) = h x.request x.progress

module _ (f : ℕ → ℕ) (w v : World) (a : Mirrors f w v) (t : ℕ) where
  pub not_named_there : (ms : List ℕ) → not_named v (f t) ms ≡ not_named w t ms
  not_named_there ms =
      let about : (m : ℕ) → is_about (thread_at v (f t)).call m ≡ is_about (thread_at w t).call m =
      λ m. ap (λ c. is_about c m) (call_there f w v a t) ∙ about_same f (thread_at w t).call m in
      λ i. filter (λ m. not (about m i)) ms

  pub not_owned_there : (ms : List ℕ) → not_owned v (f t) ms ≡ not_owned w t ms
  not_owned_there ms =
      let owns : (m : ℕ) → ((mutex_at v m).owner == f t) ≡ ((mutex_at w m).owner == t) =
      λ m. ap (λ z. z == f t) (owner_there f w v a m) ∙ same_test f _ a.renaming (mutex_at w m).owner t in
      λ i. filter (λ m. not (owns m i)) ms

  -- what t's open call is about to do, or has done
  pub of_there : {A : Type 0} (g : Request → Progress → Option A) → ((q : Request) (p : Progress) → g (renamed_request f q) p ≡ g q p)
      → of_call g v (f t) ≡ of_call g w t
  of_there {A} g h =
      ap (λ (c : Option Call). elim c as (λ _. Option A) [ None ↦ None | Some x ↦ g x.request x.progress ]) (call_there f w v a t)
      ∙ of_same f g h (thread_at w t).call

  locks_there : of_call locked_next_by v (f t) ≡ of_call locked_next_by w t
  locks_there = of_there locked_next_by (locks_same f)

  too_closes : (none : List ℕ) → ClosesUnseen none t w → ClosesUnseen none (f t) v
  too_closes none y = record {
    mutex = y.mutex;
    locks = locks_there ∙ y.locks;
    lends_nothing = y.lends_nothing;
    held = held f w v a t y.mutex y.held;
    closes = leads f w v a t y.mutex ∙ y.closes;
  }

  too_waits : {u : World} → WaitsInCycle t w u → Mirrored f (WaitsInCycle (f t) v) u
  too_waits y =
      steps_to f (WaitsInCycle (f t) v) (with_progress t Waiting (with_waiter t y.mutex w)) (with_progress (f t) Waiting (with_waiter (f t) y.mutex v))
      (same_progress f _ _ (same_waiter f w v a t y.mutex) t Waiting) y.comes
      (record {
        mutex = y.mutex;
        locks = locks_there ∙ y.locks;
        held = held f w v a t y.mutex y.held;
        closes = leads f w v a t y.mutex ∙ y.closes;
        comes = refl;
      })

module _ (f : ℕ → ℕ) (w v : World) (a : Mirrors f w v) (t : ℕ) where
  -- what closes no cycle in the one state closes none in the other
  closes_back : (none : List ℕ) → ClosesUnseen none (f t) v → ClosesUnseen none t w
  closes_back none y =
      subst (λ z. ClosesUnseen none z w) (a.renaming.there t) (too_closes a.renaming.back v w (mirrors_back f w v a) (f t) none y)

  pub too_MovesOrWaits : (none : List ℕ) {u : World} → MovesOrWaits none t w u → Mirrored f (MovesOrWaits none (f t) v) u
  too_MovesOrWaits none (plain h y) = as_step f (λ z k. plain (λ c. h (closes_back none c)) k) (too_move f w v a t y)
  too_MovesOrWaits none (waits c allowed y) =
      as_step f (λ z k. waits (too_closes f w v a t none c) (go_there f w v a t ∙ allowed) k) (too_waits f w v a t y)

-- STEPS AS LENDING SEES THEM

-- a step of the POSIX machine alone, which by other names is such a step
pub too_alone : (f : ℕ → ℕ) (hidden : List ℕ) (Q P : World → World → Type 0)
    → ((w v : World) → Mirrors f w v → (u : World) → Q w u → Mirrored f (P v) u)
    → (s n : Wide) → MirrorsWide f s n → {k : Wide} → SeesLending hidden (InWorld Q) s k
    → (o : Wide) × SeesLending hidden (InWorld P) n o × MirrorsWide f k o
too_alone f hidden Q P h s n a {k} y =
    let m = h (looking_free hidden s.world) (looking_free hidden n.world) (too_looking_free f hidden s.world n.world a.world) y.step.world y.step.step in
    let o : Wide = record n { world = owned_as_in n.world hidden m.after } in
    let is : k ≡ record s { world = owned_as_in s.world hidden y.step.world } = y.same ∙ ap (owned_as_before hidden s) y.step.same in (
      o,
      record { after = record n { world = m.after }; step = record { world = m.after; step = m.step; same = refl }; same = refl },
      subst (λ (z : Wide). MirrorsWide f z o) (sym is) (record {
        world = too_owned f hidden s.world n.world a.world y.step.world m.after m.mirrors;
        lost = a.lost;
        apart = a.apart;
        prio_none = a.prio_none;
        given = a.given;
      }),
    )

-- a move of a thread
pub too_wide_move : (f : ℕ → ℕ) (t : ℕ) (s n : Wide) → MirrorsWide f s n → {k : Wide}
    → SeesLending (not_named s.world t s.prio_none) (InWorld (MovesOrWaits s.prio_none t)) s k
    → (o : Wide) × SeesLending (not_named n.world (f t) n.prio_none) (InWorld (MovesOrWaits n.prio_none (f t))) n o × MirrorsWide f k o
too_wide_move f t s n a {k} y =
    let hidden : not_named n.world (f t) n.prio_none ≡ not_named s.world t s.prio_none =
    ap (not_named n.world (f t)) a.prio_none ∙ not_named_there f s.world n.world a.world t s.prio_none in
    let m = too_alone f (not_named s.world t s.prio_none) (MovesOrWaits s.prio_none t) (MovesOrWaits s.prio_none (f t))
    (λ w v b u z. too_MovesOrWaits f w v b t s.prio_none z) s n a y in (
      m.0,
      subst (λ (ms : List ℕ). SeesLending ms (InWorld (MovesOrWaits n.prio_none (f t))) n m.0) (sym hidden)
          (subst (λ (ms : List ℕ). SeesLending (not_named s.world t s.prio_none) (InWorld (MovesOrWaits ms (f t))) n m.0) (sym a.prio_none) m.1),
      m.2,
    )

-- a step of the POSIX machine alone, as it is told of its state
pub too_world : (f : ℕ → ℕ) (hidden : List ℕ) (Q P : World → World → Type 0)
    → ((w v : World) → Mirrors f w v → (u : World) → Q w u → Mirrored f (P v) u)
    → (s n : Wide) → MirrorsWide f s n → (v : World) → SeesLending hidden (InWorld Q) s (record s { world = v })
    → (o : World) × SeesLending hidden (InWorld P) n (record n { world = o }) × Mirrors f v o
too_world f hidden Q P h s n a v y =
    let m = h (looking_free hidden s.world) (looking_free hidden n.world) (too_looking_free f hidden s.world n.world a.world) y.step.world y.step.step in
    let o : World = owned_as_in n.world hidden m.after in
    let is : v ≡ owned_as_in s.world hidden y.step.world = ap (λ (z : Wide). z.world) (y.same ∙ ap (owned_as_before hidden s) y.step.same) in (
      o,
      record { after = record n { world = m.after }; step = record { world = m.after; step = m.step; same = refl }; same = refl },
      subst (λ (z : World). Mirrors f z o) (sym is) (too_owned f hidden s.world n.world a.world y.step.world m.after m.mirrors),
    )
