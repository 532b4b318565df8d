-- The steps of a symmetric program by other names, but for the moves of calls.
use Rattle.std.proofs.Common.{ℕ, suc, ◌≡◌, ◌∙◌, ◌+◌, true, List, ◌∷◌, get_or, set, length, slice_get, Option, Some, None, refl, sym, ap, subst, if◌then◌else◌}
use Rattle.std.specs.Prelude.{Contains}
use Rattle.pif_types.specs.declared.requests.Request.{Request}
use Rattle.pif_model.specs.declared.events.Event.TheVariants as event
use Rattle.pif_model.specs.declared.events.Seen.TheVariants as seen
use Rattle.pif_model.specs.declared.events.Entry.TheVariants as entry
use Rattle.pif_model.specs.Posix.{World, Progress, is_blocked}
use Rattle.pif_posix_steps.specs.Once.{Enters}
use Rattle.pif_posix_steps.proofs.DoingLists.{in_map_from}
use Rattle.pif_rules_model.specs.Lending.{not_owned}
use Rattle.pif_rules_model.specs.Rules.{InWorld, SeesLending, of_call, blocked_by, lost_by}
use Rattle.pif_explore_model.specs.declared.programs.Point.{Point}
use Rattle.pif_explore_model.specs.declared.programs.Point.TheVariants.{Call, Exit}
use Rattle.pif_explore_model.specs.declared.labels.Label.{Label}
use Rattle.pif_explore_model.specs.declared.labels.Label.TheVariants.{Begins, Answers, Computes, Exits, Ticks, Ends}
use Rattle.pif_explore_model.specs.Situations.{Plan, Situation, IsAt, is_ready, doings, after_point, goes_to, with_answer, wide_of, after_end, gone_after, ends_left}
use Rattle.pif_explore_model.specs.Exploring.{Happens, EndsAlone, EndsPlainly}
use Rattle.pif_explore_model.specs.Exploring.Happens.{begins, answers, computes, exits, ticks, ends}
use Rattle.pif_symmetry_model.specs.Renaming.{Mirrors, renamed_request}
use Rattle.pif_symmetry_model.specs.Lending.{MirrorsWide}
use Rattle.pif_symmetry_model.specs.Symmetry.{IsMoved, IsSymmetric, MirrorsState, renamed_point, renamed_label}
use Rattle.pif_symmetry_model.proofs.Names.{one_name}
use Rattle.pif_symmetry_model.proofs.Reading.{variable_same}
use Rattle.pif_symmetry_model.proofs.Entries.{too_entry}
use Rattle.pif_symmetry_model.proofs.Lending.{of_there, not_owned_there, too_world}
use Rattle.pif_symmetry_model.proofs.Places.{moved_set}
use Rattle.pif_symmetry_model.proofs.Programs.{one_point, at_there, ends_there, ready_there, doings_there, same_point, renamed_way}

-- the step leads from the renamed state too, to one that is k but for names
pub record MirroredState (f g : ℕ → ℕ) (p : Plan) (P : Situation → Type 0) (k : Situation) : Type 0 where
  pub after : Situation
  pub step : P after
  pub mirrors : MirrorsState f g p k after

module _ (f g : ℕ → ℕ) (p : Plan) (y : IsSymmetric f g p) (s n : Situation) (a : MirrorsState f g p s n) where
  -- it leads to this state
  pub leads_to_state : (P : Situation → Type 0) (x z : Situation) → MirrorsState f g p x z → {k : Situation} → k ≡ x → P z → MirroredState f g p P k
  leads_to_state P x z b e h = record { after = z; step = h; mirrors = subst (λ (u : Situation). MirrorsState f g p u z) (sym e) b }

  -- another state of the POSIX machine
  in_world : (v o : World) → Mirrors f v o → MirrorsState f g p (record s { world = v }) (record n { world = o })
  in_world v o m = record {
    world = m;
    places = a.places;
    lasts = a.lasts;
    answers = a.answers;
    cells = a.cells;
    ends = a.ends;
    ticked = a.ticked;
    marks = a.marks;
    gone = a.gone;
    apart = a.apart;
  }

  pub wide_there : MirrorsWide f (wide_of p s) (wide_of p n)
  wide_there = record { world = a.world; lost = a.gone; apart = a.apart; prio_none = refl; given = refl }

  abbrev Also : Label → Situation → Type 0
  Also l = Happens p n (renamed_label f l)

  -- BEGINS, TICKS, ANSWERS

  pub too_begins : {l : Label} {k : Situation} (t next : ℕ) (q : Request) (v : World) → l ≡ Begins t → IsAt p s t (Call q next)
      → Enters p.limits s.world (entry.Step (event.Begin t q) seen.Begun) v → k ≡ record s { world = v }
      → MirroredState f g p (Also l) k
  too_begins {l} {k} t next q v e h x is =
      let m = too_entry f p.limits s.world n.world v a.world (entry.Step (event.Begin t q) seen.Begun) refl x in
      leads_to_state (Also l) (record s { world = v }) (record n { world = m.after }) (in_world v m.after m.mirrors) is
      (begins (f t) (g next) (renamed_request f q) m.after (ap (renamed_label f) e) (at_there f g p y s n a t (Call q next) h) m.step refl)

  pub too_ticks : {l : Label} {k : Situation} (time : ℕ) (v : World) → l ≡ Ticks → slice_get p.ticks s.ticked ≡ Some time
      → Enters p.limits s.world (entry.Step (event.Tick time) seen.Ticked) v → k ≡ record s { world = v; ticked = s.ticked + 1 }
      → MirroredState f g p (Also l) k
  too_ticks {l} {k} time v e h x is =
      let m = too_entry f p.limits s.world n.world v a.world (entry.Step (event.Tick time) seen.Ticked) refl x in
      leads_to_state (Also l) (record s { world = v; ticked = s.ticked + 1 }) (record n { world = m.after; ticked = n.ticked + 1 })
      (record {
        world = m.mirrors;
        places = a.places;
        lasts = a.lasts;
        answers = a.answers;
        cells = a.cells;
        ends = a.ends;
        ticked = ap (λ z. z + 1) a.ticked;
        marks = a.marks;
        gone = a.gone;
        apart = a.apart;
      }) is
      (ticks time m.after (ap (renamed_label f) e) (ap (slice_get p.ticks) a.ticked ∙ h) m.step refl)

  pub too_answers : {l : Label} {k : Situation} (t r next : ℕ) (q : Request) (v : World) → l ≡ Answers t → IsAt p s t (Call q next)
      → Enters p.limits s.world (entry.Step (event.Go t) (seen.Answered r)) v
      → k ≡ goes_to t next (with_answer t (get_or s.places t (length p.points)) r (record s { world = v }))
      → MirroredState f g p (Also l) k
  too_answers {l} {k} t r next q v e h x is =
      let m = too_entry f p.limits s.world n.world v a.world (entry.Step (event.Go t) (seen.Answered r)) refl x in
      let one = one_name f _ a.world.renaming in
      let at : ℕ = get_or s.places t (length p.points) in
      leads_to_state (Also l) (goes_to t next (with_answer t at r (record s { world = v })))
      (goes_to (f t) (g next) (with_answer (f t) (get_or n.places (f t) (length p.points)) r (record n { world = m.after })))
      (record {
        world = m.mirrors;
        places = moved_set f one (length p.points) g s.places n.places a.places t next (g next) refl;
        lasts = moved_set f one None (λ z. z) s.lasts n.lasts a.lasts t (Some r) (Some r) refl;
        answers = subst (λ i. IsMoved {A = Option ℕ} g None (λ z. z) (set s.answers at (Some r)) (set n.answers i (Some r))) (sym (a.places.place t))
            (moved_set g (one_point f g p y) None (λ z. z) s.answers n.answers a.answers at (Some r) (Some r) refl);
        cells = a.cells;
        ends = a.ends;
        ticked = a.ticked;
        marks = a.marks;
        gone = a.gone;
        apart = a.apart;
      }) is
      (answers (f t) r (g next) (renamed_request f q) m.after (ap (renamed_label f) e) (at_there f g p y s n a t (Call q next) h) m.step refl)

  -- BETWEEN CALLS

  pub too_computes : {l : Label} {k : Situation} (t : ℕ) (x : Point) (d : ℕ × List ℕ) → l ≡ Computes t → is_ready s.world t ≡ true → IsAt p s t x
      → Contains (doings p s t x) d → k ≡ after_point p x t s d → MirroredState f g p (Also l) k
  too_computes {l} {k} t x d e ready h does is =
      leads_to_state (Also l) (after_point p x t s d) (after_point p (renamed_point f g x) (f t) n (renamed_way g d))
      (same_point f g p y s n a x t d) is
      (computes (f t) (renamed_point f g x) (renamed_way g d) (ap (renamed_label f) e) (ready_there f g p y s n a t ∙ ready)
      (at_there f g p y s n a t x h)
      (subst (λ (ways : List (ℕ × List ℕ)). Contains ways (renamed_way g d)) (sym (doings_there f g p y s n a t x))
      (in_map_from (renamed_way g) (doings p s t x) d does)) refl)

  -- ENDS

  blocked_same : (q : Request) (r : Progress) → blocked_by (renamed_request f q) r ≡ blocked_by q r
  blocked_same q r = ap (λ c. if is_blocked r then Some c else None) (variable_same f q)

  -- the variables on which threads were blocked that ended
  gone_there : (t : ℕ) → gone_after p (f t) n ≡ gone_after p t s
  gone_there t =
      let lost : lost_by n.world (f t) n.gone ≡ lost_by s.world t s.gone =
      ap (λ (c : Option ℕ). elim c as (λ _. List ℕ) [ None ↦ n.gone | Some c ↦ c ∷ n.gone ]) (of_there f s.world n.world a.world t blocked_by blocked_same)
      ∙ ap (λ (gone : List ℕ). elim (of_call blocked_by s.world t) as (λ _. List ℕ) [ None ↦ gone | Some c ↦ c ∷ gone ]) a.gone in
      λ i. if p.rules.lost_signal then lost i else a.gone i

  -- a thread ends, as lending sees that
  ends_alone : (t : ℕ) (v : World) → EndsAlone (EndsPlainly p t) p t s v
      → (o : World) × EndsAlone (EndsPlainly p (f t)) p (f t) n o × Mirrors f v o
  ends_alone t v x =
      let m = too_world f (not_owned s.world t p.prio_none) (EndsPlainly p t) (EndsPlainly p (f t))
      (λ w z b u k. too_entry f p.limits w z u b (entry.Step (event.End t) seen.Ended) refl k) (wide_of p s) (wide_of p n) wide_there v x in (
        m.0,
        subst (λ (ms : List ℕ). SeesLending ms (InWorld (EndsPlainly p (f t))) (wide_of p n) (record (wide_of p n) { world = m.0 }))
            (sym (not_owned_there f s.world n.world a.world t p.prio_none)) m.1,
        m.2,
      )

  after_end_there : (t left other : ℕ) (v o : World) → other ≡ left → Mirrors f v o → MirrorsState f g p (after_end p t left s v) (after_end p (f t) other n o)
  after_end_there t left other v o same m = record {
    world = m;
    places = a.places;
    lasts = a.lasts;
    answers = a.answers;
    cells = a.cells;
    ends = same;
    ticked = a.ticked;
    marks = a.marks;
    gone = gone_there t;
    apart = a.apart;
  }

  pub too_exits : {l : Label} {k : Situation} (t : ℕ) (v : World) → l ≡ Exits t → IsAt p s t Exit → EndsAlone (EndsPlainly p t) p t s v
      → k ≡ after_end p t s.ends s v → MirroredState f g p (Also l) k
  too_exits {l} {k} t v e h x is =
      let m = ends_alone t v x in
      leads_to_state (Also l) (after_end p t s.ends s v) (after_end p (f t) n.ends n m.0) (after_end_there t s.ends n.ends v m.0 a.ends m.2) is
      (exits (f t) m.0 (ap (renamed_label f) e) (at_there f g p y s n a t Exit h) m.1 refl)

  pub too_ends : {l : Label} {k : Situation} (t left : ℕ) (v : World) → l ≡ Ends t → ends_left p s t ≡ suc left → EndsAlone (EndsPlainly p t) p t s v
      → k ≡ after_end p t left s v → MirroredState f g p (Also l) k
  too_ends {l} {k} t left v e h x is =
      let m = ends_alone t v x in
      leads_to_state (Also l) (after_end p t left s v) (after_end p (f t) left n m.0) (after_end_there t left left v m.0 refl m.2) is
      (ends (f t) left m.0 (ap (renamed_label f) e) (ends_there f g p y s n a t ∙ h) m.1 refl)
