-- A step of a symmetric program without rules is, by other names, a step of each state that is the same but for names.
use Rattle.std.proofs.Common.{ℕ, ◌≡◌, ◌∙◌, true, false, List, map, refl, sym, ap, subst, true≢false, if◌then◌else◌}
use Rattle.pif_model.specs.Posix.{World}
use Rattle.pif_model_lemmas.proofs.Waiting.{by_test}
use Rattle.pif_uses_model.specs.Uses.{unused, without_uses}
use Rattle.pif_rules_model.specs.declared.rules.Rule.{Rule}
use Rattle.pif_rules_model.specs.declared.rules.Rule.TheVariants.{Steal}
use Rattle.pif_rules_model.specs.declared.rules.Rules.{Rules}
use Rattle.pif_rules_model.specs.Sets.{has, no_rules}
use Rattle.pif_rules_model.specs.Lending.{not_named}
use Rattle.pif_rules_model.specs.Rules.{InWorld, SeesLending, MovesOrWaits}
use Rattle.pif_explore_model.specs.declared.labels.Label.{Label}
use Rattle.pif_explore_model.specs.declared.labels.Label.TheVariants.{Moves}
use Rattle.pif_explore_model.specs.Situations.{Plan, Situation, kept_of, marks_after, wide_of}
use Rattle.pif_explore_model.specs.Exploring.{Happens, MovesAlone}
use Rattle.pif_explore_model.specs.Exploring.Happens.{begins, moves, answers, computes, exits, ticks, ends, moves_by_rule, ends_by_rule, passes_apart}
use Rattle.pif_symmetry_model.specs.Renaming.{Mirrors}
use Rattle.pif_symmetry_model.specs.Symmetry.{IsSymmetric, IsPlain, MirrorsState, renamed_label}
use Rattle.pif_symmetry_model.proofs.Lending.{not_named_there, too_MovesOrWaits, too_world}
use Rattle.pif_symmetry_model.proofs.Marks.{too_marks}
use Rattle.pif_symmetry_model.proofs.Steps.{MirroredState, leads_to_state, wide_there, too_begins, too_ticks, too_answers, too_computes, too_exits, too_ends}

-- no rule is allowed
none_allowed : (rule : Rule) → has no_rules rule ≡ false
none_allowed Steal = refl
none_allowed _ = refl

-- what is kept of the state of the POSIX machine
kept_there : (f : ℕ → ℕ) (p : Plan) (w v : World) → Mirrors f w v → Mirrors f (kept_of p w) (kept_of p v)
kept_there f p w v a =
    by_test (λ b. Mirrors f (if b then w else without_uses w) (if b then v else without_uses v)) p.counts_uses (λ _. a) (λ _. record {
      renaming = a.renaming;
      thread = a.thread;
      threads = a.threads;
      mutexes = a.mutexes;
      waiters = a.waiters;
      variables = ap (map unused) a.variables;
      signals = a.signals;
      time = a.time;
    })

module _ (f g : ℕ → ℕ) (p : Plan) (y : IsSymmetric f g p) (s n : Situation) (a : MirrorsState f g p s n) where
  too_moves : {l : Label} {k : Situation} (t : ℕ) (v : World) → l ≡ Moves t → MovesAlone p t s v
      → k ≡ record s { world = kept_of p v; marks = marks_after t s.world v s.marks } → MirroredState f g p (Happens p n (renamed_label f l)) k
  too_moves {l} {k} t v e x is =
      let m = too_world f (not_named s.world t p.prio_none) (MovesOrWaits p.prio_none t) (MovesOrWaits p.prio_none (f t))
      (λ w z b u i. too_MovesOrWaits f w z b t p.prio_none i) (wide_of p s) (wide_of p n) (wide_there f g p y s n a) v x in
      leads_to_state f g p y s n a (Happens p n (renamed_label f l)) (record s { world = kept_of p v; marks = marks_after t s.world v s.marks })
      (record n { world = kept_of p m.0; marks = marks_after (f t) n.world m.0 n.marks })
      (record {
        world = kept_there f p v m.0 m.2;
        places = a.places;
        lasts = a.lasts;
        answers = a.answers;
        cells = a.cells;
        ends = a.ends;
        ticked = a.ticked;
        marks = too_marks f s.world n.world v m.0 a.world m.2 s.marks n.marks a.marks t;
        gone = a.gone;
        apart = a.apart;
      }) is
      (moves (f t) m.0 (ap (renamed_label f) e)
      (subst (λ (ms : List ℕ). SeesLending ms (InWorld (MovesOrWaits p.prio_none (f t))) (wide_of p n) (record (wide_of p n) { world = m.0 }))
      (sym (not_named_there f s.world n.world a.world t p.prio_none)) m.1) refl)

  module _ (none : IsPlain p) where
    -- no rule is allowed
    not_by_rule : {A : Type 0} (rule : Rule) → has p.rules rule ≡ true → A
    not_by_rule rule h = absurd (true≢false (sym h ∙ ap (λ (r : Rules). has r rule) none ∙ none_allowed rule))

    pub too_happens : (l : Label) (k : Situation) → Happens p s l k → MirroredState f g p (Happens p n (renamed_label f l)) k
    too_happens l k (begins t next q v e h x is) = too_begins f g p y s n a t next q v e h x is
    too_happens l k (moves t v e x is) = too_moves t v e x is
    too_happens l k (answers t r next q v e h x is) = too_answers f g p y s n a t r next q v e h x is
    too_happens l k (computes t x d e ready h does is) = too_computes f g p y s n a t x d e ready h does is
    too_happens l k (exits t v e h x is) = too_exits f g p y s n a t v e h x is
    too_happens l k (ticks time v e h x is) = too_ticks f g p y s n a time v e h x is
    too_happens l k (ends t left v e h x is) = too_ends f g p y s n a t left v e h x is
    too_happens l k (moves_by_rule t rule v e allowed h x is) = not_by_rule rule h
    too_happens l k (ends_by_rule t left rule v e h can x is) = not_by_rule rule can
    too_happens l k (passes_apart t v e h ended x is) =
        absurd (true≢false (sym x.step.step.apart ∙ ap (λ (r : Rules). r.ends_apart) none))
