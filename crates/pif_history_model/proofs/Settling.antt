-- A search may let each trylock fail that may do so at once, before all other steps. It shows what all steps show.
use Rattle.std.proofs.Common.{ℕ, zero, suc, ◌≡◌, ◌≢◌, ◌⊎◌, ◌≤◌, ◌∙◌, Bool, true, false, List, [], ◌∷◌, ◌++◌, length, drop, Option, None, refl, sym, ap, subst, inl, inr, arith, if◌then◌else◌}
use Rattle.std.proofs.lemmas.Bool.{cases_eq, eq-eqb}
use Rattle.pif_types.specs.Bounds.{Bounds}
use Rattle.pif_model_lemmas.proofs.Waiting.{by_test}
use Rattle.pif_search.specs.Runs.{Runs, shown, CanShow}
use Rattle.pif_search.specs.Enough.{Matches, IsEnough}
use Rattle.pif_search.specs.Enough.Matches.{goes}
use Rattle.pif_history_model.specs.declared.lines.Line.{Line}
use Rattle.pif_history_model.specs.declared.labels.Label.{Label}
use Rattle.pif_history_model.specs.declared.labels.Label.TheVariants.{Moves}
use Rattle.pif_history_model.specs.Plain.{plain_start_of}
use Rattle.pif_history_model.specs.Searched.{hides}
use Rattle.pif_history_model.specs.Notes.{Needs}
use Rattle.pif_history_model.specs.Forgetting.{StandsFor}
use Rattle.pif_history_model.proofs.Forgetting.{stands_for_back}
use Rattle.pif_history_model.proofs.Taking.{same_needed, enough_needed}
use Rattle.pif_history_model.specs.Known.{Counted, CoversKnown, known_start_of, count_after, GoesKnown}
use Rattle.pif_history_model.specs.AtOnce.{fails_now, failing, is_in_turn, GoesAtOnce}
use Rattle.pif_history_model.proofs.Covering.{keeps_too, enough_known}
use Rattle.pif_history_model.proofs.Failing.{HasFailed}
use Rattle.pif_history_model.proofs.Turns.{may_fail, fails_within, none_past, same_failing, failed, fails_no_more, others_fail, nobody_fails, greatest_fails}
use Rattle.pif_history_model.proofs.AtOnce.{failed_at, failed_in_run, fails_in_run}
use Rattle.pif_history_model.proofs.Ahead.{IsAhead, fails_last, IsCaughtUp, catch_up}
use Rattle.pif_history_model.proofs.Ahead.IsCaughtUp.{already, by_step}

-- NUMBERS

pub from_zero : (f : ℕ → Bool) → ((t : ℕ) → 0 ≤ t → f t ≡ false) → (t : ℕ) → f t ≡ false
from_zero f h t = h t (omega arith)

pub one_lower : (f : ℕ → Bool) (n : ℕ) → f n ≡ false → ((t : ℕ) → suc n ≤ t → f t ≡ false) → (t : ℕ) → n ≤ t → f t ≡ false
one_lower f n e h t le = go (cases_eq t n)
  where
    go : (t ≡ n) ⊎ (t ≡ n → ⊥) → f t ≡ false
    go (inl is) = ap f is ∙ e
    go (inr d) = h t (omega (arith, le, d))

pub above_differs : (n t : ℕ) → suc n ≤ t → t ≢ n
above_differs n t le e = omega (arith, le, e)

-- SETTLING

module _ (l : Bounds) (all : Bool) (lines : List Line) where
  -- a state that the search reaches by these lines
  abbrev Reaches : List Label → Counted → Type 0
  Reaches xs u = CanShow (GoesAtOnce (Needs l all) lines) hides (known_start_of l) xs u

  known_run : (h : List Label) (s n : Counted) → Runs (GoesAtOnce (Needs l all) lines) s h n
      → Runs (GoesKnown (Needs l all) lines) s h n
  known_run [] s n r = r
  known_run (x ∷ h) s n r = (r.0, known_run h s r.0 r.1, r.2.step)

-- the search reaches a state by these lines that is ahead of s, and in which nobody may fail at once
pub record KeepsUp (l : Bounds) (all : Bool) (lines : List Line) (xs : List Label) (s : Counted) : Type 0 where
  pub state : Counted
  pub shows : CanShow (GoesAtOnce (Needs l all) lines) hides (known_start_of l) xs state
  pub ahead : IsAhead lines s state
  pub settled : failing (drop state.count lines) state.state ≡ None

module _ (l : Bounds) (all : Bool) (lines : List Line) (xs : List Label) (s : Counted) where
  -- n is the greatest thread that may fail at once, and fails
  module _ (n : ℕ) (u : Counted) (x : Reaches l all lines xs u) (a : IsAhead lines s u)
      (e : fails_now (drop u.count lines) u.state n ≡ true)
      (none : (t : ℕ) → suc n ≤ t → fails_now (drop u.count lines) u.state t ≡ false) where
    abbrev rest : List Line
    rest = drop u.count lines

    walked : Runs (GoesKnown (Needs l all) lines) (known_start_of l) x.history u
    walked = known_run l all lines x.history (known_start_of l) u x.run

    in_turn : is_in_turn (failing rest u.state) (Moves n) ≡ true
    in_turn =
        ap (λ (o : Option ℕ). is_in_turn o (Moves n))
        (greatest_fails rest u.state n e none (length u.state.world.threads) (fails_within rest u.state n e))
        ∙ eq-eqb n n refl

    fails_next : Reaches l all lines xs (failed_at n u)
    fails_next = record {
      history = Moves n ∷ x.history;
      run = (
        u,
        x.run,
        record { step = fails_in_run l all lines x.history u walked n (may_fail rest u.state n e); turn = in_turn },
      );
      shows = x.shows;
    }

    ahead_still : IsAhead lines s (failed_at n u)
    ahead_still = record {
      threads = a.threads ++ n ∷ [];
      count = a.count;
      failed =
          fails_last (drop s.count lines) a.threads n s.state u.state (failed n u.state) a.failed
          (subst (λ (k : ℕ). HasFailed (drop k lines) n u.state (failed n u.state)) a.count
          (failed_in_run l all lines x.history u walked n (may_fail rest u.state n e)));
    }

    none_left : (t : ℕ) → n ≤ t → fails_now rest (failed n u.state) t ≡ false
    none_left =
        one_lower (fails_now rest (failed n u.state)) n (fails_no_more rest u.state n)
        (λ t le. others_fail rest u.state n t (above_differs n t le) ∙ none t le)

  -- the threads below n fail, one after another, if no other thread may
  settle_below : (n : ℕ) (u : Counted) → Reaches l all lines xs u → IsAhead lines s u
      → ((t : ℕ) → n ≤ t → fails_now (drop u.count lines) u.state t ≡ false) → KeepsUp l all lines xs s
  settle_below zero u x a none = record {
    state = u;
    shows = x;
    ahead = a;
    settled =
        nobody_fails (drop u.count lines) u.state (from_zero (fails_now (drop u.count lines) u.state) none)
        (length u.state.world.threads);
  }
  settle_below (suc n) u x a none =
      by_test (λ _. KeepsUp l all lines xs s) (fails_now (drop u.count lines) u.state n)
      (λ e.
      settle_below n (failed_at n u) (fails_next n u x a e none) (ahead_still n u x a e none)
      (none_left n u x a e none))
      (λ e. settle_below n u x a (one_lower (fails_now (drop u.count lines) u.state) n e none))

  -- a state that is ahead goes on to one in which nobody may fail at once
  settle : (u : Counted) → Reaches l all lines xs u → IsAhead lines s u → KeepsUp l all lines xs s
  settle u x a = settle_below (length u.state.world.threads) u x a (none_past (drop u.count lines) u.state)

-- RUNS

module _ (l : Bounds) (all : Bool) (lines : List Line) where
  -- the search keeps up with one more step
  keeps_up_still : (x : Label) (xs : List Label) (s v : Counted) (k : KeepsUp l all lines xs s)
      → IsCaughtUp l all lines k.state x v → KeepsUp l all lines (if hides x then xs else x ∷ xs) v
  keeps_up_still x xs s v k (already hidden a) = record {
    state = k.state;
    shows = record {
      history = k.shows.history;
      run = k.shows.run;
      shows = k.shows.shows ∙ sym (ap (λ (b : Bool). if b then xs else x ∷ xs) hidden);
    };
    ahead = a;
    settled = k.settled;
  }
  keeps_up_still x xs s v k (by_step m step a) =
      settle l all lines (if hides x then xs else x ∷ xs) v m (record {
        history = x ∷ k.shows.history;
        run = (k.state, k.shows.run, record { step = step; turn = ap (λ (o : Option ℕ). is_in_turn o x) k.settled });
        shows = ap (λ (ys : List Label). if hides x then ys else x ∷ ys) k.shows.shows;
      }) a

  -- and so with a whole run
  keeps_up : (h : List Label) (s : Counted) → Runs (GoesKnown (Needs l all) lines) (known_start_of l) h s
      → KeepsUp l all lines (shown hides h) s
  keeps_up [] s r =
      subst (λ (z : Counted). KeepsUp l all lines [] z) r
      (settle l all lines [] (known_start_of l) (known_start_of l) (record { history = []; run = refl; shows = refl })
      (record { threads = []; count = refl; failed = refl }))
  keeps_up (x ∷ h) s r =
      let k = keeps_up h r.0 r.1 in
      keeps_up_still x (shown hides h) r.0 s k
      (catch_up l all lines k.ahead.threads r.0 k.state s x k.ahead.count k.ahead.failed r.2)

  -- what all steps show, such steps show
  at_once_shows : (xs : List Label) (s : Counted)
      → CanShow (GoesKnown (Needs l all) lines) hides (known_start_of l) xs s
      → (u : Counted) × CanShow (GoesAtOnce (Needs l all) lines) hides (known_start_of l) xs u
  at_once_shows xs s x =
      let k = keeps_up x.history s x.run in
      (k.state, subst (λ (ys : List Label). Reaches l all lines ys k.state) x.shows k.shows)

  -- a state that stands for another one has its steps
  matches_at_once : (u t v : Counted) (x : Label) → CoversKnown StandsFor u t → GoesAtOnce (Needs l all) lines t x v
      → Matches (GoesAtOnce (Needs l all) lines) hides (CoversKnown StandsFor) u x v
  matches_at_once u t v x c y =
      let back : StandsFor t.state u.state = stands_for_back u.state t.state c.state in
      let f = same_needed l all t.state u.state x v.state back y.step.step in
      let there : StandsFor f.0 v.state = stands_for_back v.state f.0 f.2 in
      goes x (record { state = f.0; count = v.count }) refl
      (record {
        step = record {
          step = f.1;
          count = y.step.count ∙ ap (count_after x) (sym c.count);
          next = λ line is. ap (λ (k : ℕ). drop k lines) c.count ∙ y.step.next line is;
          keeps = keeps_too f.0 v.state (drop v.count lines) there y.step.keeps;
        };
        turn =
            ap (λ (o : Option ℕ). is_in_turn o x)
            (same_failing (drop u.count lines) t.state u.state back
            ∙ ap (λ (k : ℕ). failing (drop k lines) t.state) c.count)
            ∙ y.turn;
      })
      (record { state = there; count = refl })

  pub enough_at_once : IsEnough (GoesKnown (Needs l all) lines) hides (GoesAtOnce (Needs l all) lines)
      (CoversKnown StandsFor) (known_start_of l)
  enough_at_once = record {
    order =
        (enough_known (Needs l all) StandsFor (plain_start_of l) lines keeps_too (enough_needed l all (plain_start_of l))).order;
    matched = λ xs u t x v _ _ c y. matches_at_once u t v x c y;
    reduced = at_once_shows;
  }
