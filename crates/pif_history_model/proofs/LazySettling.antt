-- A line is about to come. Before it each trylock fails that may do so at once.
use Rattle.std.proofs.Common.{ℕ, zero, suc, ◌≡◌, ◌≤◌, ◌∙◌, Bool, true, false, List, [], ◌∷◌, length, drop, Option, Some, None, refl, sym, ap, if◌then◌else◌}
use Rattle.std.proofs.lemmas.Bool.{eq-eqb}
use Rattle.pif_types.specs.Bounds.{Bounds}
use Rattle.pif_model_lemmas.proofs.Waiting.{by_test}
use Rattle.pif_search.specs.Runs.{Runs, CanShow}
use Rattle.pif_history_model.specs.declared.lines.Line.{Line}
use Rattle.pif_history_model.specs.declared.labels.Label.{Label}
use Rattle.pif_history_model.specs.declared.labels.Label.TheVariants.{Shown, Moves}
use Rattle.pif_history_model.specs.Searched.{hides}
use Rattle.pif_history_model.specs.Notes.{Needs}
use Rattle.pif_history_model.specs.Known.{Counted, known_start_of, GoesKnown}
use Rattle.pif_history_model.specs.AtOnce.{fails_now, failing, is_in_turn}
use Rattle.pif_history_model.proofs.Turns.{MayFail, may_fail, fails_within, none_past, failed, fails_no_more, others_fail, nobody_fails, greatest_fails}
use Rattle.pif_history_model.proofs.AtOnce.{failed_at, failed_in_run, fails_in_run}
use Rattle.pif_history_model.proofs.Ahead.{IsAhead}
use Rattle.pif_history_model.proofs.Settling.{from_zero, one_lower, above_differs}
use Rattle.pif_history_model.specs.Lazy.{GoesLazily}
use Rattle.pif_history_model.proofs.Reaching.{IsReached}
use Rattle.pif_history_model.proofs.Coming.{Within}
use Rattle.pif_history_model.proofs.Carrying.{ahead_then, IsCarried, carry, IsShownAhead, show_ahead}

-- RUNS

module _ (l : Bounds) (all : Bool) (lines : List Line) where
  -- the lazy search reaches a state by these lines
  abbrev pub Reaches : List Label → Counted → Type 0
  Reaches xs s = CanShow (GoesLazily (Needs l all) lines) hides (known_start_of l) xs s

  known_run : (h : List Label) (s n : Counted) → Runs (GoesLazily (Needs l all) lines) s h n
      → Runs (GoesKnown (Needs l all) lines) s h n
  known_run [] s n r = r
  known_run (x ∷ h) s n r = (r.0, known_run h s r.0 r.1, r.2.step.step)

  -- so a run reaches it
  pub reached_lazily : (xs : List Label) (s : Counted) → Reaches xs s → IsReached l all lines s
  reached_lazily xs s r = (r.history, known_run r.history (known_start_of l) s r.run)

  -- one more step
  pub reaches_next : (xs : List Label) (x : Label) (s n : Counted) → Reaches xs s
      → GoesLazily (Needs l all) lines s x n → Reaches (if hides x then xs else x ∷ xs) n
  reaches_next xs x s n r step = record {
    history = x ∷ r.history;
    run = (s, r.run, step);
    shows = ap (λ (ys : List Label). if hides x then ys else x ∷ ys) r.shows;
  }

-- A LINE THAT IS ABOUT TO COME

-- The lazy search reaches a state by these lines. From there at most k hidden steps and then the line lead to a state
-- that is ahead of v
pub record Awaits (l : Bounds) (all : Bool) (lines : List Line) (xs : List Label) (line : Line) (v : Counted)
    (k : ℕ) : Type 0 where
  pub from : Counted
  pub reached : Reaches l all lines xs from
  pub to : Counted
  pub within : Within l all lines k from to
  pub last : Counted
  pub shows : GoesKnown (Needs l all) lines to (Shown line) last
  pub ahead : IsAhead lines v last

-- and nobody may fail there at once
pub record Settled (l : Bounds) (all : Bool) (lines : List Line) (xs : List Label) (line : Line) (v : Counted)
    (k : ℕ) : Type 0 where
  pub awaits : Awaits l all lines xs line v k
  pub nobody : failing (drop awaits.from.count lines) awaits.from.state ≡ None

module _ (l : Bounds) (all : Bool) (lines : List Line) (xs : List Label) (line : Line) (v : Counted) (k : ℕ) where
  -- n is the greatest thread that may fail at once, and fails
  module _ (n : ℕ) (a : Awaits l all lines xs line v k)
      (e : fails_now (drop a.from.count lines) a.from.state n ≡ true)
      (none : (t : ℕ) → suc n ≤ t → fails_now (drop a.from.count lines) a.from.state t ≡ false) where
    abbrev rest : List Line
    rest = drop a.from.count lines

    may : MayFail rest a.from.state n
    may = may_fail rest a.from.state n e

    walked : IsReached l all lines a.from
    walked = reached_lazily l all lines xs a.from a.reached

    its_turn : failing rest a.from.state ≡ Some n
    its_turn =
        greatest_fails rest a.from.state n e none (length a.from.state.world.threads)
        (fails_within rest a.from.state n e)

    fails_lazily : GoesLazily (Needs l all) lines a.from (Moves n) (failed_at n a.from)
    fails_lazily = record {
      step = record {
        step = fails_in_run l all lines walked.0 a.from walked.1 n may;
        turn = ap (λ (o : Option ℕ). is_in_turn o (Moves n)) its_turn ∙ eq-eqb n n refl;
      };
      lazy = λ hidden nobody. absurd (let wrong : Some n ≡ None = sym its_turn ∙ nobody in cc);
    }

    carried : IsCarried l all lines k (failed_at n a.from) a.to
    carried =
        carry l all lines k n a.from (failed_at n a.from) a.to refl
        (failed_in_run l all lines walked.0 a.from walked.1 n may) a.within

    shown_ahead : IsShownAhead l all lines carried.to line a.last
    shown_ahead = show_ahead l all lines a.to carried.to a.last line carried.ahead a.shows

    -- the line is still about to come
    abbrev awaits_still : Awaits l all lines xs line v k
    awaits_still = record {
      from = failed_at n a.from;
      reached = reaches_next l all lines xs (Moves n) a.from (failed_at n a.from) a.reached fails_lazily;
      to = carried.to;
      within = carried.within;
      last = shown_ahead.last;
      shows = shown_ahead.shows;
      ahead = ahead_then lines v a.last shown_ahead.last a.ahead shown_ahead.ahead;
    }

    none_left : (t : ℕ) → n ≤ t → fails_now rest (failed n a.from.state) t ≡ false
    none_left =
        one_lower (fails_now rest (failed n a.from.state)) n (fails_no_more rest a.from.state n)
        (λ t le. others_fail rest a.from.state n t (above_differs n t le) ∙ none t le)

  -- the threads below n fail, one after another, if no other thread may
  settle_below : (n : ℕ) (a : Awaits l all lines xs line v k)
      → ((t : ℕ) → n ≤ t → fails_now (drop a.from.count lines) a.from.state t ≡ false) → Settled l all lines xs line v k
  settle_below zero a none = record {
    awaits = a;
    nobody =
        nobody_fails (drop a.from.count lines) a.from.state
        (from_zero (fails_now (drop a.from.count lines) a.from.state) none) (length a.from.state.world.threads);
  }
  settle_below (suc n) a none =
      by_test (λ _. Settled l all lines xs line v k) (fails_now (drop a.from.count lines) a.from.state n)
      (λ e. settle_below n (awaits_still n a e none) (none_left n a e none))
      (λ e. settle_below n a (one_lower (fails_now (drop a.from.count lines) a.from.state) n e none))

  -- all fail that may
  pub settle : Awaits l all lines xs line v k → Settled l all lines xs line v k
  settle a =
      settle_below (length a.from.state.world.threads) a (none_past (drop a.from.count lines) a.from.state)
