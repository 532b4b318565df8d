-- Each state that a run of the machine that is searched reaches agrees with the lines that it has shown, if they are
-- orderly.
use Rattle.std.proofs.Common.{ℕ, ◌≡◌, ◌∙◌, false, List, [], ◌∷◌, get_or, map, Some, None, zero, suc, refl, sym, ap, subst, arith}
use Rattle.std.proofs.lemmas.Bool.{true≢false}
use Rattle.pif_types.specs.Bounds.{Bounds}
use Rattle.pif_model.specs.declared.events.Event.TheVariants.{Begin as BeginEvent, Go, End as EndEvent, Tick as TickEvent}
use Rattle.pif_model.specs.declared.events.Seen.TheVariants.{Begun, Answered, Ended, Ticked, Refused}
use Rattle.pif_model.specs.declared.events.Entry.{Entry}
use Rattle.pif_model.specs.declared.events.Entry.TheVariants.{Thread as AddThread, Mutex as AddMutex, Cond as AddCond, Step as Happened}
use Rattle.pif_model.specs.Posix.{World, nobody, no_mutex, with_call_by, without_call, with_thread, begun_thread, thread_at, Ends, Step}
use Rattle.pif_model.specs.Posix.IsRun.{start}
use Rattle.pif_model.specs.Posix.Step.{thread_added, mutex_added, cond_added, refused, begun, went, waits, answered, ended, ticked}
use Rattle.pif_search.specs.Runs.{Runs, CanShow}
use Rattle.pif_posix_steps.specs.Once.{Enters, Answers, is_go}
use Rattle.pif_posix_steps.specs.Once.Enters.{answered as by_answer, other}
use Rattle.pif_posix_steps.proofs.Singles.{step-from_entry}
use Rattle.pif_history_model.specs.declared.lines.Protocol.TheVariants.{PrioInherit}
use Rattle.pif_history_model.specs.declared.lines.Line.{Line}
use Rattle.pif_history_model.specs.declared.lines.Line.TheVariants.{Thread as AThread, Mutex as AMutex, Cond, Begin, Answer, End, Tick}
use Rattle.pif_history_model.specs.declared.labels.Label.{Label}
use Rattle.pif_history_model.specs.declared.labels.Label.TheVariants.{Shown, Moves, Ends as EndsLabel}
use Rattle.pif_history_model.specs.Lines.{line_of, is_line_among, dying_after}
use Rattle.pif_history_model.specs.Plain.{PlainConfiguration, PlainAdvances, plain_start_of}
use Rattle.pif_history_model.specs.Plain.PlainAdvances.{moves, ends, enters, sees, has_ended}
use Rattle.pif_history_model.specs.Searched.{hides}
use Rattle.pif_history_model.specs.Shown.{IsSeen}
use Rattle.pif_history_model.specs.Shown.IsSeen.{rests as sees_rest, prio as sees_prio, dying as sees_dying}
use Rattle.pif_history_model.proofs.Completeness.{at}
use Rattle.pif_history_model.proofs.Soundness.{lines_after, lines_in, shown-lines_in, same-from_shown}
use Rattle.pif_parts_model.specs.Quiet.{IsOrderly, AreOrderly}
use Rattle.pif_parts_model.proofs.Ledgers.{tag_of}
use Rattle.pif_parts_model.proofs.Ledgers.Mark.{NoMark}
use Rattle.pif_parts_model.proofs.Sound.{IsWhole}
use Rattle.pif_parts_model.proofs.Agreeing.{no_tag}
use Rattle.pif_parts_model.proofs.Reading.{alone_by, no_mark_set}
use Rattle.pif_parts_model.proofs.Accounting.{Accounted, moves_on}
use Rattle.pif_parts_model.proofs.Entering.{thread_in, mutex_in, variable_in, tick_in, begin_in, answer_in, ends_hidden, ends_shown, has_ended_before, is_dying, tells_rest, tells_prio}

-- ENDS

-- an entry that is an end
pub end_is : (l : Bounds) (w v : World) (t : ℕ) → Enters l w (Happened (EndEvent t) Ended) v → Ends t w v
end_is l w v t (by_answer u a e x) = absurd (cc)
end_is l w v t (other g r x) = by_step x
  where
    by_step : Step l w (Happened (EndEvent t) Ended) v → Ends t w v
    by_step (thread_added u q e a b c d f) = absurd (cc)
    by_step (mutex_added m k i e a b c) = absurd (cc)
    by_step (cond_added c m e a b d f) = absurd (cc)
    by_step (refused y i e a b) = absurd (cc)
    by_step (begun u q e a b) = absurd (cc)
    by_step (went u e a b) = absurd (cc)
    by_step (waits u y e a b c) = absurd (cc)
    by_step (answered u a q y e b c d f) = absurd (cc)
    by_step (ended u e a) = let same : u ≡ t = cc in subst (λ k. Ends k w v) same a
    by_step (ticked n e a b) = absurd (cc)

pub end_from : (l : Bounds) (w v : World) (t : ℕ) → Ends t w v → Enters l w (Happened (EndEvent t) Ended) v
end_from l w v t x = other refl refl (ended t refl x)

-- ENTRIES

-- the line that shows an entry
pub shown_by : {e : Entry} {line k : Line} (x : Entry) → line_of e ≡ Some line → e ≡ x → line_of x ≡ Some k → line ≡ k
shown_by {e} {line} {k} x of is same =
    let both : Some line ≡ Some k = sym of ∙ ap line_of is ∙ same in cc

-- a line that shows an entry leads to this state
module _ (l : Bounds) (lines : List Line) (us : List ℕ) where
  arrives : {line : Line} {v : World} (k : Line) (z : World) → line ≡ k → v ≡ z
      → Accounted l (k ∷ lines) (at z (dying_after k us)) → Accounted l (line ∷ lines) (at v (dying_after line us))
  arrives k z e f x = rw (e, f) x

  module _ (w : World) (x : Accounted l lines (at w us)) (orderly : AreOrderly lines) where
    -- with any entry, but an answer
    entered : (line : Line) (e : Entry) (v : World) → IsOrderly line lines → line_of e ≡ Some line → is_line_among us line ≡ false
        → is_go e ≡ false → Step l w e v → Accounted l (line ∷ lines) (at v (dying_after line us))
    entered line e v o of apart g (thread_added t p is next room low high after) =
        arrives (AThread p) (record w { threads = _ }) (shown_by (AddThread t p) of is refl) after
        (thread_in l lines w us x t p (thread_added t p refl next room low high refl))
    entered line e v o of apart g (mutex_added m k r is next room after) =
        arrives (AMutex k r PrioInherit) (record w { mutexes = _ }) (shown_by (AddMutex m k r) of is refl) after
        (mutex_in l lines w us x m k r (mutex_added m k r refl next room refl))
    entered line e v o of apart g (cond_added c m is known next room after) =
        arrives (Cond m) (record w { variables = _ }) (shown_by (AddCond c m) of is refl) after
        (variable_in l lines w us x c m (cond_added c m refl known next room refl))
    entered line e v o of apart g (refused y r is why after) = absurd (no_line y r (sym (ap line_of is) ∙ of))
      where
        no_line : (y : _) (r : _) → line_of (Happened y (Refused r)) ≡ Some line → ⊥
        no_line (BeginEvent t q) r k = cc
        no_line (Go t) r k = cc
        no_line (EndEvent t) r k = cc
        no_line (TickEvent n) r k = cc
    entered line e v o of apart g (begun t q is allowed after) =
        let k : line ≡ Begin t q = shown_by (Happened (BeginEvent t q) Begun) of is refl in
        arrives (Begin t q) (with_thread t (begun_thread w q (thread_at w t)) w) k after
        (begin_in l lines w us x t q (sym (ap (is_line_among us) k) ∙ apart) allowed (begun t q refl allowed refl))
    entered line e v o of apart g (went t is goes runs) =
        let none : None ≡ Some line = sym (ap line_of is) ∙ of in absurd (cc)
    entered line e v o of apart g (waits t u is goes after resting) =
        let none : None ≡ Some line = sym (ap line_of is) ∙ of in absurd (cc)
    entered line e v o of apart g (answered t a q u is goes come after runs) =
        absurd (true≢false (sym (ap is_go is) ∙ g))
    entered line e v o of apart g (ended t is gone) =
        let k : line ≡ End t = shown_by (Happened (EndEvent t) Ended) of is refl in
        arrives (End t) v k refl
        (ends_shown l lines w us x t (subst (λ (i : Line). IsOrderly i lines) k o) v gone (ended t refl gone))
    entered line e v o of apart g (ticked n is allowed after) =
        arrives (Tick n) (record w { time = n }) (shown_by (Happened (TickEvent n) Ticked) of is refl) after
        (tick_in l lines w us x n (ticked n refl allowed refl))

    -- with any entry
    enters_on : (line : Line) (e : Entry) (v : World) → IsOrderly line lines → line_of e ≡ Some line → is_line_among us line ≡ false
        → Enters l w e v → Accounted l (line ∷ lines) (at v (dying_after line us))
    enters_on line e v o of apart (by_answer t a is answers) =
        let k : line ≡ Answer t a = shown_by (Happened (Go t) (Answered a)) of is refl in
        let there : Answers t a w (with_call_by t without_call w) = subst (λ z. Answers t a w z) answers.closes answers in
        arrives (Answer t a) (with_call_by t without_call w) k answers.closes
        (answer_in l lines w us x (alone_by lines orderly) t a (sym (ap (is_line_among us) k) ∙ apart) there
        (step-from_entry l w (Happened (Go t) (Answered a)) (with_call_by t without_call w) (by_answer t a refl there)))
    enters_on line e v o of apart (other g r step) = entered line e v o of apart g step

-- a line that tells of the state, and shows no entry
sees_on : (l : Bounds) (lines : List Line) (w : World) (us : List ℕ) → Accounted l lines (at w us) → (line : Line) → IsOrderly line lines
    → IsSeen line w → Accounted l (line ∷ lines) (at w (dying_after line us))
sees_on l lines w us x line o (sees_rest t e lives rest) = rw e (tells_rest l lines w us x t)
sees_on l lines w us x line o (sees_prio t p e lives num) = rw e (tells_prio l lines w us x t p)
sees_on l lines w us x line o (sees_dying t e lives) =
    rw e (is_dying l lines w us x t (subst (λ (i : Line). IsOrderly i lines) e o))

-- one step of the machine
step_on : (l : Bounds) (lines : List Line) (s n : PlainConfiguration) (k : Label) → Accounted l lines s → AreOrderly lines
    → AreOrderly (lines_after k lines) → PlainAdvances l s k n → Accounted l (lines_after k lines) n
step_on l lines s n k x before o (moves t v is m e) =
    rw (is, e) (moves_on l lines s.world s.dying x (alone_by lines before) t v m)
step_on l lines s n k x before o (ends t v is among y e) =
    rw (is, e) (ends_hidden l lines s.world s.dying x t (x.ending t among) v (end_is l s.world v t y) among
    (step-from_entry l s.world (Happened (EndEvent t) Ended) v y))
step_on l lines s n k x before o (enters line e v is of apart y same) =
    rw (is, same) (enters_on l lines s.dying s.world x before line e v
    (subst (λ (i : Label). AreOrderly (lines_after i lines)) is o).0 of apart y)
step_on l lines s n k x before o (sees line is apart look same) =
    rw (is, same) (sees_on l lines s.world s.dying x line (subst (λ (i : Label). AreOrderly (lines_after i lines)) is o).0 look)
step_on l lines s n k x before o (has_ended t is among dead same) =
    rw (is, same) (has_ended_before l lines s.world s.dying x t among dead)

-- RUNS

-- the empty state
starts : (l : Bounds) → Accounted l [] (plain_start_of l)
starts l = record {
  history = [];
  states = [];
  run = start refl;
  calls = λ t. refl;
  holds = λ t m. refl;
  dying = refl;
  ending = λ t a. absurd (true≢false (sym a));
  sound = record {
    whole = λ m. whole m;
    owners = λ m n. absurd (n (unowned m));
  };
  agrees = record {
    threads = refl;
    mutexes = refl;
    count = refl;
    bound = λ c. refl;
    used = λ c. omega arith;
    living = λ t d. lives t;
    set_so = λ t u p e. absurd (no_mark_set u p (sym (no_mark t) ∙ e));
    placed = λ t u p e. absurd (no_mark_set u p (sym (no_mark t) ∙ e));
    base = λ u none. bases u;
    signals = refl;
    time = refl;
  };
  known = λ t q e is. absurd (cc);
}
  where
    whole : (m : ℕ) → IsWhole (get_or (no_mutex ∷ []) m no_mutex)
    whole zero = record { fine = refl; held = omega arith; once = λ _. refl }
    whole (suc m) = record { fine = refl; held = omega arith; once = λ _. refl }

    unowned : (m : ℕ) → (get_or (no_mutex ∷ []) m no_mutex).owner ≡ 0
    unowned zero = refl
    unowned (suc m) = refl

    no_mark : (t : ℕ) → (get_or (tag_of nobody ∷ []) t no_tag).mark ≡ NoMark
    no_mark zero = refl
    no_mark (suc t) = refl

    lives : (t : ℕ) → (get_or (tag_of nobody ∷ []) t no_tag).living ≡ (get_or (nobody ∷ []) t nobody).living
    lives zero = refl
    lives (suc t) = refl

    bases : (t : ℕ) → (get_or (tag_of nobody ∷ []) t no_tag).base ≡ (get_or (nobody ∷ []) t nobody).base
    bases zero = refl
    bases (suc t) = refl

-- the lines but the newest are orderly too
orderly_before : (k : Label) (lines : List Line) → AreOrderly (lines_after k lines) → AreOrderly lines
orderly_before (Shown x) lines o = o.1
orderly_before (Moves t) lines o = o
orderly_before (EndsLabel t) lines o = o

run_on : (l : Bounds) (h : List Label) (n : PlainConfiguration) → AreOrderly (lines_in h) → Runs (PlainAdvances l) (plain_start_of l) h n
    → Accounted l (lines_in h) n
run_on l [] n o e = subst (λ (s : PlainConfiguration). Accounted l [] s) e (starts l)
run_on l (k ∷ h) n o r =
    let before : AreOrderly (lines_in h) = orderly_before k (lines_in h) o in
    step_on l (lines_in h) r.0 n k (run_on l h r.0 before r.1) before o r.2

pub shown_accounted : (l : Bounds) (lines : List Line) (n : PlainConfiguration) → AreOrderly lines
    → CanShow (PlainAdvances l) hides (plain_start_of l) (map (λ x. Shown x) lines) n → Accounted l lines n
shown_accounted l lines n o x =
    let same : lines_in x.history ≡ lines =
    same-from_shown (lines_in x.history) lines (sym (shown-lines_in x.history) ∙ x.shows) in
    subst (λ (ys : List Line). Accounted l ys n) same (run_on l x.history n (subst (λ (ys : List Line). AreOrderly ys) (sym same) o) x.run)
