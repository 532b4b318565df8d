-- A hidden step is possible as well if a thread has another call open, or none. The thread isn't dying, the step isn't
-- its own, and neither call is one of which others take notice.
use Rattle.std.proofs.Common.{ℕ, zero, suc, ◌≡◌, ◌≢◌, ◌⊎◌, ◌∙◌, Bool, true, false, List, [], ◌∷◌, length, drop, get_or, set, Option, refl, sym, ap, subst, inl, inr, if◌then◌else◌}
use Rattle.std.proofs.lemmas.Bool.{cases_eq, true≢false}
use Rattle.pif_types.specs.Bounds.{Bounds}
use Rattle.pif_model.specs.declared.lines.Timer.{Timer}
use Rattle.pif_model.specs.Deadlines.{is_reached}
use Rattle.pif_model.specs.Posix.{World, Thread, Call, Memory, nobody, thread_at}
use Rattle.pif_model_simulation.proofs.runs.Worlds.{call_of}
use Rattle.pif_posix_steps.specs.Independence.{is_queued}
use Rattle.pif_posix_steps.proofs.IndependentThreads.{is_calm, at_place, recalled, put, Stays}
use Rattle.pif_posix_steps.proofs.IndependentMoves.{put_length, put_other, beside_move}
use Rattle.pif_posix_steps.proofs.IndependentOthers.{beside_end}
use Rattle.pif_history_model.specs.declared.lines.Line.{Line}
use Rattle.pif_history_model.specs.declared.lines.Line.TheVariants as line
use Rattle.pif_history_model.specs.declared.labels.Label.{Label}
use Rattle.pif_history_model.specs.declared.labels.Label.TheVariants.{Shown, Moves}
use Rattle.pif_history_model.specs.Lines.{is_among}
use Rattle.pif_history_model.specs.Plain.{PlainConfiguration, PlainAdvances}
use Rattle.pif_history_model.specs.Searched.{hides}
use Rattle.pif_history_model.specs.Plain.PlainAdvances.{moves, ends, enters, sees, has_ended}
use Rattle.pif_history_model.specs.Queues.{is_taken}
use Rattle.pif_history_model.specs.Notes.{awaits_note, will_use, variable_of_call, used_below, is_used_soon, is_asked, is_needed, Needs}
use Rattle.pif_history_model.specs.Known.{is_over, answer_of, known_answer, KeepsTo, Counted, GoesKnown}
use Rattle.pif_history_model.specs.Tested.{is_call_kept, is_kept}
use Rattle.pif_history_model.proofs.Covering.{hidden_count}
use Rattle.pif_history_model.proofs.Testing.{one_kept}
use Rattle.pif_history_model.proofs.Reaching.{not_hidden}

-- what is so of what is written at a place, and of nobody, is so of what stands there then
written : (P : Thread → Type 0) (xs : List Thread) (t : ℕ) (y : Thread) → P y → P nobody
    → P (get_or (set xs t y) t nobody)
written P [] t y h k = k
written P (x ∷ xs) zero y h k = h
written P (x ∷ xs) (suc t) y h k = written P xs t y h k

-- a line, and a hidden step behind it
pub record ComesBefore (l : Bounds) (all : Bool) (lines : List Line) (s : Counted) (k : Line) (x : Label)
    (n : Counted) : Type 0 where
  pub between : Counted
  pub shows : GoesKnown (Needs l all) lines s (Shown k) between
  pub goes_on : GoesKnown (Needs l all) lines between x n

-- t's call in s is calm, and uses no variable, and so is the call c, with the timer i and the memory m
module _ (l : Bounds) (t : ℕ) (c : Option Call) (i : Timer) (m : Memory) (new : is_calm c ≡ true)
    (no_use : (d : ℕ) → will_use d c ≡ false) (s : PlainConfiguration) (old : is_calm (call_of s.world t) ≡ true)
    (none_before : (d : ℕ) → will_use d (call_of s.world t) ≡ false) (out : is_queued s.world t ≡ false)
    (spared : is_among s.dying t ≡ false) where
  -- a state of the machine, or of the search, in which t has that call
  abbrev later : World → World
  later v = put t c i m v

  abbrev pub changed : PlainConfiguration → PlainConfiguration
  changed n = record n { world = later n.world }

  -- another thread is the same
  other_at : (v : World) (u : ℕ) → u ≢ t → thread_at (later v) u ≡ thread_at v u
  other_at v u d = put_other t c i m new v u d

  -- WHAT IS NEEDED

  same_use : (d n : ℕ) → will_use d (call_of (later s.world) n) ≡ will_use d (call_of s.world n)
  same_use d n = by_thread (cases_eq n t)
    where
      by_thread : (n ≡ t) ⊎ (n ≢ t) → will_use d (call_of (later s.world) n) ≡ will_use d (call_of s.world n)
      by_thread (inl e) =
          subst (λ j. will_use d (call_of (later s.world) j) ≡ will_use d (call_of s.world j)) (sym e)
          (at_place (λ y. will_use d y.call ≡ false) s.world.threads t (recalled t c i m (thread_at s.world t))
          (no_use d) (none_before d)
          ∙ sym (none_before d))
      by_thread (inr ne) = ap (λ (y : Thread). will_use d y.call) (other_at s.world n ne)

  same_uses : (d n : ℕ) → used_below (later s.world) d n ≡ used_below s.world d n
  same_uses d zero = refl
  same_uses d (suc n) =
      let ih = same_uses d n in
      λ j. if same_use d n j then true else ih j

  used_soon : (d : ℕ) → is_used_soon (later s.world) d ≡ is_used_soon s.world d
  used_soon d =
      ap (used_below (later s.world) d) (put_length t c i m new s.world) ∙ same_uses d (length s.world.threads)

  same_asked : (u : ℕ) → u ≢ t → is_asked (later s.world) u ≡ is_asked s.world u
  same_asked u d =
      ap (λ (y : Thread).
      if is_reached y.timer.deadline s.world.time then true else is_used_soon (later s.world) (variable_of_call y.call))
      (other_at s.world u d)
      ∙ ap (λ (b : Bool). if is_reached (thread_at s.world u).timer.deadline s.world.time then true else b)
      (used_soon (variable_of_call (call_of s.world u)))

  same_needed : (all : Bool) (u : ℕ) → u ≢ t → (v : PlainConfiguration)
      → is_needed all (changed s) (Moves u) (changed v) ≡ is_needed all s (Moves u) v
  same_needed all u d v = λ j.
      if awaits_note (other_at s.world u d j).call then same_asked u d j else is_taken all (Moves u) v

  -- THE STEP

  -- the step is possible and needed if t has the call, and t stays as it is
  pub record GoesBeside (all : Bool) (x : Label) (v : PlainConfiguration) : Type 0 where
    pub step : Needs l all (changed s) x (changed v)
    pub stays : Stays t s.world v.world

  pub beside_hidden : (all : Bool) (x : Label) (v : PlainConfiguration) → hides x ≡ true → x ≢ Moves t
      → is_needed all s x v ≡ true → PlainAdvances l s x v → GoesBeside all x v
  beside_hidden all x v hidden others needed (moves u w is y e) =
      let d : u ≢ t = (λ same. others (is ∙ ap (λ k. Moves k) same)) in
      let f = beside_move t c i m new s.world old out u d y in
      let next : PlainConfiguration = record s { world = w } in
      subst (λ (n : PlainConfiguration). is_needed all s x n ≡ true → GoesBeside all x n) (sym e) (λ need. record {
        step = record {
          advances = moves u (later w) is f.step refl;
          needed = subst (λ (z : Label). is_needed all (changed s) z (changed next) ≡ true) (sym is)
              (same_needed all u d next ∙ subst (λ (z : Label). is_needed all s z next ≡ true) is need);
        };
        stays = f.stays;
      }) needed
  beside_hidden all x v hidden others needed (ends u w is among y e) =
      let d : u ≢ t = (λ same. true≢false (sym among ∙ ap (is_among s.dying) same ∙ spared)) in
      let f = beside_end t c i m new s.world out u d l y in
      let next : PlainConfiguration = record s { world = w } in
      subst (λ (n : PlainConfiguration). GoesBeside all x n) (sym e) (record {
        step = record {
          advances = ends u (later w) is among f.step refl;
          needed = ap (λ (z : Label). is_needed all (changed s) z (changed next)) is;
        };
        stays = f.stays;
      })
  beside_hidden all x v hidden others needed (enters k e w is of look y same) = absurd (not_hidden x k hidden is)
  beside_hidden all x v hidden others needed (sees k is look y same) = absurd (not_hidden x k hidden is)
  beside_hidden all x v hidden others needed (has_ended u is among dead same) =
      absurd (not_hidden x (line.End u) hidden is)

  -- THE KNOWN ANSWERS

  module _ (k : Line) (rest : List Line) (others_open : (u : ℕ) → u ≢ t → is_over u k ≡ false)
      (own : (o : Option ℕ) → is_call_kept c i.expired o ≡ true) (kept : KeepsTo (k ∷ rest) s.world) where
    -- what is known of another thread is the same behind the line
    known_still : (u : ℕ) → u ≢ t → known_answer u (k ∷ rest) ≡ known_answer u rest
    known_still u d = ap (λ b. if b then answer_of k else known_answer u rest) (others_open u d)

    kept_at : (u : ℕ) → (u ≡ t) ⊎ (u ≢ t) → is_kept rest (later s.world) u ≡ true
    kept_at u (inl e) =
        subst (λ j. is_kept rest (later s.world) j ≡ true) (sym e)
        (written (λ y. is_call_kept y.call y.timer.expired (known_answer t rest) ≡ true) s.world.threads t
        (recalled t c i m (thread_at s.world t)) (own (known_answer t rest)) refl)
    kept_at u (inr d) =
        ap (λ (y : Thread). is_call_kept y.call y.timer.expired (known_answer u rest)) (other_at s.world u d)
        ∙ sym (ap (is_call_kept (call_of s.world u) (thread_at s.world u).timer.expired) (known_still u d))
        ∙ one_kept (k ∷ rest) s.world kept u

    pub kept_behind : KeepsTo rest (later s.world)
    kept_behind u q p a come known =
        (λ j. is_call_kept (sym come j) (thread_at (later s.world) u).timer.expired (sym known j))
        ∙ kept_at u (cases_eq u t)

-- BOTH STEPS

-- the line that is shown behind a hidden step may be shown before it, if its state is the same one
pub exchanged : (l : Bounds) (all : Bool) (lines : List Line) (s v n : Counted) (k : Line) (x : Label)
    (first : PlainConfiguration) → hides x ≡ true → GoesKnown (Needs l all) lines s x v
    → GoesKnown (Needs l all) lines v (Shown k) n → PlainAdvances l s.state (Shown k) first
    → ((rest : List Line) → drop s.count lines ≡ k ∷ rest → KeepsTo rest first.world)
    → Needs l all first x n.state → ComesBefore l all lines s k x n
exchanged l all lines s v n k x first hidden step line advances keeps next = record {
  between = record { state = first; count = suc s.count };
  shows = record {
    step = record { advances = advances; needed = refl };
    count = refl;
    next = λ j is. by_line j (line.next j is);
    keeps = keeps (drop (suc s.count) lines) (by_line k (line.next k refl));
  };
  goes_on = record {
    step = next;
    count = count ∙ sym (hidden_count x (suc s.count) hidden);
    next = λ j is. absurd (not_hidden x j hidden is);
    keeps = line.keeps;
  };
}
  where
    before : v.count ≡ s.count
    before = step.count ∙ hidden_count x s.count hidden

    count : n.count ≡ suc s.count
    count = line.count ∙ ap suc before

    by_line : (j : Line) → drop v.count lines ≡ j ∷ drop n.count lines → drop s.count lines ≡ j ∷ drop (suc s.count) lines
    by_line j e = ap (λ i. drop i lines) (sym before) ∙ e ∙ ap (λ i. j ∷ drop i lines) count
