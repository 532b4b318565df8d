-- Behind an entry, and the line that shows it, the lines tell of each open call, too.
use Rattle.std.proofs.Common.{ℕ, ◌≡◌, ◌≢◌, ◌⊎◌, ◌∙◌, ◌==◌, Bool, false, List, [], ◌∷◌, ◌++◌, length, get_or, Option, Some, None, refl, sym, ap, subst, inl, inr, if◌then◌else◌}
use Rattle.std.proofs.lemmas.Bool.{true≢false, cases_eq, eq-eqb, ne_eqb}
use Rattle.std.proofs.lemmas.List.{get_or_push}
use Rattle.pif_types.specs.Bounds.{Bounds}
use Rattle.pif_types.specs.declared.requests.Request.{Request}
use Rattle.pif_model.specs.declared.events.Entry.{Entry}
use Rattle.pif_model.specs.Deadlines.{plain}
use Rattle.pif_model.specs.Posix.{World, Thread, Step, nobody, thread_at, with_thread, with_call_by, without_call, begun_thread, after_end, after_owner_death, new_thread, Ends, Releases}
use Rattle.pif_model.specs.World.Progress.{Fresh}
use Rattle.pif_model.specs.Posix.Releases.{none_left, one_more}
use Rattle.pif_model.specs.Posix.Step.{thread_added, mutex_added, cond_added, refused, begun, went, waits, answered, ended, ticked}
use Rattle.pif_model_lemmas.proofs.Among.{is_among-without}
use Rattle.pif_model_simulation.proofs.runs.Holding.{same_progress, same_request}
use Rattle.pif_model_simulation.proofs.runs.Worlds.{call-with_thread_other, push_other}
use Rattle.pif_posix_steps.specs.Once as once
use Rattle.pif_posix_steps.specs.Once.{Enters}
use Rattle.pif_posix_steps.specs.Once.Enters.{answered as enters_answered, other}
use Rattle.pif_history_model.proofs.Leading.{AreWaiting}
use Rattle.pif_history_model.proofs.KnownMoving.{follows_Passes}
use Rattle.pif_history_model.specs.declared.lines.Protocol.TheVariants.{PrioInherit}
use Rattle.pif_history_model.specs.declared.lines.Line.{Line}
use Rattle.pif_history_model.specs.declared.lines.Line.TheVariants as line
use Rattle.pif_history_model.specs.Lines.{line_of}
use Rattle.pif_history_model.specs.Wakeups.{open_request, request_after, begins}
use Rattle.pif_history_model.specs.Wakeups.MayBeWoken.{before}
use Rattle.pif_history_model.proofs.WokenTold.{AreTold, IsThreadTold, IsTold, is_roused, each_written, no_call, unroused_not_woken, told_same, told_written}
use Rattle.pif_history_model.proofs.WokenMoving.{told_Passes}

-- THE END OF A THREAD

-- its robust mutexes pass on
told_Releases : {lines : List Line} {t : ℕ} {w v : World} → AreWaiting w → AreTold lines w → Releases t w v
    → AreTold lines v
told_Releases ok told (none_left o e) = told_same told (ap (λ (z : World). z.threads) e)
told_Releases {w = w} ok told (one_more m o i e more) =
    told_Releases (follows_Passes ok e).waiting
    (told_Passes ok (told_same {v = after_owner_death m w} told refl) e) more

-- other waiters still wait
left_waiting : (w : World) (t : ℕ) → AreWaiting w → AreWaiting (after_end t w)
left_waiting w t ok u m among =
    let i = is_among-without w.waiters t u m among in
    let o = ok u m i.0 in
    (o.0, call-with_thread_other w t _ u i.1 ∙ o.1)

pub told_Ends : {lines : List Line} {t : ℕ} {w v : World} → AreWaiting w → AreTold lines w → Ends t w v
    → AreTold lines v
told_Ends {t = t} {w = w} ok told e =
    told_Releases (left_waiting w t ok)
    (told_same {v = after_end t w} (told_written t dead told (no_call t dead refl)) refl) e.releases
  where
    dead : Thread
    dead = record (thread_at w t) { living = false; call = None }

-- ONE LINE MORE

-- whether a line begins or answers a call of t
abbrev pub concerns : ℕ → Line → Bool
concerns t (line.Begin u q) = u == t
concerns t (line.Answer u a) = u == t
concerns t x = false

unconcerned_begins : (t : ℕ) (x : Line) → concerns t x ≡ false → begins t x ≡ false
unconcerned_begins t (line.Begin u q) e = e
unconcerned_begins t _ e = refl

unconcerned_request : (t : ℕ) (x : Line) (r : Option Request) → concerns t x ≡ false → request_after t x r ≡ r
unconcerned_request t (line.Begin u q) r e = ap (λ (b : Bool). if b then Some q else r) e
unconcerned_request t (line.Answer u a) r e = ap (λ (b : Bool). if b then None else r) e
unconcerned_request t _ r e = refl

-- a line that doesn't concern t
told_past : {lines : List Line} {t : ℕ} {q : Request} {woken : Bool} (x : Line) → concerns t x ≡ false
    → IsTold lines t q woken
    → IsTold (x ∷ lines) t q woken
told_past {lines} {t} x e i = record {
  request = i.request;
  is_open = unconcerned_request t x (open_request t lines) e ∙ i.is_open;
  plainly = i.plainly;
  may = λ woken c of. before x lines (unconcerned_begins t x e) (i.may woken c of);
}

-- a line that concerns nobody
pub told_by_others : {lines : List Line} {w : World} (x : Line) → ((t : ℕ) → concerns t x ≡ false) → AreTold lines w
    → AreTold (x ∷ lines) w
told_by_others x e told = record { each = λ t q p come. told_past x (e t) (told.each t q p come) }

-- a line that concerns t alone, by which t is written
told_own : {lines : List Line} {w : World} (x : Line) (t : ℕ) (y : Thread) → ((u : ℕ) → u ≢ t → concerns u x ≡ false)
    → AreTold lines w
    → IsThreadTold (x ∷ lines) t y → AreTold (x ∷ lines) (with_thread t y w)
told_own {lines} {w} x t y e told own = record {
  each = each_written (IsThreadTold (x ∷ lines)) w.threads t y (no_call t nobody refl) own
      (λ u d q p come. told_past x (e u d) (told.each u q p come));
}

-- a thread begins a call
told_begun : {lines : List Line} (t : ℕ) (q : Request) (y : Thread)
    → y.call ≡ Some (record { request = plain q; progress = Fresh })
    → IsThreadTold (line.Begin t q ∷ lines) t y
told_begun {lines} t q y opens r p come = record {
  request = q;
  is_open = ap (λ (b : Bool). if b then Some q else open_request t lines) (eq-eqb t t refl);
  plainly = same_request opens come;
  may = λ woken. absurd (unroused_not_woken r p y.timer.expired (ap is_roused (same_progress come opens)) woken);
}

-- a thread is added
told_added : {lines : List Line} {w : World} (p : ℕ) → AreTold lines w
    → AreTold lines (record w { threads = w.threads ++ new_thread p ∷ [] })
told_added {lines} {w} p told = record { each = λ t. go t (cases_eq t (length w.threads)) }
  where
    go : (t : ℕ) → (t ≡ length w.threads) ⊎ (t ≢ length w.threads)
        → IsThreadTold lines t (get_or (w.threads ++ new_thread p ∷ []) t nobody)
    go t (inl e) =
        subst (λ (z : Thread). IsThreadTold lines t z) (sym (get_or_push w.threads (new_thread p) nobody t (sym e)))
        (no_call t (new_thread p) refl)
    go t (inr d) =
        subst (λ (z : Thread). IsThreadTold lines t z) (sym (push_other w.threads (new_thread p) nobody t d))
        (told.each t)

-- behind an entry and its line
pub told_entry : {lines : List Line} (l : Bounds) (w v : World) (e : Entry) (k : Line) → AreWaiting w → AreTold lines w
    → line_of e ≡ Some k
    → Enters l w e v → AreTold (k ∷ lines) v
told_entry {lines} l w v e k ok told of (enters_answered t b same answer) =
    let is : line.Answer t b ≡ k = (let here : Some (line.Answer t b) ≡ Some k = sym (ap line_of same) ∙ of in cc) in
    subst (λ (z : World). AreTold (k ∷ lines) z) (sym answer.closes)
    (subst (λ (x : Line). AreTold (x ∷ lines) (with_call_by t without_call w)) is
    (told_own (line.Answer t b) t _ (λ u d. ne_eqb t u (λ i. d (sym i))) told
    (no_call t (record (thread_at w t) { call = None }) refl)))
told_entry {lines} l w v e k ok told of (other no_go no_refusal step) = by_step step
  where
    by_step : Step l w e v → AreTold (k ∷ lines) v
    by_step (thread_added t p same next room low high after) =
        let is : line.Thread p ≡ k = (let here : Some (line.Thread p) ≡ Some k = sym (ap line_of same) ∙ of in cc) in
        subst (λ (z : World). AreTold (k ∷ lines) z) (sym after)
        (subst (λ (x : Line). AreTold (x ∷ lines) (record w { threads = w.threads ++ new_thread p ∷ [] })) is
        (told_by_others (line.Thread p) (λ _. refl) (told_added p told)))
    by_step (mutex_added m i r same next room after) =
        let is : line.Mutex i r PrioInherit ≡ k = (let here : Some (line.Mutex i r PrioInherit) ≡ Some k = sym (ap line_of same) ∙ of in cc) in
        subst (λ (x : Line). AreTold (x ∷ lines) v) is
        (told_by_others (line.Mutex i r PrioInherit) (λ _. refl) (told_same told (ap (λ (z : World). z.threads) after)))
    by_step (cond_added i m same there next room after) =
        let is : line.Cond m ≡ k = (let here : Some (line.Cond m) ≡ Some k = sym (ap line_of same) ∙ of in cc) in
        subst (λ (x : Line). AreTold (x ∷ lines) v) is
        (told_by_others (line.Cond m) (λ _. refl) (told_same told (ap (λ (z : World). z.threads) after)))
    by_step (refused z r same why after) = absurd (true≢false (sym (ap once.is_refused same) ∙ no_refusal))
    by_step (begun t q same allowed after) =
        let is : line.Begin t q ≡ k = (let here : Some (line.Begin t q) ≡ Some k = sym (ap line_of same) ∙ of in cc) in
        subst (λ (z : World). AreTold (k ∷ lines) z) (sym after)
        (subst (λ (x : Line). AreTold (x ∷ lines) (with_thread t (begun_thread w q (thread_at w t)) w)) is
        (told_own (line.Begin t q) t _ (λ u d. ne_eqb t u (λ i. d (sym i))) told
        (told_begun t q (begun_thread w q (thread_at w t)) refl)))
    by_step (went t same goes runs) = absurd (true≢false (sym (ap once.is_go same) ∙ no_go))
    by_step (waits t z same goes after resting) = absurd (true≢false (sym (ap once.is_go same) ∙ no_go))
    by_step (answered t b q z same goes has after runs) = absurd (true≢false (sym (ap once.is_go same) ∙ no_go))
    by_step (ended t same e) =
        let is : line.End t ≡ k = (let here : Some (line.End t) ≡ Some k = sym (ap line_of same) ∙ of in cc) in
        subst (λ (x : Line). AreTold (x ∷ lines) v) is (told_by_others (line.End t) (λ _. refl) (told_Ends ok told e))
    by_step (ticked n same allowed after) =
        let is : line.Tick n ≡ k = (let here : Some (line.Tick n) ≡ Some k = sym (ap line_of same) ∙ of in cc) in
        subst (λ (x : Line). AreTold (x ∷ lines) v) is
        (told_by_others (line.Tick n) (λ _. refl) (told_same told (ap (λ (z : World). z.threads) after)))
