-- Along a run that shows lines these tell of each open call. So a wait that is answered 0 may have been woken by them.
use Rattle.std.proofs.Common.{ℕ, zero, suc, ◌≡◌, ◌∙◌, ◌==◌, Bool, true, false, List, [], ◌∷◌, get_or, Some, refl, sym, ap, subst, arith, if◌then◌else◌}
use Rattle.std.proofs.lemmas.Bool.{eq-eqb}
use Rattle.std.proofs.lemmas.List.{get_or_past}
use Rattle.std.proofs.lemmas.Bool.Decides.{nat_tests}
use Rattle.pif_types.specs.Bounds.{Bounds}
use Rattle.pif_types.specs.declared.requests.Request.{Request}
use Rattle.pif_types.specs.declared.requests.Request.TheVariants.{Wait, TimedWait}
use Rattle.pif_model.specs.declared.events.Event.TheVariants as event
use Rattle.pif_model.specs.declared.events.Seen.TheVariants as seen
use Rattle.pif_model.specs.declared.events.Entry.TheVariants as entry
use Rattle.pif_model.specs.Deadlines.{plain, reported_result}
use Rattle.pif_model.specs.NamedNumbers.{ETIMEDOUT}
use Rattle.pif_model.specs.Posix.{World, Thread, Step, nobody, thread_at, empty_world, Ends}
use Rattle.pif_model.specs.Posix.Step.{thread_added, mutex_added, cond_added, refused, begun, went, waits, answered, ended, ticked}
use Rattle.pif_model.specs.World.Progress.{Has}
use Rattle.pif_posix_steps.specs.Once.{Enters, Answers}
use Rattle.pif_posix_steps.specs.Once.Enters.{answered as enters_answered, other}
use Rattle.pif_search.specs.Runs.{Runs}
use Rattle.pif_history_model.specs.declared.lines.Line.{Line}
use Rattle.pif_history_model.specs.declared.lines.Line.TheVariants as line
use Rattle.pif_history_model.specs.declared.labels.Label.{Label}
use Rattle.pif_history_model.specs.declared.labels.Label.TheVariants.{Shown, Moves, Ends as LabelEnds}
use Rattle.pif_history_model.specs.Shown.{IsShown, IsSeen}
use Rattle.pif_history_model.specs.Shown.IsSeen.{rests as sees_rest, prio as sees_prio, dying as sees_dying}
use Rattle.pif_history_model.specs.Plain.{PlainConfiguration, PlainAdvances, plain_start_of}
use Rattle.pif_history_model.specs.Plain.PlainAdvances.{moves, ends, enters, sees, has_ended}
use Rattle.pif_history_model.proofs.Completeness.{reached-from_shown}
use Rattle.pif_history_model.proofs.Soundness.{lines_in, lines_after, shown-lines_in, same-from_shown, run_is_reached}
use Rattle.pif_history_model.proofs.Answering.{no_look, waiting_at}
use Rattle.pif_history_model.proofs.Entering.{answer-from_entry}
use Rattle.pif_history_model.proofs.Leading.{AreWaiting}
use Rattle.pif_history_model.specs.Wakeups.{waited_variable, open_request, MayBeWoken}
use Rattle.pif_history_model.proofs.WokenTold.{AreTold, IsThreadTold, is_woken, no_call, waited_plain}
use Rattle.pif_history_model.proofs.WokenMoving.{told_move}
use Rattle.pif_history_model.proofs.WokenEntering.{concerns, told_by_others, told_Ends, told_entry}

-- ALONG A RUN

-- at the start there is nobody
told_start : (l : Bounds) → AreTold [] (empty_world l.signals)
told_start l = record { each = go }
  where
    go : (t : ℕ) → IsThreadTold [] t (get_or (nobody ∷ []) t nobody)
    go zero = no_call 0 nobody refl
    go (suc t) =
        no_call (suc t) (get_or (nobody ∷ []) (suc t) nobody)
        (ap (λ (y : Thread). y.call) (get_or_past (nobody ∷ []) (suc t) nobody (omega arith)))

-- an entry that is the end of a thread
ends-from_entry : (l : Bounds) (t : ℕ) (w v : World) → Enters l w (entry.Step (event.End t) seen.Ended) v → Ends t w v
ends-from_entry l t w v (enters_answered u a same answer) = absurd (cc)
ends-from_entry l t w v (other no_go no_refusal step) = by_step step
  where
    by_step : Step l w (entry.Step (event.End t) seen.Ended) v → Ends t w v
    by_step (thread_added u p same next room low high after) = absurd (cc)
    by_step (mutex_added m i r same next room after) = absurd (cc)
    by_step (cond_added i m same there next room after) = absurd (cc)
    by_step (refused z r same why after) = absurd (cc)
    by_step (begun u q same allowed after) = absurd (cc)
    by_step (went u same goes runs) = absurd (cc)
    by_step (waits u z same goes after resting) = absurd (cc)
    by_step (answered u b q z same goes has after runs) = absurd (cc)
    by_step (ended u same e) = (let is : u ≡ t = cc in subst (λ k. Ends k w v) is e)
    by_step (ticked n same allowed after) = absurd (cc)

-- what is seen of the state concerns no call
seen_concerns : (k : Line) (w : World) → IsSeen k w → (t : ℕ) → concerns t k ≡ false
seen_concerns k w (sees_rest u e lives rest) t = ap (concerns t) e
seen_concerns k w (sees_prio u p e lives same) t = ap (concerns t) e
seen_concerns k w (sees_dying u e lives) t = ap (concerns t) e

-- behind a step of the machine that is searched
told_step : {lines : List Line} (l : Bounds) (s n : PlainConfiguration) (x : Label) → AreWaiting s.world
    → AreTold lines s.world
    → PlainAdvances l s x n → AreTold (lines_after x lines) n.world
told_step {lines} l s n x ok told (moves t v is m e) =
    subst (λ (z : Label). AreTold (lines_after z lines) n.world) (sym is)
    (subst (λ (z : PlainConfiguration). AreTold lines z.world) (sym e) (told_move t ok told m))
told_step {lines} l s n x ok told (ends t v is among m e) =
    subst (λ (z : Label). AreTold (lines_after z lines) n.world) (sym is)
    (subst (λ (z : PlainConfiguration). AreTold lines z.world) (sym e) (told_Ends ok told (ends-from_entry l t s.world v m)))
told_step {lines} l s n x ok told (enters k e v is of apart m same) =
    subst (λ (z : Label). AreTold (lines_after z lines) n.world) (sym is)
    (subst (λ (z : PlainConfiguration). AreTold (k ∷ lines) z.world) (sym same) (told_entry l s.world v e k ok told of m))
told_step {lines} l s n x ok told (sees k is apart look same) =
    subst (λ (z : Label). AreTold (lines_after z lines) n.world) (sym is)
    (subst (λ (z : PlainConfiguration). AreTold (k ∷ lines) z.world) (sym same)
    (told_by_others k (seen_concerns k s.world look) told))
told_step {lines} l s n x ok told (has_ended t is among dead same) =
    subst (λ (z : Label). AreTold (lines_after z lines) n.world) (sym is)
    (subst (λ (z : PlainConfiguration). AreTold (line.End t ∷ lines) z.world) (sym same)
    (told_by_others (line.End t) (λ _. refl) told))

-- behind a run
told_run : (l : Bounds) (h : List Label) (n : PlainConfiguration) → Runs (PlainAdvances l) (plain_start_of l) h n
    → AreTold (lines_in h) n.world
told_run l [] n r = subst (λ (z : PlainConfiguration). AreTold [] z.world) r (told_start l)
told_run l (x ∷ h) n r =
    told_step l r.0 n x (waiting_at l r.0.world (run_is_reached l h r.0 r.1).run) (told_run l h r.0 r.1) r.2

-- THE ANSWER

-- a wait that has run out of time isn't answered 0
not_0_late : (r : ℕ) → 0 ≡ (if r == 0 then ETIMEDOUT else r) → ⊥
not_0_late r e = grind (arith, nat_tests)

-- a wait with a result that is answered 0 was woken, and has not run out of time
woken-from_answer : (q : Request) (c r : ℕ) (x : Bool) → waited_variable q ≡ Some c → 0 ≡ reported_result (plain q) x r
    → is_woken (plain q) (Has r) x ≡ true
woken-from_answer (Wait k m) c r true w e = absurd (not_0_late r e)
woken-from_answer (Wait k m) c r false w e = eq-eqb r 0 (sym e)
woken-from_answer (TimedWait k m d) c r true w e = absurd (not_0_late r e)
woken-from_answer (TimedWait k m d) c r false w e = eq-eqb r 0 (sym e)
woken-from_answer _ c r x w e = absurd (cc)

-- so it may have been woken by the lines
woken_at_answer : (lines : List Line) (w v : World) (t c : ℕ) (q : Request) → AreTold lines w → Answers t 0 w v
    → open_request t lines ≡ Some q → waited_variable q ≡ Some c → MayBeWoken t c lines
woken_at_answer lines w v t c q told a is_open names =
    let x = (thread_at w t).timer.expired in
    let i = told.each t a.request (Has a.result) a.call in
    let asked : i.request ≡ q = (let both : Some i.request ≡ Some q = sym i.is_open ∙ is_open in cc) in
    let plainly : plain q ≡ a.request = sym (ap plain asked) ∙ i.plainly in
    i.may
    (subst (λ k. is_woken k (Has a.result) x ≡ true) plainly
    (woken-from_answer q c a.result x names (subst (λ k. 0 ≡ reported_result k x a.result) (sym plainly) a.told)))
    c (sym (ap waited_variable plainly) ∙ waited_plain q ∙ names)

-- the machine that is searched shows an answer by that answer
answer-from_step : (l : Bounds) (s n : PlainConfiguration) (t a : ℕ) (k : Line) → k ≡ line.Answer t a
    → PlainAdvances l s (Shown k) n
    → (v : World) × Answers t a s.world v
answer-from_step l s n t a k it (moves u v is m e) = absurd (cc)
answer-from_step l s n t a k it (ends u v is among m e) = absurd (cc)
answer-from_step l s n t a k it (enters j e v is of apart m same) =
    let what : k ≡ j = cc in
    (v, answer-from_entry t l s.world v e a (of ∙ ap Some (sym what ∙ it)) m)
answer-from_step l s n t a k it (sees j is apart look same) =
    let what : k ≡ j = cc in
    absurd (no_look t a j s.world (sym what ∙ it) look)
answer-from_step l s n t a k it (has_ended u is among dead same) = absurd (cc)

-- the last line of a run that shows lines is that answer, and hidden steps come behind it
woken_in_run : (l : Bounds) (h : List Label) (n : PlainConfiguration) (before : List Line) (t c : ℕ) (q : Request)
    → Runs (PlainAdvances l) (plain_start_of l) h n → lines_in h ≡ line.Answer t 0 ∷ before → open_request t before ≡ Some q
    → waited_variable q ≡ Some c → MayBeWoken t c before
woken_in_run l [] n before t c q r e is_open names = absurd (cc)
woken_in_run l (Moves u ∷ h) n before t c q r e is_open names = woken_in_run l h r.0 before t c q r.1 e is_open names
woken_in_run l (LabelEnds u ∷ h) n before t c q r e is_open names =
    woken_in_run l h r.0 before t c q r.1 e is_open names
woken_in_run l (Shown k ∷ h) n before t c q r e is_open names =
    let it : k ≡ line.Answer t 0 = cc in
    let rest : lines_in h ≡ before = cc in
    let a = answer-from_step l r.0 n t 0 k it r.2 in
    subst (λ (xs : List Line). MayBeWoken t c xs) rest
    (woken_at_answer (lines_in h) r.0.world a.0 t c q (told_run l h r.0 r.1) a.1
    (ap (open_request t) rest ∙ is_open) names)

-- a wait that some run shows to be answered 0 may have been woken
pub woken-from_shown : (l : Bounds) (before : List Line) (t c : ℕ) (q : Request) → IsShown l (line.Answer t 0 ∷ before)
    → open_request t before ≡ Some q → waited_variable q ≡ Some c → MayBeWoken t c before
woken-from_shown l before t c q shows is_open names =
    let x = reached-from_shown l (line.Answer t 0 ∷ before) shows in
    let same : lines_in x.1.history ≡ line.Answer t 0 ∷ before =
    same-from_shown (lines_in x.1.history) (line.Answer t 0 ∷ before) (sym (shown-lines_in x.1.history) ∙ x.1.shows) in
    woken_in_run l x.1.history x.0 before t c q x.1.run same is_open names
