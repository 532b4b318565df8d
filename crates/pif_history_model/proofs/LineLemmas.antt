-- Which entry a line shows, and when what it tells of a state is so.
use Rattle.std.proofs.Common.{ℕ, ◌≡◌, ◌∙◌, ◌≤◌, ◌==◌, Bool, true, false, Some, None, length, refl, sym, ap, arith, if◌then◌else◌}
use Rattle.std.proofs.lemmas.Bool.{eqb-true, eq-eqb}
use Rattle.pif_types.specs.Bounds.{Bounds}
use Rattle.pif_types.specs.declared.requests.Kind.{Kind}
use Rattle.pif_model.specs.declared.events.Event.TheVariants as event
use Rattle.pif_model.specs.declared.events.Seen.TheVariants as seen
use Rattle.pif_model.specs.declared.events.Entry.{Entry}
use Rattle.pif_model.specs.declared.events.Entry.TheVariants as entry
use Rattle.pif_model.specs.Graph.{is_priority}
use Rattle.pif_model.specs.Posix.{World, Step, is_living, rests, effective_of}
use Rattle.pif_model.specs.Posix.Step.{thread_added, mutex_added, cond_added, refused, begun, went, waits, answered, ended, ticked}
use Rattle.pif_model_lemmas.proofs.kernel.Settled.{priority-from_range}
use Rattle.pif_posix_steps.specs.Once.{Enters}
use Rattle.pif_posix_steps.specs.Once.Enters.{answered as by_answer, other}
use Rattle.pif_rules_model.specs.Rules.{end_of}
use Rattle.pif_history_model.specs.declared.lines.Protocol.TheVariants.{PrioInherit, PrioNone}
use Rattle.pif_history_model.specs.declared.lines.Line.{Line}
use Rattle.pif_history_model.specs.declared.lines.Line.TheVariants.{Thread, Mutex, Cond, Begin, Answer, Dying, End, Tick, Rests, Prio, Process, Halted, Resumed, Asks}
use Rattle.pif_history_model.specs.Lines.{line_of, ended_by}
use Rattle.pif_history_model.specs.Shown.{IsSeen}
use Rattle.pif_history_model.specs.Shown.IsSeen.{rests as by_rests, prio as by_prio, dying as by_dying}
use Rattle.pif_history_model.specs.Listed.{entry_for, is_seen}

-- the entry that is listed for a line is one that the line shows
pub shows-entry_for : (w : World) (line : Line) (e : Entry) → entry_for w line ≡ Some e → line_of e ≡ Some line
shows-entry_for w (Thread p) e h = thread (is_priority p) h
  where
    thread : (b : Bool) → (if b then Some (entry.Thread (length w.threads) p) else None) ≡ Some e → line_of e ≡ Some (Thread p)
    thread true h = cc
    thread false h = absurd (cc)
shows-entry_for w (Mutex k r PrioInherit) e h = cc
shows-entry_for w (Mutex k r PrioNone) e h = absurd (cc)
shows-entry_for w (Cond m) e h = cc
shows-entry_for w (Begin t q) e h = cc
shows-entry_for w (Answer t a) e h = cc
shows-entry_for w (End t) e h = cc
shows-entry_for w (Tick n) e h = cc
shows-entry_for w (Dying t) e h = absurd (cc)
shows-entry_for w (Rests t) e h = absurd (cc)
shows-entry_for w (Prio t p) e h = absurd (cc)
shows-entry_for w (Process t) e h = absurd (cc)
shows-entry_for w Halted e h = absurd (cc)
shows-entry_for w Resumed e h = absurd (cc)
shows-entry_for w (Asks f b) e h = absurd (cc)

-- the entry of a line that says of no thread that it has ended is no end
pub no_end : (w : World) (line : Line) (e : Entry) → entry_for w line ≡ Some e → ended_by line ≡ None → end_of e ≡ None
no_end w (Thread p) e h k = thread (is_priority p) h
  where
    thread : (b : Bool) → (if b then Some (entry.Thread (length w.threads) p) else None) ≡ Some e → end_of e ≡ None
    thread true h = let is : e ≡ entry.Thread (length w.threads) p = cc in ap end_of is
    thread false h = absurd (cc)
no_end w (Mutex k r PrioNone) e h i = absurd (cc)
no_end w (Mutex k r PrioInherit) e h i = let is : e ≡ entry.Mutex (length w.mutexes) k r = cc in ap end_of is
no_end w (Cond m) e h k = let is : e ≡ entry.Cond (length w.variables) m = cc in ap end_of is
no_end w (Begin t q) e h k = let is : e ≡ entry.Step (event.Begin t q) seen.Begun = cc in ap end_of is
no_end w (Answer t a) e h k = let is : e ≡ entry.Step (event.Go t) (seen.Answered a) = cc in ap end_of is
no_end w (Tick n) e h k = let is : e ≡ entry.Step (event.Tick n) seen.Ticked = cc in ap end_of is
no_end w (End t) e h k = absurd (cc)
no_end w (Dying t) e h k = absurd (cc)
no_end w (Rests t) e h k = absurd (cc)
no_end w (Prio t p) e h k = absurd (cc)
no_end w (Process t) e h k = absurd (cc)
no_end w Halted e h k = absurd (cc)
no_end w Resumed e h k = absurd (cc)
no_end w (Asks f b) e h k = absurd (cc)

-- what is added has the next number
thread_step : (l : Bounds) (w v : World) (t p : ℕ) → Step l w (entry.Thread t p) v → (t ≡ length w.threads) × (1 ≤ p) × (p ≤ 99)
thread_step l w v t p (thread_added u q e a b c d f) =
    let t_is : t ≡ u = cc in
    let q_is : q ≡ p = cc in
    (t_is ∙ a, omega (arith, q_is, c), omega (arith, q_is, d))
thread_step l w v t p (mutex_added m k r e a b c) = absurd (cc)
thread_step l w v t p (cond_added c m e a b d f) = absurd (cc)
thread_step l w v t p (refused x r e a b) = absurd (cc)
thread_step l w v t p (begun u q e a b) = absurd (cc)
thread_step l w v t p (went u e a b) = absurd (cc)
thread_step l w v t p (waits u x e a b c) = absurd (cc)
thread_step l w v t p (answered u a q x e b c d f) = absurd (cc)
thread_step l w v t p (ended u e a) = absurd (cc)
thread_step l w v t p (ticked n e a b) = absurd (cc)

mutex_step : (l : Bounds) (w v : World) (m : ℕ) (k : Kind) (s : Bool) → Step l w (entry.Mutex m k s) v → m ≡ length w.mutexes
mutex_step l w v m k s (thread_added u q e a b c d f) = absurd (cc)
mutex_step l w v m k s (mutex_added n j r e a b c) = let n_is : m ≡ n = cc in n_is ∙ a
mutex_step l w v m k s (cond_added c n e a b d f) = absurd (cc)
mutex_step l w v m k s (refused x r e a b) = absurd (cc)
mutex_step l w v m k s (begun u q e a b) = absurd (cc)
mutex_step l w v m k s (went u e a b) = absurd (cc)
mutex_step l w v m k s (waits u x e a b c) = absurd (cc)
mutex_step l w v m k s (answered u a q x e b c d f) = absurd (cc)
mutex_step l w v m k s (ended u e a) = absurd (cc)
mutex_step l w v m k s (ticked n e a b) = absurd (cc)

cond_step : (l : Bounds) (w v : World) (c m : ℕ) → Step l w (entry.Cond c m) v → c ≡ length w.variables
cond_step l w v c m (thread_added u q e a b d f g) = absurd (cc)
cond_step l w v c m (mutex_added n j r e a b d) = absurd (cc)
cond_step l w v c m (cond_added d n e a b f g) = let c_is : c ≡ d = cc in c_is ∙ b
cond_step l w v c m (refused x r e a b) = absurd (cc)
cond_step l w v c m (begun u q e a b) = absurd (cc)
cond_step l w v c m (went u e a b) = absurd (cc)
cond_step l w v c m (waits u x e a b d) = absurd (cc)
cond_step l w v c m (answered u a q x e b d f g) = absurd (cc)
cond_step l w v c m (ended u e a) = absurd (cc)
cond_step l w v c m (ticked n e a b) = absurd (cc)

-- an entry that is possible is the one that is listed for its line
pub entry_for-from_enters : (l : Bounds) (w v : World) (e : Entry) (line : Line) → line_of e ≡ Some line → Enters l w e v
    → entry_for w line ≡ Some e
entry_for-from_enters l w v (entry.Thread t p) line h (by_answer u a e x) = absurd (cc)
entry_for-from_enters l w v (entry.Thread t p) line h (other g r x) =
    let k = thread_step l w v t p x in
    let pri : is_priority p ≡ true = priority-from_range p k.1 k.2 in
    let is : line ≡ Thread p = cc in
    rw (is, pri) (ap (λ (j : ℕ). Some (entry.Thread j p)) (sym k.0))
entry_for-from_enters l w v (entry.Mutex m k s) line h (by_answer u a e x) = absurd (cc)
entry_for-from_enters l w v (entry.Mutex m k s) line h (other g r x) =
    let n : m ≡ length w.mutexes = mutex_step l w v m k s x in
    let is : line ≡ Mutex k s PrioInherit = cc in
    rw is (ap (λ (j : ℕ). Some (entry.Mutex j k s)) (sym n))
entry_for-from_enters l w v (entry.Cond c m) line h (by_answer u a e x) = absurd (cc)
entry_for-from_enters l w v (entry.Cond c m) line h (other g r x) =
    let n : c ≡ length w.variables = cond_step l w v c m x in
    let is : line ≡ Cond m = cc in
    rw is (ap (λ (j : ℕ). Some (entry.Cond j m)) (sym n))
entry_for-from_enters l w v (entry.Step (event.Begin t q) seen.Begun) line h x = cc
entry_for-from_enters l w v (entry.Step (event.Go t) (seen.Answered a)) line h x = cc
entry_for-from_enters l w v (entry.Step (event.End t) seen.Ended) line h x = cc
entry_for-from_enters l w v (entry.Step (event.Tick n) seen.Ticked) line h x = cc
entry_for-from_enters l w v _ line h x = absurd (cc)

-- a line that tells of the state shows no entry
pub no_entry-from_seen : (w v : World) (line : Line) → IsSeen line v → entry_for w line ≡ None
no_entry-from_seen w v line (by_rests t e a b) = rw e refl
no_entry-from_seen w v line (by_prio t p e a b) = rw e refl
no_entry-from_seen w v line (by_dying t e a) = rw e refl

-- what a line tells of the state is so
pub seen-from : (w : World) (line : Line) → IsSeen line w → is_seen w line ≡ true
seen-from w line (by_rests t e a b) = rw (e, a) b
seen-from w line (by_prio t p e a b) = rw (e, a, b) (eq-eqb p p refl)
seen-from w line (by_dying t e a) = rw e a

pub seen-to : (w : World) (line : Line) → is_seen w line ≡ true → IsSeen line w
seen-to w (Dying t) h = by_dying t refl h
seen-to w (Rests t) h = go (is_living w t) refl h
  where
    go : (b : Bool) → is_living w t ≡ b → (if b then rests w t else false) ≡ true → IsSeen (Rests t) w
    go true a h = by_rests t refl a h
    go false a h = absurd (cc)
seen-to w (Prio t p) h = go (is_living w t) refl h
  where
    go : (b : Bool) → is_living w t ≡ b → (if b then effective_of w t == p else false) ≡ true → IsSeen (Prio t p) w
    go true a h = by_prio t p refl a (eqb-true (effective_of w t) p h)
    go false a h = absurd (cc)
seen-to w _ h = absurd (cc)
