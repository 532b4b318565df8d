-- No line that is shown is refused.
use Rattle.std.proofs.Common.{ℕ, ◌≡◌, ◌≢◌, ◌⊎◌, ◌<◌, ◌≤◌, ◌+◌, ◌∙◌, Bool, true, false, ◌||◌, ◌==◌, nat_lt, List, [], ◌∷◌, ◌++◌, length, Some, None, is_some, refl, sym, ap, subst, inl, inr, arith, if◌then◌else◌}
use Rattle.std.proofs.lemmas.Bool.{cases_eq, cases_Bool, true≢false, eq-eqb, ne_eqb, eqb-true}
use Rattle.std.proofs.lemmas.List.{length-set, length_push, get_or-set_same, get_or_push}
use Rattle.pif_types.specs.Bounds.{Bounds}
use Rattle.pif_types.specs.declared.errors.AddFault.TheVariants.{BadPrio, NoSuch}
use Rattle.pif_types.specs.declared.requests.Kind.{Kind}
use Rattle.pif_types.specs.declared.requests.Request.{Request}
use Rattle.pif_model.specs.declared.events.Event.TheVariants as event
use Rattle.pif_model.specs.declared.events.Seen.TheVariants as seen
use Rattle.pif_model.specs.declared.events.Entry.{Entry}
use Rattle.pif_model.specs.declared.events.Entry.TheVariants as entry
use Rattle.pif_model.specs.Refusals.{tick_refused}
use Rattle.pif_model.specs.Posix.{World, Thread, Mutex, Variable, Step, LivesNot, IsAllowed, nobody, new_thread, thread_at, is_thread, is_living, is_mutex, is_variable, with_thread, begun_thread, names_known}
use Rattle.pif_model.specs.Posix.Step.{thread_added, mutex_added, cond_added, refused, begun, went, waits, answered, ended, ticked}
use Rattle.pif_model_lemmas.proofs.Numbers.{within, from_within}
use Rattle.pif_model_lemmas.proofs.kernel.Settled.{priority-from_range}
use Rattle.pif_model_simulation.proofs.Shown.{go_allowed}
use Rattle.pif_model_simulation.proofs.runs.Worlds.{call_of, push_same, push_other, living-with_thread, call-with_thread_other, is_thread-with_thread, begin_allowed, end_allowed}
use Rattle.pif_posix_steps.specs.Once as once
use Rattle.pif_posix_steps.specs.Once.{Enters, Answers}
use Rattle.pif_posix_steps.specs.Once.Enters.{answered as enters_answered, other}
use Rattle.pif_search.specs.Runs.{Runs}
use Rattle.pif_history_model.specs.declared.lines.Protocol.TheVariants.{PrioInherit}
use Rattle.pif_history_model.specs.declared.lines.Line.{Line}
use Rattle.pif_history_model.specs.declared.lines.Line.TheVariants as line
use Rattle.pif_history_model.specs.declared.labels.Label.{Label}
use Rattle.pif_history_model.specs.declared.labels.Label.TheVariants.{Shown, Moves, Ends as EndsHidden}
use Rattle.pif_history_model.specs.declared.refusals.LineRefusal.{LineRefusal}
use Rattle.pif_history_model.specs.declared.refusals.LineRefusal.TheVariants.{Addition, Halt}
use Rattle.pif_history_model.specs.Lines.{line_of, is_among, is_line_among, dying_by, dying_after, halted_by, comes_while}
use Rattle.pif_history_model.specs.Shown.{IsSeen, IsShown}
use Rattle.pif_history_model.specs.Shown.IsSeen.{rests, prio, dying}
use Rattle.pif_history_model.specs.Plain.{PlainConfiguration, PlainAdvances, plain_start_of}
use Rattle.pif_history_model.specs.Plain.PlainAdvances.{moves, ends, enters, sees, has_ended}
use Rattle.pif_history_model.specs.Refused.{threads_in, mutexes_in, conds_in, is_known, time_by, is_open, is_gone, room_refused, event_refused, living_refused, refusal_while_running, refusal_of_line}
use Rattle.pif_history_model.proofs.Extras.{comes_plainly, runs_while_plain}
use Rattle.pif_history_model.proofs.Keeping.{keeps_move}
use Rattle.pif_history_model.proofs.Telling.{Tells, Tells-start, Tells-keeps, Tells-ends, Tells-said_ended, Leaves, leaves-from_ends, leaves-from_dead, one_more_known, gone-cases, alive, known, begin_ok, go_ok, living_ok, room_ok}
use Rattle.pif_history_model.proofs.Completeness.{reached-from_shown}
use Rattle.pif_history_model.proofs.Soundness.{lines_in, lines_after, shown-lines_in, same-from_shown}

-- behind a line that is shown the lines tell of the state as before, and the line is not refused
pub record Follows (l : Bounds) (lines : List Line) (x : Line) (v : World) (dying : List ℕ) : Type 0 where
  pub tells : Tells (x ∷ lines) v (dying_after x dying)
  pub allowed : refusal_while_running l lines x ≡ None

-- whose line it is
line_is : (e k : Entry) (x y : Line) → e ≡ k → line_of e ≡ Some x → line_of k ≡ Some y → x ≡ y
line_is e k x y same a b = some_is (sym a ∙ (ap line_of same ∙ b))
  where
    some_is : Some x ≡ Some y → x ≡ y
    some_is e = cc

-- ADDITIONS

one_thread : {l : Bounds} {lines : List Line} {w v : World} {d : List ℕ} (p : ℕ) → Tells lines w d
    → length w.threads ≤ l.threads → 1 ≤ p → p ≤ 99 → v ≡ record w { threads = w.threads ++ new_thread p ∷ [] }
    → Follows l lines (line.Thread p) v d
one_thread {l = l} {lines = lines} {w = w} {d = d} p x room low high after =
    subst (λ (y : World). Follows l lines (line.Thread p) y d) (sym after) (record {
      tells = record {
        threads = more ∙ ap (λ k. k + 1) x.threads;
        mutexes = x.mutexes;
        conds = x.conds;
        time = x.time;
        living = λ t e. living_at t e (cases_eq t (length w.threads));
        over = λ t e a. older t (other_than t e) ∙ x.over t e a;
        calling =
            λ t e. push_same (λ (y : Thread). is_some y.call) w.threads (new_thread p) nobody t refl ∙ x.calling t e;
        gone = x.gone;
        added = λ t e. known_at t (other_than t e) ∙ x.added t e;
        dying_is = x.dying_is;
      };
      allowed =
          ap (λ b. if b then room_refused (threads_in lines) l.threads else Some (Addition BadPrio))
          (priority-from_range p low high)
          ∙ room_ok (threads_in lines) l.threads (omega (arith, x.threads, room));
    })
  where
    u : World
    u = record w { threads = w.threads ++ new_thread p ∷ [] }

    more : length u.threads ≡ length w.threads + 1
    more = length_push w.threads (new_thread p)

    other_than : (t : ℕ) → is_gone lines t ≡ true → t ≢ length w.threads
    other_than t e s =
        let h : t < length w.threads = (within t (length w.threads) (x.added t e)).1 in
        absurd (omega (arith, h, s))

    older : (t : ℕ) → t ≢ length w.threads → is_living u t ≡ is_living w t
    older t n = ap (λ (y : Thread). y.living) (push_other w.threads (new_thread p) nobody t n)

    known_at : (t : ℕ) → t ≢ length w.threads → is_thread u t ≡ is_thread w t
    known_at t n = ap (λ k. if t == 0 then false else nat_lt t k) more ∙ one_more_known t (length w.threads) n

    living_at : (t : ℕ) → is_gone lines t ≡ false → (t ≡ length w.threads) ⊎ (t ≢ length w.threads)
        → is_living u t ≡ is_thread u t
    living_at t e (inl s) =
        ap (λ (y : Thread). y.living) (get_or_push w.threads (new_thread p) nobody t (sym s))
        ∙ sym (from_within t (length u.threads) (λ z. absurd (omega (arith, z, s, x.threads))) (omega (arith, s, more)))
    living_at t e (inr n) = older t n ∙ (x.living t e ∙ sym (known_at t n))

one_mutex : {l : Bounds} {lines : List Line} {w v : World} {d : List ℕ} (k : Kind) (r : Bool) (z : Mutex)
    → Tells lines w d → length w.mutexes ≤ l.mutexes → v ≡ record w { mutexes = w.mutexes ++ z ∷ [] }
    → Follows l lines (line.Mutex k r PrioInherit) v d
one_mutex {l = l} {lines = lines} {w = w} {d = d} k r z x room after =
    subst (λ (y : World). Follows l lines (line.Mutex k r PrioInherit) y d) (sym after) (record {
      tells = record {
        threads = x.threads;
        mutexes = length_push w.mutexes z ∙ ap (λ k. k + 1) x.mutexes;
        conds = x.conds;
        time = x.time;
        living = x.living;
        over = x.over;
        calling = x.calling;
        gone = x.gone;
        added = x.added;
        dying_is = x.dying_is;
      };
      allowed = room_ok (mutexes_in lines) l.mutexes (omega (arith, x.mutexes, room));
    })

one_cond : {l : Bounds} {lines : List Line} {w v : World} {d : List ℕ} (m : ℕ) (z : Variable) → Tells lines w d
    → is_mutex w m ≡ true → length w.variables ≤ l.conds → v ≡ record w { variables = w.variables ++ z ∷ [] }
    → Follows l lines (line.Cond m) v d
one_cond {l = l} {lines = lines} {w = w} {d = d} m z x there room after =
    subst (λ (y : World). Follows l lines (line.Cond m) y d) (sym after) (record {
      tells = record {
        threads = x.threads;
        mutexes = x.mutexes;
        conds = length_push w.variables z ∙ ap (λ k. k + 1) x.conds;
        time = x.time;
        living = x.living;
        over = x.over;
        calling = x.calling;
        gone = x.gone;
        added = x.added;
        dying_is = x.dying_is;
      };
      allowed = ap (λ b. if b then room_refused (conds_in lines) l.conds else Some (Addition NoSuch)) mutex_known
          ∙ room_ok (conds_in lines) l.conds (omega (arith, x.conds, room));
    })
  where
    mutex_known : is_known (mutexes_in lines) m ≡ true
    mutex_known = ap (λ k. if m == 0 then false else nat_lt m k) (sym x.mutexes) ∙ there

-- CALLS

-- a thread is written that lives as before, has a call open or not, and the others stay
one_call : {lines : List Line} {x : Line} {w : World} {d : List ℕ} (t : ℕ) (y : Thread) (b : Bool) → Tells lines w d
    → t < length w.threads → y.living ≡ is_living w t → is_some y.call ≡ b
    → threads_in (x ∷ lines) ≡ threads_in lines → mutexes_in (x ∷ lines) ≡ mutexes_in lines
    → conds_in (x ∷ lines) ≡ conds_in lines → time_by (x ∷ lines) ≡ time_by lines
    → ((u : ℕ) → is_gone (x ∷ lines) u ≡ is_gone lines u) → dying_after x d ≡ d → dying_by (x ∷ lines) ≡ dying_by lines
    → ((u : ℕ) → is_open (x ∷ lines) u ≡ (if t == u then b else is_open lines u))
    → Tells (x ∷ lines) (with_thread t y w) (dying_after x d)
one_call {lines = lines} {x = x} {w = w} {d = d} t y b z there lives opens a1 a2 a3 a4 a5 a6 a7 a8 = record {
  threads = length-set w.threads t y ∙ (z.threads ∙ ap (λ k. k + 1) (sym a1));
  mutexes = z.mutexes ∙ ap (λ k. k + 1) (sym a2);
  conds = z.conds ∙ ap (λ k. k + 1) (sym a3);
  time = z.time ∙ sym a4;
  living =
      λ u e. living-with_thread w t y lives u ∙ (z.living u (sym (a5 u) ∙ e) ∙ sym (is_thread-with_thread w t y u));
  over = λ u e a. living-with_thread w t y lives u
      ∙ z.over u (sym (a5 u) ∙ e) (subst (λ us. is_among us u ≡ false) a6 a);
  calling = λ u e. open_at u (z.calling u (sym (a5 u) ∙ e)) (cases_eq u t) ∙ sym (a8 u);
  gone = λ u e. a5 u ∙ z.gone u (subst (λ us. is_among us u ≡ true) a6 e);
  added = λ u e. is_thread-with_thread w t y u ∙ z.added u (sym (a5 u) ∙ e);
  dying_is = a6 ∙ (z.dying_is ∙ sym a7);
}
  where
    open_at : (u : ℕ) → is_some (call_of w u) ≡ is_open lines u → (u ≡ t) ⊎ (u ≢ t)
        → is_some (call_of (with_thread t y w) u) ≡ (if t == u then b else is_open lines u)
    open_at u e (inl s) =
        subst (λ i. is_some (call_of (with_thread t y w) i) ≡ (if t == i then b else is_open lines i)) (sym s)
        (ap (λ (k : Thread). is_some k.call) (get_or-set_same w.threads t y nobody there)
        ∙ (opens ∙ ap (λ c. if c then b else is_open lines t) (sym (eq-eqb t t refl))))
    open_at u e (inr n) =
        ap is_some (call-with_thread_other w t y u n)
        ∙ (e ∙ ap (λ c. if c then b else is_open lines u) (sym (ne_eqb t u (λ s. n (sym s)))))

one_begin : {l : Bounds} {lines : List Line} {w v : World} {d : List ℕ} (t : ℕ) (q : Request) → Tells lines w d
    → is_among d t ≡ false → IsAllowed w (event.Begin t q) → v ≡ with_thread t (begun_thread w q (thread_at w t)) w
    → Follows l lines (line.Begin t q) v d
one_begin {l = l} {lines = lines} {w = w} {d = d} t q x apart allowed after =
    subst (λ (y : World). Follows l lines (line.Begin t q) y d) (sym after) (record {
      tells = one_call {x = line.Begin t q} t (begun_thread w q (thread_at w t)) true x
          (within t (length w.threads) a.0).1 refl refl refl refl refl refl (λ u. refl) refl refl (λ u. refl);
      allowed = begin_ok (is_known (threads_in lines) t) (is_gone lines t) (is_open lines t) _ (known x t ∙ a.0) b.0
          (sym (x.calling t b.0) ∙ ap is_some a.2) (names ∙ a.3);
    })
  where
    a : (is_thread w t ≡ true) × (is_living w t ≡ true) × (call_of w t ≡ None)
        × (names_known (is_mutex w) (is_variable w) q ≡ true)
    a = begin_allowed w t q allowed

    b : (is_gone lines t ≡ false) × (is_thread w t ≡ true)
    b = alive x t apart a.1

    names : names_known (is_known (mutexes_in lines)) (is_known (conds_in lines)) q
        ≡ names_known (is_mutex w) (is_variable w) q
    names =
        ap (λ k. names_known (λ m. if m == 0 then false else nat_lt m k) (is_known (conds_in lines)) q) (sym x.mutexes)
        ∙ ap (λ k. names_known (is_mutex w) (λ c. if c == 0 then false else nat_lt c k) q) (sym x.conds)

one_answer : {l : Bounds} {lines : List Line} {w v : World} {d : List ℕ} (t a : ℕ) → Tells lines w d
    → is_among d t ≡ false → Answers t a w v → Follows l lines (line.Answer t a) v d
one_answer {l = l} {lines = lines} {w = w} {d = d} t a x apart answer =
    subst (λ (y : World). Follows l lines (line.Answer t a) y d) (sym answer.closes) (record {
      tells = one_call {x = line.Answer t a} t (record (thread_at w t) { call = None }) false x
          (within t (length w.threads) b.1).1 refl refl refl refl refl refl (λ u. refl) refl refl (λ u. refl);
      allowed = go_ok (is_known (threads_in lines) t) (is_gone lines t) (is_open lines t) (known x t ∙ b.1) b.0
          (sym (x.calling t b.0) ∙ g.1);
    })
  where
    g : (is_living w t ≡ true) × (is_some (call_of w t) ≡ true)
    g = go_allowed (is_thread w t) (is_living w t) (is_some (call_of w t)) answer.allowed

    b : (is_gone lines t ≡ false) × (is_thread w t ≡ true)
    b = alive x t apart g.0

-- ENDS, AND LOOKS

pub one_end : {l : Bounds} {lines : List Line} {w v : World} {d : List ℕ} (t : ℕ) → Tells lines w d
    → is_among d t ≡ false → IsAllowed w (event.End t) → Leaves t w v → Follows l lines (line.End t) v d
one_end {l = l} {lines = lines} {w = w} {d = d} t x apart allowed leaves =
    let a = end_allowed w t allowed in
    let still : is_among (dying_by lines) t ≡ false = subst (λ us. is_among us t ≡ false) x.dying_is apart in
    record {
      tells = Tells-said_ended x a.0 leaves;
      allowed = ap (λ b. if b then None else living_refused lines t) still ∙ living_ok x t apart a.1;
    }

pub one_over : {l : Bounds} {lines : List Line} {w : World} {d : List ℕ} (t : ℕ) → Tells lines w d
    → is_among d t ≡ true → LivesNot w t → Follows l lines (line.End t) w d
one_over {l = l} {lines = lines} {w = w} {d = d} t x among dead =
    let still : is_among (dying_by lines) t ≡ true = subst (λ us. is_among us t ≡ true) x.dying_is among in
    record {
      tells = Tells-said_ended x (x.added t (x.gone t among)) (leaves-from_dead dead);
      allowed = ap (λ b. if b then None else living_refused lines t) still;
    }

one_tick : {l : Bounds} {lines : List Line} {w v : World} {d : List ℕ} (n : ℕ) → Tells lines w d
    → IsAllowed w (event.Tick n) → v ≡ record w { time = n } → Follows l lines (line.Tick n) v d
one_tick {l = l} {lines = lines} {w = w} {d = d} n x allowed after =
    subst (λ (y : World). Follows l lines (line.Tick n) y d) (sym after) (record {
      tells = record {
        threads = x.threads;
        mutexes = x.mutexes;
        conds = x.conds;
        time = refl;
        living = x.living;
        over = x.over;
        calling = x.calling;
        gone = x.gone;
        added = x.added;
        dying_is = x.dying_is;
      };
      allowed = ap event_refused (ap (λ k. tick_refused k n) (sym x.time) ∙ allowed);
    })

pub one_look : {l : Bounds} {lines : List Line} {w v : World} {d : List ℕ} (y : Line) → Tells lines w d
    → is_line_among d y ≡ false → ((t : ℕ) → is_living v t ≡ is_living w t) → IsSeen y v → Follows l lines y w d
one_look {l = l} {lines = lines} {w = w} {d = d} y x apart alike (rests t is lives rest) =
    subst (λ (z : Line). is_line_among d z ≡ false → Follows l lines z w d) (sym is) (λ a. record {
      tells = record {
        threads = x.threads;
        mutexes = x.mutexes;
        conds = x.conds;
        time = x.time;
        living = x.living;
        over = x.over;
        calling = x.calling;
        gone = x.gone;
        added = x.added;
        dying_is = x.dying_is;
      };
      allowed = living_ok x t a (sym (alike t) ∙ lives);
    }) apart
one_look {l = l} {lines = lines} {w = w} {d = d} y x apart alike (prio t p is lives same) =
    subst (λ (z : Line). is_line_among d z ≡ false → Follows l lines z w d) (sym is) (λ a. record {
      tells = record {
        threads = x.threads;
        mutexes = x.mutexes;
        conds = x.conds;
        time = x.time;
        living = x.living;
        over = x.over;
        calling = x.calling;
        gone = x.gone;
        added = x.added;
        dying_is = x.dying_is;
      };
      allowed = living_ok x t a (sym (alike t) ∙ lives);
    }) apart
one_look {l = l} {lines = lines} {w = w} {d = d} y x apart alike (dying t is lives) =
    subst (λ (z : Line). is_line_among d z ≡ false → Follows l lines z w d) (sym is) (λ a. record {
      tells = record {
        threads = x.threads;
        mutexes = x.mutexes;
        conds = x.conds;
        time = x.time;
        living = λ u e. x.living u (gone-cases lines t u e).1;
        over = λ u e o. over_at u e o (cases_Bool (t == u));
        calling = λ u e. x.calling u (gone-cases lines t u e).1;
        gone = λ u e. gone_at u e (cases_Bool (t == u));
        added = λ u e. added_at (alive x t a (sym (alike t) ∙ lives)).1 u e (cases_Bool (t == u));
        dying_is = ap (λ us. t ∷ us) x.dying_is;
      };
      allowed = living_ok x t a (sym (alike t) ∙ lives);
    }) apart
  where
    over_at : (u : ℕ) → is_gone (line.Dying t ∷ lines) u ≡ true → is_among (t ∷ d) u ≡ false
        → ((t == u) ≡ true) ⊎ ((t == u) ≡ false) → is_living w u ≡ false
    over_at u e o (inl s) = absurd (true≢false (ap (λ b. b || is_among d u) (sym s) ∙ o))
    over_at u e o (inr s) =
        x.over u (ap (λ b. if b then true else is_gone lines u) (sym s) ∙ e) (ap (λ b. b || is_among d u) (sym s) ∙ o)

    gone_at : (u : ℕ) → is_among (t ∷ d) u ≡ true → ((t == u) ≡ true) ⊎ ((t == u) ≡ false)
        → is_gone (line.Dying t ∷ lines) u ≡ true
    gone_at u e (inl s) = ap (λ b. if b then true else is_gone lines u) s
    gone_at u e (inr s) =
        ap (λ b. if b then true else is_gone lines u) s ∙ x.gone u (ap (λ b. b || is_among d u) (sym s) ∙ e)

    added_at : is_thread w t ≡ true → (u : ℕ) → is_gone (line.Dying t ∷ lines) u ≡ true
        → ((t == u) ≡ true) ⊎ ((t == u) ≡ false)
        → is_thread w u ≡ true
    added_at k u e (inl s) = subst (λ i. is_thread w i ≡ true) (eqb-true t u s) k
    added_at k u e (inr s) = x.added u (ap (λ b. if b then true else is_gone lines u) (sym s) ∙ e)

-- ONE STEP

-- an entry that a line shows
pub follows-from_entry : {l : Bounds} {lines : List Line} {w v : World} {d : List ℕ} (y : Line) (e : Entry)
    → Tells lines w d
    → line_of e ≡ Some y → is_line_among d y ≡ false → Enters l w e v → Follows l lines y v d
follows-from_entry {l} {lines} {w} {v} {d} y e x is apart (enters_answered t a same answer) =
    at (line.Answer t a) (line_is e (entry.Step (event.Go t) (seen.Answered a)) y (line.Answer t a) same is refl) apart
    (λ k. one_answer t a x k answer)
  where
    at : (z : Line) → y ≡ z → is_line_among d y ≡ false → (is_line_among d z ≡ false → Follows l lines z v d)
        → Follows l lines y v d
    at z s k f = subst (λ i. Follows l lines i v d) (sym s) (f (subst (λ i. is_line_among d i ≡ false) s k))
follows-from_entry {l} {lines} {w} {v} {d} y e x is apart (other no_go no_refusal step) = by_step step
  where
    at : (z : Line) → y ≡ z → (is_line_among d z ≡ false → Follows l lines z v d) → Follows l lines y v d
    at z s f = subst (λ i. Follows l lines i v d) (sym s) (f (subst (λ i. is_line_among d i ≡ false) s apart))

    by_step : Step l w e v → Follows l lines y v d
    by_step (thread_added t p same is_next room low high after) =
        at (line.Thread p) (line_is e (entry.Thread t p) y (line.Thread p) same is refl)
        (λ k. one_thread p x (subst (λ i. i ≤ l.threads) is_next room) low high after)
    by_step (mutex_added m k r same is_next room after) =
        at (line.Mutex k r PrioInherit) (line_is e (entry.Mutex m k r) y (line.Mutex k r PrioInherit) same is refl)
        (λ _. one_mutex k r _ x (subst (λ i. i ≤ l.mutexes) is_next room) after)
    by_step (cond_added c m same there is_next room after) =
        at (line.Cond m) (line_is e (entry.Cond c m) y (line.Cond m) same is refl)
        (λ k. one_cond m _ x there (subst (λ i. i ≤ l.conds) is_next room) after)
    by_step (refused z r same why after) = absurd (true≢false (sym (ap once.is_refused same) ∙ no_refusal))
    by_step (begun t q same allowed after) =
        at (line.Begin t q) (line_is e (entry.Step (event.Begin t q) seen.Begun) y (line.Begin t q) same is refl)
        (λ k. one_begin t q x k allowed after)
    by_step (went t same goes runs) = absurd (true≢false (sym (ap once.is_go same) ∙ no_go))
    by_step (waits t u same goes after resting) = absurd (true≢false (sym (ap once.is_go same) ∙ no_go))
    by_step (answered t a q u same goes before after runs) = absurd (true≢false (sym (ap once.is_go same) ∙ no_go))
    by_step (ended t same e) =
        at (line.End t) (line_is _ (entry.Step (event.End t) seen.Ended) y (line.End t) same is refl)
        (λ k. one_end t x k e.allowed (leaves-from_ends e))
    by_step (ticked n same allowed after) =
        at (line.Tick n) (line_is e (entry.Step (event.Tick n) seen.Ticked) y (line.Tick n) same is refl)
        (λ k. one_tick n x allowed after)

-- what a step that shows a line, or a hidden one, leaves
abbrev pub StepTells : Bounds → List Line → Label → PlainConfiguration → Type 0
StepTells l lines (Shown x) n = Tells (x ∷ lines) n.world n.dying × (refusal_while_running l lines x ≡ None)
StepTells l lines _ n = Tells lines n.world n.dying

step_tells : {l : Bounds} {lines : List Line} {s n : PlainConfiguration} (x : Label) → Tells lines s.world s.dying
    → PlainAdvances l s x n → StepTells l lines x n
step_tells {l} {lines} {s} {n} x y (moves t v is m e) =
    subst (λ (z : Label). StepTells l lines z n) (sym is)
    (subst (λ (z : PlainConfiguration). Tells lines z.world z.dying) (sym e) (Tells-keeps y (keeps_move m)))
step_tells {l} {lines} {s} {n} x y (ends t v is among m e) =
    subst (λ (z : Label). StepTells l lines z n) (sym is)
    (subst (λ (z : PlainConfiguration). Tells lines z.world z.dying) (sym e) (Tells-ends y (y.gone t among) (by_entry m)))
  where
    by_step : Step l s.world (entry.Step (event.End t) seen.Ended) v → Leaves t s.world v
    by_step (ended u same e) =
        let here : u ≡ t = cc in
        subst (λ i. Leaves i s.world v) here (leaves-from_ends e)
    by_step (thread_added u p same is_next room low high after) = absurd (cc)
    by_step (mutex_added m k r same is_next room after) = absurd (cc)
    by_step (cond_added c m same there is_next room after) = absurd (cc)
    by_step (refused z r same why after) = absurd (cc)
    by_step (begun u q same allowed after) = absurd (cc)
    by_step (went u same goes runs) = absurd (cc)
    by_step (waits u k same goes after resting) = absurd (cc)
    by_step (answered u a q k same goes before after runs) = absurd (cc)
    by_step (ticked k same allowed after) = absurd (cc)

    by_entry : Enters l s.world (entry.Step (event.End t) seen.Ended) v → Leaves t s.world v
    by_entry (enters_answered u a same answer) = absurd (cc)
    by_entry (other no_go no_refusal step) = by_step step
step_tells {l} {lines} {s} {n} x y (enters z e v is of apart m same) =
    let f : Follows l lines z v s.dying = follows-from_entry z e y of apart m in
    subst (λ (k : Label). StepTells l lines k n) (sym is)
    (subst (λ (k : PlainConfiguration). Tells (z ∷ lines) k.world k.dying) (sym same) f.tells, f.allowed)
step_tells {l} {lines} {s} {n} x y (sees z is apart look same) =
    let f : Follows l lines z s.world s.dying = one_look z y apart (λ t. refl) look in
    subst (λ (k : Label). StepTells l lines k n) (sym is)
    (subst (λ (k : PlainConfiguration). Tells (z ∷ lines) k.world k.dying) (sym same) f.tells, f.allowed)
step_tells {l} {lines} {s} {n} x y (has_ended t is among dead same) =
    let f : Follows l lines (line.End t) s.world s.dying = one_over t y among dead in
    subst (λ (k : Label). StepTells l lines k n) (sym is)
    (subst (λ (k : PlainConfiguration). Tells (line.End t ∷ lines) k.world k.dying) (sym same) f.tells, f.allowed)

-- RUNS

tells_of : (l : Bounds) (lines : List Line) (n : PlainConfiguration) (x : Label) → StepTells l lines x n
    → Tells (lines_after x lines) n.world n.dying
tells_of l lines n (Shown x) y = y.0
tells_of l lines n (Moves t) y = y
tells_of l lines n (EndsHidden t) y = y

-- lines tell of the states that they lead to
run_tells : (l : Bounds) (h : List Label) (n : PlainConfiguration) → Runs (PlainAdvances l) (plain_start_of l) h n
    → Tells (lines_in h) n.world n.dying
run_tells l [] n e = subst (λ (k : PlainConfiguration). Tells [] k.world k.dying) e (Tells-start l)
run_tells l (x ∷ h) n r = tells_of l (lines_in h) n x (step_tells x (run_tells l h r.0 r.1) r.2)

-- the last line of a run is not refused
last_allowed : (l : Bounds) (h : List Label) (n : PlainConfiguration) (x : Line) (lines : List Line)
    → Runs (PlainAdvances l) (plain_start_of l) h n → lines_in h ≡ x ∷ lines → refusal_of_line l lines x ≡ None
last_allowed l [] n x lines r e = absurd (cc)
last_allowed l (Shown y ∷ h) n x lines r e =
    let same : y ≡ x = cc in
    let rest : lines_in h ≡ lines = cc in
    subst (λ z. refusal_of_line l lines z ≡ None) same (subst (λ ls. refusal_of_line l ls y ≡ None) rest here)
  where
    coming : comes_while (halted_by (lines_in h)) y ≡ true
    coming =
        ap (λ b. comes_while b y) (runs_while_plain l (plain_start_of l) h r.0 r.1)
        ∙ comes_plainly l r.0 (Shown y) n r.2

    here : refusal_of_line l (lines_in h) y ≡ None
    here =
        ap (λ b. if b then refusal_while_running l (lines_in h) y else Some Halt) coming
        ∙ (step_tells (Shown y) (run_tells l h r.0 r.1) r.2).1
last_allowed l (Moves t ∷ h) n x lines r e = last_allowed l h r.0 x lines r.1 e
last_allowed l (EndsHidden t ∷ h) n x lines r e = last_allowed l h r.0 x lines r.1 e

-- a line that is refused is shown by no run
pub refused_not_shown : (l : Bounds) (lines : List Line) (x : Line) (r : LineRefusal)
    → refusal_of_line l lines x ≡ Some r
    → IsShown l (x ∷ lines) → ⊥
refused_not_shown l lines x r is shown =
    let found = reached-from_shown l (x ∷ lines) shown in
    let same : lines_in found.1.history ≡ x ∷ lines =
    same-from_shown (lines_in found.1.history) (x ∷ lines) (sym (shown-lines_in found.1.history) ∙ found.1.shows) in
    let allowed : refusal_of_line l lines x ≡ None = last_allowed l found.1.history found.0 x lines found.1.run same in
    absurd (cc)
