-- An entry that a line shows keeps that a state and its lines agree.
use Rattle.std.proofs.Common.{ℕ, zero, suc, ◌≡◌, ◌≢◌, ◌⊎◌, ◌<◌, ◌∙◌, ◌==◌, ◌||◌, Bool, true, false, not, List, [], ◌∷◌, ◌++◌, length, get_or, set, Some, None, refl, sym, ap, subst, inl, inr, arith, eqb-true, if◌then◌else◌}
use Rattle.std.specs.List.{filter}
use Rattle.std.proofs.lemmas.Bool.{cases_eq, ne_eqb, true≢false}
use Rattle.std.proofs.lemmas.List.{map-append, map-set, length-set, length_push, get_or-set_same, get_or-set_other}
use Rattle.std.proofs.lemmas.List.Sums.{sum_by-set}
use Rattle.std.proofs.lemmas.Map.Views.{any-filter_same}
use Rattle.pif_types.specs.Bounds.{Bounds}
use Rattle.pif_types.specs.declared.requests.Kind.{Kind}
use Rattle.pif_types.specs.declared.requests.Request.{Request}
use Rattle.pif_model.specs.declared.events.Event.TheVariants.{Begin as BeginEvent, Go, End as EndEvent, Tick as TickEvent}
use Rattle.pif_model.specs.declared.events.Seen.TheVariants.{Begun, Answered, Ended, Ticked}
use Rattle.pif_model.specs.declared.events.Entry.TheVariants.{Thread as AddThread, Mutex as AddMutex, Cond as AddCond, Step as Happened}
use Rattle.pif_model.specs.Deadlines.{plain, reported_result}
use Rattle.pif_model.specs.History.{open_call, hold_count, open_after, hold_count_after}
use Rattle.pif_model.specs.Posix.{World, Thread, Mutex, nobody, no_mutex, thread_at, is_living, with_thread, with_base, with_call_by, without_call, begun_thread, new_thread, new_mutex, new_variable, after_end, is_use, variable_of, IsAllowed, Ends, Releases, Step}
use Rattle.pif_model.specs.World.Progress.{Has}
use Rattle.pif_model.specs.Posix.IsRun.{next}
use Rattle.pif_model.specs.Posix.Releases.{none_left, one_more}
use Rattle.pif_model_lemmas.proofs.Numbers.{within}
use Rattle.pif_model_lemmas.proofs.Places.{mapped_at, kept_at}
use Rattle.pif_model_lemmas.proofs.Waiting.{by_test}
use Rattle.pif_model_simulation.proofs.runs.Worlds.{owner_of, push_other, written_at, begin_allowed, end_allowed}
use Rattle.pif_model_simulation.proofs.runs.AllHolding.{caller_lives}
use Rattle.pif_posix_steps.specs.Once.{Answers}
use Rattle.pif_history_model.specs.declared.lines.Protocol.TheVariants.{PrioInherit}
use Rattle.pif_history_model.specs.declared.lines.Line.{Line}
use Rattle.pif_history_model.specs.declared.lines.Line.TheVariants.{Thread as AThread, Mutex as AMutex, Cond, Begin, Answer, Dying, End, Tick, Rests, Prio}
use Rattle.pif_history_model.specs.Lines.{is_among, dying_after}
use Rattle.pif_history_model.proofs.Completeness.{at}
use Rattle.pif_parts_model.specs.Quiet.{call_by, holds_by, IsIdle}
use Rattle.pif_parts_model.specs.Resting.{world_by, after_answer, with_use}
use Rattle.pif_parts_model.proofs.Ledgers.{Mark, Tag, Ledger, call_mark, mark_of, tag_of, free_of, ledger_of, keeps_thread}
use Rattle.pif_parts_model.proofs.Ledgers.Mark.{NoMark}
use Rattle.pif_parts_model.proofs.Sound.{IsSound, IsWhole, sound_thread}
use Rattle.pif_parts_model.proofs.Agreeing.{Agrees, no_tag, tag_at, with_mark, users, times_used, agrees_used, agrees_changed}
use Rattle.pif_parts_model.proofs.Adding.{among_others, agrees_lives, agrees_thread, agrees_mutex, agrees_variable, agrees_time}
use Rattle.pif_parts_model.proofs.Reading.{IsAlone, Leaves, leaves, fresh_mark, variable_known}
use Rattle.pif_parts_model.proofs.Reading.Leaves.{nothing, a_use, a_priority}
use Rattle.pif_parts_model.proofs.Accounting.{Accounted, held, called, idle_call, owns_none, room, mark_is, setter, ledger_marked}

-- LISTS

each_pushed : {A : Type 0} (P : A → Type 0) (l : List A) (d y : A) → P y → ((k : ℕ) → P (get_or l k d))
    → (k : ℕ) → P (get_or (l ++ y ∷ []) k d)
each_pushed P [] d y h all zero = h
each_pushed P [] d y h all (suc k) = all zero
each_pushed P (x ∷ xs) d y h all zero = all zero
each_pushed P (x ∷ xs) d y h all (suc k) = each_pushed P xs d y h (λ i. all (suc i)) k

-- who has ended isn't dying
among_self : (us : List ℕ) (t : ℕ) → is_among (filter (λ u. not (u == t)) us) t ≡ false
among_self us t = any-filter_same (λ u. u == t) (λ u. not (u == t)) false (λ k e. ap not e) us

-- who is dying then was before
among_before : (us : List ℕ) (t v : ℕ) → is_among (filter (λ u. not (u == t)) us) v ≡ true → (v ≢ t) × (is_among us v ≡ true)
among_before us t v e =
    let d : v ≢ t = (λ same. true≢false (sym e ∙ ap (is_among (filter (λ u. not (u == t)) us)) same ∙ among_self us t)) in
    (d, sym (among_others us t v d) ∙ e)

module _ (l : Bounds) (lines : List Line) (w : World) (us : List ℕ) (x : Accounted l lines (at w us)) where
  -- ADDITIONS

  pub thread_in : (t p : ℕ) → Step l w (AddThread t p) (record w { threads = w.threads ++ new_thread p ∷ [] })
      → Accounted l (AThread p ∷ lines) (at (record w { threads = w.threads ++ new_thread p ∷ [] }) us)
  thread_in t p step = record {
    history = AddThread t p ∷ x.history;
    states = w ∷ x.states;
    run = next x.run step;
    calls = x.calls;
    holds = x.holds;
    dying = x.dying;
    ending = λ u a. (let i = x.ending u a in record { closed = i.closed; free = i.free });
    sound = record {
      whole = x.sound.whole;
      owners = λ m n.
          ap (λ (y : Thread). y.living) (push_other w.threads (new_thread p) nobody (owner_of w m) (older m n)) ∙ x.sound.owners m n;
    };
    agrees =
        subst (λ (g : Ledger). Agrees g us (world_by l (AThread p ∷ lines)))
        (sym (ap (λ (xs : List Tag). record (ledger_of w) { threads = xs }) (map-append tag_of w.threads (new_thread p ∷ []))))
        (agrees_thread (ledger_of w) us (world_by l lines) x.agrees p);
    known = x.known;
  }
    where
      older : (m : ℕ) → owner_of w m ≢ 0 → owner_of w m ≢ length w.threads
      older m n e =
          omega (arith, (within (owner_of w m) (length w.threads) ((held l lines w us x).orderly.owners m n)).1, e)

  pub mutex_in : (m : ℕ) (k : Kind) (b : Bool) → Step l w (AddMutex m k b) (record w { mutexes = w.mutexes ++ new_mutex k b ∷ [] })
      → Accounted l (AMutex k b PrioInherit ∷ lines) (at (record w { mutexes = w.mutexes ++ new_mutex k b ∷ [] }) us)
  mutex_in m k b step = record {
    history = AddMutex m k b ∷ x.history;
    states = w ∷ x.states;
    run = next x.run step;
    calls = x.calls;
    holds = x.holds;
    dying = x.dying;
    ending = λ u a. (let i = x.ending u a in record { closed = i.closed; free = i.free });
    sound = record {
      whole = each_pushed IsWhole w.mutexes no_mutex (new_mutex k b)
          (record { fine = refl; held = omega arith; once = λ _. refl }) x.sound.whole;
      owners = each_pushed (λ (z : Mutex). z.owner ≢ 0 → is_living w z.owner ≡ true) w.mutexes no_mutex (new_mutex k b)
          (λ n. absurd (n refl)) x.sound.owners;
    };
    agrees =
        subst (λ (g : Ledger). Agrees g us (world_by l (AMutex k b PrioInherit ∷ lines)))
        (sym (ap (λ (zs : List Mutex). record (ledger_of w) { mutexes = zs }) (map-append free_of w.mutexes (new_mutex k b ∷ []))))
        (agrees_mutex (ledger_of w) us (world_by l lines) x.agrees k b);
    known = x.known;
  }

  pub variable_in : (c m : ℕ) → Step l w (AddCond c m) (record w { variables = w.variables ++ new_variable m ∷ [] })
      → Accounted l (Cond m ∷ lines) (at (record w { variables = w.variables ++ new_variable m ∷ [] }) us)
  variable_in c m step = record {
    history = AddCond c m ∷ x.history;
    states = w ∷ x.states;
    run = next x.run step;
    calls = x.calls;
    holds = x.holds;
    dying = x.dying;
    ending = λ u a. (let i = x.ending u a in record { closed = i.closed; free = i.free });
    sound = record { whole = x.sound.whole; owners = x.sound.owners };
    agrees = agrees_variable (ledger_of w) us (world_by l lines) x.agrees m;
    known = λ u q e is. omega (arith, x.known u q e is, length_push w.variables (new_variable m));
  }

  pub tick_in : (n : ℕ) → Step l w (Happened (TickEvent n) Ticked) (record w { time = n })
      → Accounted l (Tick n ∷ lines) (at (record w { time = n }) us)
  tick_in n step = record {
    history = Happened (TickEvent n) Ticked ∷ x.history;
    states = w ∷ x.states;
    run = next x.run step;
    calls = x.calls;
    holds = x.holds;
    dying = x.dying;
    ending = λ u a. (let i = x.ending u a in record { closed = i.closed; free = i.free });
    sound = record { whole = x.sound.whole; owners = x.sound.owners };
    agrees = agrees_time (ledger_of w) us (world_by l lines) x.agrees n;
    known = x.known;
  }

  -- CALLS

  -- a line of t, who isn't dying, is none of a thread that is
  other_than : (t : ℕ) → is_among us t ≡ false → (u : ℕ) → is_among us u ≡ true → t ≢ u
  other_than t apart u among e = true≢false (sym among ∙ ap (is_among us) (sym e) ∙ apart)

  pub begin_in : (t : ℕ) (q : Request) → is_among us t ≡ false → IsAllowed w (BeginEvent t q)
      → Step l w (Happened (BeginEvent t q) Begun) (with_thread t (begun_thread w q (thread_at w t)) w)
      → Accounted l (Begin t q ∷ lines) (at (with_thread t (begun_thread w q (thread_at w t)) w) us)
  begin_in t q apart allowed step = record {
    history = Happened (BeginEvent t q) Begun ∷ x.history;
    states = w ∷ x.states;
    run = next x.run step;
    calls = λ u. ap (open_after u (Happened (BeginEvent t q) Begun)) (x.calls u);
    holds = x.holds;
    dying = x.dying;
    ending = λ u a.
        (let i = x.ending u a in
        record { closed = rw (ne_eqb t u (other_than t apart u a)) i.closed; free = i.free });
    sound = sound_thread w t y refl x.sound;
    agrees = subst (λ (g : Ledger). Agrees g us (world_by l lines)) (sym (keeps_thread w t y tag)) x.agrees;
    known = λ u k e is.
        by_test (λ b. (if b then Some (plain q) else call_by lines u) ≡ Some k → variable_of k < length w.variables) (t == u)
        (λ _ f. named_one k f is) (λ _ f. x.known u k f is) e;
  }
    where
      y : Thread
      y = begun_thread w q (thread_at w t)

      tag : tag_of y ≡ tag_of (thread_at w t)
      tag =
          ap (λ (m : Mark). record (tag_of (thread_at w t)) { mark = m }) (fresh_mark (plain q) ∙ sym (ap call_mark (begin_allowed w t q allowed).2))

      named_one : (k : Request) → Some (plain q) ≡ Some k → is_use k ≡ true → variable_of k < length w.variables
      named_one k f is =
          let same : plain q ≡ k = cc in
          subst (λ (i : Request). variable_of i < length w.variables) same
          (variable_known w q (begin_allowed w t q allowed).3 (ap is_use same ∙ is))

  pub answer_in : (alone : IsAlone lines) (t a : ℕ) → is_among us t ≡ false → Answers t a w (with_call_by t without_call w)
      → Step l w (Happened (Go t) (Answered a)) (with_call_by t without_call w)
      → Accounted l (Answer t a ∷ lines) (at (with_call_by t without_call w) us)
  answer_in alone t a apart answers step = record {
    history = Happened (Go t) (Answered a) ∷ x.history;
    states = w ∷ x.states;
    run = next x.run step;
    calls = λ u. ap (open_after u (Happened (Go t) (Answered a))) (x.calls u);
    holds = λ u m j. hold_count_after u m (x.calls u j) (Happened (Go t) (Answered a)) (x.holds u m j);
    dying = x.dying;
    ending = λ u e.
        (let i = x.ending u e in
        record {
          closed = rw (ne_eqb t u (other_than t apart u e)) i.closed;
          free = λ m. rw (ne_eqb t u (other_than t apart u e)) (i.free m);
        });
    sound = sound_thread w t y refl x.sound;
    agrees = subst (λ (z : World). Agrees (ledger_of (with_call_by t without_call w)) us z) (sym rest)
        (go _ (leaves answers.request answers.result (thread_at w t).timer.expired (world_by l lines)));
    known = λ u k e is.
        by_test (λ b. (if b then None else call_by lines u) ≡ Some k → variable_of k < length w.variables) (t == u)
        (λ _ f. absurd (cc)) (λ _ f. x.known u k f is) e;
  }
    where
      y : Thread
      y = record (thread_at w t) { call = None }

      its : call_by lines t ≡ Some answers.request
      its = called l lines w us x t answers.request (Has answers.result) answers.call

      rest : after_answer a (call_by lines t) (world_by l lines)
          ≡ after_answer (reported_result answers.request (thread_at w t).timer.expired answers.result) (Some answers.request) (world_by l lines)
      rest = λ j. after_answer (answers.told j) (its j) (world_by l lines)

      mark : (tag_at (ledger_of w) t).mark ≡ mark_of answers.request (Has answers.result)
      mark = mark_is l lines w us x t ∙ ap call_mark answers.call

      there : t < length (ledger_of w).threads
      there =
          room l lines w us x t
          (caller_lives (held l lines w us x) t (record { request = answers.request; progress = Has answers.result }) answers.call)

      closed : ledger_of (with_thread t y w) ≡ with_mark t NoMark (ledger_of w)
      closed = ledger_marked w t y NoMark refl refl refl

      go : (z : World) → Leaves answers.request (mark_of answers.request (Has answers.result)) (world_by l lines) z
          → Agrees (ledger_of (with_thread t y w)) us z
      go z (nothing none e) =
          let tag : tag_of y ≡ tag_of (thread_at w t) =
          ap (λ (m : Mark). record (tag_of (thread_at w t)) { mark = m }) (sym (sym (mark_is l lines w us x t) ∙ mark ∙ none)) in
          rw e (subst (λ (g : Ledger). Agrees g us (world_by l lines)) (sym (keeps_thread w t y tag)) x.agrees)
      go z (a_use c is named used e) =
          rw e (subst (λ (g : Ledger). Agrees g us (with_use c (world_by l lines))) (sym closed)
          (agrees_used (ledger_of w) us (world_by l lines) x.agrees t there c
          (subst (λ i. i < length w.variables) named (x.known t answers.request its is)) (mark ∙ used)))
      go z (a_priority u p set_it e) =
          rw e (subst (λ (g : Ledger). Agrees g us (with_base u p (world_by l lines))) (sym closed)
          (agrees_changed (ledger_of w) us (world_by l lines) x.agrees t there u p (mark ∙ set_it)
          (λ v n d f. d (alone v t u (setter l lines w us x v u n f) (setter l lines w us x t u p (mark ∙ set_it))))))

  -- ENDS

  idle_behind_end : (t u : ℕ) → IsIdle lines u → IsIdle (End t ∷ lines) u
  idle_behind_end t u i = record {
    closed = by_test (λ b. (if b then None else call_by lines u) ≡ None) (t == u) (λ _. refl) (λ _. i.closed);
    free = λ m. by_test (λ b. (if b then 0 else holds_by lines u m) ≡ 0) (t == u) (λ _. refl) (λ _. i.free m);
  }

  known_behind_end : (t u : ℕ) (k : Request) → call_by (End t ∷ lines) u ≡ Some k → is_use k ≡ true
      → variable_of k < length w.variables
  known_behind_end t u k e is =
      by_test (λ b. (if b then None else call_by lines u) ≡ Some k → variable_of k < length w.variables) (t == u)
      (λ _ f. absurd (cc)) (λ _ f. x.known u k f is) e

  -- who is idle ends, and nothing passes on
  module _ (t : ℕ) (idle : IsIdle lines t) (v : World) (ends : Ends t w v) where
    abbrev gone : Thread
    gone = record (thread_at w t) { living = false; call = None }

    pub lived : is_living w t ≡ true
    lived = (end_allowed w t ends.allowed).1

    ends_so : v ≡ after_end t w
    ends_so = go ends.releases
      where
        go : Releases t (after_end t w) v → v ≡ after_end t w
        go (none_left none e) = e
        go (one_more m own robust passes more) = absurd (owns_none l lines w us x t idle lived m own)

    sound_end : IsSound (after_end t w)
    sound_end = record {
      whole = x.sound.whole;
      owners = λ m n.
          ap (λ (y : Thread). y.living)
          (get_or-set_other w.threads t (owner_of w m) gone nobody (owns_none l lines w us x t idle lived m))
          ∙ x.sound.owners m n;
    }

    abbrev rested : Thread
    rested = record (thread_at (world_by l lines) t) { living = false }

    there_too : t < length (ledger_of w).threads
    there_too = room l lines w us x t lived

    unmarked : (tag_at (ledger_of w) t).mark ≡ NoMark
    unmarked = mark_is l lines w us x t ∙ ap call_mark (idle_call l lines w us x t idle)

    abbrev tags : List Tag
    tags = set (ledger_of w).threads t (tag_of gone)

    ledger_end : ledger_of (after_end t w) ≡ record (ledger_of w) { threads = tags }
    ledger_end = ap (λ (xs : List Tag). record (ledger_of w) { threads = xs }) (map-set tag_of w.threads t gone)

    same_marks : (u : ℕ) → (get_or tags u no_tag).mark ≡ (tag_at (ledger_of w) u).mark
    same_marks u = kept_at (λ (y : Tag). y.mark) (ledger_of w).threads t (tag_of gone) no_tag (sym unmarked) u

    same_bases : (u : ℕ) → (get_or tags u no_tag).base ≡ (tag_at (ledger_of w) u).base
    same_bases u =
        kept_at (λ (y : Tag). y.base) (ledger_of w).threads t (tag_of gone) no_tag
        (sym (ap (λ (y : Tag). y.base) (mapped_at tag_of w.threads t nobody))) u

    same_users : (c : ℕ) → users c tags ≡ users c (ledger_of w).threads
    same_users c =
        omega (
          arith,
          sum_by-set (λ (y : Tag). times_used c y.mark) (ledger_of w).threads t (tag_of gone) no_tag there_too,
          ap (times_used c) unmarked,
        )

    lives_other : (u : ℕ) → u ≢ t → (get_or tags u no_tag).living ≡ (tag_at (ledger_of w) u).living
    lives_other u d = ap (λ (y : Tag). y.living) (get_or-set_other (ledger_of w).threads t u (tag_of gone) no_tag d)

    -- t, who is dying, ends, and no line says so yet
    pub ends_hidden : is_among us t ≡ true → Step l w (Happened (EndEvent t) Ended) v → Accounted l lines (at v us)
    ends_hidden among step = rw ends_so (record {
      history = Happened (EndEvent t) Ended ∷ x.history;
      states = w ∷ x.states;
      run = next x.run (subst (λ (z : World). Step l w (Happened (EndEvent t) Ended) z) ends_so step);
      calls = λ u. by_test (λ b. (if b then None else open_call u x.history) ≡ call_by lines u) (t == u)
          (λ i. sym (ap (call_by lines) (sym (eqb-true t u i)) ∙ idle.closed)) (λ _. x.calls u);
      holds = λ u m. by_test (λ b. (if b then 0 else hold_count u m x.history) ≡ holds_by lines u m) (t == u)
          (λ i. sym (ap (λ k. holds_by lines k m) (sym (eqb-true t u i)) ∙ idle.free m)) (λ _. x.holds u m);
      dying = x.dying;
      ending = x.ending;
      sound = sound_end;
      agrees = subst (λ (g : Ledger). Agrees g us (world_by l lines)) (sym ledger_end)
          (agrees_lives (ledger_of w) us (world_by l lines) x.agrees tags (world_by l lines).threads us
          (length-set (ledger_of w).threads t (tag_of gone)) refl same_marks same_bases (λ u. refl) same_users
          (λ u d. lives_other u (λ e. true≢false (sym among ∙ ap (is_among us) (sym e) ∙ d)) ∙ x.agrees.living u d));
      known = x.known;
    })

    -- a line says that t has ended, and it ends there
    pub ends_shown : Step l w (Happened (EndEvent t) Ended) v → Accounted l (End t ∷ lines) (at v (dying_after (End t) us))
    ends_shown step = rw ends_so (record {
      history = Happened (EndEvent t) Ended ∷ x.history;
      states = w ∷ x.states;
      run = next x.run (subst (λ (z : World). Step l w (Happened (EndEvent t) Ended) z) ends_so step);
      calls = λ u. ap (open_after u (Happened (EndEvent t) Ended)) (x.calls u);
      holds = λ u m j. hold_count_after u m (x.calls u j) (Happened (EndEvent t) Ended) (x.holds u m j);
      dying = ap (dying_after (End t)) x.dying;
      ending = λ u a. idle_behind_end t u (x.ending u (among_before us t u a).1);
      sound = sound_end;
      agrees = subst (λ (g : Ledger). Agrees g (dying_after (End t) us) (world_by l (End t ∷ lines))) (sym ledger_end)
          (agrees_lives (ledger_of w) us (world_by l lines) x.agrees tags (set (world_by l lines).threads t rested) (dying_after (End t) us)
          (length-set (ledger_of w).threads t (tag_of gone)) (length-set (world_by l lines).threads t rested) same_marks same_bases
          (λ u. kept_at (λ (y : Thread). y.base) (world_by l lines).threads t rested nobody refl u) same_users
          (λ u d. lives_so u d (cases_eq u t)));
      known = λ u k e is. known_behind_end t u k e is;
    })
      where
        lives_so : (u : ℕ) → is_among (dying_after (End t) us) u ≡ false → (u ≡ t) ⊎ (u ≢ t)
            → (get_or tags u no_tag).living ≡ (get_or (set (world_by l lines).threads t rested) u nobody).living
        lives_so u d (inl e) =
            ap (λ k. (get_or tags k no_tag).living) e
            ∙ ap (λ (y : Tag). y.living) (get_or-set_same (ledger_of w).threads t (tag_of gone) no_tag there_too)
            ∙ sym (ap (λ k. (get_or (set (world_by l lines).threads t rested) k nobody).living) e
            ∙ written_at (λ (y : Thread). y.living) (world_by l lines).threads t rested nobody (λ _. refl))
        lives_so u d (inr n) =
            lives_other u n ∙ x.agrees.living u (sym (among_others us t u n) ∙ d)
            ∙ sym (ap (λ (y : Thread). y.living) (get_or-set_other (world_by l lines).threads t u rested nobody n))

  -- LINES THAT SHOW NO ENTRY

  -- a line says that t, who was dying, has ended
  pub has_ended_before : (t : ℕ) → is_among us t ≡ true → is_living w t ≡ false
      → Accounted l (End t ∷ lines) (at w (dying_after (End t) us))
  has_ended_before t among dead = record {
    history = x.history;
    states = x.states;
    run = x.run;
    calls = λ u. by_test (λ b. open_call u x.history ≡ (if b then None else call_by lines u)) (t == u)
        (λ i. x.calls u ∙ ap (call_by lines) (sym (eqb-true t u i)) ∙ (x.ending t among).closed) (λ _. x.calls u);
    holds = λ u m. by_test (λ b. hold_count u m x.history ≡ (if b then 0 else holds_by lines u m)) (t == u)
        (λ i. x.holds u m ∙ ap (λ k. holds_by lines k m) (sym (eqb-true t u i)) ∙ (x.ending t among).free m) (λ _. x.holds u m);
    dying = ap (dying_after (End t)) x.dying;
    ending = λ u a. idle_behind_end t u (x.ending u (among_before us t u a).1);
    sound = x.sound;
    agrees = agrees_lives (ledger_of w) us (world_by l lines) x.agrees (ledger_of w).threads (set (world_by l lines).threads t y)
        (dying_after (End t) us) refl (length-set (world_by l lines).threads t y) (λ u. refl) (λ u. refl)
        (λ u. kept_at (λ (z : Thread). z.base) (world_by l lines).threads t y nobody refl u) (λ c. refl)
        (λ u d. lives_so u d (cases_eq u t));
    known = λ u k e is. known_behind_end t u k e is;
  }
    where
      y : Thread
      y = record (thread_at (world_by l lines) t) { living = false }

      lives_so : (u : ℕ) → is_among (dying_after (End t) us) u ≡ false → (u ≡ t) ⊎ (u ≢ t)
          → (tag_at (ledger_of w) u).living ≡ (get_or (set (world_by l lines).threads t y) u nobody).living
      lives_so u d (inl e) =
          ap (λ k. (tag_at (ledger_of w) k).living) e ∙ ap (λ (z : Tag). z.living) (mapped_at tag_of w.threads t nobody) ∙ dead
          ∙ sym (ap (λ k. (get_or (set (world_by l lines).threads t y) k nobody).living) e
          ∙ written_at (λ (z : Thread). z.living) (world_by l lines).threads t y nobody (λ _. refl))
      lives_so u d (inr n) =
          x.agrees.living u (sym (among_others us t u n) ∙ d)
          ∙ sym (ap (λ (z : Thread). z.living) (get_or-set_other (world_by l lines).threads t u y nobody n))

  -- a line says that t, who is idle, is dying
  pub is_dying : (t : ℕ) → IsIdle lines t → Accounted l (Dying t ∷ lines) (at w (t ∷ us))
  is_dying t idle = record {
    history = x.history;
    states = x.states;
    run = x.run;
    calls = x.calls;
    holds = x.holds;
    dying = ap (λ (zs : List ℕ). t ∷ zs) x.dying;
    ending = λ u a.
        (let i = by_test (λ b. (b || is_among us u) ≡ true → IsIdle lines u) (t == u)
        (λ e _. subst (IsIdle lines) (eqb-true t u e) idle) (λ _ f. x.ending u f) a in
        record { closed = i.closed; free = i.free });
    sound = x.sound;
    agrees = agrees_lives (ledger_of w) us (world_by l lines) x.agrees (ledger_of w).threads (world_by l lines).threads (t ∷ us)
        refl refl (λ u. refl) (λ u. refl) (λ u. refl) (λ c. refl)
        (λ u d. x.agrees.living u
        (by_test (λ b. (b || is_among us u) ≡ false → is_among us u ≡ false) (t == u) (λ _ f. absurd (true≢false f)) (λ _ f. f) d));
    known = x.known;
  }

  -- a line that tells of the state, and changes nothing
  pub tells_rest : (t : ℕ) → Accounted l (Rests t ∷ lines) (at w us)
  tells_rest t = record {
    history = x.history;
    states = x.states;
    run = x.run;
    calls = x.calls;
    holds = x.holds;
    dying = x.dying;
    ending = λ u a. (let i = x.ending u a in record { closed = i.closed; free = i.free });
    sound = x.sound;
    agrees = x.agrees;
    known = x.known;
  }

  pub tells_prio : (t p : ℕ) → Accounted l (Prio t p ∷ lines) (at w us)
  tells_prio t p = record {
    history = x.history;
    states = x.states;
    run = x.run;
    calls = x.calls;
    holds = x.holds;
    dying = x.dying;
    ending = λ u a. (let i = x.ending u a in record { closed = i.closed; free = i.free });
    sound = x.sound;
    agrees = x.agrees;
    known = x.known;
  }
