-- A call begins: its line is the first of its request, and a signal or a broadcast remembers who is blocked.
use Rattle.std.proofs.Common.{◌≡◌, ◌≢◌, ◌⊎◌, inl, inr, ℕ, zero, suc, ◌+◌, ◌<◌, ◌≤◌, ◌||◌, Bool, true, false, ◌==◌, List, ◌∷◌, length, get_or, set, Some, None, refl, sym, ap, ◌∙◌, subst, arith, if◌then◌else◌, eqb-true}
use Rattle.std.specs.List.{list_any}
use Rattle.std.proofs.lemmas.Bool.{cases_eq, cases_lt, true≢false}
use Rattle.std.proofs.lemmas.List.{length-set, get_or-set_same, get_or-set_other, get_or_past}
use Rattle.pif_types.specs.declared.requests.Request.{Request}
use Rattle.pif_types.specs.declared.requests.Request.TheVariants.{Wait, Signal, Broadcast, TimedWait}
use Rattle.pif_model.specs.declared.events.Event.TheVariants.{Begin}
use Rattle.pif_model.specs.declared.events.Seen.TheVariants.{Begun}
use Rattle.pif_model.specs.declared.events.Entry.TheVariants.{Step as Happened}
use Rattle.pif_model.specs.declared.lines.Line.{Line}
use Rattle.pif_model.specs.declared.lines.Line.TheVariants.{Idle, At}
use Rattle.pif_model.specs.declared.lines.Place.TheVariants.{Load, LoadUses}
use Rattle.pif_model.specs.declared.lines.Status.{Status}
use Rattle.pif_model.specs.declared.lines.Timer.{Timer}
use Rattle.pif_model.specs.Deadlines.{plain, timer_of}
use Rattle.pif_model.specs.Posix.{Health, Memory, Thread, World, nobody, no_memory, thread_at, with_thread, begun_memory, begun_thread, blocked_below, is_blocked_on, is_call_blocked, names_known}
use Rattle.pif_model.specs.World.Progress.{Fresh}
use Rattle.pif_model.specs.Posix.Step.{begun}
use Rattle.pif_model.specs.PiKernel.{is_ready, is_parked, is_living}
use Rattle.pif_model.specs.Table.{Table, has_thread, has_mutex, has_cond, bound_to, uses_of, status_at, line_at, with_line}
use Rattle.pif_model.specs.Lines.{is_open, first_place, begun_table, table_refusal}
use Rattle.pif_model.specs.Projection.{HistoryVariables, Agrees, memory_at, is_remembered, may_enlist, chooses_on, call_at, call_shown, health_at, thread_shown, world_of}
use Rattle.pif_model.specs.Soundness.{mutex_by, is_unsettled, LineIsSound, ListIsSound, IsSound}
use Rattle.pif_model_lemmas.proofs.Waiting.{by_test}
use Rattle.pif_model_simulation.proofs.WeakenedInvariant.{each_thread}
use Rattle.pif_model_simulation.proofs.Shown.{threads_shown, thread_seen, call_seen_of, same_world, begin_allowed, refusal_seen, thread_changed, thread_changed_twice}
use Rattle.pif_model_simulation.proofs.Written.{no_call}
use Rattle.pif_model_simulation.proofs.Steps.{Keeps}
use Rattle.pif_model_simulation.proofs.Lined.{tl, lined_sound}
use Rattle.pif_model_simulation.proofs.deadlines.Timers.{timer_sound, timer_frames, timer_shown}
use Rattle.pif_model_simulation.proofs.Agreement.{framed}

-- a line with no call open
pub idle_line : (l : Line) → is_open l ≡ false → l ≡ Idle
idle_line Idle e = refl
idle_line (At q p) e = absurd (true≢false e)

-- THE TABLE

-- when a call begins, it rests on its thread alone
begins_sound : (s : Table) (t : ℕ) (q : Request) → names_known (has_mutex s) (has_cond s) q ≡ true
    → is_ready (status_at s t) ≡ true → LineIsSound s t (At (plain q) (first_place q))
begins_sound s t (Wait c m) named ready = record { named = named; belongs = refl; needs = (ready, tt) }
begins_sound s t _ named ready = record { named = named; belongs = refl; needs = (ready, tt) }

-- nothing is on its thread's robust list that was not there with no call open
begins_listed : (s : Table) (t : ℕ) (q : Request) → ListIsSound s t Idle → ListIsSound s t (At (plain q) (first_place q))
begins_listed s t (Wait c m) b = record { pending = b.pending; half_linked = b.half_linked; listed = b.listed }
begins_listed s t _ b = record { pending = b.pending; half_linked = b.half_linked; listed = b.listed }

-- and what it owns is in order
begins_settled : (q : Request) → mutex_by is_unsettled (At (plain q) (first_place q)) ≡ 0
begins_settled (Wait c m) = refl
begins_settled _ = refl

-- a call that begins has had no effect
begins_fresh : (health : ℕ → Health) (uses : ℕ → ℕ) (q : Request) (x : Status)
    → call_at health uses (At (plain q) (first_place q)) x ≡ Some (record { request = plain q; progress = Fresh })
begins_fresh health uses (Wait c m) x = refl
begins_fresh health uses _ x = refl

-- it has used no variable yet
begins_unused : (q : Request) → chooses_on (At (plain q) (first_place q)) ≡ 0
begins_unused (Wait c m) = refl
begins_unused _ = refl

-- WHAT IS REMEMBERED

-- whether the wait of u with this number is among those found
abbrev finds : ℕ → ℕ → List (ℕ × ℕ) → Bool
finds u n ps = list_any (λ p. if p.0 == u then p.1 == n else false) ps

-- who was found is blocked, by the wait that is its last
finds_blocked : (w : World) (c i u n : ℕ) → finds u n (blocked_below w c i) ≡ true
    → (is_blocked_on w c u ≡ true) × (n ≡ (thread_at w u).memory.waits)
unfolding blocked_below
finds_blocked w c zero u n e = absurd (true≢false (sym e))
finds_blocked w c (suc i) u n e = go (is_blocked_on w c i) refl e (finds_blocked w c i u n)
  where
    go : (b : Bool) → is_blocked_on w c i ≡ b
        → finds u n (if b then (i, (thread_at w i).memory.waits) ∷ blocked_below w c i else blocked_below w c i) ≡ true
        → (finds u n (blocked_below w c i) ≡ true
        → (is_blocked_on w c u ≡ true) × (n ≡ (thread_at w u).memory.waits))
        → (is_blocked_on w c u ≡ true) × (n ≡ (thread_at w u).memory.waits)
    go false b e ih = ih e
    go true b e ih = by_test (λ x. (i == u) ≡ x
        → ((if x then (thread_at w i).memory.waits == n else false) || finds u n (blocked_below w c i)) ≡ true
        → (is_blocked_on w c u ≡ true) × (n ≡ (thread_at w u).memory.waits)) (i == u)
        (λ x _ f. same (eqb-true i u x) ((thread_at w i).memory.waits == n) refl f) (λ x _ f. ih f) refl e
      where
        same : i ≡ u → (y : Bool) → ((thread_at w i).memory.waits == n) ≡ y
            → (y || finds u n (blocked_below w c i)) ≡ true
            → (is_blocked_on w c u ≡ true) × (n ≡ (thread_at w u).memory.waits)
        same q true x f = (
          ap (is_blocked_on w c) (sym q) ∙ b,
          sym (eqb-true (thread_at w i).memory.waits n x) ∙ ap (λ j. (thread_at w j).memory.waits) q,
        )
        same q false x f = ih f

-- what a call that begins leaves of what was remembered of its thread
record Remembers (w : World) (q : Request) (m : Memory) : Type 0 where
  -- the waits are as many or more
  waits : m.waits ≤ (begun_memory w (plain q) m).waits
  -- who is found then was found before, or is blocked now
  found : (u n : ℕ) → finds u n (begun_memory w (plain q) m).found ≡ true
      → (finds u n m.found ≡ true) ⊎ ((c : ℕ) × (is_blocked_on w c u ≡ true) × (n ≡ (thread_at w u).memory.waits))
  -- a wait has the next number
  next : may_enlist (At (plain q) (first_place q)) ≡ true → (begun_memory w (plain q) m).waits ≡ m.waits + 1

remembers : (w : World) (q : Request) (m : Memory) → Remembers w q m
remembers w (Wait c j) m = record { waits = omega arith; found = λ u n e. inl e; next = λ e. refl }
remembers w (TimedWait c j d) m = record { waits = omega arith; found = λ u n e. inl e; next = λ e. refl }
remembers w (Signal c) m = record {
  waits = omega arith;
  found = λ u n e. (let f = finds_blocked w c (length w.threads) u n e in inr (c, f.0, f.1));
  next = λ e. absurd (true≢false (sym e));
}
remembers w (Broadcast c) m = record {
  waits = omega arith;
  found = λ u n e. (let f = finds_blocked w c (length w.threads) u n e in inr (c, f.0, f.1));
  next = λ e. absurd (true≢false (sym e));
}
remembers w _ m = record { waits = omega arith; found = λ u n e. inl e; next = λ e. absurd (true≢false (sym e)) }

-- who is blocked has joined the blocked threads
blocked_joined : (c : ℕ) (health : ℕ → Health) (uses : ℕ → ℕ) (l : Line) (x : Status)
    → is_call_blocked c (call_at health uses l x) ≡ true → may_enlist l ≡ false
blocked_joined c health uses Idle x e = refl
blocked_joined c health uses (At q Load) x e = absurd (true≢false (sym e))
blocked_joined c health uses (At q LoadUses) x e = absurd (true≢false (sym e))
blocked_joined c health uses (At q _) x e = refl

module _ (s : Table) (t : ℕ) (q : Request) (h : IsSound s) (known : is_living s.kernel t ≡ true)
    (idle : line_at s t ≡ Idle) where
  abbrev v : Table
  v = with_line t (At (plain q) (first_place q)) s

  lined : t < length s.lines
  lined = tl s t Idle h known

  -- lines then
  line_here : line_at v t ≡ At (plain q) (first_place q)
  line_here = get_or-set_same s.lines t (At (plain q) (first_place q)) Idle lined

  line_there : (u : ℕ) → u ≢ t → line_at v u ≡ line_at s u
  line_there u d = get_or-set_other s.lines t u (At (plain q) (first_place q)) Idle d

  module _ (x : HistoryVariables) (fits : Agrees s x) where
    abbrev w : World
    w = world_of s x

    -- what is remembered of t then
    abbrev new : Memory
    new = begun_memory w (plain q) (thread_at w t).memory

    abbrev y : HistoryVariables
    y = record { memories = set x.memories t new }

    facts : Remembers w q (thread_at w t).memory
    facts = remembers w q (thread_at w t).memory

    memory_here : memory_at y t ≡ new
    memory_here = get_or-set_same x.memories t new no_memory (subst (λ n. t < n) (sym fits.all) lined)

    memory_there : (u : ℕ) → u ≢ t → memory_at y u ≡ memory_at x u
    memory_there u d = get_or-set_other x.memories t u new no_memory d

    -- what was remembered of t
    memory_was : (thread_at w t).memory ≡ memory_at x t
    memory_was = ap (λ (z : Thread). z.memory) (thread_seen h.all.shape x t lined)

    -- of nobody fewer waits are remembered
    grown : (u : ℕ) → (memory_at x u).waits ≤ (memory_at y u).waits
    grown u = go (cases_eq u t)
      where
        go : (u ≡ t) ⊎ (u ≢ t) → (memory_at x u).waits ≤ (memory_at y u).waits
        go (inl e) = subst (λ i. (memory_at x i).waits ≤ (memory_at y i).waits) (sym e)
            (subst (λ m. (memory_at x t).waits ≤ m.waits) (sym memory_here)
            (subst (λ m. m.waits ≤ new.waits) memory_was facts.waits))
        go (inr d) = subst (λ m. (memory_at x u).waits ≤ m.waits) (sym (memory_there u d)) (omega arith)

    -- the wait of u with the number n was found, or u is blocked by it
    abbrev Was : ℕ → ℕ → ℕ → Type 0
    Was a u n = (finds u n (memory_at x a).found ≡ true)
        ⊎ ((c : ℕ) × (is_call_blocked c (call_shown s u) ≡ true) × (n ≡ (thread_at w u).memory.waits))

    -- whoever is found now
    was_found : (a u n : ℕ) → finds u n (memory_at y a).found ≡ true → Was a u n
    was_found a u n e = go (cases_eq a t)
      where
        by_fact : (finds u n (thread_at w t).memory.found ≡ true)
            ⊎ ((c : ℕ) × (is_blocked_on w c u ≡ true) × (n ≡ (thread_at w u).memory.waits)) → Was t u n
        by_fact (inl f) = inl (subst (λ m. finds u n m.found ≡ true) memory_was f)
        by_fact (inr f) = inr (f.0, sym (ap (is_call_blocked f.0) (call_seen_of h.all.shape x u)) ∙ f.1, f.2)

        go : (a ≡ t) ⊎ (a ≢ t) → Was a u n
        go (inl q) = subst (λ i. Was i u n) (sym q) (by_fact (facts.found u n
            (subst (λ m. finds u n m.found ≡ true) (ap (memory_at y) q ∙ memory_here) e)))
        go (inr d) = inl (subst (λ m. finds u n m.found ≡ true) (memory_there a d) e)

    -- a wait that was found has begun
    past : (a u n : ℕ) → (u ≡ t) ⊎ (u ≢ t) → Was a u n → n ≤ (memory_at x u).waits
    past a u n e (inl f) = fits.past a u n f
    past a u n (inl e) (inr f) = absurd (true≢false (sym f.1 ∙ ap (λ i. is_call_blocked f.0 (call_shown s i)) e
        ∙ ap (λ l. is_call_blocked f.0 (call_at (health_at s) (uses_of s) l (status_at s t))) idle))
    past a u n (inr d) (inr f) = by_room (cases_lt u (length s.lines))
      where
        by_room : (u < length s.lines) ⊎ (length s.lines ≤ u) → n ≤ (memory_at x u).waits
        by_room (inl l) = subst (λ k. n ≤ k) (ap (λ (z : Thread). z.memory.waits) (thread_seen h.all.shape x u l))
            (let e = f.2 in omega (arith, e))
        by_room (inr k) = absurd (true≢false (sym f.1
            ∙ ap (λ l. is_call_blocked f.0 (call_at (health_at s) (uses_of s) l (status_at s u)))
            (get_or_past s.lines u Idle k)))

    -- who was found has joined the blocked threads
    joined : (a u : ℕ) → is_remembered y a u ≡ true → (u ≡ t) ⊎ (u ≢ t) → may_enlist (line_at v u) ≡ false
    joined a u e (inl d) = by_test (λ b. may_enlist (At (plain q) (first_place q)) ≡ b → may_enlist (line_at v u) ≡ false)
        (may_enlist (At (plain q) (first_place q)))
        (λ f _. absurd (less (past a u (memory_at y u).waits (inl d) (was_found a u (memory_at y u).waits e))
        (ap (λ i. (memory_at y i).waits) d ∙ ap (λ m. m.waits) memory_here ∙ facts.next f
        ∙ ap (λ m. m.waits + 1) memory_was ∙ sym (ap (λ i. (memory_at x i).waits + 1) d))))
        (λ f _. ap (λ i. may_enlist (line_at v i)) d ∙ ap may_enlist line_here ∙ f) refl
      where
        less : (memory_at y u).waits ≤ (memory_at x u).waits → (memory_at y u).waits ≢ (memory_at x u).waits + 1
        less a b = absurd (omega arith)
    joined a u e (inr d) = ap may_enlist (line_there u d) ∙ by_was (was_found a u (memory_at y u).waits e)
      where
        by_was : Was a u (memory_at y u).waits → may_enlist (line_at s u) ≡ false
        by_was (inl f) = fits.joined a u (subst (λ m. finds u m.waits (memory_at x a).found ≡ true) (memory_there u d) f)
        by_was (inr f) = blocked_joined f.0 (health_at s) (uses_of s) (line_at s u) (status_at s u) f.1

    -- whom another has to wake is parked
    parked : (a u c : ℕ) → chooses_on (line_at v a) ≡ c → c ≢ 0 → is_remembered y a u ≡ true
        → is_call_blocked c (call_shown v u) ≡ true → (a ≡ t) ⊎ (a ≢ t) → (u ≡ t) ⊎ (u ≢ t)
        → is_parked (status_at s u) ≡ true
    parked a u c chosen z r b (inl e) j =
        absurd (z (sym chosen ∙ ap (λ i. chooses_on (line_at v i)) e ∙ ap chooses_on line_here ∙ begins_unused q))
    parked a u c chosen z r b (inr d) (inl e) = absurd (true≢false (sym b ∙ ap (λ i. is_call_blocked c (call_shown v i)) e
        ∙ ap (is_call_blocked c) (ap (λ l. call_at (health_at s) (uses_of s) l (status_at s t)) line_here
        ∙ begins_fresh (health_at s) (uses_of s) q (status_at s t))))
    parked a u c chosen z r b (inr d) (inr e) = fits.parked a u c (sym (ap chooses_on (line_there a d)) ∙ chosen) z
        (subst (λ m. finds u m.waits (memory_at x a).found ≡ true) (memory_there u e)
        (subst (λ m. finds u (memory_at y u).waits m.found ≡ true) (memory_there a d) r))
        (ap (is_call_blocked c) (sym (ap (λ l. call_at (health_at s) (uses_of s) l (status_at s u)) (line_there u e)))
        ∙ b)

    begun_agrees : Agrees v y
    begun_agrees = record {
      all = length-set x.memories t new ∙ fits.all ∙ sym (length-set s.lines t (At (plain q) (first_place q)));
      past = λ a u n e. (let f = past a u n (cases_eq u t) (was_found a u n e) in
          let g = grown u in omega (arith, f, g));
      joined = λ a u e. joined a u e (cases_eq u t);
      parked = λ a u c chosen z r b. parked a u c chosen z r b (cases_eq a t) (cases_eq u t);
    }

    -- it shows the world in which the call has begun, but for its timer
    begun_shown : IsSound v → world_of v y
        ≡ with_thread t (record (begun_thread w q (thread_at w t)) { timer = (thread_at w t).timer }) w
    begun_shown sound = same_world (world_of v y) (with_thread t z w)
        (threads_shown sound.all.shape y ∙ length-set s.lines t (At (plain q) (first_place q))
        ∙ sym (length-set w.threads t z ∙ threads_shown h.all.shape x))
        (λ u i. let e : u < length v.lines = subst (λ n. u < n) (threads_shown sound.all.shape y) i in
        thread_seen sound.all.shape y u e
        ∙ each u (subst (λ n. u < n) (length-set s.lines t (At (plain q) (first_place q))) e) (cases_eq u t))
        refl (λ m. refl) refl refl refl refl
      where
        z : Thread
        z = record (begun_thread w q (thread_at w t)) { timer = (thread_at w t).timer }

        here : thread_shown v y t ≡ get_or (set w.threads t z) t nobody
        here = (λ i. record (thread_shown s x t) {
          call = (ap (λ l. call_at (health_at s) (uses_of s) l (status_at s t)) line_here
              ∙ begins_fresh (health_at s) (uses_of s) q (status_at s t)) i;
          memory = memory_here i;
        })
            ∙ sym (get_or-set_same w.threads t z nobody (subst (λ n. t < n) (sym (threads_shown h.all.shape x)) lined)
            ∙ (λ i. record (thread_seen h.all.shape x t lined i) {
              call = Some (record { request = plain q; progress = Fresh });
              memory = new;
            }))

        each : (u : ℕ) → u < length s.lines → (u ≡ t) ⊎ (u ≢ t)
            → thread_shown v y u ≡ get_or (set w.threads t z) u nobody
        each u f (inl e) = subst (λ i. thread_shown v y i ≡ get_or (set w.threads t z) i nobody) (sym e) here
        each u f (inr d) = (λ i. record (thread_shown s x u) {
          call = call_at (health_at s) (uses_of s) (line_there u d i) (status_at s u);
          memory = memory_there u d i;
        }) ∙ sym (get_or-set_other w.threads t u z nobody d ∙ thread_seen h.all.shape x u f)

-- a thread that was written with another timer than this gets it
retimed_twice : (w : World) (t : ℕ) (z : Thread) (x : Timer) → t < length w.threads
    → let v : World = with_thread t (record z { timer = (thread_at w t).timer }) w in
    with_thread t (record (thread_at v t) { timer = x }) v ≡ with_thread t (record z { timer = x }) w
retimed_twice w t z x e =
    let a : Thread = record z { timer = (thread_at w t).timer } in
    (λ i. with_thread t (record (thread_changed w t a e i) { timer = x }) (with_thread t a w))
    ∙ thread_changed_twice w t a (record z { timer = x })

-- to begin a call is an entry of the POSIX machine, and keeps the invariant
pub begin_kept : (s : Table) (t : ℕ) (q : Request) → IsSound s → table_refusal s (Begin t q) ≡ None
    → Keeps s (Happened (Begin t q) Begun) (begun_table t q s)
begin_kept s t q h e =
    let a = begin_allowed (has_thread s t) (is_living s.kernel t) (is_open (line_at s t))
    (names_known (has_mutex s) (has_cond s) q) e in
    let idle = idle_line (line_at s t) a.1 in
    let b = each_thread h t a.0 in
    let ready : is_ready (status_at s t) ≡ true = subst (LineIsSound s t) idle b.line in
    let sound = lined_sound s t (At (plain q) (first_place q)) h a.0 s.kernel h.kernel
    (no_call (λ u. u ≡ t) (bound_to s) s.kernel 0) refl ready
    (begins_sound s t q a.2 ready) (begins_listed s t q (subst (ListIsSound s t) idle b.list))
    (λ m k o away. b.settled m k o (λ x. away (x ∙ ap (mutex_by is_unsettled) idle ∙ sym (begins_settled q)))) in
    let there : t < length s.lines = tl s t Idle h a.0 in
    let l : Line = At (plain q) (first_place q) in
    record {
      sound = timer_sound (with_line t l s) t (timer_of q) sound;
      limits = refl;
      shows = λ x f. (
        y s t q h a.0 idle x f,
        framed (timer_frames (with_line t l s) t (timer_of q) sound) (y s t q h a.0 idle x f)
            (begun_agrees s t q h a.0 idle x f),
        begun t q refl (refusal_seen h.all.shape x (Begin t q) ∙ e)
            (timer_shown (with_line t l s) t (timer_of q) sound (y s t q h a.0 idle x f)
            (subst (λ n. t < n) (sym (length-set s.lines t l)) there)
            ∙ ap (λ z. with_thread t (record (thread_at z t) { timer = timer_of q }) z)
            (begun_shown s t q h a.0 idle x f sound)
            ∙ retimed_twice (world_of s x) t (begun_thread (world_of s x) q (thread_at (world_of s x) t))
            (timer_of q) (subst (λ n. t < n) (sym (threads_shown h.all.shape x)) there)),
      );
    }
