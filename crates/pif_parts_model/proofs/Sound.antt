-- Changes of a state that keep its ledger, and after which mutexes are in order: nobody ended who owned one, so that
-- each is fine.
use Rattle.std.proofs.Common.{ℕ, zero, suc, ◌≡◌, ◌≢◌, ◌≤◌, ◌∙◌, true, List, [], ◌∷◌, get_or, set, Option, Some, None, refl, sym, ap, arith, if◌then◌else◌}
use Rattle.std.proofs.lemmas.Bool.{true≢false}
use Rattle.std.proofs.Math.ListN.{get_or-map}
use Rattle.pif_types.specs.declared.requests.Request.{Request}
use Rattle.pif_types.specs.declared.requests.Request.TheVariants.{Signal, Broadcast, SetPrio}
use Rattle.pif_model.specs.Posix.{World, Thread, Mutex, Call, Progress, nobody, no_mutex, thread_at, mutex_at, is_living, with_thread, with_mutex, with_progress, with_call_by, at_progress, without_waiter, after_unblocking, on_unblocking, is_newly_blocked, after_use, used, all_unblocked, taken, on_taking, effective_of, HasCome, IsOwner, Passes}
use Rattle.pif_model.specs.World.Health.{Fine}
use Rattle.pif_model.specs.World.Progress.{Waiting, Enlisted, Blocked}
use Rattle.pif_model.specs.Posix.Passes.{to_nobody, to_next}
use Rattle.pif_model.specs.Soundness.{waited_in}
use Rattle.pif_model_lemmas.proofs.Among.{is_among, next_is_among}
use Rattle.pif_model_lemmas.proofs.Waiting.{by_test}
use Rattle.pif_model_simulation.proofs.runs.Worlds.{call_of, owner_of, call-with_thread_other, living-with_thread}
use Rattle.pif_model_simulation.proofs.runs.Holding.{same_progress}
use Rattle.pif_model_simulation.proofs.runs.AllHolding.{IsHeld, caller_lives}
use Rattle.pif_parts_model.proofs.Ledgers.{Keeps, IsUnmarked, Mark, call_mark, mark_of, tag_of, free_of, keeps_thread, keeps_mutex, keeps_comes}

-- MUTEXES IN ORDER

-- a mutex is fine, and is held at least once; one that nobody owns counts as held once
pub record IsWhole (z : Mutex) : Type 0 where
  pub fine : z.health ≡ Fine
  pub held : 1 ≤ z.count
  pub once : z.owner ≡ 0 → z.count ≡ 1

-- all mutexes are so, and their owners live
pub record IsSound (w : World) : Type 0 where
  pub whole : (m : ℕ) → IsWhole (mutex_at w m)
  pub owners : (m : ℕ) → owner_of w m ≢ 0 → is_living w (owner_of w m) ≡ true

-- what is so of each place of a list is so of each if one is written
each_written : {A : Type 0} (P : A → Type 0) (l : List A) (d : A) (n : ℕ) (y : A) → P y → ((k : ℕ) → P (get_or l k d))
    → (k : ℕ) → P (get_or (set l n y) k d)
each_written P [] d n y h all k = all k
each_written P (x ∷ xs) d zero y h all zero = h
each_written P (x ∷ xs) d zero y h all (suc k) = all (suc k)
each_written P (x ∷ xs) d (suc n) y h all zero = all zero
each_written P (x ∷ xs) d (suc n) y h all (suc k) = each_written P xs d n y h (λ i. all (suc i)) k

-- a thread is written that lives as before
pub sound_thread : (w : World) (t : ℕ) (y : Thread) → y.living ≡ is_living w t → IsSound w → IsSound (with_thread t y w)
sound_thread w t y life s = record {
  whole = s.whole;
  owners = λ m n. living-with_thread w t y life (owner_of w m) ∙ s.owners m n;
}

-- a mutex is written that is in order
pub sound_mutex : (w : World) (m : ℕ) (z : Mutex) → IsWhole z → (z.owner ≢ 0 → is_living w z.owner ≡ true) → IsSound w
    → IsSound (with_mutex m z w)
sound_mutex w m z whole lives s = record {
  whole = each_written IsWhole w.mutexes no_mutex m z whole s.whole;
  owners = each_written (λ (y : Mutex). y.owner ≢ 0 → is_living w y.owner ≡ true) w.mutexes no_mutex m z lives s.owners;
}

-- other waiters
pub sound_waiters : (w : World) (ws : List (ℕ × ℕ)) → IsSound w → IsSound (record w { waiters = ws })
sound_waiters w ws s = record { whole = s.whole; owners = s.owners }

-- a variable is used
living_used : (c : ℕ) (w : World) (t : ℕ) → is_living (used c w) t ≡ is_living w t
living_used c w t =
    ap (λ (x : Thread). x.living) (get_or-map (after_use c) w.threads t nobody)
    ∙ by_test (λ b. (if b then record (thread_at w t) { call = after_unblocking (call_of w t) } else thread_at w t).living ≡ is_living w t)
    (is_newly_blocked c (call_of w t)) (λ _. refl) (λ _. refl)

pub sound_used : (c : ℕ) (w : World) → IsSound w → IsSound (used c w)
sound_used c w s = record {
  whole = s.whole;
  owners = λ m n. living_used c w (owner_of w m) ∙ s.owners m n;
}

-- CHANGES

-- a change keeps the ledger, and mutexes are in order behind it
pub record IsEven (w v : World) : Type 0 where
  pub keeps : Keeps w v
  pub sound : IsSound v

pub even_then : {w z v : World} → IsEven w z → (IsSound z → IsEven z v) → IsEven w v
even_then a f = let b = f a.sound in record { keeps = b.keeps ∙ a.keeps; sound = b.sound }

pub even_thread : (w : World) (t : ℕ) (y : Thread) → tag_of y ≡ tag_of (thread_at w t) → y.living ≡ is_living w t → IsSound w
    → IsEven w (with_thread t y w)
even_thread w t y h life s = record { keeps = keeps_thread w t y h; sound = sound_thread w t y life s }

pub even_mutex : (w : World) (m : ℕ) (z : Mutex) → free_of z ≡ free_of (mutex_at w m) → IsWhole z
    → (z.owner ≢ 0 → is_living w z.owner ≡ true) → IsSound w → IsEven w (with_mutex m z w)
even_mutex w m z h whole lives s = record { keeps = keeps_mutex w m z h; sound = sound_mutex w m z whole lives s }

pub even_comes : (w : World) (t : ℕ) (q : Request) (p o : Progress) → HasCome w t q p → mark_of q o ≡ mark_of q p → IsSound w
    → IsEven w (with_progress t o w)
even_comes w t q p o c h s = record {
  keeps = keeps_comes w t q p o c h;
  sound = sound_thread w t (record (thread_at w t) { call = at_progress o (call_of w t) }) refl s;
}

pub even_unmarked : (w : World) (t : ℕ) (q : Request) (p o : Progress) → HasCome w t q p → IsUnmarked q → IsSound w
    → IsEven w (with_progress t o w)
even_unmarked w t q p o c un s = even_comes w t q p o c (un o ∙ sym (un p)) s

pub even_waiters : (w : World) (ws : List (ℕ × ℕ)) → IsSound w → IsEven w (record w { waiters = ws })
even_waiters w ws s = record { keeps = refl; sound = sound_waiters w ws s }

-- t takes m
pub even_taken : (w : World) (t m : ℕ) (q : Request) (p : Progress) → HasCome w t q p → IsUnmarked q → is_living w t ≡ true
    → IsSound w → IsEven w (taken t m w)
even_taken w t m q p c un lives s =
    even_then (even_mutex w m z refl whole (λ _. lives) s)
    (λ k. even_unmarked (with_mutex m z w) t q p (on_taking (mutex_at w m).health) c un k)
  where
    z : Mutex
    z = record (mutex_at w m) { owner = t; count = 1 }

    whole : IsWhole z
    whole = record { fine = (s.whole m).fine; held = omega arith; once = λ _. refl }

-- WHO WAITS

-- u waits for a mutex, by a call that never has a mark
pub record IsLocker (w : World) (u : ℕ) : Type 0 where
  pub request : Request
  pub come : HasCome w u request Waiting
  pub unmarked : IsUnmarked request
  pub lives : is_living w u ≡ true

abbrev pub AreLockers : World → Type 0
AreLockers w = (u m : ℕ) → m ≢ 0 → is_among w.waiters u m ≡ true → IsLocker w u

waited_unmarked : (q : Request) → waited_in q ≢ 0 → IsUnmarked q
waited_unmarked (SetPrio u p) n = absurd (n refl)
waited_unmarked (Signal c) n = absurd (n refl)
waited_unmarked (Broadcast c) n = absurd (n refl)
waited_unmarked _ n = λ p. refl

pub lockers : {f : ℕ → Option Request} {counts : ℕ → ℕ → ℕ} {w : World} → IsHeld f counts w → AreLockers w
lockers held u m n e =
    let x = (held.each u).waiting m e in
    record {
      request = x.request;
      come = x.call;
      unmarked = waited_unmarked x.request (λ z. n (sym x.waits ∙ z));
      lives = caller_lives held u (record { request = x.request; progress = Waiting }) x.call;
    }

-- a call comes further that doesn't wait
pub lockers_after : (w : World) (t : ℕ) (q : Request) (p o : Progress) → HasCome w t q p → p ≢ Waiting → AreLockers w
    → AreLockers (with_progress t o w)
lockers_after w t q p o c n ok u m some e =
    let k = ok u m some e in
    let y : Thread = record (thread_at w t) { call = at_progress o (call_of w t) } in
    let d : u ≢ t = (λ same. n (same_progress c (sym (ap (call_of w) same) ∙ k.come))) in
    record {
      request = k.request;
      come = call-with_thread_other w t y u d ∙ k.come;
      unmarked = k.unmarked;
      lives = living-with_thread w t y refl u ∙ k.lives;
    }

-- m passes on
pub even_passes : {m : ℕ} {w v : World} → AreLockers w → m ≢ 0 → IsSound w → Passes m w v → IsEven w v
even_passes {m} {w} ok some s (to_nobody none e) = rw e (even_mutex w m z refl whole (λ n. absurd (n refl)) s)
  where
    z : Mutex
    z = record (mutex_at w m) { owner = 0; count = 1 }

    whole : IsWhole z
    whole = record { fine = (s.whole m).fine; held = omega arith; once = λ _. refl }
even_passes {m} {w} ok some s (to_next u next is_one e) =
    let k = ok u m some (next_is_among (effective_of w) w.waiters m u next is_one) in
    rw e (even_then (even_waiters w (without_waiter u w).waiters s)
    (λ i. even_taken (without_waiter u w) u m k.request Waiting k.come k.unmarked k.lives i))

-- who owns a mutex and lives: it isn't that at place 0
pub owned_place : {f : ℕ → Option Request} {counts : ℕ → ℕ → ℕ} {w : World} → IsHeld f counts w → (t m : ℕ)
    → is_living w t ≡ true → IsOwner w t m → m ≢ 0
owned_place {w = w} held t m lives own z =
    true≢false (sym lives ∙ ap (is_living w) (sym own ∙ ap (owner_of w) z ∙ held.orderly.no_mutex) ∙ held.orderly.nobody)

-- WHO IS UNBLOCKED

unblocking_mark : (q : Request) (p : Progress) → mark_of q (on_unblocking p) ≡ mark_of q p
unblocking_mark (SetPrio u n) (Enlisted b) = refl
unblocking_mark (SetPrio u n) (Blocked b) = refl
unblocking_mark (SetPrio u n) _ = refl
unblocking_mark (Signal c) (Enlisted b) = refl
unblocking_mark (Signal c) (Blocked b) = refl
unblocking_mark (Signal c) _ = refl
unblocking_mark (Broadcast c) (Enlisted b) = refl
unblocking_mark (Broadcast c) (Blocked b) = refl
unblocking_mark (Broadcast c) _ = refl
unblocking_mark _ p = refl

pub unblocked_mark : (o : Option Call) → call_mark (after_unblocking o) ≡ call_mark o
unblocked_mark None = refl
unblocked_mark (Some c) = unblocking_mark c.request c.progress

pub even_unblocked : (u : ℕ) (w : World) → IsSound w → IsEven w (with_call_by u after_unblocking w)
even_unblocked u w s =
    even_thread w u (record (thread_at w u) { call = after_unblocking (call_of w u) })
    (ap (λ (x : Mark). record (tag_of (thread_at w u)) { mark = x }) (unblocked_mark (call_of w u))) refl s

pub even_all_unblocked : (us : List ℕ) (w : World) → IsSound w → IsEven w (all_unblocked us w)
unfolding all_unblocked
even_all_unblocked [] w s = record { keeps = refl; sound = s }
even_all_unblocked (u ∷ us) w s =
    even_then (even_unblocked u w s) (λ k. even_all_unblocked us (with_call_by u after_unblocking w) k)
