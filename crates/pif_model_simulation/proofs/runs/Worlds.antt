-- States of the POSIX machine by themselves: what a change of a thread or a mutex leaves, and whom a refusal rules out.
use Rattle.std.proofs.Common.{◌≡◌, ◌≢◌, ◌⊎◌, ◌<◌, ◌≤◌, ℕ, Bool, true, false, ◌==◌, nat_lt, List, [], ◌∷◌, ◌++◌, length, get_or, set, Option, Some, None, is_some, refl, sym, ap, ◌∙◌, inl, inr, arith, if◌then◌else◌}
use Rattle.std.proofs.lemmas.Bool.{cases_eq, cases_lt, cases_order}
use Rattle.std.proofs.lemmas.List.{get_or-set_same, get_or-set_other, length-set, set_past, get_or_past, length_push, get_or_push, get_or_append_left}
use Rattle.pif_types.specs.declared.requests.Request.{Request}
use Rattle.pif_model.specs.declared.events.Event.TheVariants.{Begin, End}
use Rattle.pif_model.specs.Posix.{Progress, Call, Thread, Mutex, World, nobody, no_mutex, thread_at, mutex_at, is_thread, is_living, is_mutex, is_variable, with_thread, with_mutex, with_progress, at_progress, refusal_of, names_known}
use Rattle.pif_model.specs.Refusals.{begin_refused, end_refused}
use Rattle.pif_model_lemmas.proofs.Places.{kept_at}

-- the open call of t
abbrev pub call_of : World → ℕ → Option Call
call_of w t = (thread_at w t).call

-- the owner of m
abbrev pub owner_of : World → ℕ → ℕ
owner_of w m = (mutex_at w m).owner

-- LISTS

-- what is written at a place stands there, if the default would as well past the list's end
pub written_at : {A B : Type 0} (part : A → B) (l : List A) (n : ℕ) (x d : A) → (length l ≤ n → part x ≡ part d)
    → part (get_or (set l n x) n d) ≡ part x
written_at part l n x d past = by_room (cases_lt n (length l))
  where
    by_room : (n < length l) ⊎ (length l ≤ n) → part (get_or (set l n x) n d) ≡ part x
    by_room (inl h) = ap part (get_or-set_same l n x d h)
    by_room (inr h) = ap (λ k. part (get_or k n d)) (set_past l n x h) ∙ (ap part (get_or_past l n d h) ∙ sym (past h))

-- with one more element the other places stay
pub push_other : {A : Type 0} (l : List A) (x d : A) (n : ℕ) → n ≢ length l → get_or (l ++ x ∷ []) n d ≡ get_or l n d
push_other l x d n other = by_order (cases_order n (length l))
  where
    by_order : (n ≡ length l) ⊎ ((n < length l) ⊎ (length l < n)) → get_or (l ++ x ∷ []) n d ≡ get_or l n d
    by_order (inl h) = absurd (other h)
    by_order (inr (inl h)) = get_or_append_left l (x ∷ []) d n h
    by_order (inr (inr h)) =
        get_or_past (l ++ x ∷ []) n d (omega (arith, length_push l x)) ∙ sym (get_or_past l n d (omega arith))

-- if it is the default in the part that matters, every place stays
pub push_same : {A B : Type 0} (part : A → B) (l : List A) (x d : A) (n : ℕ) → part x ≡ part d
    → part (get_or (l ++ x ∷ []) n d) ≡ part (get_or l n d)
push_same part l x d n e = by_place (cases_eq n (length l))
  where
    by_place : (n ≡ length l) ⊎ (n ≡ length l → ⊥) → part (get_or (l ++ x ∷ []) n d) ≡ part (get_or l n d)
    by_place (inl h) = ap part (get_or_push l x d n (sym h)) ∙ (e ∙ ap part (sym (get_or_past l n d (omega arith))))
    by_place (inr h) = ap part (push_other l x d n h)

-- THREADS

-- t's call, after it has come further
pub call-with_progress : (w : World) (t : ℕ) (p : Progress)
    → call_of (with_progress t p w) t ≡ at_progress p (call_of w t)
call-with_progress w t p =
    written_at (λ (x : Thread). x.call) w.threads t further nobody
    (λ h. ap (λ (x : Thread). at_progress p x.call) (get_or_past w.threads t nobody h))
  where
    further : Thread
    further = record (thread_at w t) { call = at_progress p (thread_at w t).call }

-- the calls of others stay
pub call-with_thread_other : (w : World) (t : ℕ) (x : Thread) (u : ℕ) → u ≢ t
    → call_of (with_thread t x w) u ≡ call_of w u
call-with_thread_other w t x u d = ap (λ (y : Thread). y.call) (get_or-set_other w.threads t u x nobody d)

-- who lives is as before, if the thread that is written lives as it did
pub living-with_thread : (w : World) (t : ℕ) (x : Thread) → x.living ≡ is_living w t → (u : ℕ)
    → is_living (with_thread t x w) u ≡ is_living w u
living-with_thread w t x h = kept_at (λ (y : Thread). y.living) w.threads t x nobody h

-- MUTEXES

-- a mutex that is written
pub mutex-with_mutex : (w : World) (m : ℕ) (z : Mutex) → m < length w.mutexes → mutex_at (with_mutex m z w) m ≡ z
mutex-with_mutex w m z h = get_or-set_same w.mutexes m z no_mutex h

-- the others stay
pub mutex-with_mutex_other : (w : World) (m : ℕ) (z : Mutex) (n : ℕ) → n ≢ m
    → mutex_at (with_mutex m z w) n ≡ mutex_at w n
mutex-with_mutex_other w m z n d = get_or-set_other w.mutexes m n z no_mutex d

-- the same mutexes are there
pub is_mutex-with_mutex : (w : World) (m : ℕ) (z : Mutex) (n : ℕ) → is_mutex (with_mutex m z w) n ≡ is_mutex w n
is_mutex-with_mutex w m z n = ap (λ k. if n == 0 then false else nat_lt n k) (length-set w.mutexes m z)

-- the same threads are there
pub is_thread-with_thread : (w : World) (t : ℕ) (x : Thread) (u : ℕ) → is_thread (with_thread t x w) u ≡ is_thread w u
is_thread-with_thread w t x u = ap (λ k. if u == 0 then false else nat_lt u k) (length-set w.threads t x)

-- REFUSALS

-- a Begin that is not refused: the thread lives and has no call open, and the mutex that it names was added
pub begin_allowed : (w : World) (t : ℕ) (q : Request) → refusal_of w (Begin t q) ≡ None
    → (is_thread w t ≡ true) × (is_living w t ≡ true) × (call_of w t ≡ None) × (names_known (is_mutex w) (is_variable w) q ≡ true)
begin_allowed w t q e = by_tests (is_thread w t) (is_living w t) (call_of w t) (names_known (is_mutex w) (is_variable w) q) e
  where
    by_tests : (k l : Bool) (c : Option Call) (n : Bool) → begin_refused k l (is_some c) n ≡ None
        → (k ≡ true) × (l ≡ true) × (c ≡ None) × (n ≡ true)
    by_tests true true None true e = (refl, refl, refl, refl)
    by_tests true true None false e = absurd (cc)
    by_tests true true (Some c) n e = absurd (cc)
    by_tests true false c n e = absurd (cc)
    by_tests false l c n e = absurd (cc)

-- an End that is not refused: the thread was added, and lives
pub end_allowed : (w : World) (t : ℕ) → refusal_of w (End t) ≡ None → (is_thread w t ≡ true) × (is_living w t ≡ true)
end_allowed w t e = by_tests (is_thread w t) (is_living w t) e
  where
    by_tests : (k l : Bool) → end_refused k l ≡ None → (k ≡ true) × (l ≡ true)
    by_tests true true e = (refl, refl)
    by_tests true false e = absurd (cc)
    by_tests false l e = absurd (cc)
