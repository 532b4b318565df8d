-- What is read of a state in which threads have other names.
use Rattle.std.proofs.Common.{ℕ, ◌≡◌, ◌<◌, ◌∙◌, ◌==◌, true, false, List, map, get_or, length, nat_lt, Option, Some, None, is_some, refl, sym, ap, subst, arith, if◌then◌else◌}
use Rattle.std.specs.List.{list_any}
use Rattle.std.proofs.lemmas.Bool.Decides.{nat_tests}
use Rattle.pif_types.specs.declared.requests.Request.{Request}
use Rattle.pif_types.specs.declared.requests.Request.TheVariants.{SetPrio}
use Rattle.pif_model.specs.declared.events.Event.TheVariants.{Go}
use Rattle.pif_model.specs.Deadlines.{is_reached}
use Rattle.pif_model.specs.Refusals.{go_refused}
use Rattle.pif_model.specs.Posix.{World, Mutex, Call, Progress, no_mutex, thread_at, mutex_at, variable_at, is_living, is_thread, is_orphaned, waits_for, effective_of, next_of, leads_to, sleeps, rests, is_call_blocked, is_blocked, variable_of, named_by, is_use, no_variable, Variable, is_blocked_on, is_found, is_still_blocked, is_due, is_counting, counts_now, refusal_of}
use Rattle.pif_model.specs.Graph.{reaches_within, effective_among, waited_by, next_waiter}
use Rattle.pif_model_lemmas.proofs.Places.{mapped_at}
use Rattle.pif_symmetry_model.specs.Renaming.{IsRenaming, Mirrors, renamed_request, renamed_call, renamed_mutex, is_wait_among}
use Rattle.pif_symmetry_model.proofs.Names.{same_zero, same_waited, same_among, same_reaches, same_effective, same_next}

-- CALLS

pub variable_same : (f : ℕ → ℕ) (q : Request) → variable_of (renamed_request f q) ≡ variable_of q
variable_same f (SetPrio t p) = refl
variable_same f q = refl

pub named_same : (f : ℕ → ℕ) (q : Request) → named_by (renamed_request f q) ≡ named_by q
named_same f (SetPrio t p) = refl
named_same f q = refl

pub use_same : (f : ℕ → ℕ) (q : Request) → is_use (renamed_request f q) ≡ is_use q
use_same f (SetPrio t p) = refl
use_same f q = refl

pub call_blocked_same : (f : ℕ → ℕ) (c : ℕ) (x : Option Call) → is_call_blocked c (renamed_call f x) ≡ is_call_blocked c x
call_blocked_same f c None = refl
call_blocked_same f c (Some x) = ap (λ k. if is_blocked x.progress then k == c else false) (variable_same f x.request)

sleeps_same : (f : ℕ → ℕ) (x : Option Call) → sleeps (renamed_call f x) ≡ sleeps x
sleeps_same f None = refl
sleeps_same f (Some x) = refl

now_same : (f : ℕ → ℕ) (q : Request) (p : Progress) → counts_now (renamed_request f q) p ≡ counts_now q p
now_same f (SetPrio t n) p = refl
now_same f q p = refl

counting_same : (f : ℕ → ℕ) (x : Option Call) → is_counting (renamed_call f x) ≡ is_counting x
counting_same f None = refl
counting_same f (Some x) = now_same f x.request x.progress

pub open_same : (f : ℕ → ℕ) (x : Option Call) → is_some (renamed_call f x) ≡ is_some x
open_same f None = refl
open_same f (Some x) = refl

-- whether a number is below another, if that is so of both or neither
pub below_same : (a b c d : ℕ) → (a < b → c < d) → (c < d → a < b) → nat_lt a b ≡ nat_lt c d
below_same a b c d there back = grind (arith, nat_tests, there, back)

module _ (f : ℕ → ℕ) (w v : World) (a : Mirrors f w v) where
  abbrev r : IsRenaming f (length w.threads)
  r = a.renaming

  -- MUTEXES AND VARIABLES

  pub mutex_there : (m : ℕ) → mutex_at v m ≡ renamed_mutex f (mutex_at w m)
  mutex_there m =
      let nobody : renamed_mutex f no_mutex ≡ no_mutex = λ i. record no_mutex { owner = r.nobody i } in
      ap (λ (l : List Mutex). get_or l m no_mutex) a.mutexes
      ∙ ap (λ (d : Mutex). get_or (map (renamed_mutex f) w.mutexes) m d) (sym nobody)
      ∙ mapped_at (renamed_mutex f) w.mutexes m no_mutex

  pub owner_there : (m : ℕ) → (mutex_at v m).owner ≡ f (mutex_at w m).owner
  owner_there m = ap (λ (x : Mutex). x.owner) (mutex_there m)

  variable_there : (c : ℕ) → variable_at v c ≡ variable_at w c
  variable_there c = ap (λ (l : List Variable). get_or l c no_variable) a.variables

  pub bound_there : (c : ℕ) → (variable_at v c).mutex ≡ (variable_at w c).mutex
  bound_there c = ap (λ (x : Variable). x.mutex) (variable_there c)

  pub used_there : (c : ℕ) → (variable_at v c).uses ≡ (variable_at w c).uses
  used_there c = ap (λ (x : Variable). x.uses) (variable_there c)

  -- THREADS

  pub call_there : (t : ℕ) → (thread_at v (f t)).call ≡ renamed_call f (thread_at w t).call
  call_there t = (a.thread t).call

  pub living_there : (t : ℕ) → is_living v (f t) ≡ is_living w t
  living_there t = (a.thread t).living

  pub known_there : (t : ℕ) → nat_lt (f t) (length w.threads) ≡ nat_lt t (length w.threads)
  known_there t =
      below_same (f t) (length w.threads) t (length w.threads)
      (λ l. subst (λ z. z < length w.threads) (r.there t) (r.back_below (f t) l)) (r.below t)

  pub thread_there : (t : ℕ) → is_thread v (f t) ≡ is_thread w t
  thread_there t = λ i. if same_zero f _ r t i then false else (ap (nat_lt (f t)) a.threads ∙ known_there t) i

  -- WAITING AND PRIORITY

  pub waits_there : (u : ℕ) → waits_for v (f u) ≡ f (waits_for w u)
  waits_there u =
      ap (λ (ws : List (ℕ × ℕ)). (mutex_at v (waited_by ws (f u))).owner) a.waiters
      ∙ ap (λ m. (mutex_at v m).owner) (same_waited f _ r w.waiters u)
      ∙ owner_there (waited_by w.waiters u)

  pub leads_there : (u t : ℕ) → leads_to v (f u) (f t) ≡ leads_to w u t
  leads_there u t =
      ap (λ n. reaches_within n (waits_for v) (f u) (f t)) a.threads
      ∙ same_reaches f _ r (waits_for w) (waits_for v) waits_there (length w.threads) u t

  pub effective_there : (t : ℕ) → effective_of v (f t) ≡ effective_of w t
  effective_there t =
      ap (λ n. effective_among n (waits_for v) (λ u. (thread_at v u).base) (f t)) a.threads
      ∙ same_effective f _ r (waits_for w) (waits_for v) waits_there (λ u. (thread_at w u).base) (λ u. (thread_at v u).base)
      (λ u. (a.thread u).base) t

  pub next_there : (m : ℕ) → next_of v m ≡ f (next_of w m)
  next_there m =
      ap (λ (ws : List (ℕ × ℕ)). next_waiter (effective_of v) ws m) a.waiters
      ∙ same_next f _ r (effective_of w) (effective_of v) effective_there w.waiters m

  pub orphaned_there : (m : ℕ) → is_orphaned v m ≡ is_orphaned w m
  orphaned_there m =
      ap (λ (x : Mutex). if x.robust then false else (if x.owner == 0 then false else (if is_living v x.owner then false else true))) (mutex_there m)
      ∙ (λ i. if (mutex_at w m).robust then false
      else (if same_zero f _ r (mutex_at w m).owner i then false
      else (if living_there (mutex_at w m).owner i then false else true)))

  pub rests_there : (t : ℕ) → rests v (f t) ≡ rests w t
  rests_there t =
      let asleep : sleeps (thread_at v (f t)).call ≡ sleeps (thread_at w t).call =
      ap sleeps (call_there t) ∙ sleeps_same f (thread_at w t).call in
      let among : list_any (λ (p : ℕ × ℕ). p.0 == f t) v.waiters ≡ list_any (λ (p : ℕ × ℕ). p.0 == t) w.waiters =
      ap (λ (ws : List (ℕ × ℕ)). list_any (λ (p : ℕ × ℕ). p.0 == f t) ws) a.waiters ∙ same_among f _ r w.waiters t in
      λ i. if asleep i then true else among i

  -- BLOCKED THREADS

  pub blocked_there : (c u : ℕ) → is_blocked_on v c (f u) ≡ is_blocked_on w c u
  blocked_there c u = ap (is_call_blocked c) (call_there u) ∙ call_blocked_same f c (thread_at w u).call

  found_there : (t u : ℕ) → is_found v (f t) (f u) ≡ is_found w t u
  found_there t u =
      ap (λ n. is_wait_among (thread_at v (f t)).memory.found (f u) n) (a.thread u).waits
      ∙ (a.thread t).found u (thread_at w u).memory.waits

  pub still_there : (t c u : ℕ) → is_still_blocked v (f t) c (f u) ≡ is_still_blocked w t c u
  still_there t c u = λ i. if blocked_there c u i then found_there t u i else false

  -- DEADLINES AND GOING ON

  pub due_there : (t : ℕ) → is_due v (f t) ≡ is_due w t
  due_there t =
      let counts : is_counting (thread_at v (f t)).call ≡ is_counting (thread_at w t).call =
      ap is_counting (call_there t) ∙ counting_same f (thread_at w t).call in
      λ i. if is_reached ((a.thread t).timer i).deadline (a.time i) then counts i else false

  pub go_there : (t : ℕ) → refusal_of v (Go (f t)) ≡ refusal_of w (Go t)
  go_there t =
      let busy : is_some (thread_at v (f t)).call ≡ is_some (thread_at w t).call =
      ap is_some (call_there t) ∙ open_same f (thread_at w t).call in
      λ i. go_refused (thread_there t i) (living_there t i) (busy i)
