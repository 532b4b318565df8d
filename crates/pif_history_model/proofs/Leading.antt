-- Changes of which moves and entries are made up. Behind each of them an open call may be answered no more than before.
-- Who is among the waiters of a mutex waits for it: so a mutex is handed to nobody whose call has its result.
use Rattle.std.proofs.Common.{ℕ, ◌≡◌, ◌≢◌, ◌⊎◌, ◌∙◌, Bool, true, false, List, [], ◌∷◌, refl, sym, ap, subst, inl, inr, if◌then◌else◌}
use Rattle.std.proofs.lemmas.Bool.{cases_eq}
use Rattle.std.proofs.lemmas.List.{get_or-set_other, get_or_past}
use Rattle.std.proofs.Math.ListN.{get_or-map}
use Rattle.pif_types.specs.declared.requests.Request.{Request}
use Rattle.pif_model.specs.declared.lines.Timer.{Timer}
use Rattle.pif_model.specs.Posix.{World, Thread, Mutex, Progress, at_progress, nobody, thread_at, with_thread, with_mutex, with_call_by, with_progress, without_waiter, on_unblocking, after_unblocking, is_newly_blocked, after_use, used, all_unblocked, HasCome, Comes}
use Rattle.pif_model.specs.World.Progress.{Waiting}
use Rattle.pif_model_lemmas.proofs.Among.{is_among, is_among-without}
use Rattle.pif_model_lemmas.proofs.Places.{kept_at}
use Rattle.pif_model_lemmas.proofs.Waiting.{by_test}
use Rattle.pif_model_simulation.proofs.runs.Worlds.{call_of, written_at, call-with_progress, call-with_thread_other}
use Rattle.pif_model_simulation.proofs.runs.Holding.{same_progress, same_request}
use Rattle.pif_history_model.specs.Known.{is_awake, may_be_answered}
use Rattle.pif_history_model.proofs.Answered.{answered_before, answered_blocked, is_settled, may_wake_to}

-- STEPS

-- u's call of this request is still open in v, and may be answered no more than it may if it has come so far
pub record IsLed (q : Request) (p : Progress) (x : Bool) (u : ℕ) (v : World) : Type 0 where
  pub progress : Progress
  pub come : HasCome v u q progress
  pub back : (a : ℕ) → may_be_answered q progress (thread_at v u).timer.expired a ≡ true → may_be_answered q p x a ≡ true

abbrev pub Leads : ℕ → World → World → Type 0
Leads u w v = (q : Request) (p : Progress) → HasCome w u q p → IsLed q p (thread_at w u).timer.expired u v

pub leads_then : (u : ℕ) (w z v : World) → Leads u w z → Leads u z v → Leads u w v
leads_then u w z v f g q p c =
    let i = f q p c in
    let j = g q i.progress i.come in
    record { progress = j.progress; come = j.come; back = λ a e. i.back a (j.back a e) }

-- a call and a timer that stay
pub leads_kept : (u : ℕ) (w v : World) → call_of v u ≡ call_of w u → (thread_at v u).timer ≡ (thread_at w u).timer → Leads u w v
leads_kept u w v e f q p c = record {
  progress = p;
  come = e ∙ c;
  back = λ a k. subst (λ (x : Timer). may_be_answered q p x.expired a ≡ true) f k;
}

-- a call that comes further
pub leads_on : (u : ℕ) (w v : World) (q : Request) (p o : Progress) → HasCome w u q p → HasCome v u q o
    → ((a : ℕ) → may_be_answered q o (thread_at v u).timer.expired a ≡ true → may_be_answered q p (thread_at w u).timer.expired a ≡ true)
    → Leads u w v
leads_on u w v q p o c d back r z b =
    let request : q ≡ r = same_request c b in
    let progress : p ≡ z = same_progress c b in
    let x = (thread_at w u).timer.expired in
    subst (λ k. IsLed k z x u v) request
    (subst (λ (k : Progress). IsLed q k x u v) progress (record { progress = o; come = d; back = back }))

-- a call that is unblocked
leads_unblocked : (u : ℕ) (w v : World) → call_of v u ≡ after_unblocking (call_of w u)
    → (thread_at v u).timer ≡ (thread_at w u).timer → Leads u w v
leads_unblocked u w v e f q p c = record {
  progress = on_unblocking p;
  come = e ∙ ap after_unblocking c;
  back = λ a k. answered_blocked q p (thread_at w u).timer.expired a
      (subst (λ (x : Timer). may_be_answered q (on_unblocking p) x.expired a ≡ true) f k);
}

-- one thread is written
pub leads_written : (w : World) (t : ℕ) (y : Thread) → Leads t w (with_thread t y w) → (u : ℕ) → Leads u w (with_thread t y w)
leads_written w t y own u = go (cases_eq t u)
  where
    go : (t ≡ u) ⊎ (t ≢ u) → Leads u w (with_thread t y w)
    go (inl e) = subst (λ k. Leads k w (with_thread t y w)) e own
    go (inr d) =
        leads_kept u w (with_thread t y w) (call-with_thread_other w t y u (λ e. d (sym e)))
        (ap (λ (z : Thread). z.timer) (get_or-set_other w.threads t u y nobody (λ e. d (sym e))))

-- who is among the waiters of a mutex waits for it
abbrev pub AreWaiting : World → Type 0
AreWaiting w = (u m : ℕ) → is_among w.waiters u m ≡ true → (q : Request) × HasCome w u q Waiting

-- a change of the state: waiters still wait, and no call may be answered more than before
pub record Follows (w v : World) : Type 0 where
  pub waiting : AreWaiting v
  pub leads : (u : ℕ) → Leads u w v

pub follows_then : {w z v : World} → Follows w z → (AreWaiting z → Follows z v) → Follows w v
follows_then {w} {z} {v} f g =
    let h = g f.waiting in
    record { waiting = h.waiting; leads = λ u. leads_then u w z v (f.leads u) (h.leads u) }

-- t is among no waiters
abbrev pub IsApart : ℕ → World → Type 0
IsApart t w = (m : ℕ) → is_among w.waiters t m ≡ true → ⊥

-- t's open call, whose answer isn't settled yet, and which isn't that of a waiter
pub record Mover (t : ℕ) (w : World) : Type 0 where
  pub request : Request
  pub progress : Progress
  pub come : HasCome w t request progress
  pub unsettled : is_settled progress ≡ false
  pub apart : IsApart t w

-- whose call waits for no mutex is among no waiters
pub no_waiter : (w : World) (t : ℕ) (q : Request) (p : Progress) → AreWaiting w → HasCome w t q p → p ≢ Waiting → IsApart t w
no_waiter w t q p ok c n m e = n (same_progress c (ok t m e).1)

abbrev pub mover : {w : World} (t : ℕ) (q : Request) (p : Progress) → AreWaiting w → HasCome w t q p → is_settled p ≡ false → p ≢ Waiting
    → Mover t w
mover {w} t q p ok c r n = record {
  request = q;
  progress = p;
  come = c;
  unsettled = r;
  apart = no_waiter w t q p ok c n;
}

-- it is so if its call and the waiters are the same
abbrev pub mover_after : {t : ℕ} {w : World} (v : World) → Mover t w → call_of v t ≡ call_of w t → IsApart t v → Mover t v
mover_after v x e apart = record {
  request = x.request;
  progress = x.progress;
  come = e ∙ x.come;
  unsettled = x.unsettled;
  apart = apart;
}

-- CHANGES

pub follows_mutex : (w : World) (m : ℕ) (z : Mutex) → AreWaiting w → Follows w (with_mutex m z w)
follows_mutex w m z ok = record { waiting = ok; leads = λ u. leads_kept u w (with_mutex m z w) refl refl }

pub follows_without : (w : World) (t : ℕ) → AreWaiting w → Follows w (without_waiter t w)
follows_without w t ok = record {
  waiting = λ u m e. ok u m (is_among-without w.waiters t u m e).0;
  leads = λ u. leads_kept u w (without_waiter t w) refl refl;
}

pub gone : (w : World) (t : ℕ) → IsApart t (without_waiter t w)
gone w t m e = (is_among-without w.waiters t t m e).1 refl

-- a thread is written that has the same call and timer
pub follows_same : (w : World) (t : ℕ) (y : Thread) → y.call ≡ call_of w t → y.timer ≡ (thread_at w t).timer → AreWaiting w
    → Follows w (with_thread t y w)
follows_same w t y e f ok = record {
  waiting = λ u m k. (let o = ok u m k in (o.0, kept_at (λ (z : Thread). z.call) w.threads t y nobody e u ∙ o.1));
  leads = λ u. leads_kept u w (with_thread t y w) (kept_at (λ (z : Thread). z.call) w.threads t y nobody e u)
      (kept_at (λ (z : Thread). z.timer) w.threads t y nobody f u);
}

-- waiters but t wait when t is written
waiting_written : (w : World) (t : ℕ) (y : Thread) → AreWaiting w → IsApart t w → AreWaiting (with_thread t y w)
waiting_written w t y ok apart u m e =
    let o = ok u m e in
    (o.0, call-with_thread_other w t y u (λ k. apart m (sym (ap (λ n. is_among w.waiters n m) k) ∙ e)) ∙ o.1)

pub follows_written : (w : World) (t : ℕ) (y : Thread) → AreWaiting w → IsApart t w → Leads t w (with_thread t y w)
    → Follows w (with_thread t y w)
follows_written w t y ok apart own =
    record { waiting = waiting_written w t y ok apart; leads = leads_written w t y own }

-- a call comes further
pub leads_progress : (w : World) (t : ℕ) (q : Request) (p o : Progress) → HasCome w t q p
    → ((a : ℕ) → may_be_answered q o (thread_at w t).timer.expired a ≡ true → may_be_answered q p (thread_at w t).timer.expired a ≡ true)
    → Leads t w (with_progress t o w)
leads_progress w t q p o c back =
    leads_on t w (with_progress t o w) q p o c (call-with_progress w t o ∙ ap (at_progress o) c)
    (λ a e. back a (subst (λ (x : Timer). may_be_answered q o x.expired a ≡ true)
    (kept_at (λ (z : Thread). z.timer) w.threads t (record (thread_at w t) { call = at_progress o (call_of w t) }) nobody refl t) e))

pub follows_comes : {w v : World} (t : ℕ) (q : Request) (p o : Progress) → AreWaiting w → IsApart t w → HasCome w t q p
    → ((a : ℕ) → may_be_answered q o (thread_at w t).timer.expired a ≡ true → may_be_answered q p (thread_at w t).timer.expired a ≡ true)
    → Comes t o w v → Follows w v
follows_comes {w} t q p o ok apart c back e =
    subst (λ (z : World). Follows w z) (sym e) (follows_written w t _ ok apart (leads_progress w t q p o c back))

pub moves_to : {t : ℕ} {w v : World} (x : Mover t w) (o : Progress) → AreWaiting w → (is_awake x.progress ≡ true → may_wake_to o ≡ true)
    → Comes t o w v → Follows w v
moves_to {t} {w} x o ok h e =
    follows_comes t x.request x.progress o ok x.apart x.come
    (λ a k. answered_before x.request x.progress o (thread_at w t).timer.expired a x.unsettled h k) e

-- once a mutex was written
pub moves_after_mutex : {t : ℕ} {w v : World} (m : ℕ) (z : Mutex) (x : Mover t w) (o : Progress) → AreWaiting w
    → (is_awake x.progress ≡ true → may_wake_to o ≡ true) → Comes t o (with_mutex m z w) v → Follows w v
moves_after_mutex {t} {w} m z x o ok h e =
    follows_then (follows_mutex w m z ok) (λ k. moves_to (mover_after (with_mutex m z w) x refl x.apart) o k h e)

-- a thread is unblocked
call_unblocked : (w : World) (t : ℕ) → call_of (with_call_by t after_unblocking w) t ≡ after_unblocking (call_of w t)
call_unblocked w t =
    written_at (λ (y : Thread). y.call) w.threads t (record (thread_at w t) { call = after_unblocking (call_of w t) }) nobody
    (λ h. ap (λ (y : Thread). after_unblocking y.call) (get_or_past w.threads t nobody h))

pub follows_unblocked : (w : World) (t : ℕ) → AreWaiting w → Follows w (with_call_by t after_unblocking w)
follows_unblocked w t ok = record {
  waiting = λ u m e. go u (ok u m e) (cases_eq u t);
  leads = leads_written w t _ (leads_unblocked t w (with_call_by t after_unblocking w) (call_unblocked w t)
      (kept_at (λ (z : Thread). z.timer) w.threads t _ nobody refl t));
}
  where
    go : (u : ℕ) → (q : Request) × HasCome w u q Waiting → (u ≡ t) ⊎ (u ≢ t)
        → (q : Request) × HasCome (with_call_by t after_unblocking w) u q Waiting
    go u o (inl e) = (
      o.0,
      ap (call_of (with_call_by t after_unblocking w)) e ∙ call_unblocked w t ∙ ap after_unblocking (sym (ap (call_of w) e) ∙ o.1),
    )
    go u o (inr d) = (o.0, call-with_thread_other w t _ u d ∙ o.1)

pub follows_all_unblocked : (us : List ℕ) (w : World) → AreWaiting w → Follows w (all_unblocked us w)
unfolding all_unblocked
follows_all_unblocked [] w ok = record { waiting = ok; leads = λ u. leads_kept u w w refl refl }
follows_all_unblocked (t ∷ us) w ok =
    follows_then (follows_unblocked w t ok) (λ k. follows_all_unblocked us (with_call_by t after_unblocking w) k)

-- a variable is used
thread_used : (v : ℕ) (w : World) (u : ℕ) → thread_at (used v w) u ≡ after_use v (thread_at w u)
thread_used v w u = get_or-map (after_use v) w.threads u nobody

-- who isn't newly blocked stays as it is
pub call_used : (v : ℕ) (w : World) (u : ℕ) → is_newly_blocked v (call_of w u) ≡ false → call_of (used v w) u ≡ call_of w u
call_used v w u e =
    ap (λ (y : Thread). y.call) (thread_used v w u)
    ∙ ap (λ (b : Bool). (if b then record (thread_at w u) { call = after_unblocking (call_of w u) } else thread_at w u).call) e

pub follows_used : (w : World) (v : ℕ) → AreWaiting w → Follows w (used v w)
follows_used w v ok = record {
  waiting = λ u m e. (let o = ok u m e in (o.0, call_used v w u (ap (is_newly_blocked v) o.1) ∙ o.1));
  leads = λ u. by_thread u;
}
  where
    by_thread : (u : ℕ) → Leads u w (used v w)
    by_thread u =
        by_test (λ b. ◌≡◌ {A = Thread} (thread_at (used v w) u) (if b then record (thread_at w u) { call = after_unblocking (call_of w u) } else thread_at w u)
        → Leads u w (used v w)) (is_newly_blocked v (call_of w u))
        (λ _ e. leads_unblocked u w (used v w) (ap (λ (y : Thread). y.call) e) (ap (λ (y : Thread). y.timer) e))
        (λ _ e. leads_kept u w (used v w) (ap (λ (y : Thread). y.call) e) (ap (λ (y : Thread). y.timer) e))
        (thread_used v w u)
