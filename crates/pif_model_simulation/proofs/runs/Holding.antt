-- What the answers to one thread's calls say of what it holds: the invariant of one thread, and what each kind of entry
-- does to it.
--
-- THE INVARIANT. A thread's hold count is how often it holds a mutex by the answers; the machine has an owner and a
-- count. The two are the same at every mutex but that of the thread's open call (`elsewhere`). There `Counted` says, by
-- how far the call has come, how they differ (`own`): not at all before its effects; and once it has a result, the
-- machine has what the answer will make of the hold count. Besides, who doesn't live has no call and holds nothing; the
-- history has the same call open, and its mutex was added; and who is among the waiters of a mutex is in a call that
-- waits for it.
--
-- TO ADD.
-- * A new request: in the definitions what an answer to it does (`hold_count_after_answer`), what it names, and for
--   which mutex it waits; here its case in `elsewhere_answered` and `unlocked_once`; in `AllHolding` its case in
--   `waiting_takes`, and `may_take` if it may take a mutex; in `Holders` in `error_changes_nothing`, and in
--   `may_lock` if it locks its mutex.
-- * A new progress: its line in `Counted`, for the requests that can come so far, and in `unlocked_once`. If a call
--   has given its mutex up and will own it again, `Counted` says that it holds it once by the answers and not at all by
--   the machine.
-- * A new effect: its line in `Holders`, by the lemma in `AllHolding` for what it does. All of those ask one thing of
--   the hold count: how `Counted` at the call's progress before gives `Counted` after.
-- * A new entry: its line in `IsHeld-Step`; one that closes calls or resets hold counts goes by `IsHeld-but`.
use Rattle.std.proofs.Common.{◌≡◌, ◌≢◌, ◌⊎◌, ◌<◌, ℕ, Bool, true, false, nat_lt, Option, Some, None, refl, sym, ap, ◌∙◌, subst, subst₂, inl, inr, arith, eqb-true, if◌then◌else◌, ◌==◌}
use Rattle.std.proofs.lemmas.Bool.{ne_eqb, eq-eqb, cases_eq, true≢false}
use Rattle.std.proofs.lemmas.Bool.Decides.{nat_tests}
use Rattle.pif_types.specs.declared.requests.Request.{Request}
use Rattle.pif_types.specs.declared.requests.Request.TheVariants.{Lock, TryLock, Unlock, Wait}
use Rattle.pif_model.specs.History.{hold_count_after_answer, unlocking, waiting_with, hold_count_waited}
use Rattle.pif_model.specs.Posix.{Progress, Call, named_by, names_known}
use Rattle.pif_model.specs.World.Progress.{Fresh, Waiting, Stuck, Leaving, Has, Checked, Enlisted, Blocked, Reacquiring, Used}
use Rattle.pif_model.specs.Soundness.{waited_in}
use Rattle.pif_model.specs.Deadlines.{reported_result}
use Rattle.pif_model_lemmas.proofs.Waiting.{by_test}
use Rattle.pif_model_simulation.proofs.Named.{names_kept}

-- what a state of the POSIX machine has of one thread
pub record View : Type 0 where
  pub call : Option Call
  pub living : Bool
  -- how often it holds each mutex, by the machine
  pub held : ℕ → ℕ
  -- whether it is among the waiters of each mutex
  pub among : ℕ → Bool

-- the request of an open call
abbrev pub request_of : Option Call → Option Request
request_of None = None
request_of (Some c) = Some c.request

-- the mutex that a request names is known, as far as it names any
abbrev pub names_mutex : (ℕ → Bool) → Request → Bool
names_mutex known q = names_known known (λ c. true) q

-- a thread that waits for the call's mutex holds it n times by the answers, k times by the machine: a wait has given it
-- up and will own it again
abbrev pub Apart : Request → ℕ → ℕ → Type 0
Apart (Wait c m) n k = (n ≡ 1) × (k ≡ 0)
Apart _ n k = n ≡ k

-- how often a call that leaves its mutex held it before by the answers
abbrev pub held_before : Request → ℕ
held_before (Wait c m) = 1
held_before _ = 0

-- a thread whose call of this request has come this far holds the call's mutex n times by the answers, k times by the
-- machine
abbrev pub Counted : Request → Progress → ℕ → ℕ → Type 0
Counted q Fresh n k = n ≡ k
Counted q Waiting n k = Apart q n k
Counted q Stuck n k = Apart q n k
Counted q Leaving n k = (n ≡ held_before q) × (k ≡ 1)
Counted q (Has a) n k = hold_count_after_answer (named_by q) (Some q) a n ≡ k
Counted q Checked n k = (n ≡ 1) × (k ≡ 1)
Counted q (Enlisted still) n k = (n ≡ 1) × (k ≡ 1)
Counted q (Blocked noted) n k = Apart q n k
Counted q Reacquiring n k = Apart q n k
Counted q Used n k = n ≡ k

-- this call waits for m
pub record IsWaiting (m : ℕ) (o : Option Call) : Type 0 where
  pub request : Request
  pub waits : waited_in request ≡ m
  pub call : o ≡ Some (record { request = request; progress = Waiting })

-- The invariant of one thread, which the machine has as x: f is its open call and counts its hold counts, by the
-- history, and known tells which mutexes were added.
pub record Holding (f : Option Request) (counts : ℕ → ℕ) (known : ℕ → Bool) (x : View) : Type 0 where
  pub idle : x.living ≡ false → x.call ≡ None
  pub request : f ≡ request_of x.call
  pub named : (c : Call) → x.call ≡ Some c → names_mutex known c.request ≡ true
  pub waiting : (m : ℕ) → x.among m ≡ true → IsWaiting m x.call
  pub own : (c : Call) → x.call ≡ Some c
      → Counted c.request c.progress (counts (named_by c.request)) (x.held (named_by c.request))
  pub elsewhere : (m : ℕ) → ((c : Call) → x.call ≡ Some c → named_by c.request ≢ m) → counts m ≡ x.held m

-- CALLS

-- one call is open at a time
pub same_call : {o : Option Call} {c d : Call} → o ≡ Some c → o ≡ Some d → c ≡ d
same_call e k = cc

-- it is of this request
pub same_request : {o : Option Call} {c d : Call} → o ≡ Some c → o ≡ Some d → c.request ≡ d.request
same_request e k = ap (λ (c : Call). c.request) (same_call e k)

-- and has come this far
pub same_progress : {o : Option Call} {c d : Call} → o ≡ Some c → o ≡ Some d → c.progress ≡ d.progress
same_progress e k = ap (λ (c : Call). c.progress) (same_call e k)

-- REQUESTS

-- an answer changes the hold count of no other mutex
elsewhere_answered : (m : ℕ) (q : Request) (a n : ℕ) → named_by q ≢ m → hold_count_after_answer m (Some q) a n ≡ n
elsewhere_answered m (Lock k) a n d = rw (ne_eqb k m d) refl
elsewhere_answered m (TryLock k) a n d = rw (ne_eqb k m d) refl
elsewhere_answered m (Unlock k) a n d = rw (ne_eqb k m d) refl
elsewhere_answered m (Wait c k) a n d = rw (ne_eqb k m d) refl
elsewhere_answered m _ a n d = refl

-- ETIMEDOUT in place of 0 changes a hold count as 0 does, if a wait is told it
told_counted : (m : ℕ) (q : Request) (x : Bool) (a n : ℕ)
    → hold_count_after_answer m (Some q) (reported_result q x a) n ≡ hold_count_after_answer m (Some q) a n
told_counted m (Wait c k) true a n = ap (λ i. if k == m then i else n) (by_test
    (λ b. hold_count_waited (if b then 110 else a) n ≡ hold_count_waited a n) (a == 0)
    (λ e. sym (ap (λ i. hold_count_waited i n) (eqb-true a 0 e))) (λ e. refl))
told_counted m (Wait c k) false a n = refl
told_counted m _ x a n = refl

-- who waits for a mutex holds it by the machine, if by the answers and not in a wait
apart_held : (q : Request) (n k : ℕ) → Apart q n k → waiting_with (named_by q) (Some q) ≡ false
    → unlocking (named_by q) (Some q) < n → k ≢ 0
apart_held (Wait c m) n k h w l = absurd (true≢false (sym (eq-eqb m m refl) ∙ w))
apart_held _ n k h w l = λ e. omega arith

-- only an unlock takes a hold away: who holds a mutex by the answers, less 1 while its unlock is open, holds it by the
-- machine
unlocked_once : (q : Request) (p : Progress) (n k : ℕ) → Counted q p n k → waiting_with (named_by q) (Some q) ≡ false
    → unlocking (named_by q) (Some q) < n → k ≢ 0
unlocked_once (Wait c m) (Has a) n k h w l = absurd (true≢false (sym (eq-eqb m m refl) ∙ w))
unlocked_once _ (Has a) n k h w l = λ e. grind (arith, nat_tests)
unlocked_once q Leaving n k h w l = λ e. omega arith
unlocked_once q Checked n k h w l = λ e. omega arith
unlocked_once q (Enlisted still) n k h w l = λ e. omega arith
unlocked_once q Fresh n k h w l = λ e. omega arith
unlocked_once q Used n k h w l = λ e. omega arith
unlocked_once q Waiting n k h w l = apart_held q n k h w l
unlocked_once q Stuck n k h w l = apart_held q n k h w l
unlocked_once q (Blocked noted) n k h w l = apart_held q n k h w l
unlocked_once q Reacquiring n k h w l = apart_held q n k h w l

-- who holds a mutex by the answers holds it by the machine
pub held-from_holds : {f : Option Request} {counts : ℕ → ℕ} {known : ℕ → Bool} {x : View} → Holding f counts known x
    → (m : ℕ) → waiting_with m f ≡ false → nat_lt (unlocking m f) (counts m) ≡ true → x.held m ≢ 0
held-from_holds {f} {counts} {known} {x} h m outside above = by_call x.call refl
  where
    some : counts m ≢ 0
    some = λ e. grind (arith, nat_tests)

    by_mutex : (c : Call) → x.call ≡ Some c → (named_by c.request ≡ m) ⊎ (named_by c.request ≡ m → ⊥) → x.held m ≢ 0
    by_mutex c e (inl same) =
        subst (λ n. x.held n ≢ 0) same
        (unlocked_once c.request c.progress (counts (named_by c.request)) (x.held (named_by c.request)) (h.own c e)
        (ap (λ k. waiting_with k (Some c.request)) same ∙ ap (waiting_with m) (sym (h.request ∙ ap request_of e)) ∙ outside)
        (grind (arith, nat_tests, h.request, ap request_of e, above, same)))
    by_mutex c e (inr other) =
        λ z. some (h.elsewhere m (λ d k g. other (ap named_by (same_request e k) ∙ g)) ∙ z)

    by_call : (o : Option Call) → x.call ≡ o → x.held m ≢ 0
    by_call None e = λ z. some (h.elsewhere m (λ d k. absurd (cc)) ∙ z)
    by_call (Some c) e = by_mutex c e (cases_eq (named_by c.request) m)

-- ONE THREAD BEFORE AND AFTER AN ENTRY

-- a thread's call stays, and what it holds; it is among no more waiters, and may have begun to live
pub record Stays (x y : View) : Type 0 where
  pub call : y.call ≡ x.call
  pub living : y.living ≡ false → x.living ≡ false
  pub held : (m : ℕ) → y.held m ≡ x.held m
  pub fewer : (m : ℕ) → y.among m ≡ true → x.among m ≡ true

-- a thread stays as it was
pub Holding-stays : {f later_f : Option Request} {counts later_counts : ℕ → ℕ} {known more : ℕ → Bool} {x y : View}
    → Holding f counts known x → ((m : ℕ) → known m ≡ true → more m ≡ true) → later_f ≡ f
    → ((m : ℕ) → later_counts m ≡ counts m) → Stays x y → Holding later_f later_counts more y
Holding-stays {counts = counts} {known = known} {more = more} {x = x} {y = y} h grows same_request same_counts s =
    record {
      idle = λ e. s.call ∙ h.idle (s.living e);
      request = same_request ∙ h.request ∙ ap request_of (sym s.call);
      named = λ c e. names_kept known (λ n. true) more (λ n. true) grows (λ n x. refl) c.request
          (h.named c (sym s.call ∙ e));
      waiting = λ m e. subst (IsWaiting m) (sym s.call) (h.waiting m (s.fewer m e));
      own = λ c e.
          subst₂ (λ (n k : ℕ). Counted c.request c.progress n k) (sym (same_counts (named_by c.request)))
          (sym (s.held (named_by c.request))) (h.own c (sym s.call ∙ e));
      elsewhere = λ m apart. same_counts m ∙ h.elsewhere m (λ c e. apart c (s.call ∙ e)) ∙ sym (s.held m);
    }

-- this thread's one open call is this one, in what the invariant says of open calls
module _ (counts : ℕ → ℕ) (known : ℕ → Bool) (y : View) (q : Request) (p : Progress)
    (only : y.call ≡ Some (record { request = q; progress = p })) where
  named_at : names_mutex known q ≡ true → (c : Call) → y.call ≡ Some c → names_mutex known c.request ≡ true
  named_at h c e = subst (λ (d : Call). names_mutex known d.request ≡ true) (same_call only e) h

  own_at : Counted q p (counts (named_by q)) (y.held (named_by q)) → (c : Call) → y.call ≡ Some c
      → Counted c.request c.progress (counts (named_by c.request)) (y.held (named_by c.request))
  own_at h c e =
      subst (λ (d : Call). Counted d.request d.progress (counts (named_by d.request)) (y.held (named_by d.request)))
      (same_call only e) h

-- a call comes further, from a to b; of other mutexes its thread holds what it held
pub record Moves (q : Request) (a b : Progress) (x y : View) : Type 0 where
  pub before : x.call ≡ Some (record { request = q; progress = a })
  pub after : y.call ≡ Some (record { request = q; progress = b })
  pub living : y.living ≡ x.living
  pub waits : (m : ℕ) → y.among m ≡ true → (waited_in q ≡ m) × (b ≡ Waiting)
  pub others : (m : ℕ) → named_by q ≢ m → y.held m ≡ x.held m
  pub own : (n : ℕ) → Counted q a n (x.held (named_by q)) → Counted q b n (y.held (named_by q))

-- a thread's call comes further
pub Holding-moves : {f : Option Request} {counts : ℕ → ℕ} {known : ℕ → Bool} {x y : View} {q : Request} {a b : Progress}
    → Holding f counts known x → Moves q a b x y → Holding f counts known y
Holding-moves {counts = counts} {known = known} {x = x} {y = y} {q = q} {a = a} {b = b} h s =
    record {
      idle = λ e. let none : x.call ≡ None = h.idle (sym s.living ∙ e) in let some = s.before in absurd (cc);
      request = h.request ∙ ap request_of s.before ∙ sym (ap request_of s.after);
      named = named_at counts known y q b s.after (h.named (record { request = q; progress = a }) s.before);
      waiting = λ m e. record {
        request = q;
        waits = (s.waits m e).0;
        call = s.after ∙ ap (λ (p : Progress). Some (record { request = q; progress = p })) (s.waits m e).1;
      };
      own = own_at counts known y q b s.after
          (s.own (counts (named_by q)) (h.own (record { request = q; progress = a }) s.before));
      elsewhere = λ m apart.
          let d : named_by q ≢ m = apart (record { request = q; progress = b }) s.after in
          h.elsewhere m (λ c e g. d (ap named_by (same_request s.before e) ∙ g)) ∙ sym (s.others m d);
    }

-- a call comes further beside others: it is among the same waiters and holds as before
pub record Eases (o p : Option Call) : Type 0 where
  pub none : o ≡ None → p ≡ None
  pub some : (q : Request) (a : Progress) → o ≡ Some (record { request = q; progress = a })
      → (b : Progress) × (p ≡ Some (record { request = q; progress = b }))
      × ((n k : ℕ) → Counted q a n k → Counted q b n k) × (a ≡ Waiting → b ≡ Waiting)

pub Holding-eases : {f : Option Request} {counts : ℕ → ℕ} {known : ℕ → Bool} {x : View} (o : Option Call)
    → Holding f counts known x → Eases x.call o → Holding f counts known (record x { call = o })
Holding-eases {f} {counts} {known} {x} o h e = by_call x.call refl
  where
    by_call : (i : Option Call) → x.call ≡ i → Holding f counts known (record x { call = o })
    by_call None k = record {
      idle = λ z. e.none k;
      request = h.request ∙ ap request_of k ∙ sym (ap request_of (e.none k));
      named = λ c z. let none = e.none k in absurd (cc);
      waiting = λ m z. let some = (h.waiting m z).call in absurd (cc);
      own = λ c z. let none = e.none k in absurd (cc);
      elsewhere = λ m apart. h.elsewhere m (λ c z. absurd (cc));
    }
    by_call (Some i) k =
        let r = e.some i.request i.progress k in
        record {
          idle = λ z. (let none = h.idle z in absurd (cc));
          request = h.request ∙ ap request_of k ∙ sym (ap request_of r.1);
          named = named_at counts known (record x { call = o }) i.request r.0 r.1 (h.named i k);
          waiting = λ m z. (let j = h.waiting m z in record {
            request = j.request;
            waits = j.waits;
            call = r.1 ∙ (λ a. Some (record {
              request = same_request k j.call a;
              progress = r.3 (same_progress k j.call) a;
            }));
          });
          own = own_at counts known (record x { call = o }) i.request r.0 r.1
              (r.2 (counts (named_by i.request)) (x.held (named_by i.request)) (h.own i k));
          elsewhere = λ m apart. h.elsewhere m (λ c z g. apart (record { request = i.request; progress = r.0 }) r.1
              (ap named_by (same_request k z) ∙ g));
        }

-- a call begins: nothing has happened yet
pub record Begins (q : Request) (p : Progress) (known : ℕ → Bool) (x y : View) : Type 0 where
  pub before : x.call ≡ None
  pub after : y.call ≡ Some (record { request = q; progress = p })
  pub lives : y.living ≡ true
  pub held : (m : ℕ) → y.held m ≡ x.held m
  pub fewer : (m : ℕ) → y.among m ≡ true → x.among m ≡ true
  pub named : names_mutex known q ≡ true
  pub fresh : (n k : ℕ) → n ≡ k → Counted q p n k

pub Holding-begins : {f later_f : Option Request} {counts : ℕ → ℕ} {known : ℕ → Bool} {x y : View} {q : Request}
    {p : Progress} → Holding f counts known x → later_f ≡ Some q → Begins q p known x y → Holding later_f counts known y
Holding-begins {counts = counts} {known = known} {x = x} {y = y} {q = q} {p = p} h opened s =
    record {
      idle = λ e. let lives = s.lives in absurd (cc);
      request = opened ∙ sym (ap request_of s.after);
      named = named_at counts known y q p s.after s.named;
      waiting = λ m e. let some = (h.waiting m (s.fewer m e)).call in let none = s.before in absurd (cc);
      own = own_at counts known y q p s.after
          (s.fresh (counts (named_by q)) (y.held (named_by q)) (as_before (named_by q)));
      elsewhere = λ m apart. as_before m;
    }
  where
    as_before : (m : ℕ) → counts m ≡ y.held m
    as_before m = h.elsewhere m (λ c e. let none = s.before in absurd (cc)) ∙ sym (s.held m)

-- a call is answered, as it is told
pub record Answers (q : Request) (a : ℕ) (x y : View) : Type 0 where
  pub before : x.call ≡ Some (record { request = q; progress = Has a })
  pub after : y.call ≡ None
  pub held : (m : ℕ) → y.held m ≡ x.held m
  pub fewer : (m : ℕ) → y.among m ≡ true → x.among m ≡ true

pub Holding-answers : {f later_f : Option Request} {counts later_counts : ℕ → ℕ} {known : ℕ → Bool} {x y : View}
    {q : Request} {a : ℕ} (expired : Bool) → Holding f counts known x → later_f ≡ None
    → ((m : ℕ) → later_counts m ≡ hold_count_after_answer m f (reported_result q expired a) (counts m)) → Answers q a x y
    → Holding later_f later_counts known y
Holding-answers {counts = counts} {x = x} {y = y} {q = q} {a = a} expired h closed counted s =
    record {
      idle = λ e. s.after;
      request = closed ∙ sym (ap request_of s.after);
      named = λ c e. let none = s.after in absurd (cc);
      waiting = λ m e.
          let other : Has a ≡ Waiting = same_progress s.before (h.waiting m (s.fewer m e)).call in absurd (cc);
      own = λ c e. let none = s.after in absurd (cc);
      elsewhere = λ m apart.
          counted m
          ∙ ap (λ g. hold_count_after_answer m g (reported_result q expired a) (counts m)) (h.request ∙ ap request_of s.before)
          ∙ told_counted m q expired a (counts m)
          ∙ by_mutex m (cases_eq (named_by q) m);
    }
  where
    by_mutex : (m : ℕ) → (named_by q ≡ m) ⊎ (named_by q ≡ m → ⊥)
        → hold_count_after_answer m (Some q) a (counts m) ≡ y.held m
    by_mutex m (inl e) =
        subst (λ k. hold_count_after_answer k (Some q) a (counts k) ≡ y.held k) e
        (h.own (record { request = q; progress = Has a }) s.before ∙ sym (s.held (named_by q)))
    by_mutex m (inr d) =
        elsewhere_answered m q a (counts m) d
        ∙ h.elsewhere m (λ c e g. d (ap named_by (same_request s.before e) ∙ g))
        ∙ sym (s.held m)

-- a thread ends: its call is gone, and it holds nothing
pub record IsGone (y : View) : Type 0 where
  pub call : y.call ≡ None
  pub held : (m : ℕ) → y.held m ≡ 0
  pub among : (m : ℕ) → y.among m ≡ true → ⊥

pub Holding-ends : {f : Option Request} {counts : ℕ → ℕ} {known : ℕ → Bool} {y : View} → f ≡ None
    → ((m : ℕ) → counts m ≡ 0) → IsGone y → Holding f counts known y
Holding-ends closed reset s =
    record {
      idle = λ e. s.call;
      request = closed ∙ sym (ap request_of s.call);
      named = λ c e. let none = s.call in absurd (cc);
      waiting = λ m e. absurd (s.among m e);
      own = λ c e. let none = s.call in absurd (cc);
      elsewhere = λ m apart. reset m ∙ sym (s.held m);
    }
