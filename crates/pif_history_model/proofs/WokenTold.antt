-- What the lines that were shown tell of open calls: the request of each; and of a wait that was woken, and has not run
-- out of time, that it may have been. Changes of which moves and entries are made up keep that so.
use Rattle.std.proofs.Common.{ℕ, ◌≡◌, ◌≢◌, ◌⊎◌, ◌∙◌, ◌==◌, ◌<◌, ◌≤◌, Bool, true, false, not, List, length, get_or, set, Some, None, refl, sym, ap, subst, inl, inr, if◌then◌else◌}
use Rattle.std.proofs.lemmas.Bool.{true≢false, cases_eq, cases_lt}
use Rattle.std.proofs.lemmas.List.{get_or-set_same, get_or-set_other, get_or_past, set_past}
use Rattle.pif_types.specs.declared.requests.Request.{Request}
use Rattle.pif_types.specs.declared.requests.Request.TheVariants.{TimedWait}
use Rattle.pif_model.specs.Deadlines.{plain}
use Rattle.pif_model.specs.Projection.{is_wait}
use Rattle.pif_model.specs.Posix.{World, Thread, Progress, nobody, thread_at, at_progress, with_thread, HasCome, Comes}
use Rattle.pif_model.specs.World.Progress.{Waiting, Stuck, Leaving, Has, Enlisted, Reacquiring}
use Rattle.pif_model_lemmas.proofs.Waiting.{by_test}
use Rattle.pif_model_simulation.proofs.runs.Holding.{same_progress, same_request}
use Rattle.pif_history_model.specs.declared.lines.Line.{Line}
use Rattle.pif_history_model.specs.Wakeups.{waited_variable, open_request, HasOpenUse, MayBeWoken}
use Rattle.pif_history_model.proofs.Opening.{woken_by_use}

-- WHO WAS WOKEN

-- whether a wait that has come so far is blocked no more, and may still be answered 0
abbrev pub is_roused : Progress → Bool
is_roused (Enlisted still) = not still
is_roused Reacquiring = true
is_roused Waiting = true
is_roused Stuck = true
is_roused Leaving = true
is_roused (Has r) = r == 0
is_roused p = false

-- whether an open call is a wait that was woken, and has not run out of time
abbrev pub is_woken : Request → Progress → (expired : Bool) → Bool
is_woken q p expired = if expired then false else (if is_wait q then is_roused p else false)

-- what makes a woken call
pub not_expired : (q : Request) (p : Progress) (x : Bool) → is_woken q p x ≡ true → x ≡ false
not_expired q p true e = absurd (true≢false (sym e))
not_expired q p false e = refl

waits-from_woken : (q : Request) (p : Progress) (x : Bool) → is_woken q p x ≡ true → is_wait q ≡ true
waits-from_woken q p true e = absurd (true≢false (sym e))
waits-from_woken q p false e =
    by_test (λ b. (if b then is_roused p else false) ≡ true → b ≡ true) (is_wait q) (λ _ _. refl)
    (λ _ k. absurd (true≢false (sym k))) e

roused-from_woken : (q : Request) (p : Progress) (x : Bool) → is_woken q p x ≡ true → is_roused p ≡ true
roused-from_woken q p true e = absurd (true≢false (sym e))
roused-from_woken q p false e =
    by_test (λ b. (if b then is_roused p else false) ≡ true → is_roused p ≡ true) (is_wait q) (λ _ k. k)
    (λ _ k. absurd (true≢false (sym k))) e

-- a call that is no wait was not woken, nor one that isn't roused
other_not_woken : (q : Request) (p : Progress) (x : Bool) → is_wait q ≡ false → is_woken q p x ≡ true → ⊥
other_not_woken q p x not_so e = true≢false (sym (waits-from_woken q p x e) ∙ not_so)

pub unroused_not_woken : (q : Request) (p : Progress) (x : Bool) → is_roused p ≡ false → is_woken q p x ≡ true → ⊥
unroused_not_woken q p x not_so e = true≢false (sym (roused-from_woken q p x e) ∙ not_so)

-- a roused wait was woken, if it is somewhere behind
woken_before : (q : Request) (p o : Progress) (x : Bool) → is_roused p ≡ true → is_woken q o x ≡ true
    → is_woken q p x ≡ true
woken_before q p o x roused e =
    subst (λ b. is_woken q p b ≡ true) (sym (not_expired q o x e))
    (subst (λ b. (if b then is_roused p else false) ≡ true) (sym (waits-from_woken q o x e)) roused)

-- WHAT LINES TELL

-- a deadline doesn't change which variable is waited for
pub waited_plain : (q : Request) → waited_variable (plain q) ≡ waited_variable q
waited_plain (TimedWait c m d) = refl
waited_plain _ = refl

-- these lines tell of t's open call, whose plain request is q. If it is a woken wait, they tell how it may have been
pub record IsTold (lines : List Line) (t : ℕ) (q : Request) (woken : Bool) : Type 0 where
  pub request : Request
  pub is_open : open_request t lines ≡ Some request
  pub plainly : plain request ≡ q
  pub may : woken ≡ true → (c : ℕ) → waited_variable q ≡ Some c → MayBeWoken t c lines

-- a call of which less is known
pub told_less : {lines : List Line} {t : ℕ} {q : Request} (b k : Bool) → (k ≡ true → b ≡ true) → IsTold lines t q b
    → IsTold lines t q k
told_less b k h i = record { request = i.request; is_open = i.is_open; plainly = i.plainly; may = λ e. i.may (h e) }

-- a wait whose variable is in use may be woken
pub told_used : {lines : List Line} {t : ℕ} {q : Request} (b k : Bool)
    → ((c : ℕ) → waited_variable q ≡ Some c → HasOpenUse c lines) → IsTold lines t q b → IsTold lines t q k
told_used {lines} {t} {q} b k used i = record {
  request = i.request;
  is_open = i.is_open;
  plainly = i.plainly;
  may = λ _ c w.
      woken_by_use t c i.request lines i.is_open (sym (waited_plain i.request) ∙ ap waited_variable i.plainly ∙ w)
      (used c w);
}

-- lines tell of the open call of a thread, if it has one
abbrev pub IsThreadTold : List Line → ℕ → Thread → Type 0
IsThreadTold lines t y =
    (q : Request) (p : Progress) → y.call ≡ Some (record { request = q; progress = p })
    → IsTold lines t q (is_woken q p y.timer.expired)

-- they tell of each open call
pub record AreTold (lines : List Line) (w : World) : Type 0 where
  pub each : (t : ℕ) → IsThreadTold lines t (thread_at w t)

-- CHANGES

-- the same threads
pub told_same : {lines : List Line} {w v : World} → AreTold lines w → v.threads ≡ w.threads → AreTold lines v
told_same {lines} told e =
    record { each = λ t. subst (λ (ys : List Thread). IsThreadTold lines t (get_or ys t nobody)) (sym e) (told.each t) }

-- what holds of each thread holds of each once one is written, if it holds of that one, and of nobody
pub each_written : (P : ℕ → Thread → Type 0) (ys : List Thread) (t : ℕ) (y : Thread) → P t nobody → P t y
    → ((u : ℕ) → u ≢ t → P u (get_or ys u nobody)) → (u : ℕ) → P u (get_or (set ys t y) u nobody)
each_written P ys t y none own others u = go (cases_eq u t) (cases_lt t (length ys))
  where
    go : (u ≡ t) ⊎ (u ≢ t) → (t < length ys) ⊎ (length ys ≤ t) → P u (get_or (set ys t y) u nobody)
    go (inr d) _ = subst (λ (z : Thread). P u z) (sym (get_or-set_other ys t u y nobody d)) (others u d)
    go (inl e) (inl h) =
        subst (λ k. P k (get_or (set ys t y) k nobody)) (sym e)
        (subst (λ (z : Thread). P t z) (sym (get_or-set_same ys t y nobody h)) own)
    go (inl e) (inr h) =
        subst (λ k. P k (get_or (set ys t y) k nobody)) (sym e)
        (subst (λ (zs : List Thread). P t (get_or zs t nobody)) (sym (set_past ys t y h))
        (subst (λ (z : Thread). P t z) (sym (get_or_past ys t nobody h)) none))

-- a thread with no call open
pub no_call : {lines : List Line} (t : ℕ) (y : Thread) → y.call ≡ None → IsThreadTold lines t y
no_call t y none q p e = absurd (cc)

-- one thread is written
pub told_written : {lines : List Line} {w : World} (t : ℕ) (y : Thread) → AreTold lines w → IsThreadTold lines t y
    → AreTold lines (with_thread t y w)
told_written {lines} {w} t y told own =
    record { each = each_written (IsThreadTold lines) w.threads t y (no_call t nobody refl) own (λ u d. told.each u) }

-- a call comes further
pub told_comes : {lines : List Line} {w v : World} (t : ℕ) (q : Request) (p o : Progress) → AreTold lines w
    → HasCome w t q p
    → (is_woken q o (thread_at w t).timer.expired ≡ true → is_woken q p (thread_at w t).timer.expired ≡ true)
    → Comes t o w v → AreTold lines v
told_comes {lines} {w} t q p o told come h e =
    subst (λ (z : World). AreTold lines z) (sym e) (told_written t _ told own)
  where
    own : IsThreadTold lines t (record (thread_at w t) { call = at_progress o (thread_at w t).call })
    own r z f =
        let x = (thread_at w t).timer.expired in
        let comes : at_progress o (thread_at w t).call ≡ Some (record { request = q; progress = o }) =
        ap (at_progress o) come in
        let asked : q ≡ r = same_request comes f in
        let far : o ≡ z = same_progress comes f in
        subst (λ k. IsTold lines t k (is_woken k z x)) asked
        (subst (λ (k : Progress). IsTold lines t q (is_woken q k x)) far
        (told_less (is_woken q p x) (is_woken q o x) h (told.each t q p come)))

-- t's open call, which may come anywhere: it is no wait, or is roused
pub record Mover (t : ℕ) (w : World) : Type 0 where
  pub request : Request
  pub progress : Progress
  pub come : HasCome w t request progress
  pub anywhere : (is_wait request ≡ false) ⊎ (is_roused progress ≡ true)

-- such a call comes further
pub told_moves : {lines : List Line} {t : ℕ} {w v : World} (x : Mover t w) (o : Progress) → AreTold lines w
    → Comes t o w v
    → AreTold lines v
told_moves {lines} {t} {w} {v} x o told e = told_comes t x.request x.progress o told x.come (go x.anywhere) e
  where
    go : (is_wait x.request ≡ false) ⊎ (is_roused x.progress ≡ true)
        → is_woken x.request o (thread_at w t).timer.expired ≡ true
        → is_woken x.request x.progress (thread_at w t).timer.expired ≡ true
    go (inl n) k = absurd (other_not_woken x.request o (thread_at w t).timer.expired n k)
    go (inr r) k = woken_before x.request x.progress o (thread_at w t).timer.expired r k
