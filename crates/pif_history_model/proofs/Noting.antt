-- A run is followed by one in which a wait is noted only if that may matter. A note that doesn't matter is left out, so
-- that its thread lags. It is made up for before a use of its variable, and before the wait expires.
use Rattle.std.proofs.Common.{ℕ, zero, suc, ◌≡◌, ◌≢◌, ◌<◌, ◌==◌, ◌∙◌, nat_lt, Bool, true, false, List, [], ◌∷◌, ◌++◌, length, get_or, Option, Some, None, is_some, inl, inr, refl, sym, subst, ap, arith, eqb-true, if◌then◌else◌}
use Rattle.std.proofs.lemmas.Bool.{true≢false, cases_eq, eq-eqb, lt-ltb}
use Rattle.std.proofs.lemmas.List.{get_or-set_same, get_or-set_other, length-set}
use Rattle.pif_types.specs.Bounds.{Bounds}
use Rattle.pif_types.specs.declared.requests.Request.{Request}
use Rattle.pif_types.specs.declared.requests.Request.TheVariants.{Wait}
use Rattle.pif_model.specs.declared.events.Event.TheVariants as event
use Rattle.pif_model.specs.Refusals.{go_refused}
use Rattle.pif_model.specs.Deadlines.{is_reached}
use Rattle.pif_model.specs.Posix.{World, Thread, Call, Progress, nobody, thread_at, with_progress, at_progress, is_thread, is_newly_blocked, is_use, is_due, is_counting, counts_now, variable_of, HasCome, Comes, IsAllowed, Effect, Expires}
use Rattle.pif_model.specs.World.Progress.{Fresh, Waiting, Stuck, Leaving, Has, Checked, Enlisted, Blocked, Reacquiring, Used}
use Rattle.pif_model.specs.Posix.Effect.{lock, try_lock, unlock, consistent, set_prio, check_wait, enlist, give_up, lock_again, use_variable, choose, leave}
use Rattle.pif_model_lemmas.proofs.Waiting.{by_test}
use Rattle.pif_posix_steps.specs.Once.{MovesOnce, Acts}
use Rattle.pif_posix_steps.specs.Once.Acts.{effect, expires, notes}
use Rattle.pif_posix_steps.proofs.AlikeMoves.{other}
use Rattle.pif_search.specs.Runs.{Runs, shown}
use Rattle.pif_history_model.specs.declared.labels.Label.{Label}
use Rattle.pif_history_model.specs.declared.labels.Label.TheVariants.{Moves}
use Rattle.pif_history_model.specs.Searched.{hides}
use Rattle.pif_history_model.specs.Plain.PlainAdvances.{moves}
use Rattle.pif_history_model.specs.Queues.{is_taken}
use Rattle.pif_history_model.specs.Notes.{is_unnoted, awaits_note, is_fresh, will_use, variable_of_call, used_below, is_used_soon, is_asked, Needs}
use Rattle.pif_history_model.proofs.Running.{Runs-append, shown-append}
use Rattle.pif_history_model.proofs.Completeness.{at}
use Rattle.pif_history_model.proofs.Lagging.{IsBehind, AreBehind, IsCaught, blocked_call, set_one, place_by, place_of_living}
use Rattle.pif_history_model.proofs.Lagging.IsBehind.{same, lags}
use Rattle.pif_history_model.proofs.LaggingMoves.{Follows, is_noted, has_note, IsReady, same_thread, same_go, same_due, follows_Effect, follows_Expires}

-- BOOLEANS

either : (b s : Bool) → s ≡ true → (if b then true else s) ≡ true
either true s h = refl
either false s h = h

-- both tests hold
both : (b c : Bool) → (if b then c else false) ≡ true → (b ≡ true) × (c ≡ true)
both true c e = (refl, e)
both false c e = absurd (true≢false (sym e))

-- somebody who is about to use c is one of those
used_at : (w : World) (c t : ℕ) → will_use c (thread_at w t).call ≡ true → (n : ℕ) → t < n → used_below w c n ≡ true
used_at w c t e zero lt = absurd (none lt)
  where
    none : t < 0 → ⊥
    none lt = omega (arith, lt)
used_at w c t e (suc n) lt =
    elim (cases_eq t n) [
      | inl is ↦
          ap (λ (b : Bool). if b then true else used_below w c n) (subst (λ (j : ℕ). will_use c (thread_at w j).call ≡ true) is e)
      | inr ne ↦ either (will_use c (thread_at w n).call) (used_below w c n) (used_at w c t e n (omega (arith, lt, ne)))
    ]

-- WHO AWAITS A NOTE

-- who has an effect was not noted, and doesn't await it
effect_awake : {t : ℕ} {w v : World} → Effect t w v → (has_note (thread_at w t).call ≡ false) × (awaits_note (thread_at w t).call ≡ false)
effect_awake (lock m c x) = (ap has_note c, ap awaits_note c)
effect_awake (try_lock m c x) = (ap has_note c, ap awaits_note c)
effect_awake (unlock m c x) = (ap has_note c, ap awaits_note c)
effect_awake (consistent m c x) = (ap has_note c, ap awaits_note c)
effect_awake (set_prio u p c x) = (ap has_note c, ap awaits_note c)
effect_awake (check_wait d m c x) = (ap has_note c, ap awaits_note c)
effect_awake (enlist d m c e) = (ap has_note c, ap awaits_note c)
effect_awake (give_up d m still c x) = (ap has_note c, ap awaits_note c)
effect_awake (lock_again d m c x) = (ap has_note c, ap awaits_note c)
effect_awake (use_variable q c u x) = (ap has_note c, ap awaits_note c)
effect_awake (choose q c x) = (ap has_note c, ap awaits_note c)
effect_awake (leave q c x) = (ap has_note c, ap awaits_note c)

-- whose deadline counts doesn't await it
counts_blocked : (q : Request) → counts_now q (Blocked false) ≡ true → true ≡ false
counts_blocked (Wait c m) e = sym e
counts_blocked _ e = sym e

counting_awaits : (q : Request) (p : Progress) → counts_now q p ≡ true → is_unnoted p ≡ false
counting_awaits q (Blocked true) e = refl
counting_awaits q (Blocked false) e = counts_blocked q e
counting_awaits q Fresh e = refl
counting_awaits q Waiting e = refl
counting_awaits q Stuck e = refl
counting_awaits q Leaving e = refl
counting_awaits q (Has a) e = refl
counting_awaits q Checked e = refl
counting_awaits q (Enlisted still) e = refl
counting_awaits q Reacquiring e = refl
counting_awaits q Used e = refl

awake_call : (o : Option Call) → is_counting o ≡ true → awaits_note o ≡ false
awake_call None e = refl
awake_call (Some x) e = counting_awaits x.request x.progress e

-- NOTES THAT ARE MADE UP FOR

-- the search goes on from these threads in this state of the others, to those, by hidden steps
record Reaches (l : Bounds) (all : Bool) (w : World) (us : List ℕ) (ys zs : List Thread) : Type 0 where
  labels : List Label
  run : Runs (Needs l all) (at (other ys w) us) labels (at (other zs w) us)
  hidden : shown hides labels ≡ []

reaches_itself : (l : Bounds) (all : Bool) (w : World) (us : List ℕ) (ys : List Thread) → Reaches l all w us ys ys
reaches_itself l all w us ys = record { labels = []; run = refl; hidden = refl }

-- the threads once that of t is noted
abbrev noted : ℕ → World → List Thread → List Thread
noted t w ys = (with_progress t (Blocked true) (other ys w)).threads

-- who lags may go on
go_by : (known living busy : Bool) → known ≡ true → living ≡ true → busy ≡ true → go_refused known living busy ≡ None
go_by known living busy a b c = λ i. go_refused (a i) (b i) (c i)

module _ (l : Bounds) (all : Bool) (w : World) (us : List ℕ) (ys : List Thread) (a : AreBehind w.threads ys) where
  -- a thread that lags, and may be noted, is noted
  one_noted : (t c m : ℕ) → (t == 0) ≡ false → (thread_at w t).living ≡ true → (thread_at w t).call ≡ blocked_call c m true
      → get_or ys t nobody ≡ record (thread_at w t) { call = blocked_call c m false } → is_asked (other ys w) t ≡ true
      → Reaches l all w us ys (noted t w ys)
  one_noted t c m n lives e k asked =
      let call : HasCome (other ys w) t (Wait c m) (Blocked false) = ap (λ (z : Thread). z.call) k in
      let lt : t < length w.threads = place_of_living w.threads t lives in
      let known : is_thread w t ≡ true = (λ i. if n i then false else nat_lt t (length w.threads)) ∙ lt-ltb t (length w.threads) lt in
      let allowed : IsAllowed (other ys w) (event.Go t) =
      same_go w ys a t ∙ go_by _ _ _ known lives (ap is_some e) in
      let step : Needs l all (at (other ys w) us) (Moves t) (at (other (noted t w ys) w) us) = record {
        advances = moves t (other (noted t w ys) w) refl (record { allowed = allowed; acts = notes c m call refl }) refl;
        needed = ap (λ (b : Bool). if b then is_asked (other ys w) t else is_taken all (Moves t) (at (other (noted t w ys) w) us)) (ap awaits_note call) ∙ asked;
      } in
      record { labels = Moves t ∷ []; run = (at (other ys w) us, refl, step); hidden = refl }

  -- it lags no more
  noted_thread : (t c m : ℕ) → (thread_at w t).call ≡ blocked_call c m true
      → get_or ys t nobody ≡ record (thread_at w t) { call = blocked_call c m false }
      → record (get_or ys t nobody) { call = at_progress (Blocked true) (get_or ys t nobody).call } ≡ thread_at w t
  noted_thread t c m e k =
      (λ i. record (k i) { call = at_progress (Blocked true) (k i).call }) ∙ (λ i. record (thread_at w t) { call = sym e i })

  noted_behind : (t c m : ℕ) → (thread_at w t).call ≡ blocked_call c m true
      → get_or ys t nobody ≡ record (thread_at w t) { call = blocked_call c m false } → AreBehind w.threads (noted t w ys)
  noted_behind t c m e k = record {
    size = a.size ∙ sym (length-set ys t _);
    each = set_one (λ u z. IsBehind u (thread_at w u) z) ys t _ (same (sym (noted_thread t c m e k))) a.each;
  }

  noted_there : (t c m : ℕ) → (thread_at w t).living ≡ true → (thread_at w t).call ≡ blocked_call c m true
      → get_or ys t nobody ≡ record (thread_at w t) { call = blocked_call c m false } → get_or (noted t w ys) t nobody ≡ thread_at w t
  noted_there t c m lives e k =
      let lt : t < length w.threads = place_of_living w.threads t lives in
      get_or-set_same ys t _ nobody (omega (arith, lt, a.size)) ∙ noted_thread t c m e k

-- no wait of the threads below n lags on c
record Catches (l : Bounds) (all : Bool) (w : World) (us : List ℕ) (ys : List Thread) (c n : ℕ) : Type 0 where
  threads : List Thread
  reaches : Reaches l all w us ys threads
  behind : AreBehind w.threads threads
  caught : (u : ℕ) → u < n → IsCaught c (thread_at w u) (get_or threads u nobody)

-- one way after another
reaches_on : (l : Bounds) (all : Bool) (w : World) (us : List ℕ) (ys zs vs : List Thread) → Reaches l all w us ys zs → Reaches l all w us zs vs
    → Reaches l all w us ys vs
reaches_on l all w us ys zs vs x y = record {
  labels = y.labels ++ x.labels;
  run = Runs-append (Needs l all) (at (other ys w) us) (at (other zs w) us) (at (other vs w) us) x.labels y.labels x.run y.run;
  hidden = shown-append hides y.labels x.labels ∙ (λ i. y.hidden i ++ x.hidden i);
}

module _ (l : Bounds) (all : Bool) (w : World) (us : List ℕ) (t : ℕ) (c : ℕ) (uses : will_use c (thread_at w t).call ≡ true) where
  -- who is about to use a variable is so if others lag
  used_soon : (zs : List Thread) → AreBehind w.threads zs → is_used_soon (other zs w) c ≡ true
  used_soon zs a =
      used_at (other zs w) c t (ap (λ (z : Thread). will_use c z.call) (same_thread w zs a t (quiet (thread_at w t).call uses)) ∙ uses)
      (length zs) (omega (arith, place_by (λ (z : Thread). will_use c z.call) refl w.threads t uses, a.size))
    where
      quiet : (o : Option Call) → will_use c o ≡ true → has_note o ≡ false
      quiet None e = refl
      quiet (Some x) e = by_progress x.progress (both (is_fresh x.progress) (variable_of x.request == c) (both (is_use x.request) _ e).1).0
        where
          by_progress : (p : Progress) → is_fresh p ≡ true → is_noted p ≡ false
          by_progress Fresh e = refl
          by_progress Waiting e = refl
          by_progress Stuck e = refl
          by_progress Leaving e = refl
          by_progress (Has a) e = refl
          by_progress Checked e = refl
          by_progress (Enlisted still) e = refl
          by_progress (Blocked noted) e = absurd (true≢false (sym e))
          by_progress Reacquiring e = refl
          by_progress Used e = refl

  -- one thread more
  caught_there : (n : ℕ) (zs : List Thread) → ((u : ℕ) → u < n → IsCaught c (thread_at w u) (get_or zs u nobody))
      → IsCaught c (thread_at w n) (get_or zs n nobody) → (u : ℕ) → u < suc n → IsCaught c (thread_at w u) (get_or zs u nobody)
  caught_there n zs before now u lt =
      elim (cases_eq u n) [
        | inl e ↦ subst (λ (j : ℕ). IsCaught c (thread_at w j) (get_or zs j nobody)) (sym e) now
        | inr ne ↦ before u (omega (arith, lt, ne))
      ]

  caught_one : (ys : List Thread) (n : ℕ) → (k : Catches l all w us ys c n)
      → IsBehind n (thread_at w n) (get_or k.threads n nobody) → Catches l all w us ys c (suc n)
  caught_one ys n k (same e) = record {
    threads = k.threads;
    reaches = k.reaches;
    behind = k.behind;
    caught = caught_there n k.threads k.caught (ap (λ (z : Thread). is_newly_blocked c z.call) (sym e));
  }
  caught_one ys n k (lags d m nz lives e f) =
      by_test (λ b. (d == c) ≡ b → Catches l all w us ys c (suc n)) (d == c) (λ _ is. on_it (eqb-true d c is)) (λ _ is. elsewhere is) refl
    where
      elsewhere : (d == c) ≡ false → Catches l all w us ys c (suc n)
      elsewhere is =
          let mine : is_newly_blocked c (thread_at w n).call ≡ false = ap (is_newly_blocked c) e in
          let its : is_newly_blocked c (get_or k.threads n nobody).call ≡ false =
          ap (λ (z : Thread). is_newly_blocked c z.call) f ∙ is in
          record {
            threads = k.threads;
            reaches = k.reaches;
            behind = k.behind;
            caught = caught_there n k.threads k.caught (its ∙ sym mine);
          }

      on_it : d ≡ c → Catches l all w us ys c (suc n)
      on_it is =
          let zs : List Thread = noted n w k.threads in
          let names : variable_of_call (get_or k.threads n nobody).call ≡ c = ap (λ (z : Thread). variable_of_call z.call) f ∙ is in
          let asked : is_asked (other k.threads w) n ≡ true =
          either (is_reached (get_or k.threads n nobody).timer.deadline w.time) _ (ap (is_used_soon (other k.threads w)) names ∙ used_soon k.threads k.behind) in
          let there : get_or zs n nobody ≡ thread_at w n = noted_there l all w us k.threads k.behind n d m lives e f in
          record {
            threads = zs;
            reaches = reaches_on l all w us ys k.threads zs k.reaches (one_noted l all w us k.threads k.behind n d m nz lives e f asked);
            behind = noted_behind l all w us k.threads k.behind n d m e f;
            caught = caught_there n zs (λ u lt.
                let ne : u ≢ n = λ h. not_below n (subst (λ (j : ℕ). j < n) h lt) in
                ap (λ (z : Thread). is_newly_blocked c z.call) (get_or-set_other k.threads n u _ nobody ne) ∙ k.caught u lt)
                (ap (λ (z : Thread). is_newly_blocked c z.call) there);
          }
        where
          not_below : (n : ℕ) → n < n → ⊥
          not_below n lt = omega (arith, lt)

  caught_below : (ys : List Thread) → AreBehind w.threads ys → (n : ℕ) → Catches l all w us ys c n
  caught_below ys a zero = record {
    threads = ys;
    reaches = reaches_itself l all w us ys;
    behind = a;
    caught = λ u lt. absurd (none u lt);
  }
    where
      none : (u : ℕ) → u < 0 → ⊥
      none u lt = omega (arith, lt)
  caught_below ys a (suc n) = let k = caught_below ys a n in caught_one ys n k (k.behind.each n)

  -- all threads are caught
  caught_all : (zs : List Thread) → AreBehind w.threads zs → ((u : ℕ) → u < length w.threads → IsCaught c (thread_at w u) (get_or zs u nobody))
      → (u : ℕ) → IsCaught c (thread_at w u) (get_or zs u nobody)
  caught_all zs a k u = by (a.each u)
    where
      by : IsBehind u (thread_at w u) (get_or zs u nobody) → IsCaught c (thread_at w u) (get_or zs u nobody)
      by (same e) = ap (λ (z : Thread). is_newly_blocked c z.call) (sym e)
      by (lags d m nz lives e f) = k u (place_of_living w.threads u lives)

-- MOVES

-- one step is followed by hidden steps, from threads that lag to threads that lag
pub record Lags (l : Bounds) (all : Bool) (w v : World) (us : List ℕ) (ys : List Thread) : Type 0 where
  pub threads : List Thread
  pub labels : List Label
  pub run : Runs (Needs l all) (at (other ys w) us) labels (at (other threads v) us)
  pub hidden : shown hides labels ≡ []
  pub behind : AreBehind v.threads threads

-- whose variable is its own
uses_own : (o : Option Call) (q : Request) → o ≡ Some (record { request = q; progress = Fresh }) → is_use q ≡ true
    → will_use (variable_of_call o) o ≡ true
uses_own o q e u =
    ap (λ (x : Option Call). will_use (variable_of_call x) x) e
    ∙ (λ i. if u i then variable_of q == variable_of q else false) ∙ eq-eqb (variable_of q) (variable_of q) refl

module _ (l : Bounds) (all : Bool) (w : World) (us : List ℕ) (t : ℕ) (v : World) (ys : List Thread) (a : AreBehind w.threads ys)
    (taken : is_taken all (Moves t) (at v us) ≡ true) where
  -- the last step is a move of t, which awaits no note
  last_step : (zs vs : List Thread) → awaits_note (thread_at (other zs w) t).call ≡ false → MovesOnce t (other zs w) (other vs v)
      → Needs l all (at (other zs w) us) (Moves t) (at (other vs v) us)
  last_step zs vs none m = record {
    advances = moves t (other vs v) refl m refl;
    needed = ap (λ (b : Bool). if b then is_asked (other zs w) t else is_taken all (Moves t) (at (other vs v) us)) none ∙ taken;
  }

  step_after : (zs : List Thread) → Reaches l all w us ys zs → awaits_note (thread_at (other zs w) t).call ≡ false
      → Follows (MovesOnce t) w zs v → Lags l all w v us ys
  step_after zs r none f = record {
    threads = f.threads;
    labels = Moves t ∷ r.labels;
    run = (at (other zs w) us, r.run, last_step zs f.threads none f.step);
    hidden = r.hidden;
    behind = f.behind;
  }

  lags_effect : IsAllowed w (event.Go t) → Effect t w v → Lags l all w v us ys
  lags_effect allowed x =
      by_test (λ b. will_use (variable_of_call (thread_at w t).call) (thread_at w t).call ≡ b → Lags l all w v us ys)
      (will_use (variable_of_call (thread_at w t).call) (thread_at w t).call)
      (λ _ uses. after_catching uses) (λ _ none. at_once none) refl
    where
      awake : (zs : List Thread) (b : AreBehind w.threads zs) → awaits_note (thread_at (other zs w) t).call ≡ false
      awake zs b = ap (λ (z : Thread). awaits_note z.call) (same_thread w zs b t (effect_awake x).0) ∙ (effect_awake x).1

      go : (zs : List Thread) (b : AreBehind w.threads zs) → Reaches l all w us ys zs → IsReady w zs b t → Lags l all w v us ys
      go zs b r ready =
          let f = follows_Effect w zs b t ready x in
          step_after zs r (awake zs b) (record {
            threads = f.threads;
            step = record { allowed = same_go w zs b t ∙ allowed; acts = effect f.step };
            behind = f.behind;
          })

      at_once : will_use (variable_of_call (thread_at w t).call) (thread_at w t).call ≡ false → Lags l all w v us ys
      at_once none =
          go ys a (reaches_itself l all w us ys) (λ q h u. absurd (true≢false (sym (uses_own (thread_at w t).call q h u) ∙ none)))

      after_catching : will_use (variable_of_call (thread_at w t).call) (thread_at w t).call ≡ true → Lags l all w v us ys
      after_catching uses =
          let c : ℕ = variable_of_call (thread_at w t).call in
          let k = caught_below l all w us t c uses ys a (length w.threads) in
          go k.threads k.behind k.reaches (λ q h u.
          subst (λ (d : ℕ). (j : ℕ) → IsCaught d (thread_at w j) (get_or k.threads j nobody)) (ap variable_of_call h)
          (caught_all l all w us t c uses k.threads k.behind k.caught))

  lags_expiry : IsAllowed w (event.Go t) → is_due w t ≡ true → Expires t w v → Lags l all w v us ys
  lags_expiry allowed due x = by (a.each t)
    where
      parts : (is_reached (thread_at w t).timer.deadline w.time ≡ true) × (is_counting (thread_at w t).call ≡ true)
      parts = both (is_reached (thread_at w t).timer.deadline w.time) (is_counting (thread_at w t).call) due

      go : (zs : List Thread) (b : AreBehind w.threads zs) → Reaches l all w us ys zs → get_or zs t nobody ≡ thread_at w t → Lags l all w v us ys
      go zs b r s =
          let f = follows_Expires w zs b t s x in
          step_after zs r (ap (λ (z : Thread). awaits_note z.call) s ∙ awake_call (thread_at w t).call parts.1) (record {
            threads = f.threads;
            step = record { allowed = same_go w zs b t ∙ allowed; acts = expires (same_due w zs b t s ∙ due) f.step };
            behind = f.behind;
          })

      by : IsBehind t (thread_at w t) (get_or ys t nobody) → Lags l all w v us ys
      by (same e) = go ys a (reaches_itself l all w us ys) (sym e)
      by (lags c m n lives e k) =
          let asked : is_asked (other ys w) t ≡ true =
          ap (λ (b : Bool). if b then true else is_used_soon (other ys w) (variable_of_call (get_or ys t nobody).call))
          (ap (λ (z : Thread). is_reached z.timer.deadline w.time) k ∙ parts.0) in
          go (noted t w ys) (noted_behind l all w us ys a t c m e k) (one_noted l all w us ys a t c m n lives e k asked)
          (noted_there l all w us ys a t c m lives e k)

-- a thread that is noted alone lags
noted_alone : (w v : World) (t c m : ℕ) (ys : List Thread) → AreBehind w.threads ys → IsAllowed w (event.Go t)
    → HasCome w t (Wait c m) (Blocked false) → Comes t (Blocked true) w v → AreBehind v.threads ys
noted_alone w v t c m ys a allowed h e =
    subst (λ (z : World). AreBehind z.threads ys) (sym e) (record {
      size = length-set w.threads t _ ∙ a.size;
      each = set_one (λ u z. IsBehind u z (get_or ys u nobody)) w.threads t _ here a.each;
    })
  where
    parts : (known living busy : Bool) → go_refused known living busy ≡ None → (known ≡ true) × (living ≡ true)
    parts true true busy e = (refl, refl)
    parts true false busy e = absurd (cc)
    parts false living busy e = absurd (cc)

    somebody : (b k : Bool) → (if b then false else k) ≡ true → b ≡ false
    somebody true k e = absurd (true≢false (sym e))
    somebody false k e = refl

    here : IsBehind t (record (thread_at w t) { call = at_progress (Blocked true) (thread_at w t).call }) (get_or ys t nobody)
    here =
        let p = parts _ _ _ allowed in
        lags c m (somebody (t == 0) _ p.0) p.1 (ap (at_progress (Blocked true)) h)
        (same_thread w ys a t (ap has_note h) ∙ (λ i. record (thread_at w t) { call = h i }))

pub lags_move : (l : Bounds) (all : Bool) (w v : World) (us : List ℕ) (t : ℕ) (ys : List Thread) → AreBehind w.threads ys
    → is_taken all (Moves t) (at v us) ≡ true → MovesOnce t w v → Lags l all w v us ys
lags_move l all w v us t ys a taken m = by m.acts
  where
    by : Acts t w v → Lags l all w v us ys
    by (effect x) = lags_effect l all w us t v ys a taken m.allowed x
    by (expires due x) = lags_expiry l all w us t v ys a taken m.allowed due x
    by (notes c d h e) =
        subst (λ (z : World). Lags l all w z us ys) (sym e) (record {
          threads = ys;
          labels = [];
          run = refl;
          hidden = refl;
          behind = noted_alone w _ t c d ys a m.allowed h refl;
        })
