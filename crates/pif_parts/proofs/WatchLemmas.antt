-- A watch that has heard some lines has heard one more, and tells where they are quiet.
use Rattle.std.proofs.Common.{ℕ, ◌≡◌, ◌∙◌, ◌==◌, ◌&&◌, ◌||◌, Bool, true, false, not, List, [], ◌∷◌, ◌++◌, filter, refl, sym, ap, eqb-true, if◌then◌else◌, subst}
use Rattle.std.proofs.lemmas.Bool.{true≢false, eq-eqb}
use Rattle.pif_model_lemmas.proofs.Waiting.{by_test}
use Rattle.pif_history_model.specs.declared.lines.Line.{Line}
use Rattle.pif_history_model.specs.declared.lines.Line.TheVariants.{Begin, Dying, End}
use Rattle.pif_history_model.specs.Lines.{is_among, dying_after, dying_by}
use Rattle.pif_parts_model.specs.Quiet.{IsIdle, IsOrderly, IsQuiet}
use Rattle.pif_parts.specs.declared.watch.Watch.{Watch}
use Rattle.pif_parts.specs.Calls.{call_in, AreApart}
use Rattle.pif_parts.specs.Holdings.{count_in, AreSome}
use Rattle.pif_parts.specs.Watching.{HasHeard, Hears, dying_list, is_calling, is_holding, is_idle, is_orderly, is_none, is_still}
use Rattle.pif_parts.proofs.CallLemmas.{calls_heard, changes_heard, none_open}
use Rattle.pif_parts.proofs.ToldLemmas.{apart_heard, changes_told, no_calls, no_holdings, not_calling, not_holding, some_heard}
use Rattle.pif_parts.proofs.HoldingLemmas.{held_heard, none_held}

-- TESTS

pub both_true : (a b : Bool) → (a && b) ≡ true → (a ≡ true) × (b ≡ true)
both_true true b e = (refl, e)
both_true false b e = absurd (true≢false (sym e))

not_true : (a : Bool) → not a ≡ true → a ≡ false
not_true true e = absurd (true≢false (sym e))
not_true false e = refl

-- WHO IS DYING

among_filter : (t v : ℕ) (us : List ℕ) → is_among (filter (λ u. not (u == t)) us) v ≡ (if t == v then false else is_among us v)
among_filter t v [] = by_test (λ b. false ≡ (if b then false else false)) (t == v) (λ _. refl) (λ _. refl)
among_filter t v (u ∷ us) =
    by_test (λ b. (u == t) ≡ b → is_among (if not b then u ∷ rest else rest) v ≡ (if t == v then false else is_among (u ∷ us) v)) (u == t)
    (λ _ e. among_filter t v us ∙ skipped (eqb-true u t e)) (λ _ e. kept (among_filter t v us) e) refl
  where
    rest : List ℕ
    rest = filter (λ x. not (x == t)) us

    skipped : u ≡ t → (if t == v then false else is_among us v) ≡ (if t == v then false else is_among (u ∷ us) v)
    skipped s =
        by_test (λ b. (t == v) ≡ b → (if b then false else is_among us v) ≡ (if b then false else ((u == v) || is_among us v))) (t == v)
        (λ _ _. refl) (λ _ d. ap (λ b. b || is_among us v) (sym (ap (λ n. n == v) s ∙ d))) refl

    kept : is_among rest v ≡ (if t == v then false else is_among us v) → (u == t) ≡ false
        → ((u == v) || is_among rest v) ≡ (if t == v then false else ((u == v) || is_among us v))
    kept others d =
        by_test (λ b. (u == v) ≡ b → (b || is_among rest v) ≡ (if t == v then false else (b || is_among us v))) (u == v)
        (λ _ e. by_test (λ b. (t == v) ≡ b → true ≡ (if b then false else true)) (t == v)
        (λ _ f. absurd (true≢false (sym (eq-eqb u t (eqb-true u v e ∙ sym (eqb-true t v f))) ∙ d))) (λ _ _. refl) refl)
        (λ _ _. others) refl

among_last : (t v : ℕ) (us : List ℕ) → is_among (us ++ t ∷ []) v ≡ is_among (t ∷ us) v
among_last t v [] = refl
among_last t v (u ∷ us) =
    ap (λ b. (u == v) || b) (among_last t v us)
    ∙ by_test (λ b. ((u == v) || (b || is_among us v)) ≡ (b || ((u == v) || is_among us v))) (t == v)
    (λ _. by_test (λ b. (b || true) ≡ true) (u == v) (λ _. refl) (λ _. refl)) (λ _. refl)

dying_heard : (line : Line) (us ds : List ℕ) → ((t : ℕ) → is_among us t ≡ is_among ds t) → (t : ℕ)
    → is_among (dying_list line us) t ≡ is_among (dying_after line ds) t
dying_heard (Dying u) us ds h t = among_last u t us ∙ ap (λ b. (u == t) || b) (h t)
dying_heard (End u) us ds h t =
    among_filter u t us ∙ ap (λ b. if u == t then false else b) (h t) ∙ sym (among_filter u t ds)
dying_heard _ us ds h t = h t

nobody_among : (ds : List ℕ) → ((t : ℕ) → false ≡ is_among ds t) → ds ≡ []
nobody_among [] h = refl
nobody_among (d ∷ ds) h = absurd (true≢false (sym (h d ∙ ap (λ b. b || is_among ds d) (eq-eqb d d refl))))

-- an empty list
none_is : {A : Type 0} (xs : List A) → is_none xs ≡ true → xs ≡ []
none_is [] e = refl
none_is (x ∷ xs) e = absurd (true≢false (sym e))

-- ORDER

module _ (lines : List Line) (w : Watch) (h : HasHeard lines w) where
  idle_heard : (t : ℕ) → is_idle t w.calls.items w.held.items ≡ true → IsIdle lines t
  idle_heard t e =
      let b = both_true (not (is_calling t w.calls.items)) (not (is_holding t w.held.items)) e in
      record {
        closed = sym (h.calls t) ∙ none_open t w.calls.items (not_true _ b.0);
        free = λ m. sym (h.held t m) ∙ none_held t m w.held.items (not_true _ b.1);
      }

  orderly_heard : (line : Line) → is_orderly line w.calls.items w.held.items ≡ true → IsOrderly line lines
  orderly_heard (Begin t q) e = changes_heard q lines w.calls.items h.calls e
  orderly_heard (Dying t) e = idle_heard t e
  orderly_heard (End t) e = idle_heard t e
  orderly_heard _ e = tt

  idle_told : (t : ℕ) → IsIdle lines t → is_idle t w.calls.items w.held.items ≡ true
  idle_told t e = λ i.
      not (not_calling t w.calls.items (h.calls t ∙ e.closed) i)
      && not (not_holding t w.held.items h.some (λ m. h.held t m ∙ e.free m) i)

  orderly_told : (line : Line) → IsOrderly line lines → is_orderly line w.calls.items w.held.items ≡ true
  orderly_told (Begin t q) e = changes_told q lines w.calls.items h.calls h.apart e
  orderly_told (Dying t) e = idle_told t e
  orderly_told (End t) e = idle_told t e
  orderly_told _ e = refl

  pub heard : (line : Line) (v : Watch) → Hears line w v → HasHeard (line ∷ lines) v
  heard line v x = record {
    calls = λ t. ap (λ ys. call_in ys t) x.calls ∙ calls_heard line lines w.calls.items h.calls t;
    apart = subst AreApart (sym x.calls) (apart_heard line w.calls.items h.apart);
    some = subst AreSome (sym x.held) (some_heard line w.calls.items w.held.items h.some);
    told = λ o. x.orderly ∙ (λ i. h.told o.1 i && orderly_told line o.0 i);
    held = λ t m. ap (λ ys. count_in ys t m) x.held ∙ held_heard line lines w.calls.items w.held.items h.calls h.held t m;
    dying = λ t. ap (λ ys. is_among ys t) x.dying ∙ dying_heard line w.dying.items (dying_by lines) h.dying t;
    orderly = λ e. let b = both_true w.orderly (is_orderly line w.calls.items w.held.items) (sym x.orderly ∙ e) in
        (orderly_heard line b.1, h.orderly b.0);
  }

  -- nothing is open, held or dying
  pub quiet : is_still w ≡ true → IsQuiet lines
  quiet e =
      let a = both_true w.orderly (is_none w.calls.items && (is_none w.held.items && is_none w.dying.items)) e in
      let b = both_true (is_none w.calls.items) (is_none w.held.items && is_none w.dying.items) a.1 in
      let d = both_true (is_none w.held.items) (is_none w.dying.items) b.1 in
      record {
        orderly = h.orderly a.0;
        idle = λ t. record {
          closed = sym (h.calls t) ∙ ap (λ ys. call_in ys t) (none_is w.calls.items b.0);
          free = λ m. sym (h.held t m) ∙ ap (λ ys. count_in ys t m) (none_is w.held.items d.0);
        };
        nobody_dying = nobody_among (dying_by lines) (λ t. ap (λ ys. is_among ys t) (sym (none_is w.dying.items d.1)) ∙ h.dying t);
      }

  pub quiet_told : IsQuiet lines → is_still w ≡ true
  quiet_told q =
      let none_open_now = no_calls w.calls.items (λ t. h.calls t ∙ (q.idle t).closed) in
      let none_held_now = no_holdings w.held.items h.some (λ t m. h.held t m ∙ (q.idle t).free m) in
      let none_dying = nobody_among w.dying.items (λ t. sym (h.dying t ∙ ap (λ ds. is_among ds t) q.nobody_dying)) in
      λ i. h.told q.orderly i && (is_none (none_open_now i) && (is_none (none_held_now i) && is_none (none_dying i)))
