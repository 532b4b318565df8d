-- What is known of open calls is so behind one more line, and lines that it refutes are shown by no run.
use Rattle.std.proofs.Common.{ℕ, zero, suc, ◌≡◌, ◌≢◌, ◌<◌, ◌+◌, ◌∙◌, ◌==◌, Bool, true, false, List, [], ◌∷◌, ◌++◌, length, map, set, get_or, slice_get, take, reverse, Option, Some, None, refl, sym, ap, subst, arith, if◌then◌else◌}
use Rattle.std.specs.List.{list_any}
use Rattle.std.specs.Option.{option_map}
use Rattle.std.proofs.Math.Bool.{or-true}
use Rattle.std.proofs.lemmas.Bool.{eqb-true, eqb-false, true≢false}
use Rattle.std.proofs.lemmas.List.{take_more, reverse-append, length-map}
use Rattle.std.proofs.lemmas.Option.{slice_get-map}
use Rattle.pif_types.specs.Bounds.{Bounds}
use Rattle.pif_types.specs.declared.requests.Request.{Request}
use Rattle.pif_types.specs.declared.requests.Request.TheVariants.{Wait, Signal, Broadcast, TimedWait}
use Rattle.pif_history_model.specs.declared.lines.Line.{Line}
use Rattle.pif_history_model.specs.declared.lines.Line.TheVariants.{Thread, Begin, Answer}
use Rattle.pif_history_model.specs.Shown.{IsShown}
use Rattle.pif_history_model.specs.Wakeups.{open_request, request_after, waited_variable, is_use_of, begins, begins_use, HasOpenUse, MayBeWoken}
use Rattle.pif_history_model.specs.Wakeups.MayBeWoken.{found, used, before}
use Rattle.pif_history_model.proofs.Returning.{woken-from_shown}
use Rattle.pif_history_machine.specs.declared.wakeups.OpenCall.{OpenCall}
use Rattle.pif_history_machine.specs.declared.wakeups.OpenCall.TheVariants.{Unwoken, Use, Other}
use Rattle.pif_history_machine.specs.Wakeups.{is_use, once_used, wait_begun, begun, once_begun, heard, WasAdded, is_unwoken, is_refuted, IsUnwoken, AreCalls, IsRefutedAt}

-- LISTS BY PLACE

get_set_same : {X : Type 0} (xs : List X) (i : ℕ) (y : X) → i < length xs → slice_get (set xs i y) i ≡ Some y
get_set_same [] i y lt = absurd (omega (arith, lt))
get_set_same (x ∷ xs) zero y lt = refl
get_set_same (x ∷ xs) (suc i) y lt = get_set_same xs i y (omega (arith, lt))

get_set_other : {X : Type 0} (xs : List X) (i j : ℕ) (y : X) → j ≢ i → slice_get (set xs i y) j ≡ slice_get xs j
get_set_other [] i j y n = refl
get_set_other (x ∷ xs) zero zero y n = absurd (n refl)
get_set_other (x ∷ xs) zero (suc j) y n = refl
get_set_other (x ∷ xs) (suc i) zero y n = refl
get_set_other (x ∷ xs) (suc i) (suc j) y n = get_set_other xs i j y (λ e. n (ap suc e))

-- what is found at a place that was set is what was put there
get_set_some : {X : Type 0} (xs : List X) (i : ℕ) (y x : X) → slice_get (set xs i y) i ≡ Some x → y ≡ x
get_set_some [] i y x e = absurd (cc)
get_set_some (z ∷ xs) zero y x e = cc
get_set_some (z ∷ xs) (suc i) y x e = get_set_some xs i y x e

-- one more at the end
get_front : {X : Type 0} (xs : List X) (y x : X) (i : ℕ) → slice_get xs i ≡ Some x → slice_get (xs ++ y ∷ []) i ≡ Some x
get_front [] y x i e = absurd (cc)
get_front (z ∷ xs) y x zero e = e
get_front (z ∷ xs) y x (suc i) e = get_front xs y x i e

get_pushed : {X : Type 0} (xs : List X) (y x : X) (i : ℕ) → (y ≡ x → ⊥) → slice_get (xs ++ y ∷ []) i ≡ Some x
    → slice_get xs i ≡ Some x
get_pushed [] y x zero n e = absurd (n (let same : y ≡ x = cc in same))
get_pushed [] y x (suc i) n e = absurd (cc)
get_pushed (z ∷ xs) y x zero n e = e
get_pushed (z ∷ xs) y x (suc i) n e = get_pushed xs y x i n e

-- an item that passes a test
any_at : {X : Type 0} (test : X → Bool) (xs : List X) (i : ℕ) (x : X) → slice_get xs i ≡ Some x → test x ≡ true
    → list_any test xs ≡ true
any_at test [] i x e h = absurd (cc)
any_at test (y ∷ xs) zero x e h =
    let same : y ≡ x = cc in
    rw (same, h) refl
any_at test (y ∷ xs) (suc i) x e h = rw (any_at test xs i x e h) (or-true (test y))

-- USES

same_number : (n : ℕ) → (n == n) ≡ true
same_number n = go (n == n) refl
  where
    go : (b : Bool) → (n == n) ≡ b → (n == n) ≡ true
    go true e = e
    go false e = absurd (eqb-false n n e refl)

-- if no open call uses c, none does by the lines
no_use : (lines : List Line) (calls : List OpenCall) (c : ℕ) → AreCalls lines calls → list_any (is_use c) calls ≡ false
    → HasOpenUse c lines → ⊥
no_use lines calls c a none h =
    let there = a.uses h.thread c h.request h.is_open h.uses in
    true≢false (sym (any_at (is_use c) calls h.thread (Use c) there (same_number c)) ∙ none)

-- the uses that were there are there once another call begins
use_stays : (d c t : ℕ) (calls : List OpenCall) → slice_get calls t ≡ Some (Use c)
    → slice_get (map (once_used d) calls) t ≡ Some (Use c)
use_stays d c t calls e = slice_get-map (once_used d) calls t ∙ ap (option_map (once_used d)) e

use_stays_begun : (q : Request) (c t : ℕ) (calls : List OpenCall) → slice_get calls t ≡ Some (Use c)
    → slice_get (once_begun q calls) t ≡ Some (Use c)
use_stays_begun (Signal d) c t calls e = use_stays d c t calls e
use_stays_begun (Broadcast d) c t calls e = use_stays d c t calls e
use_stays_begun q c t calls e = e

use_begins : (q : Request) (c : ℕ) (calls : List OpenCall) → is_use_of c q ≡ true → begun calls q ≡ Use c
use_begins (Signal d) c calls h = ap (λ (k : ℕ). Use k) (eqb-true d c h)
use_begins (Broadcast d) c calls h = ap (λ (k : ℕ). Use k) (eqb-true d c h)
use_begins q c calls h = absurd (cc)

-- WAITS

-- a wait that isn't woken was there before, and its variable isn't used
was_unwoken : (d c : ℕ) (call : Option OpenCall) → option_map (once_used d) call ≡ Some (Unwoken c)
    → (call ≡ Some (Unwoken c)) × ((d == c) ≡ false)
was_unwoken d c None e = absurd (cc)
was_unwoken d c (Some (Use k)) e = absurd (cc)
was_unwoken d c (Some Other) e = absurd (cc)
was_unwoken d c (Some (Unwoken k)) e = go (d == k) refl (let f : once_used d (Unwoken k) ≡ Unwoken c = cc in f)
  where
    go : (b : Bool) → (d == k) ≡ b → (if b then Other else Unwoken k) ≡ Unwoken c
        → (Some (Unwoken k) ≡ Some (Unwoken c)) × ((d == c) ≡ false)
    go true h f = absurd (cc)
    go false h f =
        let same : k ≡ c = cc in
        (ap (λ (n : ℕ). Some (Unwoken n)) same, subst (λ n. (d == n) ≡ false) same h)

unwoken_by_use : (d c t : ℕ) (calls : List OpenCall) → slice_get (map (once_used d) calls) t ≡ Some (Unwoken c)
    → (slice_get calls t ≡ Some (Unwoken c)) × ((d == c) ≡ false)
unwoken_by_use d c t calls e = was_unwoken d c (slice_get calls t) (sym (slice_get-map (once_used d) calls t) ∙ e)

unwoken_before : (q : Request) (c t : ℕ) (calls : List OpenCall) → slice_get (once_begun q calls) t ≡ Some (Unwoken c)
    → (slice_get calls t ≡ Some (Unwoken c)) × (is_use_of c q ≡ false)
unwoken_before (Signal d) c t calls e = unwoken_by_use d c t calls e
unwoken_before (Broadcast d) c t calls e = unwoken_by_use d c t calls e
unwoken_before q c t calls e = (e, refl)

-- it stays so behind a line that is another thread's, or no call's, and uses another variable, or none
still_unwoken : (t c : ℕ) (x : Line) (xs : List Line) → begins t x ≡ false → begins_use c x ≡ false
    → request_after t x (open_request t xs) ≡ open_request t xs → IsUnwoken t c xs → IsUnwoken t c (x ∷ xs)
still_unwoken t c x xs other unused same u = record {
  request = u.request;
  is_open = same ∙ u.is_open;
  waits = u.waits;
  unwoken = not_woken;
}
  where
    not_woken : MayBeWoken t c (x ∷ xs) → ⊥
    not_woken (found _ _ b h) = true≢false (sym b ∙ other)
    not_woken (used _ _ b h) = true≢false (sym h ∙ unused)
    not_woken (before _ _ b h) = u.unwoken h

-- a wait for a variable that no open call uses
wait_unwoken : (t c : ℕ) (q : Request) (xs : List Line) → waited_variable q ≡ Some c → (HasOpenUse c xs → ⊥)
    → IsUnwoken t c (Begin t q ∷ xs)
wait_unwoken t c q xs waits none = record {
  request = q;
  is_open = rw (same_number t) refl;
  waits = waits;
  unwoken = not_woken;
}
  where
    not_woken : MayBeWoken t c (Begin t q ∷ xs) → ⊥
    not_woken (found _ _ b h) = none h
    not_woken (used _ _ b h) = true≢false (sym (same_number t) ∙ b)
    not_woken (before _ _ b h) = true≢false (sym (same_number t) ∙ b)

wait_by_use : (c d : ℕ) (calls : List OpenCall) → wait_begun calls d ≡ Unwoken c
    → (d ≡ c) × (list_any (is_use c) calls ≡ false)
wait_by_use c d calls e = go (list_any (is_use d) calls) refl e
  where
    go : (b : Bool) → list_any (is_use d) calls ≡ b → (if b then Other else Unwoken d) ≡ Unwoken c
        → (d ≡ c) × (list_any (is_use c) calls ≡ false)
    go true h f = absurd (cc)
    go false h f =
        let same : d ≡ c = cc in
        (same, subst (λ n. list_any (is_use n) calls ≡ false) same h)

-- a call that begins as a wait which isn't woken
wait_begins : (q : Request) (c : ℕ) (calls : List OpenCall) → begun calls q ≡ Unwoken c
    → (waited_variable q ≡ Some c) × (list_any (is_use c) calls ≡ false)
wait_begins (Wait d m) c calls e = let w = wait_by_use c d calls e in (ap (λ (n : ℕ). Some n) w.0, w.1)
wait_begins (TimedWait d m n) c calls e = let w = wait_by_use c d calls e in (ap (λ (k : ℕ). Some k) w.0, w.1)
wait_begins q c calls e = absurd (cc)

as_many : (q : Request) (calls : List OpenCall) → length (once_begun q calls) ≡ length calls
as_many (Signal d) calls = length-map calls (once_used d)
as_many (Broadcast d) calls = length-map calls (once_used d)
as_many q calls = refl

-- ONE MORE LINE

-- a line of no call
calls_aside : (x : Line) (xs : List Line) (calls : List OpenCall) → ((t : ℕ) → begins t x ≡ false)
    → ((c : ℕ) → begins_use c x ≡ false) → ((t : ℕ) → request_after t x (open_request t xs) ≡ open_request t xs)
    → AreCalls xs calls → AreCalls (x ∷ xs) calls
calls_aside x xs calls other unused same a = record {
  unwoken = λ t c h. still_unwoken t c x xs (other t) (unused c) (same t) (a.unwoken t c h);
  uses = λ t c q h u. a.uses t c q (sym (same t) ∙ h) u;
}

calls_after_thread : (p : ℕ) (xs : List Line) (calls : List OpenCall) → AreCalls xs calls
    → AreCalls (Thread p ∷ xs) (calls ++ Other ∷ [])
calls_after_thread p xs calls a = record {
  unwoken = λ t c h.
      let there = get_pushed calls Other (Unwoken c) t (λ e. cc) h in
      still_unwoken t c (Thread p) xs refl refl refl (a.unwoken t c there);
  uses = λ t c q h u. get_front calls Other (Use c) t (a.uses t c q h u);
}

calls_after_answer : (t a : ℕ) (xs : List Line) (calls : List OpenCall) → AreCalls xs calls
    → AreCalls (Answer t a ∷ xs) (set calls t Other)
calls_after_answer t a xs calls k = record {
  unwoken = λ u c h. waiting u c (t == u) refl h;
  uses = λ u c q h w. using u c q (t == u) refl h w;
}
  where
    waiting : (u c : ℕ) (b : Bool) → (t == u) ≡ b → slice_get (set calls t Other) u ≡ Some (Unwoken c)
        → IsUnwoken u c (Answer t a ∷ xs)
    waiting u c true e h =
        let there = subst (λ n. slice_get (set calls t Other) n ≡ Some (Unwoken c)) (sym (eqb-true t u e)) h in
        let no : Other ≡ Unwoken c = get_set_some calls t Other (Unwoken c) there in
        absurd (cc)
    waiting u c false e h =
        let there = sym (get_set_other calls t u Other (λ s. eqb-false t u e (sym s))) ∙ h in
        still_unwoken u c (Answer t a) xs refl refl (rw e refl) (k.unwoken u c there)

    using : (u c : ℕ) (q : Request) (b : Bool) → (t == u) ≡ b → (if t == u then None else open_request u xs) ≡ Some q
        → is_use_of c q ≡ true → slice_get (set calls t Other) u ≡ Some (Use c)
    using u c q true e h w =
        let no : None ≡ Some q = rw e at h in
        absurd (cc)
    using u c q false e h w =
        get_set_other calls t u Other (λ s. eqb-false t u e (sym s)) ∙ k.uses u c q (rw e at h) w

module _ (t : ℕ) (q : Request) (xs : List Line) (calls : List OpenCall) (lt : t < length calls)
    (k : AreCalls xs calls) where
  -- the open calls once t begins one
  abbrev next : List OpenCall
  next = set (once_begun q calls) t (begun calls q)

  of_others : (u : ℕ) → (t == u) ≡ false → slice_get next u ≡ slice_get (once_begun q calls) u
  of_others u e = get_set_other (once_begun q calls) t u (begun calls q) (λ s. eqb-false t u e (sym s))

  waiting : (u c : ℕ) (b : Bool) → (t == u) ≡ b → slice_get next u ≡ Some (Unwoken c) → IsUnwoken u c (Begin t q ∷ xs)
  waiting u c true e h =
      let same : t ≡ u = eqb-true t u e in
      let there = subst (λ n. slice_get next n ≡ Some (Unwoken c)) (sym same) h in
      let w = wait_begins q c calls (get_set_some (once_begun q calls) t (begun calls q) (Unwoken c) there) in
      subst (λ n. IsUnwoken n c (Begin t q ∷ xs)) same (wait_unwoken t c q xs w.0 (no_use xs calls c k w.1))
  waiting u c false e h =
      let w = unwoken_before q c u calls (sym (of_others u e) ∙ h) in
      still_unwoken u c (Begin t q) xs e w.1 (rw e refl) (k.unwoken u c w.0)

  using : (u c : ℕ) (r : Request) (b : Bool) → (t == u) ≡ b → (if t == u then Some q else open_request u xs) ≡ Some r
      → is_use_of c r ≡ true → slice_get next u ≡ Some (Use c)
  using u c r true e h w =
      let asked : Some q ≡ Some r = rw e at h in
      let same : q ≡ r = cc in
      let begins = get_set_same (once_begun q calls) t (begun calls q) (rw (as_many q calls) lt) in
      subst (λ n. slice_get next n ≡ Some (Use c)) (eqb-true t u e)
      (begins ∙ ap (λ (z : OpenCall). Some z) (use_begins q c calls (rw same w)))
  using u c r false e h w = of_others u e ∙ use_stays_begun q c u calls (k.uses u c r (rw e at h) w)

  calls_after_begin : AreCalls (Begin t q ∷ xs) next
  calls_after_begin = record {
    unwoken = λ u c h. waiting u c (t == u) refl h;
    uses = λ u c r h w. using u c r (t == u) refl h w;
  }

-- whatever line it is
calls_after : (x : Line) (xs : List Line) (calls : List OpenCall) → WasAdded calls x → AreCalls xs calls
    → AreCalls (x ∷ xs) (heard x calls)
calls_after (Thread p) xs calls h a = calls_after_thread p xs calls a
calls_after (Begin t q) xs calls h a = calls_after_begin t q xs calls h a
calls_after (Answer t n) xs calls h a = calls_after_answer t n xs calls a
calls_after x xs calls h a = calls_aside x xs calls (λ t. refl) (λ c. refl) (λ t. refl) a

-- so many lines, and the next one
one_line_more : (lines : List Line) (n : ℕ) (line : Line) → n < length lines → get_or lines n line ≡ line
    → reverse (take (n + 1) lines) ≡ line ∷ reverse (take n lines)
one_line_more lines n line lt same =
    ap reverse (take_more lines n line lt)
    ∙ reverse-append (take n lines) (get_or lines n line ∷ [])
    ∙ ap (λ (x : Line). x ∷ reverse (take n lines)) same

pub calls_at_next : (lines : List Line) (n : ℕ) (line : Line) (calls next : List OpenCall) → n < length lines
    → get_or lines n line ≡ line → WasAdded calls line → next ≡ heard line calls → AreCalls (reverse (take n lines)) calls
    → AreCalls (reverse (take (n + 1) lines)) next
calls_at_next lines n line calls next lt same added e a =
    rw (one_line_more lines n line lt same, e) (calls_after line (reverse (take n lines)) calls added a)

-- LINES THAT NO RUN SHOWS

not_shown : (l : Bounds) (t : ℕ) (xs : List Line) (calls : List OpenCall) (call : Option OpenCall)
    → slice_get calls t ≡ call → is_unwoken call ≡ true → AreCalls xs calls → IsShown l (Answer t 0 ∷ xs) → ⊥
not_shown l t xs calls (Some (Unwoken c)) e h a s =
    let u = a.unwoken t c e in
    u.unwoken (woken-from_shown l xs t c u.request s u.is_open u.waits)
not_shown l t xs calls (Some (Use c)) e h a s = absurd (cc)
not_shown l t xs calls (Some Other) e h a s = absurd (cc)
not_shown l t xs calls None e h a s = absurd (cc)

refuted_by_answer : (l : Bounds) (t n : ℕ) (xs : List Line) (calls : List OpenCall) (b : Bool) → (n == 0) ≡ b
    → (if n == 0 then is_unwoken (slice_get calls t) else false) ≡ true → AreCalls xs calls
    → IsShown l (Answer t n ∷ xs) → ⊥
refuted_by_answer l t n xs calls true e h a s =
    not_shown l t xs calls (slice_get calls t) refl (rw e at h) a
    (subst (λ k. IsShown l (Answer t k ∷ xs)) (eqb-true n 0 e) s)
refuted_by_answer l t n xs calls false e h a s =
    let f : false ≡ true = rw e at h in
    absurd (cc)

refuted_by : (l : Bounds) (x : Line) (xs : List Line) (calls : List OpenCall) → is_refuted calls x ≡ true
    → AreCalls xs calls → IsShown l (x ∷ xs) → ⊥
refuted_by l (Answer t n) xs calls h a s = refuted_by_answer l t n xs calls (n == 0) refl h a s
refuted_by l x xs calls h a s = absurd (cc)

pub refuted_at : (lines : List Line) (n : ℕ) (line : Line) (calls : List OpenCall) → n < length lines
    → get_or lines n line ≡ line → is_refuted calls line ≡ true → AreCalls (reverse (take n lines)) calls → IsRefutedAt lines (n + 1)
refuted_at lines n line calls lt same h a = (
  omega arith,
  omega (arith, lt),
  (λ l s. refuted_by l line (reverse (take n lines)) calls h a
      (subst (λ (xs : List Line). IsShown l xs) (one_line_more lines n line lt same) s)),
)
