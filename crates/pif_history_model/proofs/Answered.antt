-- What an open call may be answered if it has come so far, it may be answered wherever it was before on its way.
use Rattle.std.proofs.Common.{ℕ, ◌≡◌, ◌==◌, ◌∙◌, Bool, true, false, not, refl, sym, ap, if◌then◌else◌, arith}
use Rattle.std.proofs.lemmas.Bool.{true≢false}
use Rattle.std.proofs.lemmas.Bool.Decides.{nat_tests}
use Rattle.pif_types.specs.declared.requests.Request.{Request}
use Rattle.pif_types.specs.declared.requests.Request.TheVariants.{Wait}
use Rattle.pif_model.specs.Deadlines.{reported_result}
use Rattle.pif_model.specs.NamedNumbers.{ETIMEDOUT, ENOTRECOVERABLE}
use Rattle.pif_model.specs.Posix.{Progress, on_unblocking}
use Rattle.pif_model.specs.World.Progress.{Leaving, Has, Enlisted, Blocked, Reacquiring}
use Rattle.pif_history_model.specs.Known.{is_awake, may_come_to, may_be_answered}

-- whether the answer of a call that has come so far is settled: it has its result, or took an Unusable mutex
abbrev pub is_settled : Progress → Bool
is_settled (Has r) = true
is_settled Leaving = true
is_settled p = false

-- whether an awake wait may come so far: it is still awake, or its result is not that it ran out of time
abbrev pub may_wake_to : Progress → Bool
may_wake_to (Has r) = not (r == ETIMEDOUT)
may_wake_to p = is_awake p

not_settled : (q : Request) (p : Progress) (x : Bool) (a : ℕ) → is_settled p ≡ false
    → may_be_answered q p x a ≡ may_come_to q (is_awake p) x a
not_settled q (Has r) x a e = absurd (true≢false e)
not_settled q Leaving x a e = absurd (true≢false e)
not_settled q _ x a e = refl

-- an answer that tells a result is one to which a call may come
told_may_come : (q : Request) (r a : ℕ) (x : Bool) → (a == reported_result q x r) ≡ true
    → may_come_to q (not (r == ETIMEDOUT)) x a ≡ true
told_may_come (Wait c m) r a true e = grind (arith, nat_tests)
told_may_come (Wait c m) r a false e = grind (arith, nat_tests)
told_may_come _ r a x e = refl

-- a call that took an Unusable mutex is told so, also if it has run out of time
unrecoverable : (q : Request) (x : Bool) → reported_result q x ENOTRECOVERABLE ≡ ENOTRECOVERABLE
unrecoverable (Wait c m) true = refl
unrecoverable (Wait c m) false = refl
unrecoverable _ x = refl

may_wake : (q : Request) (p : Progress) (x : Bool) (a : ℕ) → may_be_answered q p x a ≡ true
    → may_come_to q (may_wake_to p) x a ≡ true
may_wake q (Has r) x a e = told_may_come q r a x e
may_wake q Leaving x a e = told_may_come q ENOTRECOVERABLE a x (ap (λ (n : ℕ). a == n) (unrecoverable q x) ∙ e)
may_wake q _ x a e = e

-- who is not awake may come to no less
less_awake : (q : Request) (b c x : Bool) (a : ℕ) → (b ≡ true → c ≡ true) → may_come_to q c x a ≡ true
    → may_come_to q b x a ≡ true
less_awake (Wait d m) b c true a h e = e
less_awake (Wait d m) false c false a h e = refl
less_awake (Wait d m) true c false a h e = ap (λ (k : Bool). if k then not (a == ETIMEDOUT) else true) (sym (h refl)) ∙ e
less_awake _ b c x a h e = refl

-- a call that comes further may be answered no more than before
pub answered_before : (q : Request) (p o : Progress) (x : Bool) (a : ℕ) → is_settled p ≡ false
    → (is_awake p ≡ true → may_wake_to o ≡ true) → may_be_answered q o x a ≡ true → may_be_answered q p x a ≡ true
answered_before q p o x a n h e =
    not_settled q p x a n ∙ less_awake q (is_awake p) (may_wake_to o) x a h (may_wake q o x a e)

-- nor one that gives an Unusable mutex up
pub answered_leaving : (q : Request) (x : Bool) (a : ℕ) → may_be_answered q (Has ENOTRECOVERABLE) x a ≡ true
    → may_be_answered q Leaving x a ≡ true
answered_leaving q x a e = ap (λ (n : ℕ). a == n) (sym (unrecoverable q x)) ∙ e

-- nor one that is unblocked
pub answered_blocked : (q : Request) (p : Progress) (x : Bool) (a : ℕ) → may_be_answered q (on_unblocking p) x a ≡ true
    → may_be_answered q p x a ≡ true
answered_blocked q (Enlisted still) x a e = answered_before q (Enlisted still) (Enlisted false) x a refl (λ _. refl) e
answered_blocked q (Blocked noted) x a e = answered_before q (Blocked noted) Reacquiring x a refl (λ _. refl) e
answered_blocked q _ x a e = e
