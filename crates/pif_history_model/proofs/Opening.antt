-- What lines say by themselves: a wait that is open together with a use of its variable may have been woken.
use Rattle.std.proofs.Common.{ℕ, ◌≡◌, ◌⊎◌, ◌∙◌, ◌==◌, true, false, List, [], ◌∷◌, Option, Some, None, refl, sym, ap, inl, inr, eqb-true, if◌then◌else◌}
use Rattle.std.proofs.lemmas.Bool.{true≢false, eq-eqb}
use Rattle.pif_types.specs.declared.requests.Request.{Request}
use Rattle.pif_types.specs.declared.requests.Request.TheVariants.{Signal, Broadcast}
use Rattle.pif_model_lemmas.proofs.Waiting.{by_test}
use Rattle.pif_history_model.specs.declared.lines.Line.{Line}
use Rattle.pif_history_model.specs.declared.lines.Line.TheVariants.{Begin, Answer}
use Rattle.pif_history_model.specs.Wakeups.{waited_variable, is_use_of, request_after, open_request, HasOpenUse, begins, begins_use, MayBeWoken}
use Rattle.pif_history_model.specs.Wakeups.MayBeWoken.{found, used, before}

-- REQUESTS

-- a wait is no use
wait_is_no_use : (q : Request) (c d : ℕ) → waited_variable q ≡ Some c → is_use_of d q ≡ true → ⊥
wait_is_no_use (Signal c) k d w e = cc
wait_is_no_use (Broadcast c) k d w e = cc
wait_is_no_use _ k d w e = true≢false (sym e)

-- ONE LINE MORE

-- a call that is open behind a line was begun by it, or was open before
after_line : (t : ℕ) (x : Line) (r : Option Request) (q : Request) → request_after t x r ≡ Some q
    → (x ≡ Begin t q) ⊎ ((begins t x ≡ false) × (r ≡ Some q))
after_line t (Begin u k) r q e =
    by_test (λ b. (if b then Some k else r) ≡ Some q → (Begin u k ≡ Begin t q) ⊎ ((b ≡ false) × (r ≡ Some q))) (u == t)
    (λ i f. inl (let whose : u ≡ t = eqb-true u t i in let what : k ≡ q = cc in cc)) (λ i f. inr (refl, f)) e
after_line t (Answer u a) r q e =
    by_test (λ b. (if b then None else r) ≡ Some q → (Answer u a ≡ Begin t q) ⊎ ((false ≡ false) × (r ≡ Some q)))
    (u == t) (λ i f. absurd (cc)) (λ i f. inr (refl, f)) e
after_line t _ r q e = inr (refl, e)

-- a use that is open behind a line was begun by it, or was open before
use_after_line : (c : ℕ) (x : Line) (xs : List Line) → (i : HasOpenUse c (x ∷ xs))
    → (x ≡ Begin i.thread i.request) ⊎ HasOpenUse c xs
use_after_line c x xs i = go (after_line i.thread x (open_request i.thread xs) i.request i.is_open)
  where
    go : (x ≡ Begin i.thread i.request) ⊎ ((begins i.thread x ≡ false) × (open_request i.thread xs ≡ Some i.request))
        → (x ≡ Begin i.thread i.request) ⊎ HasOpenUse c xs
    go (inl e) = inl e
    go (inr o) = inr (record { thread = i.thread; request = i.request; is_open = o.1; uses = i.uses })

-- a wait that is open together with a use of its variable may have been woken
pub woken_by_use : (t c : ℕ) (q : Request) (lines : List Line) → open_request t lines ≡ Some q
    → waited_variable q ≡ Some c
    → HasOpenUse c lines → MayBeWoken t c lines
woken_by_use t c q [] o w i = absurd (cc)
woken_by_use t c q (x ∷ xs) o w i =
    go (after_line t x (open_request t xs) q o) (use_after_line c x xs i) (λ k j. woken_by_use t c q xs k w j)
  where
    go : (x ≡ Begin t q) ⊎ ((begins t x ≡ false) × (open_request t xs ≡ Some q))
        → (x ≡ Begin i.thread i.request) ⊎ HasOpenUse c xs
        → (open_request t xs ≡ Some q → HasOpenUse c xs → MayBeWoken t c xs) → MayBeWoken t c (x ∷ xs)
    go (inl e) (inl f) ih =
        let begun : Begin t q ≡ Begin i.thread i.request = sym e ∙ f in
        let same : q ≡ i.request = cc in
        absurd (wait_is_no_use q c c w (ap (is_use_of c) same ∙ i.uses))
    go (inl e) (inr j) ih = found x xs (ap (begins t) e ∙ eq-eqb t t refl) j
    go (inr k) (inl f) ih = used x xs k.0 (ap (begins_use c) f ∙ i.uses)
    go (inr k) (inr j) ih = before x xs k.0 (ih k.1 j)
