-- Whether an answer says what `run` prints.
use Rattle.std.proofs.Common.{◌≡◌, ℕ, ◌+◌, ◌<◌, Bool, true, false, cond, not, ◌||◌, List, [], ◌∷◌, drop, get_or, length, Option, Some, None, ◌⊎◌, inl, inr, refl, sym, ap, ◌∙◌, bytes_eq}
use Rattle.std.specs.Fmt.{digits}
use Rattle.std.specs.Prelude.{find}
use Rattle.std.proofs.lemmas.Bool.{false≢true}
use Rattle.std.proofs.lemmas.List.{drop_more}
use Rattle.std.proofs.lemmas.Slice.Eq.{bytes_eq-Decides}
use Rattle.pif_types.specs.declared.errors.Errno.{Errno}
use Rattle.pif_types.specs.declared.errors.Errno.TheVariants.{NotPermitted, NoSuchThread, Again, Fault, Busy, Invalid, Deadlock, Overflow, TimedOut, OwnerDead, NotRecoverable}
use Rattle.pif_script_model.specs.declared.forms.Form.{Form}
use Rattle.pif_script_model.specs.declared.forms.Form.TheVariants.{Number, Name, Both}
use Rattle.pif_text_model.specs.Errors.{errors}
use Rattle.pif_script_model.specs.Answers.{Says, error_answer, error_in, is_named, says}

same-bytes : (xs ys : List ℕ) → bytes_eq xs ys ≡ true → xs ≡ ys
same-bytes xs ys = (bytes_eq-Decides xs ys).0

bytes-same : (xs ys : List ℕ) → xs ≡ ys → bytes_eq xs ys ≡ true
bytes-same xs ys = (bytes_eq-Decides xs ys).1

-- what is found passes the test
found-passes : {A : Type 0} (p : A → Bool) (xs : List A) (x : A) → find p xs ≡ Some x → p x ≡ true
found-passes p [] x e = cc
found-passes p (y ∷ ys) x e = by_test (p y) refl (found-passes p ys x) e
  where
    by_test : (b : Bool) → p y ≡ b → (find p ys ≡ Some x → p x ≡ true) → cond b (Some y) (find p ys) ≡ Some x
        → p x ≡ true
    by_test true t h e = let same : y ≡ x = cc in ap p (sym same) ∙ t
    by_test false t h e = h e

-- the error that is found is answered so
error-found : (form : Form) (text : List ℕ) (errno : Errno) → error_in form text ≡ Some errno
    → text ≡ error_answer form errno
unfolding error_in
error-found form text errno e =
    same-bytes text (error_answer form errno)
    (found-passes (λ errno. bytes_eq text (error_answer form errno)) errors errno e)

-- each error is found by its number
error-of-number : (errno : Errno) → error_in Number (error_answer Number errno) ≡ Some errno
unfolding error_in digits
error-of-number NotPermitted = refl
error-of-number NoSuchThread = refl
error-of-number Again = refl
error-of-number Fault = refl
error-of-number Busy = refl
error-of-number Invalid = refl
error-of-number Deadlock = refl
error-of-number Overflow = refl
error-of-number TimedOut = refl
error-of-number OwnerDead = refl
error-of-number NotRecoverable = refl

or-right : (a : Bool) → (a || true) ≡ true
or-right true = refl
or-right false = refl

or-parts : (a b : Bool) → (a || b) ≡ true → (a ≡ true) ⊎ (b ≡ true)
or-parts true b e = inl refl
or-parts false b e = inr e

named-says : (written given : List ℕ) (o : Option Errno) → error_in Number given ≡ o → is_named written o ≡ true
    → Says written given
named-says written given None e n = absurd (false≢true n)
named-says written given (Some errno) e n =
    let number = error-found Number given errno e in
    elim (or-parts (bytes_eq written (error_answer Name errno)) _ n) [
      | inl name ↦ inr (Name, errno, same-bytes written _ name, number)
      | inr both ↦ inr (Both, errno, same-bytes written _ both, number)
    ]

-- the test decides it
pub says_forth : (written given : List ℕ) → says written given ≡ true → Says written given
unfolding says
says_forth written given e =
    elim (or-parts (bytes_eq written given) _ e) [
      | inl same ↦ inl (same-bytes written given same)
      | inr named ↦ named-says written given (error_in Number given) refl named
    ]

says-named : (written given : List ℕ) (form : Form) (errno : Errno) → written ≡ error_answer form errno
    → given ≡ error_answer Number errno → says written given ≡ true
unfolding says
says-named written given Number errno w g = rw (bytes-same written given (w ∙ sym g)) refl
says-named written given Name errno w g =
    let found : error_in Number given ≡ Some errno = ap (error_in Number) g ∙ error-of-number errno in
    let name = bytes-same written (error_answer Name errno) w in
    rw (found, name) (or-right (bytes_eq written given))
says-named written given Both errno w g =
    let found : error_in Number given ≡ Some errno = ap (error_in Number) g ∙ error-of-number errno in
    let both = bytes-same written (error_answer Both errno) w in
    rw (found, both, or-right (bytes_eq written (error_answer Name errno))) (or-right (bytes_eq written given))

pub says_back : (written given : List ℕ) → Says written given → says written given ≡ true
unfolding says
says_back written given (inl same) = rw (bytes-same written given same) refl
says_back written given (inr named) = says-named written given named.0 named.1 named.2 named.3
