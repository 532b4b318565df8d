-- A job over several files in turn.
use Rattle.std.proofs.Common.{◌≡◌, ◌+◌, ℕ, ◌<◌, ◌≤◌, ◌==◌, Bool, true, false, cond, List, [], ◌∷◌, ◌++◌, Option, get_or, length, refl, sym, take, ap, ◌∙◌, subst, eqb-true}
use Rattle.std.proofs.lemmas.List.{take_all, take_more}
use Rattle.clap.specs.Words.{Text}
use Rattle.pif_cli_words.specs.declared.jobs.Job.{Job}
use Rattle.pif_cli.specs.Words.{DidAll, DidOver, first_status}

zero-behind : (s : ℕ) → s ≡ first_status s 0
zero-behind s = by_test (s == 0) refl
  where
    by_test : (b : Bool) → (s == 0) ≡ b → s ≡ cond b 0 s
    by_test true e = eqb-true s 0 e
    by_test false e = refl

status-again : (r s t : ℕ) → first_status (first_status r s) t ≡ first_status r (first_status s t)
status-again r s t = by_test (r == 0) refl
  where
    by_test : (b : Bool) → (r == 0) ≡ b → first_status (cond b s r) t ≡ cond b (first_status s t) r
    by_test true e = refl
    by_test false e = rw e refl

-- one more file
pub DidAll-more : (rewrite : Bool) (job : Job) (names : List Text) (name : Text) (a b c h i j d e f : Option (List ℕ)) (s t : ℕ)
    → DidAll rewrite job names a b h i d e s → DidOver rewrite job name b c i j e f t
    → DidAll rewrite job (names ++ name ∷ []) a c h j d f (first_status s t)
DidAll-more rewrite job [] name a b c h i j d e f s t all one =
    let over = subst (λ x. DidOver rewrite job name x c h j d f t) all.1
    (subst (λ x. DidOver rewrite job name b c x j d f t) all.2 (subst (λ x. DidOver rewrite job name b c i j x f t) all.3 one)) in
    (c, j, f, t, 0, over, (refl, refl, refl, refl), ap (λ x. first_status x t) all.0 ∙ zero-behind t)
DidAll-more rewrite job (first ∷ names) name a b c h i j d e f s t all one = (
  all.0,
  all.1,
  all.2,
  all.3,
  first_status all.4 t,
  all.5,
  DidAll-more rewrite job names name all.0 b c all.1 i j all.2 e f all.4 t all.6 one,
  ap (λ x. first_status x t) all.7 ∙ status-again all.3 all.4 t,
)

-- the next file of a list
pub DidAll-next : (rewrite : Bool) (job : Job) (names : List Text) (n : ℕ) (x : Text) (a b c h i j d e f : Option (List ℕ)) (s t : ℕ)
    → n < length names → x ≡ get_or names n x → DidAll rewrite job (take n names) a b h i d e s
    → DidOver rewrite job x b c i j e f t → DidAll rewrite job (take (n + 1) names) a c h j d f (first_status s t)
DidAll-next rewrite job names n x a b c h i j d e f s t lt is all one =
    subst (λ l. DidAll rewrite job l a c h j d f (first_status s t))
    (ap (λ (y : Text). take n names ++ y ∷ []) is ∙ sym (take_more names n x lt))
    (DidAll-more rewrite job (take n names) x a b c h i j d e f s t all one)

-- all files of a list were gone through
pub DidAll-done : (rewrite : Bool) (job : Job) (names : List Text) (n : ℕ) (a c h j d f : Option (List ℕ)) (s : ℕ)
    → length names ≤ n → DidAll rewrite job (take n names) a c h j d f s → DidAll rewrite job names a c h j d f s
DidAll-done rewrite job names n a c h j d f s past all =
    subst (λ l. DidAll rewrite job l a c h j d f s) (take_all n names past) all
