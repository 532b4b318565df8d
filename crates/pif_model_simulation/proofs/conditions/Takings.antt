-- Threads are taken from a variable one after another: what all of them come to.
use Rattle.std.proofs.Common.{◌≡◌, ◌≢◌, ◌⊎◌, inl, inr, ℕ, zero, suc, true, false, ◌==◌, ◌||◌, List, [], ◌∷◌, refl, sym, ap, ◌∙◌, subst, eq-eqb, ne_eqb}
use Rattle.std.proofs.lemmas.Bool.{cases_Bool, cases_eq, true≢false}
use Rattle.pif_model.specs.declared.lines.Status.TheVariants.{Parked}
use Rattle.pif_model.specs.Posix.{Thread, World, Locks, is_blocked_on, with_call_by, after_unblocking, all_unblocked}
use Rattle.pif_model.specs.PiKernel.{System, Seat, seat_at, is_parked, is_living, has_parked, top_parked, after_taking, after_takings}
use Rattle.pif_model.specs.Table.{Table, bound_to, status_at, with_kernel}
use Rattle.pif_model.specs.Projection.{HistoryVariables, Agrees, world_of}
use Rattle.pif_model.specs.Soundness.{IsSound}
use Rattle.pif_model_lemmas.proofs.Waiting.{by_test}
use Rattle.pif_model_lemmas.proofs.kernel.Taken.{takings-none, takings-more}
use Rattle.pif_model_lemmas.proofs.kernel.Requeued.{taking-seat_other}
use Rattle.std.proofs.lemmas.List.{get_or-set_same}
use Rattle.pif_model_simulation.proofs.Agreement.{framed}
use Rattle.pif_model_simulation.proofs.Steps.{going_below}
use Rattle.pif_model_simulation.proofs.conditions.Taking.{TakesOne, was, called_u, parked_going, takes_one}
use Rattle.pif_model_simulation.proofs.conditions.Unblocking.{Owed, one_of, thread-all_unblocked, locks_past_all}
use Rattle.pif_model_simulation.proofs.conditions.Unblocking.Owed.{done, lock}

-- the words and the kernel of a table
abbrev pub system_of : Table → System
system_of s = record { words = s.words; kernel = s.kernel }

-- a table with these
abbrev pub table_with : System → Table → Table
table_with x s = with_kernel x.words x.kernel s

-- these threads were taken from c, and what it comes to: each of them was parked on it; the others have the statuses
-- that they had; and in the POSIX machine, if all of them are unblocked, some reacquire their mutexes
pub record TakesAll (s : Table) (c : ℕ) (us : List ℕ) (x : System) : Type 0 where
  pub sound : IsSound (table_with x s)
  pub living : (v : ℕ) → is_living x.kernel v ≡ is_living s.kernel v
  pub parked : (b : ℕ) → one_of us b ≡ true → status_at s b ≡ Parked c
  pub others : (b : ℕ) → one_of us b ≡ false → (seat_at x.kernel b).status ≡ status_at s b
  pub agrees : (y : HistoryVariables) → Agrees s y → Agrees (table_with x s) y
  pub owes : (y : HistoryVariables) (begin : World) → ((b : ℕ) → one_of us b ≡ true → is_blocked_on begin c b ≡ true)
      → Owed begin (all_unblocked us (world_of s y)) (world_of (table_with x s) y)

-- nobody is taken
pub takes_none : (s : Table) (c : ℕ) → IsSound s → TakesAll s c [] (system_of s)
unfolding all_unblocked
takes_none s c h = record {
  sound = h;
  living = λ v. refl;
  parked = λ b e. absurd (true≢false (sym e));
  others = λ b e. refl;
  agrees = λ y a. a;
  owes = λ y begin e. done refl;
}

-- the next one is taken, and then the rest
pub takes_more : (s : Table) (c : ℕ) (h : IsSound s) (some : has_parked s.kernel c ≡ true) (us : List ℕ) (x : System)
    → TakesAll (table_with (after_taking (top_parked s.kernel c) (bound_to s c) (system_of s)) s) c us x
    → TakesAll s c (top_parked s.kernel c ∷ us) x
unfolding all_unblocked
takes_more s c h some us x rest = record {
  sound = rest.sound;
  living = λ v. rest.living v ∙ one.living v;
  parked = λ b e. parked b e (cases_eq b (top_parked s.kernel c));
  others = λ b e. others b e (cases_eq b (top_parked s.kernel c));
  agrees = λ y a. rest.agrees y (framed one.frames y a);
  owes = λ y begin e. owes y begin e (one.world y);
}
  where
    one : TakesOne s (top_parked s.kernel c) (bound_to s c)
        (after_taking (top_parked s.kernel c) (bound_to s c) (system_of s))
    one = takes_one s h c some

    parked : (b : ℕ) → one_of (top_parked s.kernel c ∷ us) b ≡ true
        → (b ≡ top_parked s.kernel c) ⊎ (b ≢ top_parked s.kernel c) → status_at s b ≡ Parked c
    parked b e (inl q) = ap (status_at s) q ∙ was s h c some
    parked b e (inr d) = sym (ap (λ (y : Seat). y.status)
        (taking-seat_other (top_parked s.kernel c) (bound_to s c) (system_of s) b d))
        ∙ rest.parked b (sym (ap (λ y. y || one_of us b)
        (ne_eqb (top_parked s.kernel c) b (λ z. d (sym z)))) ∙ e)

    others : (b : ℕ) → one_of (top_parked s.kernel c ∷ us) b ≡ false
        → (b ≡ top_parked s.kernel c) ⊎ (b ≢ top_parked s.kernel c) → (seat_at x.kernel b).status ≡ status_at s b
    others b e (inl q) = absurd (true≢false (sym (ap (λ y. y || one_of us b)
        (eq-eqb (top_parked s.kernel c) b (sym q))) ∙ e))
    others b e (inr d) = rest.others b (sym (ap (λ y. y || one_of us b)
        (ne_eqb (top_parked s.kernel c) b (λ z. d (sym z)))) ∙ e)
        ∙ ap (λ (y : Seat). y.status) (taking-seat_other (top_parked s.kernel c) (bound_to s c) (system_of s) b d)

    owes : (y : HistoryVariables) (begin : World)
        → ((b : ℕ) → one_of (top_parked s.kernel c ∷ us) b ≡ true → is_blocked_on begin c b ≡ true)
        → (world_of (table_with (after_taking (top_parked s.kernel c) (bound_to s c) (system_of s)) s) y
        ≡ with_call_by (top_parked s.kernel c) after_unblocking (world_of s y))
        ⊎ Locks (top_parked s.kernel c) (bound_to s c) (with_call_by (top_parked s.kernel c) after_unblocking (world_of s y))
        (world_of (table_with (after_taking (top_parked s.kernel c) (bound_to s c) (system_of s)) s) y)
        → Owed begin (all_unblocked (top_parked s.kernel c ∷ us) (world_of s y)) (world_of (table_with x s) y)
    owes y begin e (inl q) = subst (λ w. Owed begin (all_unblocked us w) (world_of (table_with x s) y)) q
        (rest.owes y begin (λ b f. e b (later b f)))
      where
        later : (b : ℕ) → one_of us b ≡ true → one_of (top_parked s.kernel c ∷ us) b ≡ true
        later b f = by_test (λ y. (y || one_of us b) ≡ true) (top_parked s.kernel c == b) (λ _. refl) (λ _. f)
    owes y begin e (inr l) = lock (top_parked s.kernel c) c (bound_to s c)
        (e (top_parked s.kernel c) (ap (λ y. y || one_of us (top_parked s.kernel c))
        (eq-eqb (top_parked s.kernel c) (top_parked s.kernel c) refl)))
        (ap (λ (z : Thread). z.call)
        (thread-all_unblocked us (with_call_by (top_parked s.kernel c) after_unblocking (world_of s y)) (top_parked s.kernel c) once
        ∙ get_or-set_same (world_of s y).threads (top_parked s.kernel c) _ _ (going_below (parked_going s h c some) y))
        ∙ ap after_unblocking (called_u s h c some y))
        (locks_past_all us (top_parked s.kernel c) (bound_to s c) once l)
        (rest.owes y begin (λ b f. e b (later b f)))
      where
        once : one_of us (top_parked s.kernel c) ≡ false
        once = by_test (λ b. one_of us (top_parked s.kernel c) ≡ b → b ≡ false) (one_of us (top_parked s.kernel c))
            (λ e f. absurd (true≢false (sym (ap is_parked (rest.parked (top_parked s.kernel c) e))
            ∙ (takes_one s h c some).unparked)))
            (λ _ _. refl) refl

        later : (b : ℕ) → one_of us b ≡ true → one_of (top_parked s.kernel c ∷ us) b ≡ true
        later b f = by_test (λ y. (y || one_of us b) ≡ true) (top_parked s.kernel c == b) (λ _. refl) (λ _. f)

-- nothing is taken in no steps
pub takings-zero : (c m : ℕ) (x : System) → after_takings zero c m x ≡ x
unfolding after_takings
takings-zero c m x = refl

-- some are taken in these steps
abbrev pub Taken : ℕ → Table → ℕ → Type 0
Taken n s c = (us : List ℕ) × TakesAll s c us (after_takings n c (bound_to s c) (system_of s))

-- by the rest, if one is left
takings_step : (n : ℕ) (s : Table) (c : ℕ) → IsSound s → ((v : Table) → IsSound v → Taken n v c) → Taken (suc n) s c
takings_step n s c h ih = go (cases_Bool (has_parked s.kernel c))
  where
    go : (has_parked s.kernel c ≡ true) ⊎ (has_parked s.kernel c ≡ false) → Taken (suc n) s c
    go (inl some) =
        let rest = ih (table_with (after_taking (top_parked s.kernel c) (bound_to s c) (system_of s)) s)
        (takes_one s h c some).sound in (
          top_parked s.kernel c ∷ rest.0,
          subst (TakesAll s c (top_parked s.kernel c ∷ rest.0))
              (sym (takings-more n c (bound_to s c) (system_of s) some))
              (takes_more s c h some rest.0 _ rest.1),
        )
    go (inr none) = (
      [],
      subst (TakesAll s c []) (sym (takings-none (suc n) c (bound_to s c) (system_of s) none))
          (takes_none s c h),
    )

-- and so in any number of steps
pub takings : (n : ℕ) (s : Table) (c : ℕ) → IsSound s → Taken n s c
takings zero s c h = ([], subst (TakesAll s c []) (sym (takings-zero c (bound_to s c) (system_of s))) (takes_none s c h))
takings (suc n) s c h = takings_step n s c h (λ v k. takings n v c k)
