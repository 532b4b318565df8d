-- A list that is the one of all results has each of them, and no other.
use Rattle.std.proofs.Common.{ℕ, ◌≡◌, List, sym, subst, get_or}
use Rattle.std.specs.List.{All, Contains}
use Rattle.std.proofs.lemmas.List.Elements.{Contains-get_or}
use Rattle.pif_types.specs.Bounds.{Bounds}
use Rattle.pif_model.specs.declared.events.Entry.{Entry}
use Rattle.pif_model.specs.Posix.{World}
use Rattle.pif_posix_steps.specs.Once.{MovesOnce, Enters}
use Rattle.pif_posix_steps.specs.Doing.{moved, entered}
use Rattle.pif_posix_steps.proofs.DoingMoves.{moved_from, moved_to}
use Rattle.pif_posix_steps.proofs.DoingEntries.{entered_from, entered_to}

module _ {A : Type 0} where
  pub no_other : (P : A → Type 0) (xs ys : List A) → xs ≡ ys → ((v : A) → Contains ys v → P v) → All P xs
  no_other P xs ys e h = λ k d lt. h (get_or xs k d) (subst (λ (zs : List A). Contains zs (get_or xs k d)) e (Contains-get_or xs k d lt))

  pub each : (P : A → Type 0) (xs ys : List A) → xs ≡ ys → ((v : A) → P v → Contains ys v) → (v : A) → P v → Contains xs v
  each P xs ys e h v p = subst (λ (zs : List A). Contains zs v) (sym e) (h v p)

module _ (t : ℕ) (w : World) (xs : List World) (e : xs ≡ moved t w) where
  pub only_moves : All (λ v. MovesOnce t w v) xs
  only_moves = no_other (λ v. MovesOnce t w v) xs (moved t w) e (moved_to t w)

  pub each_move : (v : World) → MovesOnce t w v → Contains xs v
  each_move = each (λ v. MovesOnce t w v) xs (moved t w) e (moved_from t w)

module _ (l : Bounds) (w : World) (x : Entry) (xs : List World) (e : xs ≡ entered l w x) where
  pub only_entered : All (λ v. Enters l w x v) xs
  only_entered = no_other (λ v. Enters l w x v) xs (entered l w x) e (entered_to l w x)

  pub each_entered : (v : World) → Enters l w x v → Contains xs v
  each_entered = each (λ v. Enters l w x v) xs (entered l w x) e (entered_from l w x)
