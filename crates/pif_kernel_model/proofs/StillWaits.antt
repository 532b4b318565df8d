-- Whether somebody waits for a mutex still, if one of its waiters has left.
use Rattle.std.proofs.Common.{◌≡◌, ◌≢◌, ◌⊎◌, ℕ, ◌<◌, ◌≤◌, Bool, true, false, List, length, get_or, set, Option, Some, None, IfSome, IfNone, is_some, option_map, refl, sym, ap, subst, ◌∙◌, inl, inr}
use Rattle.std.proofs.lemmas.Bool.{cases_eq, cases_lt}
use Rattle.std.proofs.lemmas.List.{get_or-set_same, get_or-set_other, get_or_past}
use Rattle.pif_model.specs.Graph.{has_waiter, without, next_waiter}
use Rattle.pif_kernel_model.specs.Owners.{Owners, Task, Wait, no_task, task_at, waits_on, IsTop, HasNoWaiter}
use Rattle.pif_model_lemmas.proofs.Among.{is_among-without}
use Rattle.pif_model_lemmas.proofs.Among.{is_among as is_waiter}
use Rattle.pif_model_lemmas.proofs.Next.{next_is_next}
use Rattle.pif_model_lemmas.proofs.Waiting.{has_waiter-from_pair}
use Rattle.pif_kernel_model.specs.Inside.{Inside, IsSoundInside, state_key_at}
use Rattle.pif_kernel_model.proofs.ArrivalLaws.{waiter_middle}
use Rattle.pif_kernel_model.proofs.TopLaws.{waits_under, under_waits}
use Rattle.pif_kernel_model.proofs.WaitersWithout.{waiter_kept}

-- a mutex that has a waiter has one by name
waiter_named : (ws : List (ℕ × ℕ)) (m : ℕ) → has_waiter ws m ≡ true → (u : ℕ) × (is_waiter ws u m ≡ true)
waiter_named ws m e =
    let n = next_is_next (λ (u : ℕ). 0) ws m e in (
      next_waiter (λ (u : ℕ). 0) ws m,
      subst (λ (l : List (ℕ × ℕ)). is_waiter l (next_waiter (λ (u : ℕ). 0) ws m) m ≡ true) (sym n.place)
          (waiter_middle n.earlier n.later (next_waiter (λ (u : ℕ). 0) ws m) m),
    )

module _ (p : Inside) (h : IsSoundInside p) (m key : ℕ) (at : state_key_at p m ≡ Some key) (u : ℕ)
    (waits : waits_on p.owners u ≡ Some key) (v : Owners)
    (is : v.seats ≡ set p.owners.seats u (record (task_at p.owners u) { wait = None })) where
  abbrev rest : List (ℕ × ℕ)
  rest = without p.arrivals u

  within : u < length p.owners.seats
  within = by_place (cases_lt u (length p.owners.seats))
    where
      by_place : ((u < length p.owners.seats) ⊎ (length p.owners.seats ≤ u)) → u < length p.owners.seats
      by_place (inl l) = l
      by_place (inr g) =
          let none : None ≡ Some key
          = sym (ap (λ (s : Task). option_map (λ (w : Wait). w.state) s.wait) (get_or_past p.owners.seats u no_task g))
          ∙ waits in
          absurd cc

  free : (x : ℕ) → x ≡ u → waits_on v x ≡ None
  free x e =
      ap (waits_on v) e
      ∙ ap (λ (l : List Task). option_map (λ (w : Wait). w.state) (get_or l u no_task).wait) is
      ∙ ap (λ (s : Task). option_map (λ (w : Wait). w.state) s.wait)
      (get_or-set_same p.owners.seats u (record (task_at p.owners u) { wait = None }) no_task within)

  other : (x : ℕ) → x ≢ u → waits_on v x ≡ waits_on p.owners x
  other x n =
      ap (λ (l : List Task). option_map (λ (w : Wait). w.state) (get_or l x no_task).wait) is
      ∙ ap (λ (s : Task). option_map (λ (w : Wait). w.state) s.wait)
      (get_or-set_other p.owners.seats u x (record (task_at p.owners u) { wait = None }) no_task n)

  none_left : HasNoWaiter v key → has_waiter rest m ≡ false
  none_left none = by_test (has_waiter rest m) refl
    where
      by_test : (b : Bool) → has_waiter rest m ≡ b → has_waiter rest m ≡ false
      by_test false e = e
      by_test true e =
          let x = waiter_named rest m e in
          let a = is_among-without p.arrivals u x.0 m x.1 in
          absurd (none x.0 (other x.0 a.1 ∙ under_waits p h x.0 m key at a.0))

  some_left : (x : ℕ) → waits_on v x ≡ Some key → has_waiter rest m ≡ true
  some_left x e = by_place (cases_eq x u)
    where
      by_place : ((x ≡ u) ⊎ (x ≡ u → ⊥)) → has_waiter rest m ≡ true
      by_place (inl same) = let both : None ≡ Some key = sym (free x same) ∙ e in absurd cc
      by_place (inr ne) =
          has_waiter-from_pair rest x m
          (waiter_kept p.arrivals u x m ne (waits_under p h x m key at (sym (other x ne) ∙ e)))

  -- that is what the top waiter tells
  pub left_by : (o : Option ℕ) → IfNone o (HasNoWaiter v key) → IfSome o (λ t. IsTop v key t)
      → has_waiter rest m ≡ is_some o
  left_by None none top = none_left none
  left_by (Some t) none top = some_left t top.waits
