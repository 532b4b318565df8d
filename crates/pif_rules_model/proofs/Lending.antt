-- What is listed of a state as lending sees it, and of a lock that closes a cycle which nobody sees.
use Rattle.std.proofs.Common.{◌≡◌, ◌⊎◌, ◌∙◌, ℕ, ◌==◌, Bool, true, false, List, [], ◌∷◌, Option, Some, None, map, refl, sym, subst, inl, inr, if◌then◌else◌, Contains}
use Rattle.std.specs.List.{list_any}
use Rattle.std.proofs.lemmas.Bool.{cases_Bool, both_ways}
use Rattle.pif_model.specs.declared.events.Event.TheVariants.{Go}
use Rattle.pif_model.specs.Posix.{World, mutex_at, leads_to}
use Rattle.pif_posix_steps.specs.Once.{MovesOnce}
use Rattle.pif_posix_steps.specs.Doing.{moved, is_allowed}
use Rattle.pif_posix_steps.proofs.DoingCases.{choose_then, choose_else}
use Rattle.pif_posix_steps.proofs.DoingLists.{in_then, in_then_from, in_map, in_map_from}
use Rattle.pif_posix_steps.proofs.DoingMoves.{moved_from, moved_to, allowed_from, allowed_to}
use Rattle.pif_rules_model.specs.Lending.{not_named, not_owned}
use Rattle.pif_rules_model.specs.Rules.{Wide, SeesLending, ClosesUnseen, MovesOrWaits, InWorld, of_call, locked_next_by, seen_by_lending, owned_as_before}
use Rattle.pif_rules_model.specs.Rules.MovesOrWaits.{plain, waits}
use Rattle.pif_rules_model.specs.Ruled.{seeing_lending, closes_unseen_with, closes_unseen, moved_or_waiting, is_held_by_another, waiting_in_cycle}
use Rattle.pif_rules_model.proofs.Moves.{held_to, held_from, waits_in_cycle_to, waits_in_cycle_from}

-- what f lists is what P does
module _ (P : Wide → Wide → Type 0) (f : Wide → List Wide) where
  pub sees_to : ((s n : Wide) → Contains (f s) n → P s n) → (ms : List ℕ) (s n : Wide) → Contains (seeing_lending ms f s) n
      → SeesLending ms P s n
  sees_to to [] s n k = record { after = n; step = to s n k; same = refl }
  sees_to to (m ∷ ms) s n k =
      let seen : Wide = seen_by_lending (m ∷ ms) s in
      let x = in_map (owned_as_before (m ∷ ms) s) (f seen) n k in
      record { after = x.0; step = to seen x.0 x.1; same = sym x.2 }

  pub sees_from : ((s n : Wide) → P s n → Contains (f s) n) → (ms : List ℕ) (s n : Wide) → SeesLending ms P s n
      → Contains (seeing_lending ms f s) n
  sees_from from [] s n h = subst (Contains (f s)) (sym h.same) (from s h.after h.step)
  sees_from from (m ∷ ms) s n h =
      let seen : Wide = seen_by_lending (m ∷ ms) s in
      subst (Contains (map (owned_as_before (m ∷ ms) s) (f seen))) (sym h.same)
      (in_map_from (owned_as_before (m ∷ ms) s) (f seen) h.after (from seen h.after h.step))

-- what P does Q does too
pub sees_more : (P Q : Wide → Wide → Type 0) → ((s n : Wide) → P s n → Q s n) → (ms : List ℕ) (s n : Wide)
    → SeesLending ms P s n → SeesLending ms Q s n
sees_more P Q more ms s n h = record { after = h.after; step = more (seen_by_lending ms s) h.after h.step; same = h.same }

-- if each mutex inherits, all is seen as it is
pub sees_all : (P : Wide → Wide → Type 0) (s n : Wide) → SeesLending [] P s n → P s n
sees_all P s n h = subst (P s) (sym h.same) h.step

pub all_is_seen : (P : Wide → Wide → Type 0) (s n : Wide) → P s n → SeesLending [] P s n
all_is_seen P s n h = record { after = n; step = h; same = refl }

-- CYCLES THAT NOBODY SEES

module _ (none : List ℕ) (t : ℕ) (w : World) where
  unseen_with_to : (m : ℕ) → of_call locked_next_by w t ≡ Some m → closes_unseen_with none t w m ≡ true → ClosesUnseen none t w
  unseen_with_to m is e = by_mutex (cases_Bool (list_any (λ x. x == m) none))
    where
      held : Bool
      held = is_held_by_another t w m

      by_held : list_any (λ x. x == m) none ≡ true → (if held then leads_to w (mutex_at w m).owner t else false) ≡ true
          → (held ≡ true) ⊎ (held ≡ false) → ClosesUnseen none t w
      by_held a f (inl b) = record {
        mutex = m;
        locks = is;
        lends_nothing = a;
        held = held_to t w m b;
        closes = sym (choose_then held (leads_to w (mutex_at w m).owner t) false b) ∙ f;
      }
      by_held a f (inr b) = absurd (both_ways _ (choose_else held (leads_to w (mutex_at w m).owner t) false b) f)

      by_mutex : (list_any (λ x. x == m) none ≡ true) ⊎ (list_any (λ x. x == m) none ≡ false) → ClosesUnseen none t w
      by_mutex (inl a) = by_held a (sym (choose_then (list_any (λ x. x == m) none) _ false a) ∙ e) (cases_Bool held)
      by_mutex (inr a) = absurd (both_ways _ (choose_else (list_any (λ x. x == m) none) _ false a) e)

  pub unseen_to : closes_unseen none t w ≡ true → ClosesUnseen none t w
  unseen_to e = by_call (of_call locked_next_by w t) refl e
    where
      by_call : (o : Option ℕ) → of_call locked_next_by w t ≡ o
          → (elim o [ None ↦ false | Some m ↦ closes_unseen_with none t w m ]) ≡ true → ClosesUnseen none t w
      by_call None is f = absurd (cc)
      by_call (Some m) is f = unseen_with_to m is f

  pub unseen_from : ClosesUnseen none t w → closes_unseen none t w ≡ true
  unseen_from h =
      subst (λ (o : Option ℕ). (elim o [ None ↦ false | Some m ↦ closes_unseen_with none t w m ]) ≡ true) (sym h.locks)
      (choose_then (list_any (λ x. x == h.mutex) none) _ false h.lends_nothing
      ∙ (choose_then (is_held_by_another t w h.mutex) _ false (held_from t w h.mutex h.held) ∙ h.closes))

-- with none that lends nothing there is no such cycle
pub none_is_unseen : (t : ℕ) (w : World) → ClosesUnseen [] t w → ⊥
none_is_unseen t w h = both_ways false refl h.lends_nothing

pub moves_or_waits_to : (none : List ℕ) (t : ℕ) (w v : World) → Contains (moved_or_waiting none t w) v → MovesOrWaits none t w v
moves_or_waits_to [] t w v k = plain (none_is_unseen t w) (moved_to t w v k)
moves_or_waits_to (m ∷ ms) t w v k = by_cycle (cases_Bool (closes_unseen (m ∷ ms) t w))
  where
    waiting : List World
    waiting = if is_allowed w (Go t) then waiting_in_cycle t w else []

    by_cycle : (closes_unseen (m ∷ ms) t w ≡ true) ⊎ (closes_unseen (m ∷ ms) t w ≡ false) → MovesOrWaits (m ∷ ms) t w v
    by_cycle (inl e) =
        let c = subst (λ (xs : List World). Contains xs v) (choose_then (closes_unseen (m ∷ ms) t w) waiting (moved t w) e) k in
        let a = in_then (is_allowed w (Go t)) (waiting_in_cycle t w) v c in
        waits (unseen_to (m ∷ ms) t w e) (allowed_to w (Go t) a.0) (waits_in_cycle_to t w v a.1)
    by_cycle (inr e) =
        let c = subst (λ (xs : List World). Contains xs v) (choose_else (closes_unseen (m ∷ ms) t w) waiting (moved t w) e) k in
        plain (λ h. both_ways _ e (unseen_from (m ∷ ms) t w h)) (moved_to t w v c)

pub moves_or_waits_from : (none : List ℕ) (t : ℕ) (w v : World) → MovesOrWaits none t w v → Contains (moved_or_waiting none t w) v
moves_or_waits_from [] t w v (plain n h) = moved_from t w v h
moves_or_waits_from [] t w v (waits c a h) = absurd (none_is_unseen t w c)
moves_or_waits_from (m ∷ ms) t w v (plain n h) =
    subst (λ (xs : List World). Contains xs v) (sym (choose_else (closes_unseen (m ∷ ms) t w) _ (moved t w) no)) (moved_from t w v h)
  where
    no : closes_unseen (m ∷ ms) t w ≡ false
    no = elim (cases_Bool (closes_unseen (m ∷ ms) t w)) [ inl e ↦ absurd (n (unseen_to (m ∷ ms) t w e)) | inr e ↦ e ]
moves_or_waits_from (m ∷ ms) t w v (waits c a h) =
    subst (λ (xs : List World). Contains xs v) (sym (choose_then (closes_unseen (m ∷ ms) t w) _ (moved t w) (unseen_from (m ∷ ms) t w c)))
    (in_then_from (is_allowed w (Go t)) (waiting_in_cycle t w) v (allowed_from w (Go t) a) (waits_in_cycle_from t w v h))

-- a move of the plain machine, if each mutex inherits
pub moves_plainly : (t : ℕ) (none : List ℕ) → none ≡ [] → (s n : Wide)
    → SeesLending (not_named s.world t none) (InWorld (MovesOrWaits none t)) s n
    → (v : World) × MovesOnce t s.world v × (n ≡ record s { world = v })
moves_plainly t [] e s n h =
    let x : InWorld (MovesOrWaits [] t) s n = sees_all (InWorld (MovesOrWaits [] t)) s n h in
    (x.world, by_move x.world x.step, x.same)
  where
    by_move : (v : World) → MovesOrWaits [] t s.world v → MovesOnce t s.world v
    by_move v (plain c m) = m
    by_move v (waits c a m) = absurd (none_is_unseen t s.world c)
moves_plainly t (m ∷ ms) e s n h = absurd (cc)

pub plain_moves_are_seen : (t : ℕ) (none : List ℕ) → none ≡ [] → (s : Wide) (v : World) → MovesOnce t s.world v
    → SeesLending (not_named s.world t none) (InWorld (MovesOrWaits none t)) s (record s { world = v })
plain_moves_are_seen t [] e s v m =
    all_is_seen (InWorld (MovesOrWaits [] t)) s (record s { world = v })
    (record { world = v; step = plain (none_is_unseen t s.world) m; same = refl })
plain_moves_are_seen t (x ∷ xs) e s v m = absurd (cc)

-- an end, if each mutex inherits
pub ends_plainly : (P : Wide → Wide → Type 0) (t : ℕ) (none : List ℕ) → none ≡ [] → (s n : Wide)
    → SeesLending (not_owned s.world t none) P s n → P s n
ends_plainly P t [] e s n h = sees_all P s n h
ends_plainly P t (m ∷ ms) e s n h = absurd (cc)

pub plain_ends_are_seen : (P : Wide → Wide → Type 0) (t : ℕ) (none : List ℕ) → none ≡ [] → (s n : Wide) → P s n
    → SeesLending (not_owned s.world t none) P s n
plain_ends_are_seen P t [] e s n h = all_is_seen P s n h
plain_ends_are_seen P t (m ∷ ms) e s n h = absurd (cc)
