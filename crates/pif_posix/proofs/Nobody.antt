-- Signals and broadcasts that find nobody blocked on their variable, and lists of one state.
use Rattle.std.proofs.Common.{ℕ, ◌≡◌, ◌∙◌, ◌==◌, List, [], ◌∷◌, ◌++◌, length, map, refl, sym, ap, arith, subst, if◌then◌else◌, Bool, true}
use Rattle.std.specs.List.{filter, Contains}
use Rattle.pif_types.specs.Bounds.{Bounds}
use Rattle.pif_types.specs.declared.requests.Request.{Request}
use Rattle.pif_types.specs.declared.requests.Request.TheVariants.{Signal, Broadcast}
use Rattle.pif_model.specs.declared.events.Event.TheVariants.{Begin, Go, End, Tick}
use Rattle.pif_model.specs.declared.events.Entry.{Entry}
use Rattle.pif_model.specs.declared.events.Entry.TheVariants.{Thread as AddThread, Mutex as AddMutex, Cond as AddCond, Step as Happened}
use Rattle.pif_model.specs.World.{variable_of}
use Rattle.pif_model.specs.Posix.{World, is_use, is_still_blocked, with_progress, all_unblocked}
use Rattle.pif_model.specs.World.Progress.{Has}
use Rattle.pif_posix_steps.specs.Doing.{signalled, broadcast, chosen, all_blocked, selections, woken, none_is_above, moved, entered}
use Rattle.pif_posix.specs.Results.{if_done, entered_in_place}
use Rattle.pif_posix_steps.specs.Once.{MovesOnce, Enters}
use Rattle.pif_posix_steps.proofs.DoingLists.{in_one_from}
use Rattle.pif_posix_steps.proofs.DoingMoves.{moved_to}
use Rattle.pif_posix_steps.proofs.DoingEntries.{entered_to}

none_left : {A : Type 0} (xs : List A) → length xs ≡ 0 → xs ≡ []
none_left [] e = refl
none_left (x ∷ xs) e = absurd (omega (arith, e))

nobody_unblocked : (w : World) → all_unblocked [] w ≡ w
unfolding all_unblocked
nobody_unblocked w = refl

module _ (t c : ℕ) (w new : World) (us : List ℕ) (is : us ≡ all_blocked w c) (none : length us ≡ 0) (e : new ≡ with_progress t (Has 0) w) where
  nobody : all_blocked w c ≡ []
  nobody = sym is ∙ none_left us none

  alone : with_progress t (Has 0) w ∷ [] ≡ new ∷ []
  alone = ap (λ (v : World). v ∷ []) (sym e)

  signalled_nobody : signalled t c w ≡ new ∷ []
  signalled_nobody =
      ap (λ (xs : List ℕ). map (λ u. woken t u w) (filter (none_is_above w (filter (is_still_blocked w t c) xs)) xs)
      ++ (if length (filter (is_still_blocked w t c) xs) == 0 then with_progress t (Has 0) w ∷ [] else [])) nobody ∙ alone

  broadcast_nobody : broadcast t c w ≡ new ∷ []
  broadcast_nobody =
      ap (λ (xs : List ℕ). map (λ us. all_unblocked us (with_progress t (Has 0) w)) (selections (is_still_blocked w t c) xs)) nobody
      ∙ ap (λ (v : World). v ∷ []) (nobody_unblocked (with_progress t (Has 0) w)) ∙ alone

pub chosen_nobody : (t : ℕ) (q : Request) (w new : World) (us : List ℕ) → is_use q ≡ true → us ≡ all_blocked w (variable_of q) → length us ≡ 0
    → new ≡ with_progress t (Has 0) w → chosen t q w ≡ new ∷ []
chosen_nobody t (Signal c) w new us u is none e = signalled_nobody t c w new us is none e
chosen_nobody t (Broadcast c) w new us u is none e = broadcast_nobody t c w new us is none e
chosen_nobody t q w new us u is none e = absurd cc

-- ONE RESULT

pub one_move : (t : ℕ) (w v : World) → moved t w ≡ v ∷ [] → MovesOnce t w v
one_move t w v e = moved_to t w v (subst (λ (xs : List World). Contains xs v) (sym e) (in_one_from v v refl))

pub one_entry : (l : Bounds) (w : World) (x : Entry) (v : World) → entered l w x ≡ v ∷ [] → Enters l w x v
one_entry l w x v e = entered_to l w x v (subst (λ (xs : List World). Contains xs v) (sym e) (in_one_from v v refl))

entered_alone : (l : Bounds) (w : World) (x : Entry) (v : World) → entered_in_place l w x ≡ v ∷ [] → entered l w x ≡ v ∷ []
entered_alone l w (AddThread t p) v e = e
entered_alone l w (AddMutex m k r) v e = e
entered_alone l w (AddCond c m) v e = e
entered_alone l w (Happened (Begin t q) seen) v e = e
entered_alone l w (Happened (Go t) seen) v e = e
entered_alone l w (Happened (End t) seen) v e = let none : 0 ≡ 1 = ap length e in absurd (omega (arith, none))
entered_alone l w (Happened (Tick n) seen) v e = e

-- what came in place is the only result
pub came_alone : (l : Bounds) (w : World) (x : Entry) (b : Bool) (v : World) → entered_in_place l w x ≡ if_done b v → b ≡ true → entered l w x ≡ v ∷ []
came_alone l w x b v e h = entered_alone l w x v (e ∙ ap (λ (c : Bool). if_done c v) h)
