-- A state as lending sees it: its threads are as they are, and all is as it is if each mutex inherits.
use Rattle.std.proofs.Common.{ℕ, ◌≡◌, List, [], ◌∷◌, refl, ap, subst}
use Rattle.pif_model.specs.declared.events.Event.TheVariants as event
use Rattle.pif_model.specs.Posix.{World, Thread, IsAllowed, is_living}
use Rattle.pif_rules_model.specs.Lending.{with_owner, looking_free}
use Rattle.pif_rules_model.specs.Rules.{Wide, MovesOrWaits, SeesLending, InWorld}
use Rattle.pif_rules_model.specs.Rules.MovesOrWaits.{plain, waits}
use Rattle.pif_history_model.specs.declared.lines.Line.{Line}
use Rattle.pif_history_model.specs.declared.lines.Line.TheVariants.{Prio}
use Rattle.pif_history_model.specs.Searched.{told_of}

-- the same threads, with the same calls
pub seen_threads : (ms : List ℕ) (w : World) → (looking_free ms w).threads ≡ w.threads
seen_threads [] w = refl
seen_threads (m ∷ ms) w = seen_threads ms (with_owner m 0 w)

pub seen_living : (ms : List ℕ) (w : World) (t : ℕ) → is_living (looking_free ms w) t ≡ is_living w t
seen_living ms w t = ap (λ (ts : List Thread). is_living (record w { threads = ts }) t) (seen_threads ms w)

-- so also in the state of which a line tells
pub told_living : (line : Line) (s : Wide) (t : ℕ) → is_living (told_of line s) t ≡ is_living s.world t
told_living (Prio u p) s t = seen_living s.prio_none s.world t
told_living _ s t = refl

seen_allowed : (ms : List ℕ) (w : World) (t : ℕ) → IsAllowed (looking_free ms w) (event.Go t) → IsAllowed w (event.Go t)
seen_allowed ms w t a =
    subst (λ (ts : List Thread). IsAllowed (record w { threads = ts }) (event.Go t)) (seen_threads ms w) a

-- a thread that moves may go on
pub plain_may_go : (none ms : List ℕ) (t : ℕ) (s n : Wide) → SeesLending ms (InWorld (MovesOrWaits none t)) s n
    → IsAllowed s.world (event.Go t)
plain_may_go none ms t s n h = seen_allowed ms s.world t (by_move (looking_free ms s.world) h.step.world h.step.step)
  where
    by_move : (w v : World) → MovesOrWaits none t w v → IsAllowed w (event.Go t)
    by_move w v (plain c m) = m.allowed
    by_move w v (waits c a m) = a

-- a line tells of the state itself if each mutex inherits
pub told_plainly : (line : Line) (s : Wide) → s.prio_none ≡ [] → told_of line s ≡ s.world
told_plainly (Prio t p) s none = ap (λ (ms : List ℕ). looking_free ms s.world) none
told_plainly _ s none = refl
