-- The rules, and sets of them. POSIX leaves more open than the machine of Posix.antt does, and implementations do what
-- POSIX doesn't allow. Each rule is one such thing, and has a name by which a history or a program allows it.
use Rattle.std.specs.Prelude.{◌≡◌, ◌≤◌, Bool, true, false, is_some, List, [], ◌∷◌, Some, None}
use Rattle.pif_rules_model.specs.declared.rules.Rule.{Rule}
use Rattle.pif_rules_model.specs.declared.rules.Rule.TheVariants.{Steal, AnyWaiter, Spurious, Recursion, OwnErrorcheck, AnyConsistent, HeldWait, LostSignal, Revives, Barge, CycleWaits, CycleRefused, TimeoutConsumes, EndsApart, StaysLocked, Rebinds, MoreUses, RefusesSetprio, ConsistentByAny, CutUnlock, OtherError, WaitGivesAll}
use Rattle.pif_rules_model.specs.declared.rules.HoldLimits.{HoldLimits}
use Rattle.pif_rules_model.specs.declared.rules.Rules.{Rules}

-- all rules, in the order in which they are told and tried: that of the constant RULES
abbrev pub rules_in_order : List Rule
rules_in_order =
    Steal ∷ AnyWaiter ∷ Spurious ∷ Recursion ∷ OwnErrorcheck ∷ AnyConsistent ∷ HeldWait ∷ LostSignal ∷ Revives ∷ Barge
    ∷ CycleWaits ∷ CycleRefused ∷ TimeoutConsumes ∷ EndsApart ∷ StaysLocked ∷ Rebinds ∷ MoreUses ∷ RefusesSetprio
    ∷ ConsistentByAny ∷ CutUnlock ∷ OtherError ∷ WaitGivesAll ∷ []

-- whether a rule is one of these
abbrev pub has : Rules → Rule → Bool
has r Steal = r.steal
has r AnyWaiter = r.any_waiter
has r Spurious = r.spurious
has r Recursion = is_some r.recursion
has r OwnErrorcheck = r.own_errorcheck
has r AnyConsistent = r.any_consistent
has r HeldWait = r.held_wait
has r LostSignal = r.lost_signal
has r Revives = r.revives
has r Barge = r.barge
has r CycleWaits = r.cycle_waits
has r CycleRefused = r.cycle_refused
has r TimeoutConsumes = r.timeout_consumes
has r EndsApart = r.ends_apart
has r StaysLocked = r.stays_locked
has r Rebinds = r.rebinds
has r MoreUses = r.more_uses
has r RefusesSetprio = r.refuses_setprio
has r ConsistentByAny = r.consistent_by_any
has r CutUnlock = r.cut_unlock
has r OtherError = r.other_error
has r WaitGivesAll = r.wait_gives_all

-- no rule is allowed
abbrev pub no_rules : Rules
no_rules = record {
  steal = false;
  any_waiter = false;
  spurious = false;
  recursion = None;
  own_errorcheck = false;
  any_consistent = false;
  held_wait = false;
  lost_signal = false;
  revives = false;
  barge = false;
  cycle_waits = false;
  cycle_refused = false;
  timeout_consumes = false;
  ends_apart = false;
  stays_locked = false;
  rebinds = false;
  more_uses = false;
  refuses_setprio = false;
  consistent_by_any = false;
  cut_unlock = false;
  other_error = false;
  wait_gives_all = false;
  prio_none = false;
  extra_lines = false;
}

-- a recursive mutex may be held as often by the second bounds, and a lock of it may be refused as early
pub record AreWithin (a b : HoldLimits) : Type 0 where
  pub least : b.least ≤ a.least
  pub most : a.most ≤ b.most

-- each rule of a is one of b, within its bounds
pub record AreAmong (a b : Rules) : Type 0 where
  pub among : (x : Rule) → has a x ≡ true → has b x ≡ true
  pub recursion : (x : HoldLimits) → a.recursion ≡ Some x → (y : HoldLimits) × (b.recursion ≡ Some y) × AreWithin x y
  pub prio_none : a.prio_none ≡ true → b.prio_none ≡ true
  pub extra_lines : a.extra_lines ≡ true → b.extra_lines ≡ true

-- Whether POSIX.1-2017 allows what a rule adds. The others are what implementations do against it. That these are all
-- that POSIX leaves open beside the machine is trusted.
abbrev pub is_of_posix : Rule → Bool
is_of_posix Steal = false
is_of_posix AnyWaiter = true
is_of_posix Spurious = true
is_of_posix Recursion = true
is_of_posix OwnErrorcheck = false
is_of_posix AnyConsistent = false
is_of_posix HeldWait = true
is_of_posix LostSignal = false
is_of_posix Revives = false
is_of_posix Barge = true
is_of_posix CycleWaits = true
is_of_posix CycleRefused = true
is_of_posix TimeoutConsumes = true
is_of_posix EndsApart = true
is_of_posix StaysLocked = true
is_of_posix Rebinds = true
is_of_posix MoreUses = true
is_of_posix RefusesSetprio = true
is_of_posix ConsistentByAny = true
is_of_posix CutUnlock = true
is_of_posix OtherError = true
is_of_posix WaitGivesAll = true

-- all that POSIX allows: it names no greatest number of holds
abbrev pub posix_rules : Rules
posix_rules = record {
  steal = false;
  any_waiter = true;
  spurious = true;
  recursion = Some (record { least = 1; most = 4294967295 });
  own_errorcheck = false;
  any_consistent = false;
  held_wait = true;
  lost_signal = false;
  revives = false;
  barge = true;
  cycle_waits = true;
  cycle_refused = true;
  timeout_consumes = true;
  ends_apart = true;
  stays_locked = true;
  rebinds = true;
  more_uses = true;
  refuses_setprio = true;
  consistent_by_any = true;
  cut_unlock = true;
  other_error = true;
  wait_gives_all = true;
  prio_none = false;
  extra_lines = false;
}
