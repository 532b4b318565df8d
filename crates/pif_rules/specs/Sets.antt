-- Rules one by one, and sets of them.
use Rattle.std.specs.Prelude.{ℕ, ◌||◌, ◌&&◌, Bool, nat_lt, List, [], ◌++◌, find, Option, Some, None, if◌then◌else◌, codes}
use Rattle.std.specs.List.{flat_map, list_any}
use Rattle.pif_rules_model.specs.declared.rules.HoldLimits.{HoldLimits}
use Rattle.pif_rules_model.specs.declared.rules.Rule.{Rule}
use Rattle.pif_rules_model.specs.declared.rules.Rule.TheVariants.{Steal, AnyWaiter, Spurious, Recursion, OwnErrorcheck, AnyConsistent, HeldWait, LostSignal, Revives, Barge, CycleWaits, CycleRefused, TimeoutConsumes, EndsApart, StaysLocked, Rebinds, MoreUses, RefusesSetprio, ConsistentByAny, CutUnlock, OtherError, WaitGivesAll}
use Rattle.pif_rules_model.specs.declared.rules.Rules.{Rules}
use Rattle.pif_rules_model.specs.Sets.{has, no_rules, rules_in_order}

-- The name of a rule.
abbrev pub name_of : Rule → List ℕ
name_of Steal = codes "steal"
name_of AnyWaiter = codes "any_waiter"
name_of Spurious = codes "spurious"
name_of Recursion = codes "recursion"
name_of OwnErrorcheck = codes "own_errorcheck"
name_of AnyConsistent = codes "any_consistent"
name_of HeldWait = codes "held_wait"
name_of LostSignal = codes "lost_signal"
name_of Revives = codes "revives"
name_of Barge = codes "barge"
name_of CycleWaits = codes "cycle_waits"
name_of CycleRefused = codes "cycle_refused"
name_of TimeoutConsumes = codes "timeout_consumes"
name_of EndsApart = codes "ends_apart"
name_of StaysLocked = codes "stays_locked"
name_of Rebinds = codes "rebinds"
name_of MoreUses = codes "more_uses"
name_of RefusesSetprio = codes "refuses_setprio"
name_of ConsistentByAny = codes "consistent_by_any"
name_of CutUnlock = codes "cut_unlock"
name_of OtherError = codes "other_error"
name_of WaitGivesAll = codes "wait_gives_all"

-- Of these rules this one alone, if it is one of them.
abbrev pub only : Rules → Rule → Rules
only r Steal = record no_rules { steal = r.steal }
only r AnyWaiter = record no_rules { any_waiter = r.any_waiter }
only r Spurious = record no_rules { spurious = r.spurious }
only r Recursion = record no_rules { recursion = r.recursion }
only r OwnErrorcheck = record no_rules { own_errorcheck = r.own_errorcheck }
only r AnyConsistent = record no_rules { any_consistent = r.any_consistent }
only r HeldWait = record no_rules { held_wait = r.held_wait }
only r LostSignal = record no_rules { lost_signal = r.lost_signal }
only r Revives = record no_rules { revives = r.revives }
only r Barge = record no_rules { barge = r.barge }
only r CycleWaits = record no_rules { cycle_waits = r.cycle_waits }
only r CycleRefused = record no_rules { cycle_refused = r.cycle_refused }
only r TimeoutConsumes = record no_rules { timeout_consumes = r.timeout_consumes }
only r EndsApart = record no_rules { ends_apart = r.ends_apart }
only r StaysLocked = record no_rules { stays_locked = r.stays_locked }
only r Rebinds = record no_rules { rebinds = r.rebinds }
only r MoreUses = record no_rules { more_uses = r.more_uses }
only r RefusesSetprio = record no_rules { refuses_setprio = r.refuses_setprio }
only r ConsistentByAny = record no_rules { consistent_by_any = r.consistent_by_any }
only r CutUnlock = record no_rules { cut_unlock = r.cut_unlock }
only r OtherError = record no_rules { other_error = r.other_error }
only r WaitGivesAll = record no_rules { wait_gives_all = r.wait_gives_all }

-- The lesser and the greater of two numbers.
abbrev pub lesser : ℕ → ℕ → ℕ
lesser m n = if nat_lt n m then n else m

abbrev pub greater : ℕ → ℕ → ℕ
greater m n = if nat_lt m n then n else m

-- The bounds within which all is allowed that either of two allows: the wider on each side.
abbrev pub wider : Option HoldLimits → Option HoldLimits → Option HoldLimits
wider None y = y
wider (Some x) None = Some x
wider (Some x) (Some y) = Some (record { least = lesser x.least y.least; most = greater x.most y.most })

-- The rules of both.
abbrev pub both : Rules → Rules → Rules
both a b = record {
  steal = a.steal || b.steal;
  any_waiter = a.any_waiter || b.any_waiter;
  spurious = a.spurious || b.spurious;
  recursion = wider a.recursion b.recursion;
  own_errorcheck = a.own_errorcheck || b.own_errorcheck;
  any_consistent = a.any_consistent || b.any_consistent;
  held_wait = a.held_wait || b.held_wait;
  lost_signal = a.lost_signal || b.lost_signal;
  revives = a.revives || b.revives;
  barge = a.barge || b.barge;
  cycle_waits = a.cycle_waits || b.cycle_waits;
  cycle_refused = a.cycle_refused || b.cycle_refused;
  timeout_consumes = a.timeout_consumes || b.timeout_consumes;
  ends_apart = a.ends_apart || b.ends_apart;
  stays_locked = a.stays_locked || b.stays_locked;
  rebinds = a.rebinds || b.rebinds;
  more_uses = a.more_uses || b.more_uses;
  refuses_setprio = a.refuses_setprio || b.refuses_setprio;
  consistent_by_any = a.consistent_by_any || b.consistent_by_any;
  cut_unlock = a.cut_unlock || b.cut_unlock;
  other_error = a.other_error || b.other_error;
  wait_gives_all = a.wait_gives_all || b.wait_gives_all;
  prio_none = a.prio_none || b.prio_none;
  extra_lines = a.extra_lines || b.extra_lines;
}

-- Whether a rule is one of both.
unfoldable pub have_common : Rules → Rules → Bool
have_common a b = list_any (λ x. has a x && has b x) rules_in_order

-- Whether there is a rule.
unfoldable pub is_any : Rules → Bool
is_any r = list_any (has r) rules_in_order

-- The first of these rules, if there is one.
unfoldable pub first_of : Rules → Option Rule
first_of r = find (has r) rules_in_order

-- The name of a rule behind a space, if it is one of these.
abbrev pub name_in : Rules → Rule → List ℕ
name_in r x = if has r x then codes " " ++ name_of x else []

-- The names of these rules in their order, each behind a space.
unfoldable pub names_of : Rules → List ℕ
names_of r = flat_map (name_in r) rules_in_order
