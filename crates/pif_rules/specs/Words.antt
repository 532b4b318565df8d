-- Words that name rules: those of the command line, and those behind `allow`.
use Rattle.std.specs.Prelude.{ℕ, Bool, true, false, not, ◌&&◌, ◌==◌, nat_lt, List, drop, find, length, position, take, Option, Some, None, if◌then◌else◌, bytes_eq, codes}
use Rattle.pif_text_model.specs.Numbers.{number_in}
use Rattle.pif_rules_model.specs.declared.rules.HoldLimits.{HoldLimits}
use Rattle.pif_rules_model.specs.declared.rules.Rule.{Rule}
use Rattle.pif_rules_model.specs.declared.rules.Rule.TheVariants.{Recursion}
use Rattle.pif_rules_model.specs.declared.rules.Rules.{Rules}
use Rattle.pif_rules_model.specs.Sets.{no_rules, posix_rules, rules_in_order}
use Rattle.pif_rules.specs.Sets.{name_of, only}

-- All rules. A recursive mutex may be held as often as a number can say, and refused from one hold on.
abbrev pub all_rules : Rules
all_rules = record {
  steal = true;
  any_waiter = true;
  spurious = true;
  recursion = Some (record { least = 1; most = 4294967295 });
  own_errorcheck = true;
  any_consistent = true;
  held_wait = true;
  lost_signal = true;
  revives = true;
  barge = true;
  cycle_waits = true;
  cycle_refused = true;
  timeout_consumes = true;
  ends_apart = true;
  stays_locked = true;
  rebinds = true;
  more_uses = true;
  refuses_setprio = true;
  consistent_by_any = true;
  cut_unlock = true;
  other_error = true;
  wait_gives_all = true;
  prio_none = false;
  extra_lines = false;
}

-- Whether bounds stand behind the name of a rule.
abbrev pub has_bounds : Rule → Bool
has_bounds Recursion = true
has_bounds _ = false

-- Whether a word names a rule that has no bounds.
abbrev pub is_named : List ℕ → Rule → Bool
is_named word x = not (has_bounds x) && bytes_eq word (name_of x)

-- The rule that a word names, if it has no bounds.
unfoldable pub rule_in : List ℕ → Option Rule
rule_in word = find (is_named word) rules_in_order

-- The rule that a word names, as a set.
abbrev pub alone : Option Rule → Option Rules
alone None = None
alone (Some x) = Some (only all_rules x)

-- This rule alone, or no rule.
abbrev pub just : Option Rule → Rules
just None = no_rules
just (Some x) = only all_rules x

-- The rules that a word names by itself: one without bounds, or all those of POSIX.
abbrev pub set_in : List ℕ → Option Rules
set_in word = if bytes_eq word (codes "posix") then Some posix_rules else alone (rule_in word)

-- The bounds of two numbers.
abbrev pub bounds_of : Option ℕ → Option ℕ → Option HoldLimits
bounds_of None b = None
bounds_of (Some a) None = None
bounds_of (Some a) (Some b) = Some (record { least = a; most = b })

-- The bounds of a number, and of what follows it: two dots, and another number.
abbrev pub bounds_before : (least behind : List ℕ) → Option HoldLimits
bounds_before least behind =
    if nat_lt (length behind) 2 then None
    else if bytes_eq (take 2 behind) (codes "..") then bounds_of (number_in least) (number_in (drop 2 behind)) else None

-- Where the first dot of a word stands.
unfoldable pub first_dot : List ℕ → Option ℕ
first_dot word = position (λ byte. byte == 46) word

-- The bounds that a word writes by two numbers, of which the first ends at this place.
abbrev pub bounds_at : List ℕ → Option ℕ → Option HoldLimits
bounds_at word None = None
bounds_at word (Some place) = bounds_before (take place word) (drop place word)

-- The same, if it ends at the first dot.
abbrev pub bounds_between : List ℕ → Option HoldLimits
bounds_between word = bounds_at word (first_dot word)

-- The bounds of `recursion` that a word writes: A..B, or N for 255..N.
abbrev pub bounds_in : List ℕ → Option HoldLimits
bounds_in word = elim (number_in word) [ None ↦ bounds_between word | Some n ↦ Some (record { least = 255; most = n }) ]

-- Whether bounds are in their range: 1 ≤ A ≤ B. Those of the machine itself, 255..255, are none of a rule.
abbrev pub are_bounds : HoldLimits → Bool
are_bounds x = nat_lt 0 x.least && not (nat_lt x.most x.least) && not ((x.least == 255) && (x.most == 255))

-- Whether these are bounds that are out of their range.
abbrev pub are_beyond : Option HoldLimits → Bool
are_beyond None = false
are_beyond (Some x) = not (are_bounds x)

-- The bounds, if they are in their range.
abbrev pub in_range : Option HoldLimits → Option HoldLimits
in_range None = None
in_range (Some x) = if are_bounds x then Some x else None

-- The bounds of `recursion` that a word names, if it does: `recursion=300`, `recursion=1..300`.
abbrev pub recursion_in : List ℕ → Option HoldLimits
recursion_in word =
    if nat_lt (length word) 10 then None
    else if bytes_eq (take 10 word) (codes "recursion=") then in_range (bounds_in (drop 10 word)) else None

-- `recursion` with its bounds, if there are some.
abbrev pub recursion_of : Option HoldLimits → Option Rules
recursion_of None = None
recursion_of (Some x) = Some (record no_rules { recursion = Some x })

-- The rules that a set and bounds stand for.
abbrev pub named : Option Rules → Option HoldLimits → Option Rules
named (Some r) bounds = Some r
named None bounds = recursion_of bounds

-- The rules that a word names: one rule, those of POSIX, or all of them.
abbrev pub rules_named : List ℕ → Option Rules
rules_named word = if bytes_eq word (codes "all") then Some all_rules else named (set_in word) (recursion_in word)
