-- The POSIX machine as C holds it: its state with what rules remember, the rules by which it goes, and how much it takes.
-- What may happen to it next is listed by the definitions of pif_rules_model.
use Rattle.std.specs.Prelude.{ℕ, ◌≡◌, ◌==◌, ◌-◌, ◌||◌, not, Bool, true, false, List, [], ◌∷◌, map, Option, Some, None, option_map, slice_get, length, nat_lt, if◌then◌else◌}
use Rattle.std.specs.List.{list_all}
use Rattle.pif_types.specs.Bounds.{Bounds}
use Rattle.pif_types.specs.declared.errors.Refusal.{Refusal}
use Rattle.pif_types.specs.declared.errors.Refusal.TheVariants.{Dead}
use Rattle.pif_types.specs.declared.requests.Request.{Request}
use Rattle.pif_model.specs.declared.events.Event.TheVariants.{End}
use Rattle.pif_model.specs.declared.events.Entry.TheVariants as entry
use Rattle.pif_model.specs.Deadlines.{reported_result}
use Rattle.pif_model.specs.World.{Health, Progress, Mutex}
use Rattle.pif_model.specs.World.Health.{Fine, Inconsistent, Unusable}
use Rattle.pif_model.specs.World.Progress.{Waiting, Stuck, Has}
use Rattle.pif_model.specs.Posix.{World, Call, empty_world, thread_at, mutex_at, is_blocked, leads_to, named_by, refusal_of, variable_of}
use Rattle.pif_posix_steps.specs.Doing.{moved}
use Rattle.pif_rules_model.specs.declared.rules.Rules.{Rules}
use Rattle.pif_rules_model.specs.Sets.{no_rules, rules_in_order}
use Rattle.pif_rules_model.specs.Rules.{Wide, WideMoves, WideEnters, WideEndsApart}
use Rattle.pif_rules_model.specs.Lending.{looking_free, owned_as_in}
use Rattle.pif_rules_model.specs.Ruled.{closes_unseen, ended_apart, widely_entered, widely_moved}
use Rattle.pif_rules.specs.Sets.{only}
use Rattle.pif_c_numbers.specs.declared.numbers.PifDoing.{PifDoing}
use Rattle.pif_c_numbers.specs.declared.numbers.PifOwned.{PifOwned}
use Rattle.pif_c_numbers.specs.Codes as pif
use Rattle.pif_c_numbers.specs.Numbers.{no_owner, no_state}
use Rattle.pif_c.specs.declared.machines.Ask.{Ask}
use Rattle.pif_c.specs.declared.machines.Ask.TheVariants.{Line, AddsNone, Move, EndsApart}
use Rattle.pif_c.specs.declared.machines.By.{By}
use Rattle.pif_c.specs.declared.machines.By.TheVariants.{Itself, Any, One}
use Rattle.pif_c.specs.Running.{Running}

-- a machine to which nothing was added, and which allows no rule
abbrev pub new_running : Bounds → Running
new_running l = record {
  wide = record { world = empty_world l.signals; lost = []; apart = []; prio_none = []; given = [] };
  rules = no_rules;
  limits = l;
}

-- MOVES

-- by what a thread moves, of this number: 0 is the POSIX machine itself, and rules have numbers from 1 on, in the order
-- in which they are told. The greatest number stands for any
abbrev pub any_number : ℕ
any_number = 4294967295

abbrev pub by_numbered : ℕ → Option By
by_numbered n =
    if n == 0 then Some Itself else
    if n == any_number then Some Any else option_map One (slice_get rules_in_order (n - 1))

-- the rules that count for a move: none, all that the machine allows, or of these one alone
abbrev pub rules_by : By → Rules → Rules
rules_by Itself r = no_rules
rules_by Any r = r
rules_by (One x) r = only r x

-- WHAT MAY HAPPEN NEXT

-- s, of which m lends nothing
abbrev pub lending_nothing : ℕ → Wide → Wide
lending_nothing m s = record s { prio_none = m ∷ s.prio_none }

-- the states to which it leads: all results
abbrev pub next_states : Ask → Running → List Wide
next_states (Line e) s = widely_entered s.rules s.limits s.wide e
next_states (AddsNone m k robust) s =
    map (lending_nothing m) (widely_entered s.rules s.limits s.wide (entry.Mutex m k robust))
next_states (Move t by) s = widely_moved (rules_by by s.rules) t s.wide
next_states (EndsApart t) s = ended_apart s.rules t s.wide

-- and as steps of the machine with rules
abbrev pub LeadsTo : Ask → Running → Wide → Type 0
LeadsTo (Line e) s n = WideEnters s.rules s.limits s.wide e n
LeadsTo (AddsNone m k robust) s n =
    (v : Wide) × WideEnters s.rules s.limits s.wide (entry.Mutex m k robust) v × (n ≡ lending_nothing m v)
LeadsTo (Move t by) s n = WideMoves (rules_by by s.rules) t s.wide n
LeadsTo (EndsApart t) s n = WideEndsApart s.rules t s.wide n

-- STEPS IN PLACE

-- what is asked happens, and goes to the state at this place; or nothing changes
abbrev pub HappensInPlace : Ask → (place : ℕ) → Running → Running → Bool → Type 0
HappensInPlace x place s n true = (slice_get (next_states x s) place ≡ Some n.wide) × (n ≡ record s { wide = n.wide })
HappensInPlace x place s n false = n ≡ s

-- whether m is free, or its owner is t or doesn't wait for t
abbrev pub opens_no_cycle : (t : ℕ) → World → (m : ℕ) → Bool
opens_no_cycle t w m =
    ((mutex_at w m).owner == 0 || (mutex_at w m).owner == t) || not (leads_to w (mutex_at w m).owner t)

-- t closes no cycle that nobody sees, whichever mutexes lend nothing
abbrev pub ClosesNone : ℕ → World → Type 0
ClosesNone t w = (none : List ℕ) → closes_unseen none t w ≡ false

-- Hidden mutexes look free to a move of t by the plain machine. It leads to one state alone, and n is that, in which they
-- have the owners that they have in o
abbrev pub MovesUnseen : (hidden : List ℕ) → ℕ → (w o n : World) → Type 0
MovesUnseen hidden t w o n =
    ClosesNone t (looking_free hidden w) × (map (owned_as_in o hidden) (moved t (looking_free hidden w)) ≡ n ∷ [])

-- whether each of these mutexes has the same owner in both
abbrev pub are_owned_alike : List ℕ → (w o : World) → Bool
are_owned_alike ms w o = list_all (λ m. (mutex_at w m).owner == (mutex_at o m).owner) ms

-- WHAT IT SHOWS

-- what the open call of a thread, which has come so far and has run out of time or not, is answered
abbrev pub result_by : Progress → Request → Bool → Option ℕ
result_by (Has r) q expired = Some (reported_result q expired r)
result_by p q expired = None

abbrev pub result_of : Option Call → Bool → Option ℕ
result_of None expired = None
result_of (Some x) expired = result_by x.progress x.request expired

abbrev pub result_in : World → ℕ → Option ℕ
result_in w t =
    if nat_lt t (length w.threads) then result_of (thread_at w t).call (thread_at w t).timer.expired else None

-- a state of a thread, and for what it waits
abbrev pub state_told : (state waits_for : ℕ) → PifDoing
state_told state waits_for = record { result = pif.ok; state = state; waits_for = waits_for }

-- what a thread does whose open call has come so far
abbrev pub doing_by : Progress → Request → PifDoing
doing_by Waiting q = state_told pif.queued (named_by q)
doing_by Stuck q = state_told pif.stopped 0
doing_by p q = if is_blocked p then state_told pif.parked (variable_of q) else state_told pif.ready 0

abbrev pub doing_of : Option Call → PifDoing
doing_of None = state_told pif.ready 0
doing_of (Some x) = doing_by x.progress x.request

-- what a thread does, by why its end is refused
abbrev pub doing_if : Option Refusal → Option Call → PifDoing
doing_if None call = doing_of call
doing_if (Some Dead) call = state_told pif.gone 0
doing_if (Some _) call = no_state pif.none

abbrev pub doing_in : World → ℕ → PifDoing
doing_in w t = doing_if (refusal_of w (End t)) (thread_at w t).call

-- the owner of a mutex
abbrev pub owner_by : Mutex → PifOwned
owner_by x = if x.owner == 0 then no_owner pif.none else record { result = pif.ok; thread = x.owner; count = x.count }

abbrev pub owner_in : World → ℕ → PifOwned
owner_in w m = if nat_lt m (length w.mutexes) then owner_by (mutex_at w m) else no_owner pif.none

-- the number of the health of a mutex, as a health word has it
abbrev pub health_number : Health → ℕ
health_number Fine = 0
health_number Inconsistent = 1
health_number Unusable = 2

abbrev pub health_in : World → ℕ → Option ℕ
health_in w m = if nat_lt m (length w.mutexes) then Some (health_number (mutex_at w m).health) else None
