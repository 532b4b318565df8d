-- What happens to a machine leads to the state at a place of those that are listed, which is a step with its rules.
use Rattle.std.proofs.Common.{◌≡◌, ◌≤◌, ℕ, zero, suc, arith, true, false, true≢false, refl, sym, subst, ap, ◌∙◌, List, length, Option, Some, None, Contains}
use Rattle.std.specs.Prelude.{is_some}
use Rattle.std.specs.List.{slice_get}
use Rattle.pif_types.specs.Bounds.{Bounds}
use Rattle.std.proofs.lemmas.Option.{slice_get_within, get_or_from_slice_get}
use Rattle.pif_model.specs.declared.events.Entry.TheVariants as entry
use Rattle.pif_model.specs.Posix.{effective_of, is_living}
use Rattle.pif_rules_model.specs.Lending.{looking_free}
use Rattle.pif_rules_model.specs.Rules.{Wide}
use Rattle.pif_rules_model.specs.Ruled.{widely_entered}
use Rattle.pif_rules_model.proofs.Ruling.{widely_to}
use Rattle.pif_rules_model.proofs.Entries.{widely_entered_to, ended_apart_to}
use Rattle.pif_posix_steps.proofs.DoingLists.{in_map}
use Rattle.pif_search.specs.declared.machine.Stop.{Stop}
use Rattle.pif_c_numbers.specs.declared.numbers.PifNumber.{PifNumber}
use Rattle.pif_c_numbers.specs.Codes as pif
use Rattle.pif_c_numbers.specs.Numbers.{no_number}
use Rattle.pif_c.specs.declared.machines.Ask.{Ask}
use Rattle.pif_c.specs.declared.machines.Ask.TheVariants.{Line, AddsNone, Move, EndsApart}
use Rattle.pif_c.specs.Running.{Running}
use Rattle.pif_c.specs.declared.machine_adding.Adding.{Adding}
use Rattle.pif_c.specs.Machines.{LeadsTo, lending_nothing, new_running, next_states, result_in, rules_by}
use Rattle.pif_c.specs.Going.{AddsTo, Counts, EffectiveTold, Happens, IsAdded, IsAnswered, IsBegun, answer_of, asks_to_add, lacks_mutex, next_number, stop_number}
use Rattle.pif_c.specs.Going.Happens.{happened, none_there, no_machine, given_up as step_given_up, unnamed as step_unnamed}
use Rattle.pif_c.specs.Going.Counts.{counted, given_up as count_given_up, unnamed as count_unnamed, no_machine as nothing_counted}
use Rattle.pif_c.specs.Going.IsAdded.{added, at_limit, given_up as addition_given_up}
use Rattle.pif_c.specs.Going.AddsTo.{asked, no_mutex, given_up as asking_given_up, unnamed as addition_unnamed, no_machine as nothing_added}
use Rattle.pif_c.specs.Going.IsAnswered.{answered, not_there, no_result, nobody, given_up as answer_given_up, no_machine as nothing_answered}
use Rattle.pif_c.specs.Going.EffectiveTold.{told as priority_told, not_living, given_up as priority_given_up, no_machine as no_priority}
use Rattle.pif_c.specs.Going.IsBegun.{begun, none_left, there}

-- the item at a place is one of the list
there_is : {X : Type 0} (xs : List X) (i : ℕ) (x : X) → slice_get xs i ≡ Some x → Contains xs x
there_is xs i x at = (i, slice_get_within xs i x at, get_or_from_slice_get xs i x x at)

-- each state that is listed is one to which it leads
leads : (x : Ask) (s : Running) (n : Wide) → Contains (next_states x s) n → LeadsTo x s n
leads (Line e) s n c = widely_entered_to s.rules s.limits s.wide e n c
leads (AddsNone m k robust) s n c =
    let added = widely_entered s.rules s.limits s.wide (entry.Mutex m k robust) in
    let p = in_map (lending_nothing m) added n c in
    (p.0, widely_entered_to s.rules s.limits s.wide (entry.Mutex m k robust) p.0 p.1, sym p.2)
leads (Move t by) s n c = widely_to (rules_by by s.rules) t s.wide n c
leads (EndsApart t) s n c = ended_apart_to s.rules t s.wide n c

-- and so is the one at a place
pub leads_at : (x : Ask) (s : Running) (place : ℕ) (n : Wide) → slice_get (next_states x s) place ≡ Some n → LeadsTo x s n
leads_at x s place n at = leads x s n (there_is (next_states x s) place n at)

-- what a call says of a machine it says of the handle that holds it before and afterwards
carried : {R : Type 0} (C : Option Running → Option Running → R → Type 0) (before after : Option Running) (s n : Running) (told : R)
    → Some s ≡ before → after ≡ Some n → C (Some s) (Some n) told → C before after told
carried C before after s n told had has c =
    subst (λ (b : Option Running). C b after told) had (subst (λ (a : Option Running). C (Some s) a told) (sym has) c)

-- and of a handle that holds none
none_carried : {R : Type 0} (C : Option Running → Option Running → R → Type 0) (before after : Option Running) (told : R)
    → None ≡ before → after ≡ None → C None None told → C before after told
none_carried C before after told had has c =
    subst (λ (b : Option Running). C b after told) had (subst (λ (a : Option Running). C None a told) (sym has) c)

-- STEPS

-- something happens to a machine, which is what its fields come to: the state at the place is there
pub happened_at : (x : Ask) (place : ℕ) (s fields : Running) (n : Wide) → fields ≡ s
    → Some n ≡ slice_get (next_states x s) place → Happens (Some x) place (Some s) (Some (record fields { wide = n })) pif.ok
happened_at x place s fields n same at =
    subst (λ (f : Running). Happens (Some x) place (Some s) (Some (record f { wide = n })) pif.ok) (sym same)
    (happened x place s n (sym at) (leads_at x s place n (sym at)))

-- or it isn't
pub not_happened_at : (x : Ask) (place : ℕ) (s : Running) → None ≡ slice_get (next_states x s) place
    → Happens (Some x) place (Some s) (Some s) pif.none
not_happened_at x place s at = none_there x place s (sym at)

-- or memory or numbers give out
pub happens_given_up : (x : Ask) (place : ℕ) (s : Running) (stop : Stop) (told : ℕ) → told ≡ stop_number stop
    → Happens (Some x) place (Some s) (Some s) told
happens_given_up x place s stop told e =
    subst (λ (n : ℕ). Happens (Some x) place (Some s) (Some s) n) (sym e) (step_given_up x place s stop)

-- or nothing is named
pub happens_unnamed : (x : Option Ask) (place : ℕ) (s : Running) → x ≡ None → Happens x place (Some s) (Some s) pif.invalid
happens_unnamed x place s e =
    subst (λ (y : Option Ask). Happens y place (Some s) (Some s) pif.invalid) (sym e) (step_unnamed place s)

-- so many states are there
pub counted_as : (x : Ask) (s : Running) (number : ℕ) → number ≡ length (next_states x s)
    → Counts (Some x) (Some s) (record { result = pif.ok; number = number })
counted_as x s number e =
    subst (λ (n : ℕ). Counts (Some x) (Some s) (record { result = pif.ok; number = n })) (sym e) (counted x s)

-- or memory or numbers give out
pub counts_given_up : (x : Ask) (s : Running) (stop : Stop) (told : PifNumber) (why : ℕ) → told ≡ no_number why
    → why ≡ stop_number stop → Counts (Some x) (Some s) told
counts_given_up x s stop told why e same =
    subst (λ (n : PifNumber). Counts (Some x) (Some s) n) (sym (e ∙ ap no_number same)) (count_given_up x s stop)

-- or nothing is named
pub counts_unnamed : (x : Option Ask) (s : Running) (told : PifNumber) → x ≡ None → told ≡ no_number pif.invalid
    → Counts x (Some s) told
counts_unnamed x s told none e =
    subst (λ (n : PifNumber). Counts x (Some s) n) (sym e)
    (subst (λ (y : Option Ask). Counts y (Some s) (no_number pif.invalid)) (sym none) (count_unnamed s))

-- ADDITIONS

pub added_at : (number : ℕ) (x : Ask) (s fields : Running) (n : Wide) → fields ≡ s → Some n ≡ slice_get (next_states x s) 0
    → IsAdded number x s (record fields { wide = n }) (record { result = pif.ok; number = number })
added_at number x s fields n same at =
    subst (λ (f : Running). IsAdded number x s (record f { wide = n }) (record { result = pif.ok; number = number })) (sym same)
    (added n (leads_at x s 0 n (sym at)))

pub at_limit_at : (number : ℕ) (x : Ask) (s : Running) → None ≡ slice_get (next_states x s) 0
    → IsAdded number x s s (no_number pif.too_many)
at_limit_at number x s at = at_limit (sym at)

pub added_given_up : (number : ℕ) (x : Ask) (s : Running) (stop : Stop) (told : PifNumber) (why : ℕ) → told ≡ no_number why
    → why ≡ stop_number stop → IsAdded number x s s told
added_given_up number x s stop told why e same =
    subst (λ (n : PifNumber). IsAdded number x s s n) (sym (e ∙ ap no_number same)) (addition_given_up stop)

-- an addition of a variable whose mutex was never added
pub adds_no_mutex : (why : ℕ) (adding : Adding) (s : Running) (told : PifNumber) → lacks_mutex adding s.wide.world ≡ true
    → told ≡ no_number pif.no_mutex → AddsTo why (Some adding) (Some s) (Some s) told
adds_no_mutex why adding s told lacks e =
    subst (λ (n : PifNumber). AddsTo why (Some adding) (Some s) (Some s) n) (sym e) (no_mutex adding s lacks)

pub adds_given_up : (why : ℕ) (adding : Adding) (s : Running) (stop : Stop) (told : PifNumber)
    → told ≡ no_number (stop_number stop) → AddsTo why (Some adding) (Some s) (Some s) told
adds_given_up why adding s stop told e =
    subst (λ (n : PifNumber). AddsTo why (Some adding) (Some s) (Some s) n) (sym e) (asking_given_up adding s stop)

pub adds_unnamed : (why : ℕ) (x : Option Adding) (s : Running) (told : PifNumber) → x ≡ None → told ≡ no_number why
    → AddsTo why x (Some s) (Some s) told
adds_unnamed why x s told none e =
    subst (λ (n : PifNumber). AddsTo why x (Some s) (Some s) n) (sym e)
    (subst (λ (y : Option Adding). AddsTo why y (Some s) (Some s) (no_number why)) (sym none) (addition_unnamed s))

-- an addition whose number and step are those that it asks
pub asked_as : (why : ℕ) (adding : Adding) (s after : Running) (number : ℕ) (x : Ask) (told : PifNumber)
    → number ≡ next_number adding s.wide.world → x ≡ asks_to_add adding s.wide.world → IsAdded number x s after told
    → AddsTo why (Some adding) (Some s) (Some after) told
asked_as why adding s after number x told same_number same is =
    asked adding s after told
    (subst (λ (y : Ask). IsAdded (next_number adding s.wide.world) y s after told) same
    (subst (λ (n : ℕ). IsAdded n x s after told) same_number is))

-- ANSWERS

pub answered_at : (t a : ℕ) (s fields : Running) (n : Wide) → fields ≡ s → result_in s.wide.world t ≡ Some a
    → Some n ≡ slice_get (next_states (answer_of t a) s) 0
    → IsAnswered t (Some s) (Some (record fields { wide = n })) (record { result = pif.ok; number = a })
answered_at t a s fields n same has at =
    subst (λ (f : Running). IsAnswered t (Some s) (Some (record f { wide = n })) (record { result = pif.ok; number = a }))
    (sym same) (answered s a n has (leads_at (answer_of t a) s 0 n (sym at)))

pub not_answered_at : (t a : ℕ) (s : Running) → result_in s.wide.world t ≡ Some a
    → None ≡ slice_get (next_states (answer_of t a) s) 0 → IsAnswered t (Some s) (Some s) (no_number pif.none)
not_answered_at t a s has at = not_there s a has (sym at)

pub answers_given_up : (t : ℕ) (s : Running) (stop : Stop) (told : PifNumber) (why : ℕ) → told ≡ no_number why
    → why ≡ stop_number stop → IsAnswered t (Some s) (Some s) told
answers_given_up t s stop told why e same =
    subst (λ (n : PifNumber). IsAnswered t (Some s) (Some s) n) (sym (e ∙ ap no_number same)) (answer_given_up s stop)

pub no_result_yet : (t : ℕ) (s : Running) (told : PifNumber) → result_in s.wide.world t ≡ None → told ≡ no_number pif.none
    → IsAnswered t (Some s) (Some s) told
no_result_yet t s told none e =
    subst (λ (n : PifNumber). IsAnswered t (Some s) (Some s) n) (sym e) (no_result s none)

-- a number that names no thread is 0
names_none : (t : ℕ) → (1 ≤ t → false ≡ true) → t ≡ 0
names_none zero f = refl
names_none (suc t) f = absurd (true≢false (sym (f (omega arith))))

pub nobody_asks : (t : ℕ) (s : Running) (told : PifNumber) → (1 ≤ t → false ≡ true) → told ≡ no_number pif.none
    → IsAnswered t (Some s) (Some s) told
nobody_asks t s told f e = subst (λ (n : PifNumber). IsAnswered t (Some s) (Some s) n) (sym e) (nobody s (names_none t f))

-- PRIORITIES

pub effective_told : (t : ℕ) (s : Running) (number : ℕ) → number ≡ effective_of (looking_free s.wide.prio_none s.wide.world) t
    → EffectiveTold t (Some s) (record { result = pif.ok; number = number })
effective_told t s number e =
    subst (λ (n : ℕ). EffectiveTold t (Some s) (record { result = pif.ok; number = n })) (sym e) (priority_told s)

pub not_living_told : (t : ℕ) (s : Running) (told : PifNumber) → is_living s.wide.world t ≡ false → told ≡ no_number pif.none
    → EffectiveTold t (Some s) told
not_living_told t s told ended e =
    subst (λ (n : PifNumber). EffectiveTold t (Some s) n) (sym e) (not_living s ended)

pub effective_given_up : (t : ℕ) (s : Running) (stop : Stop) (told : PifNumber) (why : ℕ) → told ≡ no_number why
    → why ≡ stop_number stop → EffectiveTold t (Some s) told
effective_given_up t s stop told why e same =
    subst (λ (n : PifNumber). EffectiveTold t (Some s) n) (sym (e ∙ ap no_number same)) (priority_given_up s stop)

-- MACHINES

pub begun_on : (l : Bounds) (before after : Option Running) (machine : Running) → before ≡ None → after ≡ Some machine
    → machine ≡ new_running l → IsBegun l before after pif.ok
begun_on l before after machine empty holds is =
    subst (λ (b : Option Running). IsBegun l b after pif.ok) (sym empty)
    (subst (λ (a : Option Running). IsBegun l None a pif.ok) (sym (holds ∙ ap Some is)) begun)

pub none_left_on : (l : Bounds) (before : Option Running) → before ≡ None → IsBegun l before before pif.no_memory
none_left_on l before empty = subst (λ (b : Option Running). IsBegun l b b pif.no_memory) (sym empty) none_left

pub there_on : (l : Bounds) (before : Option Running) → is_some before ≡ true → IsBegun l before before pif.full
there_on l None e = absurd cc
there_on l (Some s) e = there s

-- HANDLES

pub happens_on : (x : Option Ask) (place : ℕ) (before after : Option Running) (s n : Running) (told : ℕ) → Some s ≡ before
    → after ≡ Some n → Happens x place (Some s) (Some n) told → Happens x place before after told
happens_on x place = carried (Happens x place)

pub happens_on_none : (x : Option Ask) (place : ℕ) (before after : Option Running) → None ≡ before → after ≡ None
    → Happens x place before after pif.no_core
happens_on_none x place before after had has = none_carried (Happens x place) before after pif.no_core had has (no_machine x place)

pub adds_on : (why : ℕ) (x : Option Adding) (before after : Option Running) (s n : Running) (told : PifNumber)
    → Some s ≡ before → after ≡ Some n → AddsTo why x (Some s) (Some n) told → AddsTo why x before after told
adds_on why x = carried (AddsTo why x)

pub answers_on : (t : ℕ) (before after : Option Running) (s n : Running) (told : PifNumber) → Some s ≡ before
    → after ≡ Some n → IsAnswered t (Some s) (Some n) told → IsAnswered t before after told
answers_on t = carried (IsAnswered t)

-- and a handle that holds none
pub counts_on_none : (x : Option Ask) (before : Option Running) (told : PifNumber) → None ≡ before → told ≡ no_number pif.no_core
    → Counts x before told
counts_on_none x before told had e =
    subst (λ (n : PifNumber). Counts x before n) (sym e)
    (subst (λ (b : Option Running). Counts x b (no_number pif.no_core)) had (nothing_counted x))

pub adds_on_none : (why : ℕ) (x : Option Adding) (before after : Option Running) (told : PifNumber) → None ≡ before
    → after ≡ None → told ≡ no_number pif.no_core → AddsTo why x before after told
adds_on_none why x before after told had has e =
    subst (λ (n : PifNumber). AddsTo why x before after n) (sym e)
    (none_carried (AddsTo why x) before after (no_number pif.no_core) had has (nothing_added x))

pub answers_on_none : (t : ℕ) (before after : Option Running) (told : PifNumber) → None ≡ before → after ≡ None
    → told ≡ no_number pif.no_core → IsAnswered t before after told
answers_on_none t before after told had has e =
    subst (λ (n : PifNumber). IsAnswered t before after n) (sym e)
    (none_carried (IsAnswered t) before after (no_number pif.no_core) had has nothing_answered)

pub effective_on_none : (t : ℕ) (before : Option Running) (told : PifNumber) → None ≡ before → told ≡ no_number pif.no_core
    → EffectiveTold t before told
effective_on_none t before told had e =
    subst (λ (n : PifNumber). EffectiveTold t before n) (sym e)
    (subst (λ (b : Option Running). EffectiveTold t b (no_number pif.no_core)) had no_priority)
