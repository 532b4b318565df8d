-- What a deed tells and leaves is a function of what the handle held, unless memory, the numbers or a limit gave out.
use Rattle.std.proofs.Common.{◌≡◌, ◌≢◌, ◌==◌, inl, inr, ℕ, Bool, true, false, refl, sym, ap, ◌∙◌, subst, List, [], ◌∷◌, map, Option, Some, None, Contains, length}
use Rattle.std.specs.Prelude.{not, nat_lt, nat_le, ◌++◌, option_to_list, slice_get, if◌then◌else◌}
use Rattle.pif_types.specs.declared.requests.Kind.{Kind}
use Rattle.pif_model.specs.declared.events.Entry.TheVariants as entry
use Rattle.pif_model.specs.declared.events.Event.TheVariants.{Go}
use Rattle.pif_model.specs.declared.events.Seen.TheVariants.{Answered}
use Rattle.pif_model.specs.Posix.{World, new_variable}
use Rattle.pif_posix_steps.specs.Doing.{answered, mutex_added, thread_added, variable_added}
use Rattle.pif_posix_steps.proofs.DoingLists.{in_cases, not_in_none}
use Rattle.pif_rules_model.specs.Rules.{Wide, WideEnters, has_all_again}
use Rattle.pif_rules_model.specs.Ruled.{beside, widely_entered}
use Rattle.pif_rules_model.proofs.Entries.{widely_entered_from}
use Rattle.pif_search.specs.declared.machine.Stop.{Stop}
use Rattle.pif_search.specs.declared.machine.Stop.TheVariants.{NoMemory, Range, Many}
use Rattle.pif_c_numbers.specs.declared.numbers.PifNumber.{PifNumber}
use Rattle.pif_c_numbers.specs.Codes as pif
use Rattle.pif_c_numbers.specs.Numbers.{no_number}
use Rattle.pif_c.specs.declared.machines.Ask.{Ask}
use Rattle.pif_c.specs.declared.machine_adding.Adding.{Adding}
use Rattle.pif_c.specs.declared.machine_adding.Adding.TheVariants.{AddThread, AddMutex, AddNone, AddCond}
use Rattle.pif_c.specs.Running.{Running}
use Rattle.pif_c.specs.Machines.{LeadsTo, lending_nothing, next_states, result_in}
use Rattle.pif_c.specs.Going.{AddsTo, Happens, IsAdded, IsAnswered, answer_of, asks_to_add, lacks_mutex, next_number, stop_number}
use Rattle.pif_c.specs.Going.Happens.{happened, none_there, no_machine, given_up as step_given_up, unnamed as step_unnamed}
use Rattle.pif_c.specs.Going.IsAdded.{added, at_limit, given_up as addition_given_up}
use Rattle.pif_c.specs.Going.AddsTo.{asked, no_mutex, given_up as asking_given_up, unnamed as addition_unnamed, no_machine as nothing_added}
use Rattle.pif_c.specs.Going.IsAnswered.{answered as is_answered, not_there, no_result, nobody, given_up as answer_given_up, no_machine as nothing_answered}
use Rattle.pif_c.specs.Replays.{Deed, Does, GaveOut, Plays, ReplaysAreAlike}
use Rattle.pif_c.specs.Replays.Deed.{happens, answers, adds}

-- what a handle holds, and what was told
abbrev Held : Type 0
Held = Option Running × PifNumber

-- a machine of which something may have become
abbrev held_if : Running → (told otherwise : PifNumber) → Option Wide → Held
held_if s told otherwise None = (Some s, otherwise)
held_if s told otherwise (Some n) = (Some (record s { wide = n }), told)

-- why a machine gives up is that something gave out
gives_out : (stop : Stop) (told : PifNumber) → told.result ≡ stop_number stop → GaveOut told
gives_out NoMemory told e = inl e
gives_out Range told e = inr e
gives_out Many told e = inr e

-- THE FIRST OF THE STATES THAT ARE LISTED

-- if there is one at most, it is the first
one_of : (o : Option World) (f : World → Wide) (b : Bool) (n : Wide) → Contains (if b then map f (option_to_list o) else []) n
    → slice_get (if b then map f (option_to_list o) else []) 0 ≡ Some n
one_of None f true n c = absurd (not_in_none n c)
one_of (Some w) f true n c = elim (in_cases (f w) [] n c) [ inl e ↦ ap Some e | inr d ↦ absurd (not_in_none n d) ]
one_of o f false n c = absurd (not_in_none n c)

-- likewise behind a change
changed_one : (g : Wide → Wide) (xs : List Wide) (v : Wide) → slice_get xs 0 ≡ Some v → slice_get (map g xs) 0 ≡ Some (g v)
changed_one g [] v e = absurd cc
changed_one g (x ∷ xs) v e = cc

answer_first : (t a : ℕ) (s : Running) (n : Wide) → LeadsTo (answer_of t a) s n → slice_get (next_states (answer_of t a) s) 0 ≡ Some n
answer_first t a s n h = one_of (answered t a s.wide.world) (beside s.wide) (has_all_again s.wide (entry.Step (Go t) (Answered a))) n (widely_entered_from s.rules s.limits s.wide (entry.Step (Go t) (Answered a)) n h)

mutex_first : (m : ℕ) (kind : Kind) (robust : Bool) (s : Running) (n : Wide) → WideEnters s.rules s.limits s.wide (entry.Mutex m kind robust) n
    → slice_get (widely_entered s.rules s.limits s.wide (entry.Mutex m kind robust)) 0 ≡ Some n
mutex_first m kind robust s n h =
    one_of (mutex_added s.limits m kind robust s.wide.world) (beside s.wide) (has_all_again s.wide (entry.Mutex m kind robust)) n (widely_entered_from s.rules s.limits s.wide (entry.Mutex m kind robust) n h)

addition_first : (x : Adding) (s : Running) (n : Wide) → LeadsTo (asks_to_add x s.wide.world) s n
    → slice_get (next_states (asks_to_add x s.wide.world) s) 0 ≡ Some n
addition_first (AddThread p) s n h =
    one_of (thread_added s.limits (length s.wide.world.threads) p s.wide.world) (beside s.wide) (has_all_again s.wide (entry.Thread (length s.wide.world.threads) p)) n (widely_entered_from s.rules s.limits s.wide (entry.Thread (length s.wide.world.threads) p) n h)
addition_first (AddMutex kind robust) s n h = mutex_first (length s.wide.world.mutexes) kind robust s n h
addition_first (AddNone kind robust) s n h =
    let m = length s.wide.world.mutexes in
    changed_one (lending_nothing m) (widely_entered s.rules s.limits s.wide (entry.Mutex m kind robust)) h.0
    (mutex_first m kind robust s h.0 h.1) ∙ ap Some (sym h.2)
addition_first (AddCond m) s n h =
    one_of (variable_added s.limits (length s.wide.world.variables) m s.wide.world) (beside s.wide) (has_all_again s.wide (entry.Cond (length s.wide.world.variables) m)) n (widely_entered_from s.rules s.limits s.wide (entry.Cond (length s.wide.world.variables) m) n h)

-- WHAT A DEED TELLS AND LEAVES

abbrev done_at : Option Ask → ℕ → Option Running → Held
done_at x place None = (None, no_number pif.no_core)
done_at None place (Some s) = (Some s, no_number pif.invalid)
done_at (Some x) place (Some s) = held_if s (no_number pif.ok) (no_number pif.none) (slice_get (next_states x s) place)

abbrev answer_if : ℕ → Running → Option ℕ → Held
answer_if t s None = (Some s, no_number pif.none)
answer_if t s (Some a) =
    held_if s (record { result = pif.ok; number = a }) (no_number pif.none) (slice_get (next_states (answer_of t a) s) 0)

abbrev done_answer : ℕ → Option Running → Held
done_answer t None = (None, no_number pif.no_core)
done_answer t (Some s) = answer_if t s (result_in s.wide.world t)

abbrev add_if : Adding → Running → Bool → Held
add_if x s true = (Some s, no_number pif.no_mutex)
add_if x s false =
    held_if s (record { result = pif.ok; number = next_number x s.wide.world }) (no_number pif.too_many)
    (slice_get (next_states (asks_to_add x s.wide.world) s) 0)

abbrev done_adding : ℕ → Option Adding → Option Running → Held
done_adding why x None = (None, no_number pif.no_core)
done_adding why None (Some s) = (Some s, no_number why)
done_adding why (Some x) (Some s) = add_if x s (lacks_mutex x s.wide.world)

abbrev done : Deed → Option Running → Held
done (happens x place) before = done_at x place before
done (answers t) before = done_answer t before
done (adds why x) before = done_adding why x before

-- something happens
happens_as : (x : Option Ask) (place : ℕ) (before after : Option Running) (told : ℕ) → Happens x place before after told
    → (GaveOut (no_number told) → ⊥) → (after, no_number told) ≡ done_at x place before
happens_as _ _ _ _ _ (happened x place s n at leads) h = ap (held_if s (no_number pif.ok) (no_number pif.none)) (sym at)
happens_as _ _ _ _ _ (none_there x place s at) h = ap (held_if s (no_number pif.ok) (no_number pif.none)) (sym at)
happens_as _ _ _ _ _ (step_given_up x place s stop) h = absurd (h (gives_out stop (no_number (stop_number stop)) refl))
happens_as _ _ _ _ _ (step_unnamed place s) h = refl
happens_as _ _ _ _ _ (no_machine x place) h = refl

-- a call is answered
answers_as : (t : ℕ) (before after : Option Running) (told : PifNumber) → t ≢ 0 → IsAnswered t before after told
    → (GaveOut told → ⊥) → (after, told) ≡ done_answer t before
answers_as t _ _ _ n (is_answered s a v has leads) h =
    sym (ap (answer_if t s) has
    ∙ ap (held_if s (record { result = pif.ok; number = a }) (no_number pif.none)) (answer_first t a s v leads))
answers_as t _ _ _ n (no_result s has) h = sym (ap (answer_if t s) has)
answers_as t _ _ _ n (not_there s a has at) h =
    sym (ap (answer_if t s) has ∙ ap (held_if s (record { result = pif.ok; number = a }) (no_number pif.none)) at)
answers_as t _ _ _ n (nobody s is) h = absurd (n is)
answers_as t _ _ _ n (answer_given_up s stop) h = absurd (h (gives_out stop (no_number (stop_number stop)) refl))
answers_as t _ _ _ n nothing_answered h = refl

-- a variable whose mutex is missing isn't added
never_bound : (zeroth there within fits : Bool) (f : World → Wide) (w : World) (n : Wide) → not there ≡ true
    → slice_get (map f (option_to_list
    (if (if zeroth then false else there) then (if within then (if fits then Some w else None) else None) else None))) 0 ≡ Some n → ⊥
never_bound zeroth true within fits f w n e h = absurd cc
never_bound true false within fits f w n e h = absurd cc
never_bound false false within fits f w n e h = absurd cc

lacking_adds_none : (x : Adding) (s : Running) (n : Wide) → lacks_mutex x s.wide.world ≡ true
    → slice_get (next_states (asks_to_add x s.wide.world) s) 0 ≡ Some n → ⊥
lacking_adds_none (AddThread p) s n e h = absurd cc
lacking_adds_none (AddMutex kind robust) s n e h = absurd cc
lacking_adds_none (AddNone kind robust) s n e h = absurd cc
lacking_adds_none (AddCond m) s n e h =
    never_bound (m == 0) (nat_lt m (length s.wide.world.mutexes)) (length s.wide.world.variables == length s.wide.world.variables)
    (nat_le (length s.wide.world.variables) s.limits.conds) (beside s.wide) (record s.wide.world { variables = s.wide.world.variables ++ new_variable m ∷ [] }) n e h

-- something is added
adds_if : (x : Adding) (s : Running) (n : Wide) (lacks : Bool) → lacks_mutex x s.wide.world ≡ lacks
    → slice_get (next_states (asks_to_add x s.wide.world) s) 0 ≡ Some n
    → (Some (record s { wide = n }), record { result = pif.ok; number = next_number x s.wide.world }) ≡ add_if x s lacks
adds_if x s n true is at = absurd (lacking_adds_none x s n is at)
adds_if x s n false is at =
    ap (held_if s (record { result = pif.ok; number = next_number x s.wide.world }) (no_number pif.too_many)) (sym at)

added_as : (x : Adding) (s after : Running) (told : PifNumber)
    → IsAdded (next_number x s.wide.world) (asks_to_add x s.wide.world) s after told → (GaveOut told → ⊥)
    → (Some after, told) ≡ add_if x s (lacks_mutex x s.wide.world)
added_as x s _ _ (added n leads) h = adds_if x s n (lacks_mutex x s.wide.world) refl (addition_first x s n leads)
added_as x s _ _ (at_limit none) h = absurd (h (inr refl))
added_as x s _ _ (addition_given_up stop) h = absurd (h (gives_out stop (no_number (stop_number stop)) refl))

adds_as : (why : ℕ) (x : Option Adding) (before after : Option Running) (told : PifNumber) → AddsTo why x before after told
    → (GaveOut told → ⊥) → (after, told) ≡ done_adding why x before
adds_as why _ _ _ _ (asked x s after told is) h = added_as x s after told is h
adds_as why _ _ _ _ (no_mutex x s lacks) h = sym (ap (add_if x s) lacks)
adds_as why _ _ _ _ (asking_given_up x s stop) h = absurd (h (gives_out stop (no_number (stop_number stop)) refl))
adds_as why _ _ _ _ (addition_unnamed s) h = refl
adds_as why _ _ _ _ (nothing_added x) h = refl

-- a deed tells and leaves what the function says
done_as : (x : Deed) (before after : Option Running) (told : PifNumber) → Does x before after told → (GaveOut told → ⊥)
    → (after, told) ≡ done x before
done_as (happens x place) before after told d h =
    let same : told ≡ no_number told.result = ap (λ (n : ℕ). record { result = told.result; number = n }) d.1 in
    ap (λ (y : PifNumber). (after, y)) same
    ∙ happens_as x place before after told.result d.0 (λ g. h (subst GaveOut (sym same) g))
done_as (answers t) before after told d h = answers_as t before after told d.0 d.1 h
done_as (adds why x) before after told d h = adds_as why x before after told d h

-- WHOLE REPLAYS

pub replays-are_alike : ReplaysAreAlike
replays-are_alike [] before after again [] [] p q f g = (q ∙ sym p, refl)
replays-are_alike (x ∷ xs) before after again (told ∷ rest) (told_again ∷ rest_again) p q f g =
    let here : (q.0, told_again) ≡ (p.0, told) = done_as x before q.0 told_again q.1 g.0 ∙ sym (done_as x before p.0 told p.1 f.0) in
    let first : q.0 ≡ p.0 = ap (λ (y : Held). y.0) here in
    let behind = replays-are_alike xs p.0 after again rest rest_again p.2 (subst (λ (b : Option Running). Plays xs b again rest_again) first q.2) f.1 g.1 in
    (behind.0, ap (λ (y : Held). y.1 ∷ rest_again) here ∙ ap (λ (r : List PifNumber). told ∷ r) behind.1)
replays-are_alike [] before after again [] (y ∷ ys) p q f g = absurd q
replays-are_alike [] before after again (y ∷ ys) told_again p q f g = absurd p
replays-are_alike (x ∷ xs) before after again [] told_again p q f g = absurd p
replays-are_alike (x ∷ xs) before after again (y ∷ ys) [] p q f g = absurd q
