-- A history worked out by hand: a thread locks a mutex, unlocks it, and sets its own priority. In another it signals.
use Rattle.std.proofs.Common.{ℕ, zero, suc, ◌≡◌, ◌==◌, ◌-◌, false, List, [], ◌∷◌, Some, None, refl, arith, if◌then◌else◌}
use Rattle.pif_types.specs.Bounds.{Bounds}
use Rattle.pif_types.specs.declared.requests.Kind.TheVariants.{Normal}
use Rattle.pif_types.specs.declared.requests.Request.TheVariants.{Lock, Unlock, Signal, SetPrio}
use Rattle.pif_model.specs.History.{hold_count_after_answer}
use Rattle.pif_model.specs.Posix.{thread_at}
use Rattle.pif_model_lemmas.proofs.Waiting.{by_test}
use Rattle.pif_history_model.specs.declared.lines.Protocol.TheVariants.{PrioInherit}
use Rattle.pif_history_model.specs.declared.lines.Line.{Line}
use Rattle.pif_history_model.specs.declared.lines.Line.TheVariants.{Thread, Mutex, Cond, Begin, Answer}
use Rattle.pif_uses_model.specs.Uses.{without_uses}
use Rattle.pif_parts_model.specs.FewUses.{StaysBelow}
use Rattle.pif_parts_model.specs.Quiet.{IsQuiet}
use Rattle.pif_parts_model.specs.Resting.{world_by}

-- the mutex is locked
abbrev locked : List Line
locked = Answer 1 0 ∷ Begin 1 (Lock 1) ∷ Mutex Normal false PrioInherit ∷ Thread 10 ∷ []

-- and unlocked
abbrev unlocked : List Line
unlocked = Answer 1 0 ∷ Begin 1 (Unlock 1) ∷ locked

-- it isn't quiet while the thread holds it
not_quiet_while_it_is_held : IsQuiet locked → ⊥
not_quiet_while_it_is_held q = let once : ◌≡◌ {A = ℕ} 1 0 = (q.idle 1).free 1 in cc

-- it is afterwards
quiet_once_it_is_free : IsQuiet unlocked
quiet_once_it_is_free = record {
  orderly = (tt, ((λ t u e f. cc), (tt, ((λ t u e f. cc), (tt, (tt, tt))))));
  idle = λ t. record {
    closed = by_test (λ b. (if b then None else (if b then Some (Unlock 1) else (if b then None else (if b then Some (Lock 1) else None)))) ≡ None)
        (1 == t) (λ _. refl) (λ _. refl);
    free = λ m. by_test (λ b. (if b then hold_count_after_answer m
        (if b then Some (Unlock 1) else (if b then None else (if b then Some (Lock 1) else None))) 0
        (if b then hold_count_after_answer m (if b then Some (Lock 1) else None) 0 0 else 0)
        else (if b then hold_count_after_answer m (if b then Some (Lock 1) else None) 0 0 else 0)) ≡ 0)
        (1 == t) (λ _. by_test (λ b. (if b then (if b then 1 else 0) - 1 else (if b then 1 else 0)) ≡ 0) (1 == m) (λ _. refl) (λ _. refl))
        (λ _. refl);
  };
  nobody_dying = refl;
}

-- the thread has the priority that was set last
last_priority : (l : Bounds)
    → (thread_at (world_by l (Answer 1 0 ∷ Begin 1 (SetPrio 1 20) ∷ unlocked)) 1).base ≡ 20
last_priority l = refl

-- one that is no priority changes nothing
no_priority_stays : (l : Bounds)
    → (thread_at (world_by l (Answer 1 22 ∷ Begin 1 (SetPrio 1 200) ∷ unlocked)) 1).base ≡ 10
no_priority_stays l = refl

-- a variable is there, and was signalled once
abbrev added : List Line
added = Cond 1 ∷ Mutex Normal false PrioInherit ∷ Thread 10 ∷ []

abbrev signalled : List Line
signalled = Answer 1 0 ∷ Begin 1 (Signal 1) ∷ added

-- the states are the same but for that
same_but_for_one_use : (l : Bounds) → without_uses (world_by l added) ≡ without_uses (world_by l signalled)
same_but_for_one_use l = refl

-- with one signal more it stays below 3, and doesn't stay below 2
below_three : (l : Bounds) → l.signals ≡ 3 → StaysBelow (world_by l signalled) (Begin 1 (Signal 1) ∷ [])
below_three l e zero = omega (arith, e)
below_three l e (suc zero) = omega (arith, e)
below_three l e (suc (suc c)) = omega (arith, e)

not_below_two : (l : Bounds) → l.signals ≡ 2 → StaysBelow (world_by l signalled) (Begin 1 (Signal 1) ∷ []) → ⊥
not_below_two l e below = let once = below 1 in omega (arith, e, once)
