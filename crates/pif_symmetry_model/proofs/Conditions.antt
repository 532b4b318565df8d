-- What is so of a state is so of each that is the same but for names, by other names.
use Rattle.std.proofs.Common.{ℕ, ◌≡◌, ◌∙◌, ◌==◌, Bool, true, false, not, nat_le, List, Option, Some, None, refl, ap, if◌then◌else◌}
use Rattle.pif_model.specs.Graph.{waited_by}
use Rattle.pif_model.specs.Posix.{Mutex, mutex_at}
use Rattle.pif_rules_model.specs.Ruled.{is_inconsistent}
use Rattle.pif_rules_model.specs.Rules.{is_unusable}
use Rattle.pif_history_model.specs.Queues.{is_waiter}
use Rattle.pif_explore_model.specs.declared.conditions.Condition.{Condition}
use Rattle.pif_explore_model.specs.declared.conditions.Condition.TheVariants.{Not', And', Or', Stuck, Ended, Answered, Free, HeldBy, Inconsistent, Unusable, Compares, RunsAt, RunsAtLeast, WaitsFor, BlockedOn, HoldsTimes, Shows}
use Rattle.pif_explore_model.specs.Situations.{Plan, Situation, is_under_way, cell_at, is_wanted, is_answer_of}
use Rattle.pif_explore_model.specs.Conditions.{meets, living_priority}
use Rattle.pif_symmetry_model.specs.Symmetry.{IsSymmetric, MirrorsState}
use Rattle.pif_symmetry_model.specs.Conditions.{renamed_condition, speaks_of_none}
use Rattle.pif_symmetry_model.proofs.Names.{same_test, same_zero, same_among, same_waited}
use Rattle.pif_symmetry_model.proofs.Reading.{mutex_there, owner_there, living_there, thread_there, blocked_there}
use Rattle.pif_symmetry_model.proofs.Programs.{through_there}
use Rattle.pif_symmetry_model.proofs.Schedules.{priority_there}

both_parts : (a b : Bool) → (if a then b else false) ≡ true → (a ≡ true) × (b ≡ true)
both_parts true b e = (refl, e)
both_parts false b e = absurd (cc)

module _ (f g : ℕ → ℕ) (p : Plan) (y : IsSymmetric f g p) (s n : Situation) (a : MirrorsState f g p s n) (final : Bool) where
  owns_there : (m t : ℕ) → ((mutex_at n.world m).owner == f t) ≡ ((mutex_at s.world m).owner == t)
  owns_there m t = ap (λ z. z == f t) (owner_there f s.world n.world a.world m) ∙ same_test f _ a.world.renaming (mutex_at s.world m).owner t

  lives_there : (t : ℕ) → living_priority p n (f t) ≡ living_priority p s t
  lives_there t = λ i. if living_there f s.world n.world a.world t i then Some (priority_there f g p y s n a t i) else None

  pub meets_there : (c : Condition) → speaks_of_none c ≡ true → meets p final n (renamed_condition f c) ≡ meets p final s c
  meets_there (Not' at c) e = ap not (meets_there c e)
  meets_there (And' at c other_at d) e =
      let b = both_parts (speaks_of_none c) (speaks_of_none d) e in
      λ i. if meets_there c b.0 i then meets_there d b.1 i else false
  meets_there (Or' at c other_at d) e =
      let b = both_parts (speaks_of_none c) (speaks_of_none d) e in
      λ i. if meets_there c b.0 i then true else meets_there d b.1 i
  meets_there (Stuck t) e =
      let under : is_under_way p n (f t) ≡ is_under_way p s t =
      λ i. if living_there f s.world n.world a.world t i then not (through_there f g p y s n a t i) else false in
      λ i. if final then under i else false
  meets_there (Ended t) e = λ i. if thread_there f s.world n.world a.world t i then not (living_there f s.world n.world a.world t i) else false
  meets_there (Answered t r) e = ap (λ (o : Option ℕ). is_answer_of o r) (a.lasts.place t)
  meets_there (Free m) e =
      ap (λ z. z == 0) (owner_there f s.world n.world a.world m) ∙ same_zero f _ a.world.renaming (mutex_at s.world m).owner
  meets_there (HeldBy m t) e = owns_there m t
  meets_there (Inconsistent m) e = ap (λ (x : Mutex). is_inconsistent x.health) (mutex_there f s.world n.world a.world m)
  meets_there (Unusable m) e = ap (λ (x : Mutex). is_unusable x.health) (mutex_there f s.world n.world a.world m)
  meets_there (Compares x w) e = ap (λ (cells : List ℕ). is_wanted w cells (cell_at (record n { cells = cells }) x)) a.cells
  meets_there (RunsAt t q) e = ap (λ (o : Option ℕ). elim o as (λ _. Bool) [ None ↦ false | Some k ↦ k == q ]) (lives_there t)
  meets_there (RunsAtLeast t q) e = ap (λ (o : Option ℕ). elim o as (λ _. Bool) [ None ↦ false | Some k ↦ nat_le q k ]) (lives_there t)
  meets_there (WaitsFor t m) e =
      let waits : is_waiter n.world (f t) ≡ is_waiter s.world t =
      ap (λ (ws : List (ℕ × ℕ)). is_waiter (record n.world { waiters = ws }) (f t)) a.world.waiters ∙ same_among f _ a.world.renaming s.world.waiters t in
      let waited : waited_by n.world.waiters (f t) ≡ waited_by s.world.waiters t =
      ap (λ (ws : List (ℕ × ℕ)). waited_by ws (f t)) a.world.waiters ∙ same_waited f _ a.world.renaming s.world.waiters t in
      λ i. if waits i then waited i == m else false
  meets_there (BlockedOn t c) e = blocked_there f s.world n.world a.world c t
  meets_there (HoldsTimes t m k) e = λ i. if owns_there m t i then (mutex_there f s.world n.world a.world m i).count == k else false
  meets_there (Shows x) e = absurd (cc)
