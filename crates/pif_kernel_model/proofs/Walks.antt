-- A walk after the threads up to k: the owner states, the run queue and the table.
use Rattle.std.proofs.Common.{◌≡◌, ◌⊎◌, ℕ, ◌<◌, ◌≤◌, ◌+◌, false, length, Option, Some, IfSome, refl, sym, ap, ◌∙◌, subst, inl, inr, if◌then◌else◌, arith}
use Rattle.std.specs.Option.{is_some}
use Rattle.std.proofs.lemmas.Bool.{cases_lt, false_from_ne_true}
use Rattle.std.proofs.lemmas.List.{get_or_past}
use Rattle.pif_nodes_model.specs.Lists.{has}
use Rattle.pif_nodes_model.specs.Table.{NodeLists}
use Rattle.pif_model.specs.Graph.{IsEffective}
use Rattle.pif_nodes_model.specs.Levels.{Queue, IsLevel, level_of, level_with, Holds, IsQueued, level_after_move, SameOutside, level_after_move_if_queued}
use Rattle.pif_nodes_model.proofs.LevelLemmas.{queued_on}
use Rattle.pif_nodes_model.proofs.LevelWithLemmas.{queued_found}
use Rattle.pif_kernel_model.specs.Owners.{Owners, Task, no_task, task_at, WaitsFor, with_task, AreSoundOwners}
use Rattle.pif_kernel_model.specs.Boosts.{IsThread, base_of, local_of, greatest_base, with_effective, IsRepaired, IsRepairedBut, level_after_walk}
use Rattle.pif_kernel_model.proofs.Greatest.{greatest_base-least, greatest_base-IsEffective, idle}
use Rattle.pif_kernel_model.proofs.BoostLevels.{leveled_to, leveled-start, leveled-more, leveled-all, next_level, stage-has}
use Rattle.pif_kernel_model.proofs.Repairs.{IsRepairedTo, repaired-start, repaired-more, repaired-all}

-- the number of what was made of one
pub numbered : (made : Option ℕ) (x n : ℕ) → made ≡ Some x → IfSome made (λ y. y ≡ n) → x ≡ n
numbered made x n e value = rw e at value

-- who was admitted has a seat
pub admitted_row : (v : Owners) (u : ℕ) → 1 ≤ base_of v u → u < length v.seats
admitted_row v u one = by_place (cases_lt u (length v.seats))
  where
    by_place : ((u < length v.seats) ⊎ (length v.seats ≤ u)) → u < length v.seats
    by_place (inl l) = l
    by_place (inr l) = let none : base_of v u ≡ 0 = ap (λ (x : Task). x.base) (get_or_past v.seats u no_task l) in absurd (omega arith)

-- a thread that is given no priority is on no level
pub not_queued : (q : Queue) (t : NodeLists) (u priority : ℕ) → Holds q t → (IsQueued q t u → 1 ≤ priority) → priority ≡ 0 → is_some (level_with q t u) ≡ false
not_queued q t u priority holds ready none =
    false_from_ne_true (is_some (level_with q t u)) (λ e. let l : 1 ≤ priority = ready (queued_found q t u holds e) in absurd (omega arith))

-- what stays outside of a queue over two changes
outside-both : (q now : Queue) (was table after : NodeLists) → now ≡ record q { mask = now.mask } → SameOutside q was table → SameOutside now table after → SameOutside q was after
outside-both q now was table after place first second =
    let at : now.first_list ≡ q.first_list = ap (λ (x : Queue). x.first_list) place in
    record {
      before = λ l b. second.before l (omega arith) ∙ first.before l b;
      behind = λ l b. second.behind l (omega arith) ∙ first.behind l b;
      count = second.count ∙ first.count;
      keys = second.keys ∙ first.keys;
    }

-- the threads up to k are repaired, and where they should be in the run queue
pub record IsWalkedTo (k : ℕ) (v : Owners) (q : Queue) (t : NodeLists) (new : Owners) (now : Queue) (table : NodeLists) : Type 0 where
  pub repaired : IsRepairedTo k v new
  pub levels : (p : ℕ) → IsLevel p → level_of now table p ≡ leveled_to k v q t p
  pub outside : SameOutside q t table
  pub place : now ≡ record q { mask = now.mask }
  pub holds : Holds now table

-- before the first thread
pub walked-start : (v : Owners) (q : Queue) (t : NodeLists) → AreSoundOwners v → Holds q t → IsWalkedTo 0 v q t v q t
walked-start v q t sound holds =
    record {
      repaired = repaired-start v sound;
      levels = λ p lp. leveled-start v q t p (λ u h. (queued_on q t u holds (p, lp, h)).some);
      outside = record { before = λ l b. refl; behind = λ l b. refl; count = refl; keys = refl };
      place = refl;
      holds = holds;
    }

-- the next thread was queued if it is
was_queued : (k u : ℕ) (v new : Owners) (q now : Queue) (t table : NodeLists) → u ≡ k + 1 → IsWalkedTo k v q t new now table → IsQueued now table u → IsQueued q t u
was_queued k u v new q now t table e w queued = (
  queued.0,
  queued.1,
  sym (ap (has u) (w.levels queued.0 queued.1) ∙ stage-has k u (greatest_base v) queued.0 _ (level_of q t queued.0) e) ∙ queued.2,
)

-- so it is to have a priority
pub next_ready : (k u p : ℕ) (v new : Owners) (q now : Queue) (t table : NodeLists) → u ≡ k + 1 → u < length v.seats → p ≡ greatest_base v u
    → IsWalkedTo k v q t new now table → ((x : ℕ) → IsQueued q t x → 1 ≤ base_of v x) → IsQueued now table u → 1 ≤ p
next_ready k u p v new q now t table e row priority w ready queued =
    let one : 1 ≤ base_of v u = ready u (was_queued k u v new q now t table e w queued) in
    omega (arith, greatest_base-least v u row, priority)

-- and if it is to have none, it stays as it is
pub next_idle : (k u p start : ℕ) (v new : Owners) (q now : Queue) (t table : NodeLists) → u ≡ k + 1 → u < length v.seats → p ≡ greatest_base v u
    → IsWalkedTo k v q t new now table → AreSoundOwners v → IsRepairedBut start v → 1 ≤ base_of v start → p ≡ 0
    → task_at new u ≡ with_effective 0 (task_at new u)
next_idle k u p start v new q now t table e row priority w sound but admitted none =
    let left : task_at new u ≡ task_at v u = w.repaired.left u (omega arith) in
    let th : IsThread v u = (omega arith, row) in
    left ∙ idle v start sound but (admitted_row v start admitted) admitted u th (sym priority ∙ none)
    ∙ sym (ap (with_effective 0) left)

-- one thread more
pub walked-more : (k u p : ℕ) (v new after : Owners) (q now then_queue : Queue) (t table then_table : NodeLists) → u ≡ k + 1 → u < length v.seats → p ≡ greatest_base v u
    → Holds q t → IsWalkedTo k v q t new now table
    → after ≡ with_task u (with_effective p (task_at new u)) new
    → ((x : ℕ) → IsLevel x → level_of then_queue then_table x ≡ level_after_move_if_queued now table u p x)
    → SameOutside now table then_table → then_queue ≡ record now { mask = then_queue.mask } → Holds then_queue then_table
    → IsWalkedTo (k + 1) v q t after then_queue then_table
walked-more k u p v new after q now then_queue t table then_table e row priority old w owners levels outside place holds =
    record {
      repaired = repaired-more k u p v new after e row priority w.repaired owners;
      levels = λ x lx. levels x lx ∙ moved_from x lx ∙ leveled-more k u v q t x e old lx;
      outside = outside-both q now t table then_table w.place w.outside outside;
      place = place ∙ ap (λ (x : Queue). record x { mask = then_queue.mask }) w.place;
      holds = holds;
    }
  where
    moved_from : (x : ℕ) → IsLevel x → level_after_move_if_queued now table u p x
        ≡ (if is_some (level_with q t u) then level_after_move u (greatest_base v u) x (leveled_to k v q t x) else
        leveled_to k v q t x)
    moved_from x lx =
        let level : level_with now table u ≡ level_with q t u = next_level k u v q now t table e old w.holds w.levels in
        let at : level_of now table x ≡ leveled_to k v q t x = w.levels x lx in
        λ i. if is_some (level i) then level_after_move u (priority i) x (at i) else at i

-- AT THE END

pub walked-repaired : (k : ℕ) (v new : Owners) (q now : Queue) (t table : NodeLists) → k + 1 ≡ length v.seats → IsWalkedTo k v q t new now table → IsRepaired v new
walked-repaired k v new q now t table e w = repaired-all k v new e w.repaired

pub walked-levels : (k : ℕ) (v new : Owners) (q now : Queue) (t table : NodeLists) → k + 1 ≡ length v.seats → IsWalkedTo k v q t new now table
    → ((x : ℕ) → IsQueued q t x → 1 ≤ base_of v x) → (p : ℕ) → IsLevel p
    → level_of now table p ≡ level_after_walk v q t p
walked-levels k v new q now t table e w ready p lp =
    w.levels p lp ∙ leveled-all k v q t p e (λ u h. admitted_row v u (ready u (p, lp, h)))

-- each thread that is repaired has the effective priority that it is to have
pub repaired-local : (v new : Owners) → IsRepaired v new → (t : ℕ) → t < length v.seats → local_of new t ≡ greatest_base v t
repaired-local v new r t l = ap (λ (x : Task). x.local) (r.seats t l)

-- which is the greatest over any chain
pub repaired-greatest : (v new : Owners) → AreSoundOwners v → IsRepaired v new → (t : ℕ) → IsThread v t → IsEffective (IsThread v) (WaitsFor v) (base_of v) t (local_of new t)
repaired-greatest v new s r t th =
    subst (λ (p : ℕ). IsEffective (IsThread v) (WaitsFor v) (base_of v) t p) (sym (repaired-local v new r t th.1)) (greatest_base-IsEffective v s t th)
