-- After a walk nothing is left to repair.
use Rattle.std.proofs.Common.{◌≡◌, ◌⊎◌, ℕ, ◌<◌, ◌≤◌, ◌+◌, max, true, false, ◌==◌, List, length, Option, Some, None, refl, sym, ap, ◌∙◌, inl, inr, arith}
use Rattle.std.specs.Prelude.{option_map, unwrap_or}
use Rattle.std.specs.List.{filter}
use Rattle.std.specs.Option.{is_some}
use Rattle.std.proofs.lemmas.Bool.{cases_lt, eqb-true, or_cases, and_parts}
use Rattle.std.proofs.lemmas.Bool.Decides.{nat_tests}
use Rattle.std.proofs.lemmas.List.{get_or_past}
use Rattle.pif_nodes_model.specs.declared.keys.Key.{Key}
use Rattle.pif_nodes_model.specs.Lists.{has}
use Rattle.pif_nodes_model.specs.Table.{NodeLists}
use Rattle.pif_nodes_model.proofs.ListLemmas.{has-append}
use Rattle.pif_nodes_model.specs.Order.{comes_before}
use Rattle.pif_model_lemmas.proofs.Greatest.{effective_step, greatest_where_same}
use Rattle.pif_nodes_model.specs.Levels.{Queue, IsLevel, level_of, level_with, Holds, IsQueued}
use Rattle.pif_kernel_model.specs.Owners.{Owners, Task, Wait, no_task, task_at, waits_for, rank_of, IsTop}
use Rattle.pif_kernel_model.proofs.OwnersLemmas.{some_rank}
use Rattle.pif_kernel_model.specs.Boosts.{IsThread, base_of, local_of, greatest_base, greatest_waiting, with_rank_priority, with_effective, is_other, joins, level_after_walk, threads_of, IsRepaired, IsRepairedBut, IsNext}
use Rattle.pif_kernel_model.proofs.Greatest.{out_waits}
use Rattle.pif_kernel_model.proofs.BoostLevels.{has-filter}
use Rattle.pif_kernel_model.proofs.Walks.{admitted_row, repaired-local}
use Rattle.pif_kernel_model.proofs.Repairs.{IsRepairedTo, greatest-kept}
use Rattle.pif_nodes_model.proofs.LevelWithLemmas.{queued_found}

-- if each thread has the effective priority that it is to have, that is the greatest of its base priority and of
-- those of the threads that wait for it
settled_local : (v : Owners) → ((x : ℕ) → x < length v.seats → local_of v x ≡ greatest_base v x) → (t : ℕ) → IsThread v t
    → local_of v t ≡ max (base_of v t) (greatest_waiting v t)
settled_local v all t th =
    all t th.1 ∙ effective_step (length v.seats) (waits_for v) (base_of v) (out_waits v) t th.1 (λ e. absurd (omega (arith, th.0)))
    ∙ ap (max (base_of v t))
    (greatest_where_same (λ u. waits_for v u == t) (λ u. waits_for v u == t) (greatest_base v) (local_of v) (length v.seats) (λ u l. refl) (λ u l. sym (all u l)))

-- who stands boosted stands with that priority
pub ranked-prio : (p : ℕ) (o : Option Wait) (rank : Key)
    → option_map (λ (w : Wait). w.rank) (option_map (with_rank_priority p) o) ≡ Some rank → rank.prio ≡ p
ranked-prio p None rank e = absurd cc
ranked-prio p (Some w) rank e = sym (ap (λ (o : Option Key). unwrap_or (option_map (λ (k : Key). k.prio) o) 0) e)

-- after a walk nothing is left to repair
pub settled : (k : ℕ) (old new : Owners) → k + 1 ≡ length old.seats → IsRepairedTo k old new → (start : ℕ) → IsRepairedBut start new
settled k old new last r start =
    record {
      locals = λ t th ne. settled_local new all t th;
      ranks = λ t rank e. by_row t rank e (cases_lt t (length old.seats));
    }
  where
    all : (x : ℕ) → x < length new.seats → local_of new x ≡ greatest_base new x
    all x l = ap (λ (s : Task). s.local) (r.done x (omega (arith, r.threads)) (omega (arith, r.threads))) ∙ sym (greatest-kept k old new r x)

    by_row : (t : ℕ) (rank : Key) → rank_of new t ≡ Some rank → ((t < length old.seats) ⊎ (length old.seats ≤ t)) → rank.prio ≡ local_of new t
    by_row t rank e (inl l) =
        let is : task_at new t ≡ with_effective (greatest_base old t) (task_at old t) = r.done t l (omega arith) in
        ranked-prio (greatest_base old t) (task_at old t).wait rank (ap (λ (s : Task). option_map (λ (w : Wait). w.rank) s.wait) (sym is) ∙ e) ∙ ap (λ (s : Task). s.local) (sym is)
    by_row t rank e (inr l) =
        let out : task_at new t ≡ no_task = get_or_past new.seats t no_task (omega (arith, r.threads)) in
        let none : None ≡ Some rank = ap (λ (s : Task). option_map (λ (w : Wait). w.rank) s.wait) (sym out) ∙ e in absurd cc

-- so who stands first on a state is its next waiter
pub top_is_next : (v : Owners) (k t : ℕ) → ((start : ℕ) → IsRepairedBut start v) → IsTop v k t → IsNext v k t
top_is_next v k t repaired top =
    record {
      waits = top.waits;
      greatest = λ u on. let r = some_rank (task_at v u).wait k on in
          let behind : comes_before r.0 top.rank ≡ false = top.first u r.0 on r.1 in
          let mine : top.rank.prio ≡ local_of v t = local t top.rank top.ranked in
          let other : r.0.prio ≡ local_of v u = local u r.0 r.1 in
          grind (arith, nat_tests, behind, mine, other);
      first = λ u mine other on same is was.
          let rank : top.rank ≡ mine = ap (λ (o : Option Key). unwrap_or o top.rank) (sym top.ranked ∙ is) in
          let behind : comes_before other mine ≡ false = ap (comes_before other) (sym rank) ∙ top.first u other on was in
          grind (arith, nat_tests, behind, local t mine is, local u other was, same);
    }
  where
    local : (u : ℕ) (rank : Key) → rank_of v u ≡ Some rank → rank.prio ≡ local_of v u
    local u rank e = (repaired 0).ranks u rank e

-- THE RUN QUEUE

module _ (v : Owners) (q now : Queue) (t table : NodeLists)
    (levels : (p : ℕ) → IsLevel p → level_of now table p ≡ level_after_walk v q t p) where
  -- the threads of a level that were on it, and those that joined it
  kept : ℕ → List ℕ
  kept p = filter (λ x. greatest_base v x == p) (level_of q t p)

  new : ℕ → List ℕ
  new p = filter (joins v q t p) (threads_of v)

  on_level : (u p : ℕ) → IsLevel p → has u (level_of now table p) ≡ true
      → (has u (kept p) ≡ true) ⊎ (has u (new p) ≡ true)
  unfolding kept new
  on_level u p lp on = or_cases (has u (kept p)) (has u (new p))
      (sym (has-append u (kept p) (new p)) ∙ ap (has u) (sym (levels p lp)) ∙ on)

  -- who is on a level after a walk is to have that priority
  pub level_is_greatest : (u p : ℕ) → IsLevel p → has u (level_of now table p) ≡ true → greatest_base v u ≡ p
  unfolding kept new
  level_is_greatest u p lp on = by_part (on_level u p lp on)
    where
      by_part : ((has u (kept p) ≡ true) ⊎ (has u (new p) ≡ true)) → greatest_base v u ≡ p
      by_part (inl h) = eqb-true (greatest_base v u) p (has-filter (λ x. greatest_base v x == p) u (level_of q t p) h).1
      by_part (inr h) =
          eqb-true (greatest_base v u) p
          (and_parts (greatest_base v u == p) (is_other p (level_with q t u))
          (has-filter (joins v q t p) u (threads_of v) h).1).0

  -- and was on the run queue before
  pub was_ready : Holds q t → (u : ℕ) → IsQueued now table u → IsQueued q t u
  unfolding kept new
  was_ready holds u queued = by_part (on_level u queued.0 queued.1 queued.2)
    where
      some : (p : ℕ) (o : Option ℕ) → is_other p o ≡ true → is_some o ≡ true
      some p None e = e
      some p (Some l) e = refl

      by_part : ((has u (kept queued.0) ≡ true) ⊎ (has u (new queued.0) ≡ true)) → IsQueued q t u
      by_part (inl h) = (
        queued.0,
        queued.1,
        (has-filter (λ x. greatest_base v x == queued.0) u
            (level_of q t queued.0) h).0,
      )
      by_part (inr h) =
          let other : is_other queued.0 (level_with q t u) ≡ true =
          (and_parts (greatest_base v u == queued.0) (is_other queued.0 (level_with q t u))
          (has-filter (joins v q t queued.0) u (threads_of v) h).1).1 in
          queued_found q t u holds (some queued.0 (level_with q t u) other)

-- so it is on the level of the effective priority that it has then
pub walked-level : (v new : Owners) (q now : Queue) (t table : NodeLists) → Holds q t
    → ((u : ℕ) → IsQueued q t u → 1 ≤ base_of v u) → IsRepaired v new
    → ((p : ℕ) → IsLevel p → level_of now table p ≡ level_after_walk v q t p)
    → (u p : ℕ) → IsLevel p → has u (level_of now table p) ≡ true → p ≡ local_of new u
walked-level v new q now t table holds ready repaired levels u p lp on =
    let was : IsQueued q t u = was_ready v q now t table levels holds u (p, lp, on) in
    sym (level_is_greatest v q now t table levels u p lp on)
    ∙ sym (repaired-local v new repaired u (admitted_row v u (ready u was)))
