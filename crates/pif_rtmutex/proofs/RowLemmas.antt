-- The row of a thread changes, but not for what it waits.
use Rattle.std.proofs.Common.{◌≡◌, ◌⊎◌, ℕ, ◌<◌, ◌≤◌, length, set, get_or, Option, option_map, refl, sym, ◌∙◌, ap, subst, inl, inr, arith}
use Rattle.std.proofs.lemmas.Bool.{cases_eq, cases_lt}
use Rattle.std.proofs.lemmas.List.{get_or-set_same, get_or-set_other, set_past, length-set}
use Rattle.pif_nodes_model.specs.Table.{NodeLists, key_at}
use Rattle.pif_kernel_model.specs.Owners.{Task, no_task, with_task, AreSoundOwners}
use Rattle.pif_kernel_model.proofs.OwnersLemmas.{sound-priorities}
use Rattle.pif_kernel_model.specs.States.{Row, States, no_row, row_at, wait_of, wait_node, seat_in, owners_in, with_row}
use Rattle.pif_kernel_model.specs.Holds.{IsWaiterIn, IsTopNode, HoldsStates}
use Rattle.pif_kernel_model.proofs.ViewLemmas.{length-seats, task_at-owners_in, owners_in-by_seat}

-- what value and table say of a thread that has this row
abbrev pub seat_of : States → NodeLists → ℕ → Row → Task
seat_of m t u x =
    record {
      base = x.base;
      local = x.local;
      wait =
          option_map (λ k. record { state = k; rank = key_at t (wait_node m u) }) x.wait;
    }

-- a row that is written stands there, or there is none
row_at-with_row : (m : States) (u w : ℕ) (x : Row)
    → ((w ≡ u) × (row_at (with_row u x m) w ≡ x)) ⊎ (row_at (with_row u x m) w ≡ row_at m w)
row_at-with_row m u w x = by_place (cases_eq w u) (cases_lt u (length m.rows))
  where
    by_place : ((w ≡ u) ⊎ (w ≡ u → ⊥)) → ((u < length m.rows) ⊎ (length m.rows ≤ u))
        → ((w ≡ u) × (row_at (with_row u x m) w ≡ x)) ⊎ (row_at (with_row u x m) w ≡ row_at m w)
    by_place (inl e) (inl l) = inl (e, ap (row_at (with_row u x m)) e ∙ get_or-set_same m.rows u x no_row l)
    by_place (inl e) (inr p) = inr (ap (λ xs. get_or xs w no_row) (set_past m.rows u x p))
    by_place (inr n) l = inr (get_or-set_other m.rows u w x no_row n)

-- the view has the seat of that row then
pub view-row : (m : States) (t : NodeLists) (u : ℕ) (x : Row) (y : Task) → y ≡ seat_of m t u x
    → owners_in (with_row u x m) t ≡ with_task u y (owners_in m t)
view-row m t u x y e =
    owners_in-by_seat (with_row u x m) t (with_task u y (owners_in m t)) refl
    (length-set (owners_in m t).seats u y ∙ length-seats m t ∙ sym (length-set m.rows u x))
    (λ w l. by_thread w (cases_eq w u) (omega (arith, length-set m.rows u x)))
  where
    by_thread : (w : ℕ) → ((w ≡ u) ⊎ (w ≡ u → ⊥)) → w < length m.rows
        → get_or (set (owners_in m t).seats u y) w no_task ≡ seat_in (with_row u x m) t w
    by_thread w (inl same) l =
        ap (λ p. get_or (set (owners_in m t).seats u y) p no_task) same
        ∙ get_or-set_same (owners_in m t).seats u y no_task (omega (arith, length-seats m t, same)) ∙ e
        ∙ ap (seat_of m t u) (sym (get_or-set_same m.rows u x no_row (omega (arith, same))))
        ∙ ap (seat_in (with_row u x m) t) (sym same)
    by_thread w (inr ne) l =
        get_or-set_other (owners_in m t).seats u w y no_task ne ∙ task_at-owners_in m t w
        ∙ ap (seat_of m t w) (sym (get_or-set_other m.rows u w x no_row ne))

-- the owner states stand in the table as before
pub holds-row : (m : States) (t : NodeLists) (u : ℕ) (x : Row) → 1 ≤ u → x.base ≤ 99 → x.local ≤ 99 → x.wait ≡ wait_of m u
    → HoldsStates m t
    → HoldsStates (with_row u x m) t
holds-row m t u x one base local same h =
    record {
      waiters = record {
        apart = h.waiters.apart;
        lists = h.waiters.lists;
        nodes = h.waiters.nodes;
        rows = length-set m.rows u x ∙ h.waiters.rows;
        sound = subst AreSoundOwners (sym (view-row m t u x (seat_of m t u x) refl))
            (sound-priorities u (seat_of m t u x) (owners_in m t) base local
            (ap (λ (o : Option ℕ). option_map (λ k. record { state = k; rank = key_at t (wait_node m u) }) o) same
            ∙ ap (λ (y : Task). y.wait) (sym (task_at-owners_in m t u))) one h.waiters.sound);
        owned = h.waiters.owned;
        placed = h.waiters.placed;
        stated = h.waiters.stated;
        alone = h.waiters.alone;
        queued = λ w k r e p. h.waiters.queued w k r (sym (waits w) ∙ e) p;
        waiters = λ r n l e.
            let is : IsWaiterIn m r n = h.waiters.waiters r n l e in
            record {
              thread = is.thread;
              state = is.state;
              is_thread = is.is_thread;
              node = is.node;
              place =
                  is.place;
              waits = waits is.thread ∙ is.waits;
            };
        sorted = h.waiters.sorted;
      };
      tops = record {
        topped = record {
          stands = h.tops.topped.stands;
          only = h.tops.topped.only;
          nodes = λ o n i e.
              let is : IsTopNode m n = h.tops.topped.nodes o n i e in
              record { thread = is.thread; is_thread = is.is_thread; node = is.node };
          sorted = h.tops.topped.sorted;
        };
        ranked = h.tops.ranked;
      };
    }
  where
    waits : (w : ℕ) → wait_of (with_row u x m) w ≡ wait_of m w
    waits w = by_row (row_at-with_row m u w x)
      where
        by_row : ((w ≡ u) × (row_at (with_row u x m) w ≡ x)) ⊎ (row_at (with_row u x m) w ≡ row_at m w)
            → wait_of (with_row u x m) w ≡ wait_of m w
        by_row (inl p) = ap (λ (r : Row). r.wait) p.1 ∙ same ∙ ap (wait_of m) (sym p.0)
        by_row (inr e) = ap (λ (r : Row). r.wait) e

-- what is answered if another row of a thread is written, which waits for the same
pub record IsWritten (m n : States) (t : NodeLists) (u : ℕ) (y : Task) : Type 0 where
  pub view : owners_in n t ≡ with_task u y (owners_in m t)
  pub place : n ≡ record m { rows = n.rows }
  pub holds : HoldsStates n t

pub written : (m n : States) (t : NodeLists) (u : ℕ) (x : Row) (y : Task) → n ≡ with_row u x m → 1 ≤ u → x.base ≤ 99
    → x.local ≤ 99 → x.wait ≡ wait_of m u → y ≡ seat_of m t u x → HoldsStates m t → IsWritten m n t u y
written m n t u x y e one base local same seat h =
    record {
      view = ap (λ (z : States). owners_in z t) e ∙ view-row m t u x y seat;
      place = e ∙ sym (ap (λ (z : States). record m { rows = z.rows }) e);
      holds = subst (λ (z : States). HoldsStates z t) (sym e) (holds-row m t u x one base local same h);
    }
