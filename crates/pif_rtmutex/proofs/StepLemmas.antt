-- What a call does to the waiters of one state, and what is left once the top waiters are right again.
use Rattle.std.proofs.Common.{◌≡◌, ◌≢◌, ◌⊎◌, ℕ, ◌<◌, ◌≤◌, List, set, get_or, Option, Some, None, IsSome, option_map, refl, sym, ◌∙◌, ap, subst, inl, inr, arith}
use Rattle.std.proofs.lemmas.Bool.{cases_eq}
use Rattle.std.proofs.lemmas.List.{get_or-set_same, get_or-set_other, length-set}
use Rattle.std.proofs.lemmas.Option.{same_Some}
use Rattle.std.specs.FinMap.{get, insert}
use Rattle.pif_nodes_model.specs.declared.keys.Key.{Key}
use Rattle.pif_nodes_model.specs.Table.{NodeLists, key_at, holder}
use Rattle.pif_model.specs.Graph.{Reaches}
use Rattle.pif_kernel_model.specs.Owners.{Owners, Task, Wait, task_at, waits_on, WaitsFor, with_wait, with_owner, AreSoundOwners}
use Rattle.pif_kernel_model.proofs.MapLemmas.{get-insert_same, get-insert_other}
use Rattle.pif_kernel_model.proofs.OwnersLemmas.{sound-free, sound-ranked, sound-queued, sound-handed, waits_on-freed}
use Rattle.pif_kernel_model.specs.States.{Row, States, IsThread, IsOwnList, no_row, row_at, wait_of, wait_node, wait_list, top_list, first_waiter, seat_in, owners_in, with_wait_on, with_owner_of}
use Rattle.pif_kernel_model.specs.Holds.{HoldsWaiters, IsWaiterIn, IsTopNode, IsFirstOf, IsTopBut, HoldsTops, IsToppedBut, HoldsStates}
use Rattle.pif_kernel_model.specs.Frames.{SameOutsideStates, ChangesList, ChangesTops, KeepsWaiterNodes}
use Rattle.pif_kernel_model.proofs.ViewLemmas.{task_at-owners_in}
use Rattle.pif_kernel_model.proofs.WaiterLemmas.{stands-first, some_owner}
use Rattle.pif_kernel_model.proofs.ListChanges.{outside-then}
use Rattle.pif_rtmutex.specs.Fields.{State}
use Rattle.pif_rtmutex.specs.Steps.{IsStored, IsStep}
use Rattle.pif_rtmutex.proofs.ChangeLemmas.{IsChange, view-changed, waiters-outside, waiters-changed, tops-but, waiters-stay, owners-stay}

-- what a waiting thread's seat has
pub seat-wait : (m : States) (t : NodeLists) (u k : ℕ) → wait_of m u ≡ Some k
    → (task_at (owners_in m t) u).wait ≡ Some (record { state = k; rank = key_at t (wait_node m u) })
seat-wait m t u k w =
    ap (λ (x : Task). x.wait) (task_at-owners_in m t u)
    ∙ ap (λ (o : Option ℕ). option_map (λ j. record { state = j; rank = key_at t (wait_node m u) }) o) w

-- what is left of a step once the top waiters are right too
pub record IsDone (m n : States) (t last : NodeLists) (u : ℕ) (v : Owners) : Type 0 where
  pub holds : HoldsStates n last
  pub outside : SameOutsideStates m t last
  pub nodes : KeepsWaiterNodes m u t last
  pub view : owners_in n last ≡ v

module _ (m n : States) (t now : NodeLists) (k o u : ℕ) (v : Owners) (s : IsStep m n t now k o u v) where
  pub done : (last : NodeLists) → ChangesTops n now last → HoldsTops n last → IsDone m n t last u v
  done last c tops =
      let out : SameOutsideStates (record m { rows = n.rows; owners = n.owners }) now last =
      subst (λ x. SameOutsideStates x now last) s.frame c.outside in
      record {
        holds = record { waiters = waiters-stay n now last s.waiters c; tops = tops };
        outside = outside-then m t now last s.outside
            (record {
              lists = out.lists;
              keys = out.keys;
              holders = out.holders;
              list_count = out.list_count;
              node_count = out.node_count;
            });
        nodes = λ w i ne. c.holders (wait_node m w)
            (omega (arith, i, ap (λ (x : States). x.first_node) s.frame, ap (λ (x : States). x.threads) s.frame))
            ∙ s.nodes w i ne;
        view = owners-stay n now last s.waiters c ∙ s.view;
      }

  -- the node of that thread is in no list still
  pub still_free : (last : NodeLists) → ChangesTops n now last → IsThread m u → holder now (wait_node m u) ≡ None
      → holder last (wait_node m u) ≡ None
  still_free last c i free =
      c.holders (wait_node m u)
      (omega (arith, i, ap (λ (x : States). x.first_node) s.frame, ap (λ (x : States). x.threads) s.frame)) ∙ free

  -- a thread is one still
  pub still_thread : (w : ℕ) → IsThread m w → IsThread n w
  still_thread w i = subst (λ (x : States). IsThread x w) (sym s.frame) i

  -- if no state got another owner, only rows changed
  pub rows_only : v.owners ≡ m.owners → n ≡ record m { rows = n.rows }
  rows_only same =
      s.frame ∙ (λ i. record m { rows = n.rows; owners = (ap (λ (x : Owners). x.owners) s.view ∙ same) i })

  -- and the same is stored of each
  pub still_stored : v.owners ≡ m.owners → (x : State) → IsStored m k x → IsStored n k x
  still_stored same x h =
      record {
        owner = ap (λ (y : States). get y.owners k) (rows_only same) ∙ h.owner;
        row = ap (λ (y : States). get y.places k) s.frame ∙ h.row;
      }

-- the waiters' nodes but one, after a change
nodes-kept : (m : States) (rows : List Row) (t now : NodeLists) (k r u o : ℕ) → IsChange m rows t now k r u o
    → KeepsWaiterNodes m u t now
nodes-kept m rows t now k r u o c w i ne =
    c.changes.holders (wait_node m w) (λ e. ne (omega (arith, i, c.thread, e)))

-- a change of the row of a thread to what it waits for, and of the table, is a step
module _ (m : States) (t now : NodeLists) (k r u o : ℕ) (w : Option ℕ) (h : HoldsStates m t)
    (thread : IsThread m u)
    (place : get m.places k ≡ Some r) (below : r < m.threads) (own : get m.owners k ≡ Some o)
    (changes : ChangesList (wait_list m r) (wait_node m u) t now) where
  abbrev rows : List Row
  rows = set m.rows u (record (row_at m u) { wait = w })

  abbrev wait : Option Wait
  wait = option_map (λ j. record { state = j; rank = key_at now (wait_node m u) }) w

  row-now : get_or rows u no_row ≡ record (row_at m u) { wait = w }
  row-now = get_or-set_same m.rows u (record (row_at m u) { wait = w }) no_row (omega (arith, thread, h.waiters.rows))

  pub wait-step : ((j : ℕ) → wait_of m u ≡ Some j → j ≡ k) → ((j : ℕ) → holder t (wait_node m u) ≡ Some j → IsOwnList m j)
      → ((j : ℕ) → w ≡ Some j → (j ≡ k) × (holder now (wait_node m u) ≡ Some (wait_list m r)))
      → (holder now (wait_node m u) ≡ Some (wait_list m r) → w ≡ Some k)
      → AreSoundOwners (with_wait u wait (owners_in m t))
      → IsStep m (with_wait_on u w m) t now k o u (with_wait u wait (owners_in m t))
  wait-step before from waits stands sound =
      record {
        frame = refl;
        waiters = waiters-changed m rows t now k r u o h.waiters change (subst AreSoundOwners (sym view) sound);
        but = tops-but m rows t now k r u o h.waiters change h.tops;
        outside = waiters-outside m rows t now k r u o h.waiters change;
        nodes = nodes-kept m rows t now k r u o change;
        view = view;
      }
    where
      change : IsChange m rows t now k r u o
      change =
          record {
            thread = thread;
            place = place;
            below = below;
            owner = own;
            changes = changes;
            count = length-set m.rows u (record (row_at m u) { wait = w });
            others = λ p ne. get_or-set_other m.rows u p (record (row_at m u) { wait = w }) no_row ne;
            before = before;
            from = from;
            waits = λ j e. waits j (ap (λ (x : Row). x.wait) (sym row-now) ∙ e);
            stands = λ e. ap (λ (x : Row). x.wait) row-now ∙ stands e;
          }

      seat : seat_in (with_wait_on u w m) now u ≡ record (task_at (owners_in m t) u) { wait = wait }
      seat =
          ap (λ (x : Row). record {
            base = x.base;
            local = x.local;
            wait =
                option_map (λ j. record { state = j; rank = key_at now (wait_node m u) }) x.wait;
          }) row-now
          ∙ ap (λ (x : Task). record x { wait = wait }) (sym (task_at-owners_in m t u))

      view : owners_in (with_wait_on u w m) now ≡ with_wait u wait (owners_in m t)
      view = view-changed m rows t now k r u o h.waiters change (record (task_at (owners_in m t) u) { wait = wait }) seat

-- a thread is queued on a state
pub queued-step : (m : States) (t now : NodeLists) (k r u o : ℕ) (rank : Key) → HoldsStates m t → IsThread m u
    → get m.places k ≡ Some r → r < m.threads
    → get m.owners k ≡ Some o → ChangesList (wait_list m r) (wait_node m u) t now → wait_of m u ≡ None
    → holder t (wait_node m u) ≡ None
    → holder now (wait_node m u) ≡ Some (wait_list m r) → key_at now (wait_node m u) ≡ rank → 1 ≤ rank.prio
    → rank.prio ≤ 99
    → ((n : ℕ) → get m.owners k ≡ Some n → Reaches (WaitsFor (owners_in m t)) n u → ⊥)
    → IsStep m (with_wait_on u (Some k) m) t now k o u
    (with_wait u (Some (record { state = k; rank = rank })) (owners_in m t))
queued-step m t now k r u o rank h thread place below own changes idle free held key least most no_cycle =
    subst (λ (x : Key). IsStep m (with_wait_on u (Some k) m) t now k o u
    (with_wait u (Some (record { state = k; rank = x })) (owners_in m t))) key
    (wait-step m t now k r u o (Some k) h thread place below own changes
    (λ j e. let wrong : None ≡ Some j = sym idle ∙ e in absurd cc) (λ j e. let wrong : None ≡ Some j = sym free
    ∙ e in absurd cc)
    (λ j e. (same_Some j k (sym e), held)) (λ e. refl)
    (subst (λ (x : Key). AreSoundOwners (with_wait u (Some (record { state = k; rank = x })) (owners_in m t))) (sym key)
    (sound-queued u (record { state = k; rank = rank }) (owners_in m t)
    (some_owner m k o own) no_cycle least most thread.0 h.waiters.sound)))

-- a thread that waits there is taken off
pub freed-step : (m : States) (t now : NodeLists) (k r u o : ℕ) → HoldsStates m t → IsThread m u → get m.places k ≡ Some r
    → r < m.threads
    → get m.owners k ≡ Some o → ChangesList (wait_list m r) (wait_node m u) t now → wait_of m u ≡ Some k
    → holder t (wait_node m u) ≡ Some (wait_list m r) → holder now (wait_node m u) ≡ None
    → IsStep m (with_wait_on u None m) t now k o u (with_wait u None (owners_in m t))
freed-step m t now k r u o h thread place below own changes waits was out =
    wait-step m t now k r u o None h thread place below own changes (λ j e. same_Some j k (sym e ∙ waits))
    (λ j e. let same : wait_list m r ≡ j =
    same_Some (wait_list m r) j (sym was ∙ e) in (omega (arith, same), omega (arith, same, below)))
    (λ j e. let wrong : None ≡ Some j = e in absurd cc) (λ e. let wrong : None ≡ Some (wait_list m r) = sym out
    ∙ e in absurd cc)
    (sound-free u (owners_in m t) thread.0 h.waiters.sound)

-- and gets the state, of which nothing else changes
module _ (m n : States) (t now : NodeLists) (k o p u : ℕ) (v : Owners) (s : IsStep m n t now k o u v) (thread : IsThread m u)
    (own : get n.owners k ≡ Some p) where
  abbrev handed : States
  handed = with_owner_of k u n

  owner-other : (j : ℕ) → j ≢ k → get handed.owners j ≡ get n.owners j
  owner-other j ne = get-insert_other n.owners k u j ne

  owner-same : (j : ℕ) → j ≡ k → get handed.owners j ≡ Some u
  owner-same j same = get-insert_same n.owners k u j same

  handed-waiters : AreSoundOwners (owners_in handed now) → HoldsWaiters handed now
  handed-waiters sound =
      record {
        apart = s.waiters.apart;
        lists = s.waiters.lists;
        nodes = s.waiters.nodes;
        rows = s.waiters.rows;
        sound = sound;
        owned = λ j q e. owned j q e (cases_eq j k);
        placed = λ j some. s.waiters.placed j (was_there j some (cases_eq j k));
        stated = λ j r e. is_there j r e (cases_eq j k);
        alone = s.waiters.alone;
        queued = s.waiters.queued;
        waiters = λ r z l e.
            let is : IsWaiterIn n r z = s.waiters.waiters r z l e in
            record {
              thread = is.thread;
              state = is.state;
              is_thread = is.is_thread;
              node = is.node;
              place = is.place;
              waits = is.waits;
            };
        sorted = s.waiters.sorted;
      }
    where
      owned : (j q : ℕ) → get handed.owners j ≡ Some q → ((j ≡ k) ⊎ (j ≡ k → ⊥)) → IsThread n q
      owned j q e (inl same) =
          subst (IsThread n) (same_Some u q (sym (owner-same j same) ∙ e)) (still_thread m n t now k o u v s u thread)
      owned j q e (inr ne) = s.waiters.owned j q (sym (owner-other j ne) ∙ e)

      was_there : (j : ℕ) → IsSome (get handed.owners j) → ((j ≡ k) ⊎ (j ≡ k → ⊥)) → IsSome (get n.owners j)
      was_there j some (inl same) = subst IsSome (sym (ap (get n.owners) same ∙ own)) refl
      was_there j some (inr ne) = subst IsSome (owner-other j ne) some

      is_there : (j r : ℕ) → get n.places j ≡ Some r → ((j ≡ k) ⊎ (j ≡ k → ⊥)) → IsSome (get handed.owners j)
      is_there j r e (inl same) = subst IsSome (sym (owner-same j same)) refl
      is_there j r e (inr ne) = subst IsSome (sym (owner-other j ne)) (s.waiters.stated j r e)

  handed-but : IsToppedBut handed now k o (first_waiter m t k)
  handed-but =
      record {
        topped = record {
          stands = λ q w r. s.but.topped.stands q w (back q w r);
          only = λ l w i e.
              let at : (q : ℕ) × (l ≡ top_list n q) × IsTopBut n now k o (first_waiter m t k) q w =
              s.but.topped.only l w i e in
              (at.0, at.1, to at.0 w at.2);
          nodes = λ q z i e.
              let is : IsTopNode n z = s.but.topped.nodes q z i e in
              record { thread = is.thread; is_thread = is.is_thread; node = is.node };
          sorted = s.but.topped.sorted;
        };
        ranked = λ j q w ne r. s.but.ranked j q w ne (was_first j q w ne r);
        thread = s.but.thread;
        apart = λ j q w e ne r. s.but.apart j q w e ne (was_first j q w ne r);
      }
    where
      was_first : (j q w : ℕ) → j ≢ k → IsFirstOf handed now j q w → IsFirstOf n now j q w
      was_first j q w ne r = (sym (owner-other j ne) ∙ r.0, r.1)

      to : (q w : ℕ) → IsTopBut n now k o (first_waiter m t k) q w → IsTopBut handed now k o (first_waiter m t k) q w
      to q w (inl r) = inl (r.0, r.1, (owner-other r.0 r.1 ∙ r.2.0, r.2.1))
      to q w (inr r) = inr r

      back : (q w : ℕ) → IsTopBut handed now k o (first_waiter m t k) q w → IsTopBut n now k o (first_waiter m t k) q w
      back q w (inl r) = inl (r.0, r.1, was_first r.0 q w r.1 r.2)
      back q w (inr r) = inr r

  handed-step : (then : States) → then ≡ with_owner_of k u n → waits_on v u ≡ None
      → IsStep m then t now k o u (with_owner k u v)
  handed-step then new free =
      subst (λ (x : States). IsStep m x t now k o u (with_owner k u v)) (sym new)
      (record {
        frame = ap (λ (x : States). record x { owners = insert n.owners k u }) s.frame;
        waiters = handed-waiters
            (subst AreSoundOwners (sym view) (sound-handed k u v free (subst AreSoundOwners s.view s.waiters.sound)));
        but = handed-but;
        outside = s.outside;
        nodes = s.nodes;
        view = view;
      })
    where
      view : owners_in handed now ≡ with_owner k u v
      view = ap (with_owner k u) s.view

-- so does the first waiter of a state once it is taken off
pub handed-first : (m n then : States) (t now : NodeLists) (k u : ℕ) (x : State) → HoldsStates m t → IsStored m k x
    → first_waiter m t k ≡ Some u → IsStep m n t now k x.owner u (with_wait u None (owners_in m t))
    → then ≡ with_owner_of k u n
    → IsStep m then t now k x.owner u (with_owner k u (with_wait u None (owners_in m t)))
handed-first m n then t now k u x h stored first step new =
    handed-step m n t now k x.owner x.owner u (with_wait u None (owners_in m t)) step
    (stands-first m t k u h.waiters (some_owner m k x.owner stored.owner) first).is_thread
    (still_stored m n t now k x.owner u (with_wait u None (owners_in m t)) step refl x stored).owner then new
    (waits_on-freed u (owners_in m t))

-- a thread that waits there gets another rank
pub ranked-step : (m : States) (t now : NodeLists) (k r u o : ℕ) (rank : Key) → HoldsStates m t → IsThread m u
    → get m.places k ≡ Some r → r < m.threads
    → get m.owners k ≡ Some o → ChangesList (wait_list m r) (wait_node m u) t now → wait_of m u ≡ Some k
    → holder t (wait_node m u) ≡ Some (wait_list m r) → holder now (wait_node m u) ≡ Some (wait_list m r)
    → key_at now (wait_node m u) ≡ rank → 1 ≤ rank.prio → rank.prio ≤ 99
    → IsStep m m t now k o u (with_wait u (Some (record { state = k; rank = rank })) (owners_in m t))
ranked-step m t now k r u o rank h thread place below own changes waits was held key least most =
    record {
      frame = refl;
      waiters = waiters-changed m m.rows t now k r u o h.waiters change (subst AreSoundOwners (sym view) sound);
      but = tops-but m m.rows t now k r u o h.waiters change h.tops;
      outside = waiters-outside m m.rows t now k r u o h.waiters change;
      nodes = nodes-kept m m.rows t now k r u o change;
      view = view;
    }
  where
    change : IsChange m m.rows t now k r u o
    change =
        record {
          thread = thread;
          place = place;
          below = below;
          owner = own;
          changes = changes;
          count = refl;
          others = λ p ne. refl;
          before = λ j e. same_Some j k (sym e ∙ waits);
          from = λ j e. let same : wait_list m r ≡ j =
              same_Some (wait_list m r) j (sym was ∙ e) in (omega (arith, same), omega (arith, same, below));
          waits = λ j e. (same_Some j k (sym e ∙ waits), held);
          stands = λ e. waits;
        }

    seat : seat_in m now u ≡ record (task_at (owners_in m t) u) { wait = Some (record { state = k; rank = rank }) }
    seat =
        (λ i. record {
          base = (row_at m u).base;
          local = (row_at m u).local;
          wait = option_map (λ j. record { state = j; rank = key i }) (waits i);
        })
        ∙ ap (λ (x : Task). record x { wait = Some (record { state = k; rank = rank }) })
        (sym (task_at-owners_in m t u))

    view : owners_in m now ≡ with_wait u (Some (record { state = k; rank = rank })) (owners_in m t)
    view = view-changed m m.rows t now k r u o h.waiters change
        (record (task_at (owners_in m t) u) { wait = Some (record { state = k; rank = rank }) }) seat

    sound : AreSoundOwners (with_wait u (Some (record { state = k; rank = rank })) (owners_in m t))
    sound =
        sound-ranked u (record { state = k; rank = key_at t (wait_node m u) }) (record { state = k; rank = rank })
        (owners_in m t)
        (seat-wait m t u k waits) refl least most thread.0 h.waiters.sound
