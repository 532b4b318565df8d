-- A walk over owner states in a table, hop by hop, and what it has done when it ends.
use Rattle.std.proofs.Common.{◌≡◌, ◌≢◌, ◌⊎◌, ℕ, ◌<◌, ◌≤◌, ◌+◌, ◌-◌, max, true, ◌==◌, nat_le, ◌&&◌, List, [], ◌∷◌, length, Option, Some, None, refl, sym, ap, ◌∙◌, subst, inl, inr, if◌then◌else◌, arith}
use Rattle.std.specs.Prelude.{option_map, option_and_then, unwrap_or}
use Rattle.std.specs.Option.{is_some}
use Rattle.std.proofs.lemmas.Bool.{eqb-true, cases_eq}
use Rattle.pif_nodes_model.specs.declared.keys.Key.{Key}
use Rattle.pif_nodes_model.specs.Lists.{has}
use Rattle.pif_nodes_model.specs.Table.{NodeLists, holder}
use Rattle.pif_nodes_model.specs.Levels.{Queue, IsLevel, level_of, level_with, level_for, node_for, level_after_move, Holds, IsQueued, SameOutside, level_after_move_if_queued}
use Rattle.pif_nodes_model.proofs.KeptLemmas.{levels-framed, queue-framed}
use Rattle.pif_kernel_model.specs.Owners.{Owners, Task, Wait, task_at, owner_at, waits_on, waits_for, with_task, AreSoundOwners}
use Rattle.pif_kernel_model.proofs.OwnersLemmas.{task_at-with_task_same}
use Rattle.pif_kernel_model.specs.States.{States, owners_in}
use Rattle.pif_kernel_model.specs.Holds.{HoldsStates}
use Rattle.pif_kernel_model.specs.Frames.{KeepsOwn}
use Rattle.pif_kernel_model.specs.Frames.{SameOutsideStates}
use Rattle.pif_rtmutex.specs.Maximum.{rank_priority, maximum_of}
use Rattle.pif_kernel_model.proofs.ViewLemmas.{length-seats}
use Rattle.pif_kernel_model.proofs.FrameLemmas.{holds-framed, owners-framed}
use Rattle.pif_kernel_model.specs.Boosts.{IsThread, base_of, local_of, greatest_base, greatest_waiting, with_effective, IsRepaired, IsRepairedBut, level_after_walk}
use Rattle.pif_kernel_model.specs.BoostFrames.{StandsBefore, SameBeyond}
use Rattle.pif_boost.specs.Done.{IsDone}
use Rattle.pif_boost.specs.Hops.{after_hops, IsHopCount}
use Rattle.pif_kernel_model.proofs.Greatest.{nobody_base, waits_for-none}
use Rattle.pif_kernel_model.proofs.Ways.{IsOnWay, onway-start, onway-hop, onway-few}
use Rattle.pif_boost.proofs.Hops.{greatest_where_on, IsWalked, walked-start, walked-waits, walked-stop, walked-hop, walked-local, walked-done, walked-settled, ends-hop, most-hop}
use Rattle.pif_boost.proofs.Counting.{IsCounted, counted-start, counted-here, counted-hop, counted-done}
use Rattle.pif_boost.proofs.Ends.{AllBut, stop_levels, end_levels}
use Rattle.pif_kernel_model.proofs.BoostFrameLemmas.{states-leave, queue-leaves, beyond-queue, beyond-states, beyond-both, outside-none, outside-both, outside-rows}
use Rattle.pif_kernel_model.proofs.Walks.{admitted_row, repaired-greatest}
use Rattle.pif_kernel_model.proofs.Settled.{top_is_next, walked-level}
use Rattle.pif_kernel_model.proofs.Joining.{one_joins}

-- what a thread has by those that wait for it, if these stand with their effective priorities
pub maximum_is : (v : Owners) (start t : ℕ) → IsRepairedBut start v → 1 ≤ t
    → maximum_of v t ≡ max (base_of v t) (greatest_waiting v t)
maximum_is v start t repaired one =
    ap (max (base_of v t))
    (greatest_where_on (λ u. waits_for v u == t) (rank_priority v) (local_of v) (length v.seats)
    (λ u l e. by_wait u (eqb-true (waits_for v u) t e) (task_at v u).wait refl))
  where
    by_wait : (u : ℕ) → waits_for v u ≡ t → (o : Option Wait) → (task_at v u).wait ≡ o → rank_priority v u ≡ local_of v u
    by_wait u for None e =
        let none : waits_for v u ≡ 0 = waits_for-none v u (ap (option_map (λ (w : Wait). w.state)) e) in
        absurd (omega (arith, none, for))
    by_wait u for (Some w) e =
        ap (λ (x : Option Wait). unwrap_or (option_map (λ (k : Key). k.prio) (option_map (λ (y : Wait). y.rank) x)) 0) e
        ∙ repaired.ranks u w.rank (ap (option_map (λ (y : Wait). y.rank)) e)

-- so many hops of a walk from `start` are behind it, and it stands at a thread
pub record IsWalkingTo (m0 : States) (t0 : NodeLists) (start hops at : ℕ) (m : States) (t : NodeLists) : Type 0 where
  pub passed : List ℕ
  pub count : length passed ≡ hops
  pub way : IsOnWay (owners_in m0 t0) passed at
  pub counted : IsCounted (owners_in m0 t0) (owners_in m t) start passed at
  pub walked : IsWalked (owners_in m0 t0) (owners_in m t) at
  pub some : 1 ≤ max (base_of (owners_in m t) at) (greatest_waiting (owners_in m t) at)
  -- who waits for nobody keeps its effective priority
  pub ends : (u : ℕ) → waits_for (owners_in m0 t0) u ≡ 0 → local_of (owners_in m t) u ≡ local_of (owners_in m0 t0) u
  pub holds : HoldsStates m t
  pub place : m ≡ record m0 { rows = m.rows }
  pub outside : SameOutsideStates m0 t0 t

module _ (m0 : States) (t0 : NodeLists) (start : ℕ) (states : HoldsStates m0 t0) (repaired : IsRepairedBut start (owners_in m0 t0))
    (admitted : 1 ≤ base_of (owners_in m0 t0) start) where
  abbrev v : Owners
  v = owners_in m0 t0

  sound0 : AreSoundOwners v
  sound0 = states.waiters.sound

  pub walking-start : IsWalkingTo m0 t0 start 0 start m0 t0
  walking-start =
      record {
        passed = [];
        count = refl;
        way = onway-start v start (some (cases_eq start 0), admitted_row v start admitted);
        counted = counted-start v start;
        walked = walked-start v start repaired;
        some = omega (arith, admitted);
        ends = λ u z. refl;
        holds = states;
        place = refl;
        outside = outside-none m0 t0;
      }
    where
      some : ((start ≡ 0) ⊎ (start ≡ 0 → ⊥)) → 1 ≤ start
      some (inl z) = let none : base_of v start ≡ 0 = ap (base_of v) z ∙ nobody_base v sound0 in absurd (omega (arith, none, admitted))
      some (inr ne) = omega (arith, ne)

  module _ (hops at : ℕ) (m : States) (t : NodeLists) (w : IsWalkingTo m0 t0 start hops at m t) where
    abbrev now : Owners
    now = owners_in m t

    pub walking-few : hops + 2 ≤ length v.seats
    walking-few = omega (arith, w.count, onway-few v sound0 w.passed at w.way)

    pub walking-row : at < length now.seats
    walking-row = omega (arith, w.way.thread.1, w.walked.threads)

    -- it was reached over so many hops
    pub walking-last : at ≡ after_hops (waits_for v) start (hops + 1 - 1)
    walking-last =
        let e : length w.passed ≡ hops + 1 - 1 = omega (arith, w.count) in
        sym w.counted.place ∙ ap (after_hops (waits_for v) start) e

    -- its maximum
    pub walking-maximum : maximum_of now at ≡ max (base_of now at) (greatest_waiting now at)
    walking-maximum = maximum_is now at at w.walked.repaired w.way.thread.0

    pub walking-some : (o : Option ℕ) → unwrap_or o 0 ≡ maximum_of now at → is_some o ≡ true
    walking-some None e = absurd (omega (arith, e, walking-maximum, w.some))
    walking-some (Some p) e = refl

    module _ (p : ℕ) (own : p ≡ maximum_of now at) (m1 : States) (t1 : NodeLists)
        (boosted : owners_in m1 t1 ≡ with_task at (with_effective p (task_at now at)) now)
        (place : m1 ≡ record m { rows = m1.rows }) (outside : SameOutsideStates m t t1) (holds : HoldsStates m1 t1) where
      abbrev after : Owners
      after = owners_in m1 t1

      is_own : p ≡ max (base_of now at) (greatest_waiting now at)
      is_own = own ∙ walking-maximum

      hopped : IsWalked v after (waits_for now at)
      hopped = walked-hop v now at w.walked p after w.holds.waiters.sound walking-row is_own boosted

      waits_then : waits_for after at ≡ waits_for now at
      waits_then = walked-waits v after (waits_for now at) hopped at ∙ sym (walked-waits v now at w.walked at)

      pub rows_then : m1 ≡ record m0 { rows = m1.rows }
      rows_then = place ∙ ap (λ (x : States). record x { rows = m1.rows }) w.place

      outside_then : SameOutsideStates m0 t0 t1
      outside_then = outside-both m0 t0 t t1 w.outside (outside-rows m m0 m.rows t t1 w.place outside)

      local_then : local_of after at ≡ p
      local_then =
          ap (λ (x : Owners). local_of x at) boosted
          ∙ ap (λ (x : Task). x.local) (task_at-with_task_same at (with_effective p (task_at now at)) now walking-row)

      -- no other thread got another effective priority
      same_then : (u : ℕ) → u ≢ at → local_of after u ≡ local_of now u
      same_then u ne = ends-hop v now at w.walked p after w.holds.waiters.sound walking-row is_own boosted u ne

      other_then : (u : ℕ) → waits_for v u ≡ 0 → u ≢ at → local_of after u ≡ local_of v u
      other_then u z ne =
          same_then u ne ∙ w.ends u z

      -- it goes on to the thread for which that one waits
      pub walking-hop : local_of now at ≢ p → (k u : ℕ) → waits_on after at ≡ Some k → owner_at after k ≡ Some u
          → IsWalkingTo m0 t0 start (hops + 1) u m1 t1
      walking-hop other k u on owns =
          record {
            passed = at ∷ w.passed;
            count = omega (arith, w.count);
            way = onway-hop v sound0 w.passed at w.way u (ap (λ (x : ℕ). x) from_v, λ z. (let one : 1 ≤ u = row.0 in absurd (omega (arith, z)))) thread;
            counted = counted-hop v now start w.passed at sound0 w.way w.counted after u from_v (λ e. other (sym e ∙ local_then)) same_then;
            walked = subst (IsWalked v after) to hopped;
            some = subst (λ (x : ℕ). 1 ≤ max (base_of after x) (greatest_waiting after x)) to
                (omega (
                  arith,
                  w.some,
                  is_own,
                  most-hop v now at w.walked p after w.holds.waiters.sound walking-row is_own boosted
                      (λ z. (let one : 1 ≤ u = row.0 in absurd (omega (arith, z, to)))),
                ));
            ends = λ x z. other_then x z (λ e. (let one : 1 ≤ u = row.0 in absurd (omega (arith, from_v, ap (waits_for v) (sym e), z))));
            holds = holds;
            place = rows_then;
            outside = outside_then;
          }
        where
          to_then : waits_for after at ≡ u
          to_then =
              ap (λ (o : Option ℕ). unwrap_or (option_and_then (owner_at after) o) 0) on
              ∙ ap (λ (o : Option ℕ). unwrap_or o 0) owns

          to : waits_for now at ≡ u
          to = sym waits_then ∙ to_then

          from_v : waits_for v at ≡ u
          from_v = sym (walked-waits v now at w.walked at) ∙ to

          row : (1 ≤ u) × (u ≤ m1.threads)
          row = holds.waiters.owned k u owns

          thread : IsThread v u
          thread = (row.0, omega (arith, row.1, length-seats m0 t0, states.waiters.rows, ap (λ (x : States). x.threads) rows_then))

    module _ (q0 : Queue) (apart : StandsBefore m0 q0) (queue : Holds q0 t0)
        (ready : (u : ℕ) → IsQueued q0 t0 u → 1 ≤ base_of v u) (running : (u : ℕ) → IsQueued q0 t0 u → waits_on v u ≡ None)
        (level : (u p : ℕ) → IsLevel p → has u (level_of q0 t0 p) ≡ true → p ≡ local_of v u) where
      -- what follows of the owner states once nothing is left
      all_but : (final : Owners) (e : ℕ) → AreSoundOwners final → IsWalked v final 0
          → ((u : ℕ) → u ≢ e → waits_for v u ≡ 0 → local_of final u ≡ local_of v u) → AllBut v q0 t0 queue e
      all_but final e sound done ends u p ne lp on =
          let queued : IsQueued q0 t0 u = (p, lp, on) in
          sym (walked-local v final sound0 sound done u (admitted_row v u (ready u queued)))
          ∙ ends u ne (waits_for-none v u (running u queued)) ∙ sym (level u p lp on)

      done : (m1 : States) (t1 : NodeLists) (q1 : Queue) → HoldsStates m1 t1 → IsWalked v (owners_in m1 t1) 0
          → ((p : ℕ) → IsLevel p → level_of q1 t1 p ≡ level_after_walk v q0 t0 p) → SameBeyond m0 q0 t0 t1
          → q1 ≡ record q0 { mask = q1.mask } → m1 ≡ record m0 { rows = m1.rows } → Holds q1 t1
          → IsDone m0 t0 q0 (hops + 1) m1 t1 q1
      done m1 t1 q1 holds walked levels outside place rows stands =
          let r : IsRepaired v (owners_in m1 t1) = walked-done v (owners_in m1 t1) sound0 holds.waiters.sound walked in
          let settled : (other : ℕ) → IsRepairedBut other (owners_in m1 t1) = walked-settled v (owners_in m1 t1) sound0 holds.waiters.sound walked in
          record {
            repaired = r;
            greatest = λ u th. repaired-greatest v (owners_in m1 t1) sound0 r u th;
            settled = settled;
            next = λ k u top. top_is_next (owners_in m1 t1) k u settled top;
            levels = levels;
            level = walked-level v (owners_in m1 t1) q0 q1 t0 t1 queue ready r levels;
            one = one_joins v q0 t0 start sound0 repaired queue ready running level;
            outside = outside;
            place = place;
            rows = rows;
            holds = stands;
            states = holds;
            most = omega (arith, walking-few);
          }

      -- it stops at a thread that has its maximum
      pub walking-stopped : local_of now at ≡ maximum_of now at → IsDone m0 t0 q0 (hops + 1) m t q0
      walking-stopped e =
          let walked : IsWalked v now 0 = walked-stop v now at w.walked (e ∙ walking-maximum) in
          let keeps = states-leave m0 q0 t0 t apart w.outside in
          done m t q0 w.holds walked
          (λ p lp. levels-framed q0 t0 t keeps p lp
          ∙ sym (stop_levels v q0 t0 queue
          (all_but now 0 w.holds.waiters.sound walked (λ u ne z. w.ends u z)) p lp))
          (beyond-states m0 q0 t0 t w.outside) refl w.place
          (queue-framed q0 t0 t keeps queue w.holds.waiters.apart)

      -- its hops were counted
      pub counted-stopped : local_of now at ≡ maximum_of now at → IsHopCount v start (hops + 1)
      counted-stopped e =
          let walked : IsWalked v now 0 = walked-stop v now at w.walked (e ∙ walking-maximum) in
          let sound : AreSoundOwners now = w.holds.waiters.sound in
          let has : greatest_base v at ≡ local_of v at =
          sym (walked-local v now sound0 sound walked at w.way.thread.1)
          ∙ counted-here v now start w.passed at sound0 w.way w.counted in
          subst (λ (n : ℕ). IsHopCount v start (n + 1)) w.count
          (counted-done v now start w.passed at sound0 w.way w.counted now sound walked (λ x ne. refl) (inl has))

      -- it ends at a thread that waits for nobody
      module _ (p : ℕ) (own : p ≡ maximum_of now at) (m1 : States) (t1 : NodeLists)
          (boosted : owners_in m1 t1 ≡ with_task at (with_effective p (task_at now at)) now)
          (place : m1 ≡ record m { rows = m1.rows }) (outside : SameOutsideStates m t t1) (holds : HoldsStates m1 t1) where
        whole : SameOutsideStates m0 t0 t1
        whole = outside_then p own m1 t1 boosted place outside holds

        pub ended_holds : Holds q0 t1
        ended_holds = queue-framed q0 t0 t1 (states-leave m0 q0 t0 t1 apart whole) queue holds.waiters.apart

        nobody : waits_on (owners_in m1 t1) at ≡ None → waits_for now at ≡ 0
        nobody none = sym (waits_then p own m1 t1 boosted place outside holds) ∙ waits_for-none (owners_in m1 t1) at none

        walked_none : waits_on (owners_in m1 t1) at ≡ None → IsWalked v (owners_in m1 t1) 0
        walked_none none = subst (IsWalked v (owners_in m1 t1)) (nobody none) (hopped p own m1 t1 boosted place outside holds)

        -- its hops were counted
        pub counted-ended : waits_on (owners_in m1 t1) at ≡ None → IsHopCount v start (hops + 1)
        counted-ended none =
            subst (λ (n : ℕ). IsHopCount v start (n + 1)) w.count
            (counted-done v now start w.passed at sound0 w.way w.counted (owners_in m1 t1) holds.waiters.sound
            (walked_none none) (same_then p own m1 t1 boosted place outside holds)
            (inr (sym (walked-waits v now at w.walked at) ∙ nobody none)))

        pub walking-ended : (q2 : Queue) (t2 : NodeLists) → waits_on (owners_in m1 t1) at ≡ None
            → ((r : ℕ) → IsLevel r → level_of q2 t2 r ≡ level_after_move_if_queued q0 t1 at p r) → SameOutside q0 t1 t2
            → q2 ≡ record q0 { mask = q2.mask } → Holds q2 t2 → IsDone m0 t0 q0 (hops + 1) m1 t2 q2
        walking-ended q2 t2 none moved same queue_place queue_holds =
            done m1 t2 q2 holds2 walked2 levels2 beyond queue_place rows queue_holds
          where
            rows : m1 ≡ record m0 { rows = m1.rows }
            rows = rows_then p own m1 t1 boosted place outside holds

            apart_then : StandsBefore m1 q0
            apart_then = subst (λ (x : States). StandsBefore x q0) (sym rows) (record { lists = apart.lists; nodes = apart.nodes })

            keeps : KeepsOwn m1 t1 t2
            keeps = queue-leaves q0 q2 t1 t2 queue_place ended_holds queue_holds same m1 apart_then

            holds2 : HoldsStates m1 t2
            holds2 = holds-framed m1 t1 t2 keeps queue_holds.apart holds

            view2 : owners_in m1 t2 ≡ owners_in m1 t1
            view2 = owners-framed m1 t1 t2 keeps queue_holds.apart holds

            walked1 : IsWalked v (owners_in m1 t1) 0
            walked1 = walked_none none

            walked2 : IsWalked v (owners_in m1 t2) 0
            walked2 = subst (λ (x : Owners). IsWalked v x 0) (sym view2) walked1

            ends1 : (u : ℕ) → u ≢ at → waits_for v u ≡ 0 → local_of (owners_in m1 t1) u ≡ local_of v u
            ends1 u ne z = other_then p own m1 t1 boosted place outside holds u z ne

            at_greatest : greatest_base v at ≡ p
            at_greatest = sym (walked-local v (owners_in m1 t1) sound0 holds.waiters.sound walked1 at w.way.thread.1)
                ∙ local_then p own m1 t1 boosted place outside holds

            node_same : holder t1 (node_for q0 at) ≡ holder t0 (node_for q0 at)
            node_same = whole.holders (node_for q0 at) (inr (omega (arith, apart.nodes)))

            level_same : level_with q0 t1 at ≡ level_with q0 t0 at
            level_same =
                ap (λ (o : Option ℕ). if nat_le 1 at && nat_le at q0.threads then option_and_then (level_for q0) o else None)
                node_same

            framed : (r : ℕ) → IsLevel r → level_after_move_if_queued q0 t1 at p r ≡ level_after_move_if_queued q0 t0 at p r
            framed r lr =
                let here : level_of q0 t1 r ≡ level_of q0 t0 r = levels-framed q0 t0 t1 (states-leave m0 q0 t0 t1 apart whole) r lr in
                λ i. if is_some (level_same i) then level_after_move at p r (here i) else here i

            levels2 : (r : ℕ) → IsLevel r → level_of q2 t2 r ≡ level_after_walk v q0 t0 r
            levels2 r lr =
                moved r lr ∙ framed r lr
                ∙ sym (end_levels v q0 t0 queue at p w.way.thread at_greatest
                (all_but (owners_in m1 t1) at holds.waiters.sound walked1 ends1) r lr)

            beyond : SameBeyond m0 q0 t0 t2
            beyond =
                beyond-both m0 q0 t0 t1 t2 (beyond-states m0 q0 t0 t1 whole)
                (beyond-queue q0 q2 t1 t2 queue_place ended_holds queue_holds same m0)

        -- all others that wait for nobody keep their effective priority
        pub ended_ends : (q2 : Queue) (t2 : NodeLists) → SameOutside q0 t1 t2 → q2 ≡ record q0 { mask = q2.mask } → Holds q2 t2
            → (u : ℕ) → u ≢ at → waits_for v u ≡ 0 → local_of (owners_in m1 t2) u ≡ local_of v u
        ended_ends q2 t2 same queue_place queue_holds u ne z =
            let rows : m1 ≡ record m0 { rows = m1.rows } = rows_then p own m1 t1 boosted place outside holds in
            let apart_then : StandsBefore m1 q0 =
            subst (λ (x : States). StandsBefore x q0) (sym rows) (record { lists = apart.lists; nodes = apart.nodes }) in
            let keeps = queue-leaves q0 q2 t1 t2 queue_place ended_holds queue_holds same m1 apart_then in
            ap (λ (x : Owners). local_of x u) (owners-framed m1 t1 t2 keeps queue_holds.apart holds)
            ∙ other_then p own m1 t1 boosted place outside holds u z ne
