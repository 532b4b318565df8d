use Rattle.std.proofs.Common.{◌≡◌, ◌≢◌, ◌∙◌, ℕ, ◌+◌, refl, sym, ap, subst, eqb-true, arith}
use Rattle.std.proofs.lemmas.Bool.{eq-eqb, true≢false}
use Rattle.pif_nodes_model.specs.Table.{NodeLists}
use Rattle.pif_nodes_model.specs.Levels.{Queue, IsLevel, level_of, Holds, SameOutside, level_after_move_if_queued}
use Rattle.pif_kernel_model.specs.States.{States, owners_in}
use Rattle.pif_rtmutex.specs.Maximum.{maximum_of}
use Rattle.pif_kernel_model.proofs.ViewLemmas.{length-seats}
use Rattle.pif_kernel_model.specs.Boosts.{local_of}
use Rattle.pif_boost.specs.Done.{IsDone}
use Rattle.pif_boost.proofs.Walking.{walking-start, walking-few, walking-row, walking-some, walking-last, walking-hop, walking-stopped, counted-stopped, ended_holds, counted-ended, walking-ended, ended_ends}
use Rattle.pif_boost.proofs.chain_walk.walk_to.Goals as goal

pub loop-hop-init : goal.loop-hop-init
loop-hop-init c =
    let m0 : States = c.args.owners.now in
    record {
      walking = walking-start m0 c.args.table.now c.args.start c.requires.states c.requires.repaired c.requires.admitted;
      queue = refl;
    }

pub maximum-requires-clause-holds : goal.maximum-requires-clause-holds
maximum-requires-clause-holds c = c.loop-hop.invariant.walking.holds

pub maximum-requires-clause-row : goal.maximum-requires-clause-row
maximum-requires-clause-row c =
    let m0 : States = c.args.owners.now in
    let t0 : NodeLists = c.args.table.now in
    let m : States = c.loop-hop.owners in
    let t : NodeLists = c.loop-hop.table in
    walking-row m0 t0 c.args.start c.requires.states c.requires.repaired c.requires.admitted c.loop-hop.hop c.loop-hop.at m t c.loop-hop.invariant.walking

pub unwrap-prio-requires : goal.unwrap-prio-requires
unwrap-prio-requires c =
    let m0 : States = c.args.owners.now in
    let t0 : NodeLists = c.args.table.now in
    let m : States = c.loop-hop.owners in
    let t : NodeLists = c.loop-hop.table in
    walking-some m0 t0 c.args.start c.requires.states c.requires.repaired c.requires.admitted c.loop-hop.hop c.loop-hop.at m t c.loop-hop.invariant.walking
    c.maximum.result c.maximum.ensures

pub returns-then-has_local-clause-done : goal.returns-then-has_local-clause-done
returns-then-has_local-clause-done c =
    let m0 : States = c.args.owners.now in
    let t0 : NodeLists = c.args.table.now in
    let m : States = c.loop-hop.owners in
    let t : NodeLists = c.loop-hop.table in
    let own : c.unwrap-prio.result ≡ maximum_of (owners_in m t) c.loop-hop.at = rw c.unwrap-prio.ensures at c.maximum.ensures in
    let same : local_of (owners_in m t) c.loop-hop.at ≡ c.unwrap-prio.result =
    eqb-true (local_of (owners_in m t) c.loop-hop.at) c.unwrap-prio.result (sym c.has_local.ensures ∙ c.if-has_local.true) in
    subst (λ (x : Queue). IsDone m0 t0 c.args.queue.now (c.loop-hop.hop + 1) m t x) (sym c.loop-hop.invariant.queue)
    (walking-stopped m0 t0 c.args.start c.requires.states c.requires.repaired c.requires.admitted c.loop-hop.hop c.loop-hop.at m t c.loop-hop.invariant.walking
    c.args.queue.now c.requires.apart c.requires.holds c.requires.ready c.requires.running c.requires.level (same ∙ own))

pub returns-then-has_local-clause-ends : goal.returns-then-has_local-clause-ends
returns-then-has_local-clause-ends c = λ u ne z. c.loop-hop.invariant.walking.ends u z

pub returns-then-has_local-clause-counted : goal.returns-then-has_local-clause-counted
returns-then-has_local-clause-counted c =
    let m0 : States = c.args.owners.now in
    let t0 : NodeLists = c.args.table.now in
    let m : States = c.loop-hop.owners in
    let t : NodeLists = c.loop-hop.table in
    let own : c.unwrap-prio.result ≡ maximum_of (owners_in m t) c.loop-hop.at = rw c.unwrap-prio.ensures at c.maximum.ensures in
    let same : local_of (owners_in m t) c.loop-hop.at ≡ c.unwrap-prio.result =
    eqb-true (local_of (owners_in m t) c.loop-hop.at) c.unwrap-prio.result (sym c.has_local.ensures ∙ c.if-has_local.true) in
    counted-stopped m0 t0 c.args.start c.requires.states c.requires.repaired c.requires.admitted c.loop-hop.hop c.loop-hop.at m t c.loop-hop.invariant.walking
    c.args.queue.now c.requires.apart c.requires.holds c.requires.ready c.requires.running c.requires.level (same ∙ own)

pub returns-then-has_local-clause-last : goal.returns-then-has_local-clause-last
returns-then-has_local-clause-last c =
    let m0 : States = c.args.owners.now in
    let t0 : NodeLists = c.args.table.now in
    let m : States = c.loop-hop.owners in
    let t : NodeLists = c.loop-hop.table in
    walking-last m0 t0 c.args.start c.requires.states c.requires.repaired c.requires.admitted c.loop-hop.hop c.loop-hop.at m t c.loop-hop.invariant.walking

pub boost-requires-clause-row : goal.boost-requires-clause-row
boost-requires-clause-row c =
    let m0 : States = c.args.owners.now in
    let t0 : NodeLists = c.args.table.now in
    let m : States = c.loop-hop.owners in
    let t : NodeLists = c.loop-hop.table in
    walking-row m0 t0 c.args.start c.requires.states c.requires.repaired c.requires.admitted c.loop-hop.hop c.loop-hop.at m t c.loop-hop.invariant.walking

pub move_if_queued-requires : goal.move_if_queued-requires
move_if_queued-requires c =
    let m0 : States = c.args.owners.now in
    let t0 : NodeLists = c.args.table.now in
    let m : States = c.loop-hop.owners in
    let t : NodeLists = c.loop-hop.table in
    let own : c.unwrap-prio.result ≡ maximum_of (owners_in m t) c.loop-hop.at = rw c.unwrap-prio.ensures at c.maximum.ensures in
    subst (λ (x : Queue). Holds x c.boost.new.table) (sym c.loop-hop.invariant.queue)
    (ended_holds m0 t0 c.args.start c.requires.states c.requires.repaired c.requires.admitted c.loop-hop.hop c.loop-hop.at m t c.loop-hop.invariant.walking
    c.args.queue.now c.requires.apart c.requires.holds c.requires.ready c.requires.running c.requires.level
    c.unwrap-prio.result own c.boost.new.owners c.boost.new.table c.boost.ensures.owners
    c.boost.ensures.rows c.boost.ensures.outside c.boost.ensures.states)

pub returns-in-None-clause-done : goal.returns-in-None-clause-done
returns-in-None-clause-done c =
    let m0 : States = c.args.owners.now in
    let t0 : NodeLists = c.args.table.now in
    let m : States = c.loop-hop.owners in
    let t : NodeLists = c.loop-hop.table in
    let own : c.unwrap-prio.result ≡ maximum_of (owners_in m t) c.loop-hop.at = rw c.unwrap-prio.ensures at c.maximum.ensures in
    let at_queue : c.loop-hop.queue ≡ c.args.queue.now = c.loop-hop.invariant.queue in
    let levels : (p : ℕ) → IsLevel p → level_of c.move_if_queued.new.self c.move_if_queued.new.table p
    ≡ level_after_move_if_queued c.args.queue.now c.boost.new.table c.loop-hop.at c.unwrap-prio.result p =
    λ p lp. c.move_if_queued.ensures.levels p lp
    ∙ ap (λ (x : Queue). level_after_move_if_queued x c.boost.new.table c.loop-hop.at c.unwrap-prio.result p) at_queue in
    let outside : SameOutside c.args.queue.now c.boost.new.table c.move_if_queued.new.table =
    subst (λ (x : Queue). SameOutside x c.boost.new.table c.move_if_queued.new.table) at_queue c.move_if_queued.ensures.outside in
    let place : c.move_if_queued.new.self ≡ record c.args.queue.now { mask = c.move_if_queued.new.self.mask } =
    c.move_if_queued.ensures.place ∙ ap (λ (x : Queue). record x { mask = c.move_if_queued.new.self.mask }) at_queue in
    walking-ended m0 t0 c.args.start c.requires.states c.requires.repaired c.requires.admitted c.loop-hop.hop c.loop-hop.at m t c.loop-hop.invariant.walking
    c.args.queue.now c.requires.apart c.requires.holds c.requires.ready c.requires.running c.requires.level
    c.unwrap-prio.result own c.boost.new.owners c.boost.new.table c.boost.ensures.owners
    c.boost.ensures.rows c.boost.ensures.outside c.boost.ensures.states
    c.move_if_queued.new.self c.move_if_queued.new.table (sym c.waits_on.ensures.value ∙ c.in-None.is) levels outside place
    c.move_if_queued.ensures.holds

pub returns-in-None-clause-counted : goal.returns-in-None-clause-counted
returns-in-None-clause-counted c =
    let m0 : States = c.args.owners.now in
    let t0 : NodeLists = c.args.table.now in
    let m : States = c.loop-hop.owners in
    let t : NodeLists = c.loop-hop.table in
    let own : c.unwrap-prio.result ≡ maximum_of (owners_in m t) c.loop-hop.at = rw c.unwrap-prio.ensures at c.maximum.ensures in
    counted-ended m0 t0 c.args.start c.requires.states c.requires.repaired c.requires.admitted c.loop-hop.hop c.loop-hop.at m t c.loop-hop.invariant.walking
    c.args.queue.now c.requires.apart c.requires.holds c.requires.ready c.requires.running c.requires.level
    c.unwrap-prio.result own c.boost.new.owners c.boost.new.table c.boost.ensures.owners
    c.boost.ensures.rows c.boost.ensures.outside c.boost.ensures.states (sym c.waits_on.ensures.value ∙ c.in-None.is)

pub returns-in-None-clause-last : goal.returns-in-None-clause-last
returns-in-None-clause-last c =
    let m0 : States = c.args.owners.now in
    let t0 : NodeLists = c.args.table.now in
    let m : States = c.loop-hop.owners in
    let t : NodeLists = c.loop-hop.table in
    walking-last m0 t0 c.args.start c.requires.states c.requires.repaired c.requires.admitted c.loop-hop.hop c.loop-hop.at m t c.loop-hop.invariant.walking

pub returns-in-None-clause-ends : goal.returns-in-None-clause-ends
returns-in-None-clause-ends c =
    let m0 : States = c.args.owners.now in
    let t0 : NodeLists = c.args.table.now in
    let m : States = c.loop-hop.owners in
    let t : NodeLists = c.loop-hop.table in
    let own : c.unwrap-prio.result ≡ maximum_of (owners_in m t) c.loop-hop.at = rw c.unwrap-prio.ensures at c.maximum.ensures in
    let at_queue : c.loop-hop.queue ≡ c.args.queue.now = c.loop-hop.invariant.queue in
    let outside : SameOutside c.args.queue.now c.boost.new.table c.move_if_queued.new.table =
    subst (λ (x : Queue). SameOutside x c.boost.new.table c.move_if_queued.new.table) at_queue c.move_if_queued.ensures.outside in
    let place : c.move_if_queued.new.self ≡ record c.args.queue.now { mask = c.move_if_queued.new.self.mask } =
    c.move_if_queued.ensures.place ∙ ap (λ (x : Queue). record x { mask = c.move_if_queued.new.self.mask }) at_queue in
    ended_ends m0 t0 c.args.start c.requires.states c.requires.repaired c.requires.admitted c.loop-hop.hop c.loop-hop.at m t c.loop-hop.invariant.walking
    c.args.queue.now c.requires.apart c.requires.holds c.requires.ready c.requires.running c.requires.level
    c.unwrap-prio.result own c.boost.new.owners c.boost.new.table c.boost.ensures.owners
    c.boost.ensures.rows c.boost.ensures.outside c.boost.ensures.states
    c.move_if_queued.new.self c.move_if_queued.new.table outside place c.move_if_queued.ensures.holds

pub loop-hop-preserved : goal.loop-hop-preserved
loop-hop-preserved c =
    let m0 : States = c.args.owners.now in
    let t0 : NodeLists = c.args.table.now in
    let m : States = c.loop-hop.owners in
    let t : NodeLists = c.loop-hop.table in
    let own : c.unwrap-prio.result ≡ maximum_of (owners_in m t) c.loop-hop.at = rw c.unwrap-prio.ensures at c.maximum.ensures in
    let other : local_of (owners_in m t) c.loop-hop.at ≢ c.unwrap-prio.result =
    λ e. true≢false (sym (eq-eqb (local_of (owners_in m t) c.loop-hop.at) c.unwrap-prio.result e)
    ∙ sym c.has_local.ensures ∙ c.if-has_local.false) in
    record {
      walking = walking-hop m0 t0 c.args.start c.requires.states c.requires.repaired c.requires.admitted c.loop-hop.hop c.loop-hop.at m t c.loop-hop.invariant.walking
          c.unwrap-prio.result own c.boost.new.owners c.boost.new.table c.boost.ensures.owners
          c.boost.ensures.rows c.boost.ensures.outside c.boost.ensures.states other
          c.in-Some.state c.owner-at.result (sym c.waits_on.ensures.value ∙ c.in-Some.is) c.owner-at.ensures.value;
      queue = c.loop-hop.invariant.queue;
    }

pub unreachable-requires : goal.unreachable-requires
unreachable-requires c =
    let m0 : States = c.args.owners.now in
    let t0 : NodeLists = c.args.table.now in
    let m : States = c.loop-hop.owners in
    let t : NodeLists = c.loop-hop.table in
    let few = walking-few m0 t0 c.args.start c.requires.states c.requires.repaired c.requires.admitted c.loop-hop.hop c.loop-hop.at m t c.loop-hop.invariant.walking in
    omega (arith, few, c.loop-hop-test.false, c.threads-hop-end.ensures.value, length-seats m0 t0, c.requires.states.waiters.rows)
