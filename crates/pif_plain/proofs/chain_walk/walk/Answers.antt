-- Each thread in turn is repaired.
use Rattle.std.proofs.Common.{◌≡◌, ◌+◌, ◌∙◌, arith}
use Rattle.std.specs.Prelude.{unwrap_or}
use Rattle.pif_kernel_model.specs.Boosts.{IsRepaired, greatest_base}
use Rattle.pif_kernel_model.proofs.Joining.{one_joins}
use Rattle.pif_plain.proofs.Propagation.{nothing_at}
use Rattle.pif_kernel_model.proofs.Settled.{settled, top_is_next, walked-level}
use Rattle.pif_kernel_model.proofs.Walks.{numbered, walked-start, next_ready, next_idle, walked-more, walked-repaired, walked-levels, repaired-greatest}
use Rattle.pif_plain.proofs.chain_walk.walk.Goals as goal

pub propagate_all-requires : goal.propagate_all-requires
propagate_all-requires c = record { none = λ t. nothing_at 1025 t }

pub loop-place-init : goal.loop-place-init
loop-place-init c =
    record {
      walked = walked-start c.args.owners.now c.args.queue.now c.args.table.now
          c.threads-place-end.ensures.sound c.requires.holds;
    }

pub repair-requires-clause-ready : goal.repair-requires-clause-ready
repair-requires-clause-ready c =
    let at : c.unwrap-t.result ≡ c.loop-place.place + 1 = numbered c.new.result c.unwrap-t.result (c.loop-place.place + 1) c.unwrap-t.ensures c.new.ensures.value in
    let priority : unwrap_or c.priority_of.result 0 ≡ greatest_base c.args.owners.now c.unwrap-t.result =
    c.priority_of.ensures ∙ c.propagate_all.ensures.values c.unwrap-t.result (omega arith) in
    next_ready c.loop-place.place c.unwrap-t.result _ c.args.owners.now c.loop-place.owners c.args.queue.now c.loop-place.queue c.args.table.now c.loop-place.table
    at (omega arith) priority c.loop-place.invariant.walked c.requires.ready

pub repair-requires-clause-idle : goal.repair-requires-clause-idle
repair-requires-clause-idle c =
    let at : c.unwrap-t.result ≡ c.loop-place.place + 1 = numbered c.new.result c.unwrap-t.result (c.loop-place.place + 1) c.unwrap-t.ensures c.new.ensures.value in
    let priority : unwrap_or c.priority_of.result 0 ≡ greatest_base c.args.owners.now c.unwrap-t.result =
    c.priority_of.ensures ∙ c.propagate_all.ensures.values c.unwrap-t.result (omega arith) in
    next_idle c.loop-place.place c.unwrap-t.result _ c.args.start c.args.owners.now c.loop-place.owners c.args.queue.now c.loop-place.queue c.args.table.now c.loop-place.table
    at (omega arith) priority c.loop-place.invariant.walked c.threads-place-end.ensures.sound c.requires.repaired c.requires.admitted

pub loop-place-preserved : goal.loop-place-preserved
loop-place-preserved c =
    let at : c.unwrap-t.result ≡ c.loop-place.place + 1 = numbered c.new.result c.unwrap-t.result (c.loop-place.place + 1) c.unwrap-t.ensures c.new.ensures.value in
    let priority : unwrap_or c.priority_of.result 0 ≡ greatest_base c.args.owners.now c.unwrap-t.result =
    c.priority_of.ensures ∙ c.propagate_all.ensures.values c.unwrap-t.result (omega arith) in
    record {
      walked = walked-more c.loop-place.place c.unwrap-t.result _ c.args.owners.now c.loop-place.owners c.repair.new.owners
          c.args.queue.now c.loop-place.queue c.repair.new.queue c.args.table.now c.loop-place.table c.repair.new.table
          at (omega arith) priority c.requires.holds c.loop-place.invariant.walked c.repair.ensures.owners c.repair.ensures.levels c.repair.ensures.outside c.repair.ensures.place c.repair.ensures.holds;
    }

pub returns-clause-greatest : goal.returns-clause-greatest
returns-clause-greatest c =
    let all : IsRepaired c.args.owners.now c.loop-place.owners =
    walked-repaired c.loop-place.place c.args.owners.now c.loop-place.owners c.args.queue.now c.loop-place.queue c.args.table.now c.loop-place.table (omega arith) c.loop-place.invariant.walked in
    repaired-greatest c.args.owners.now c.loop-place.owners c.threads-place-end.ensures.sound all

pub returns-clause-settled : goal.returns-clause-settled
returns-clause-settled c =
    settled c.loop-place.place c.args.owners.now c.loop-place.owners (omega arith) c.loop-place.invariant.walked.repaired

pub returns-clause-next : goal.returns-clause-next
returns-clause-next c = λ k t top.
    top_is_next c.loop-place.owners k t (settled c.loop-place.place c.args.owners.now c.loop-place.owners (omega arith) c.loop-place.invariant.walked.repaired) top

pub returns-clause-levels : goal.returns-clause-levels
returns-clause-levels c =
    walked-levels c.loop-place.place c.args.owners.now c.loop-place.owners c.args.queue.now c.loop-place.queue c.args.table.now c.loop-place.table
    (omega arith) c.loop-place.invariant.walked c.requires.ready

pub returns-clause-level : goal.returns-clause-level
returns-clause-level c = λ u p lp on.
    let all : IsRepaired c.args.owners.now c.loop-place.owners =
    walked-repaired c.loop-place.place c.args.owners.now c.loop-place.owners c.args.queue.now c.loop-place.queue c.args.table.now c.loop-place.table (omega arith) c.loop-place.invariant.walked in
    walked-level c.args.owners.now c.loop-place.owners c.args.queue.now c.loop-place.queue c.args.table.now
    c.loop-place.table c.requires.holds c.requires.ready all
    (returns-clause-levels c) u p lp on

pub returns-clause-one : goal.returns-clause-one
returns-clause-one c =
    one_joins c.args.owners.now c.args.queue.now c.args.table.now c.args.start c.threads-place-end.ensures.sound
    c.requires.repaired c.requires.holds c.requires.ready c.requires.running c.requires.level
