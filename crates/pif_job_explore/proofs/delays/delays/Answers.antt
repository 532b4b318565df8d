use Rattle.std.proofs.Common.{ℕ, arith, subst}
use Rattle.pif_explore.specs.Delays.{IsDelayTold}
use Rattle.pif_job_explore.proofs.Held.{all_held, held_more, none_held}
use Rattle.pif_job_explore.proofs.delays.delays.Goals as goal

pub loop-thread-init : goal.loop-thread-init
loop-thread-init c = λ start whole. none_held c.args.plan.now start c.args.explored.now.nodes.items c.args.threads.now _ c.new-all.ensures.items

pub loop-thread-preserved : goal.loop-thread-preserved
loop-thread-preserved c = λ start whole.
    held_more c.args.plan.now start c.args.explored.now.nodes.items c.args.threads.now c.loop-thread.thread-index c.thread-item.result _
    c.loop-thread.all.items _ c.loop-thread-test.true c.thread-item.is c.in_ok-push.ensures c.get-number.ensures.value
    (c.loop-thread.invariant start whole)
    (subst (λ (t : ℕ). IsDelayTold c.args.plan.now start c.args.explored.now.nodes.items t c.in_ok-delay.delay) c.get-number.ensures.value
    (c.in_ok-delay.ensures start (whole (omega (arith, c.loop-thread-test.true)))))

pub returns : goal.returns
returns c = λ start whole.
    all_held c.args.plan.now start c.args.explored.now.nodes.items c.args.threads.now c.loop-thread.thread-index c.loop-thread.all.items
    c.loop-thread-test.false (c.loop-thread.invariant start whole)
