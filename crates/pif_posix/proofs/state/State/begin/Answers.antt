use Rattle.std.proofs.Common.{◌<◌, ◌∙◌, refl, sym, arith, length}
use Rattle.pif_model.specs.declared.events.Event.TheVariants.{Begin}
use Rattle.pif_posix_steps.specs.Doing.{begun}
use Rattle.pif_posix_steps.specs.Doing.Does.{did_not}
use Rattle.pif_posix_steps.proofs.DoingCases.{did_this}
use Rattle.pif_posix.proofs.Allowed.{allowed, not_allowed}
use Rattle.pif_posix.proofs.Entering.{begun-allowed, begun-refused, opened}
use Rattle.pif_posix.proofs.state.State.begin.Goals as goal

pub returns-then-is_some : goal.returns-then-is_some
returns-then-is_some c =
    did_not
    (begun-refused c.args.thread c.args.request c.args.self.now
    (not_allowed c.args.self.now (Begin c.args.thread c.args.request) c.begin_refusal.result c.begin_refusal.ensures (sym c.is_some.ensures ∙ c.if-is_some.true))) refl

pub returns : goal.returns
returns c =
    let lt : c.args.thread < length c.args.self.now.threads = omega (arith, c.thread_count.ensures, c.if-thread-thread_count.false) in
    did_this (begun c.args.thread c.args.request c.args.self.now)
    (begun-allowed c.args.thread c.args.request c.args.self.now
    (allowed c.args.self.now (Begin c.args.thread c.args.request) c.begin_refusal.result c.begin_refusal.ensures (sym c.is_some.ensures ∙ c.if-is_some.false)))
    (c.open.ensures ∙ opened c.args.thread c.args.request c.args.self.now c.remember.new.self lt c.in_ok-remember.ensures)
