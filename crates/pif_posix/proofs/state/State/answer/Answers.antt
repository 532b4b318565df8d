use Rattle.std.proofs.Common.{◌<◌, ◌∙◌, refl, sym, arith, length}
use Rattle.pif_model.specs.declared.events.Event.TheVariants.{Go}
use Rattle.pif_posix_steps.specs.Doing.{answered}
use Rattle.pif_posix_steps.specs.Doing.Does.{did_not}
use Rattle.pif_posix_steps.proofs.DoingCases.{did_this}
use Rattle.pif_posix.proofs.Allowed.{allowed, not_allowed}
use Rattle.pif_posix.proofs.Entering.{answered-not, answered-refused, answered-rests, answered-closes}
use Rattle.pif_posix.proofs.state.State.answer.Goals as goal

pub returns-then-not-is_answered : goal.returns-then-not-is_answered
returns-then-not-is_answered c =
    did_not (answered-not c.args.thread c.args.answer c.args.self.now (sym c.is_answered.ensures ∙ c.if-not-is_answered.true)) refl

pub returns-then-is_some : goal.returns-then-is_some
returns-then-is_some c =
    did_not
    (answered-refused c.args.thread c.args.answer c.args.self.now (sym c.is_answered.ensures ∙ c.if-not-is_answered.false)
    (not_allowed c.args.self.now (Go c.args.thread) c.go_refusal.result c.go_refusal.ensures (sym c.is_some.ensures ∙ c.if-is_some.true))) refl

pub returns-then-is_waiter : goal.returns-then-is_waiter
returns-then-is_waiter c =
    let lt : c.args.thread < length c.args.self.now.threads = omega (arith, c.thread_count.ensures, c.if-thread-thread_count.false) in
    did_not
    (answered-rests c.args.thread c.args.answer c.args.self.now (sym c.is_answered.ensures ∙ c.if-not-is_answered.false)
    (allowed c.args.self.now (Go c.args.thread) c.go_refusal.result c.go_refusal.ensures (sym c.is_some.ensures ∙ c.if-is_some.false))
    lt (sym c.is_waiter.ensures ∙ c.if-is_waiter.true)) refl

pub returns : goal.returns
returns c =
    let lt : c.args.thread < length c.args.self.now.threads = omega (arith, c.thread_count.ensures, c.if-thread-thread_count.false) in
    did_this (answered c.args.thread c.args.answer c.args.self.now)
    (answered-closes c.args.thread c.args.answer c.args.self.now (sym c.is_answered.ensures ∙ c.if-not-is_answered.false)
    (allowed c.args.self.now (Go c.args.thread) c.go_refusal.result c.go_refusal.ensures (sym c.is_some.ensures ∙ c.if-is_some.false))
    lt (sym c.is_waiter.ensures ∙ c.if-is_waiter.false)) c.close.ensures
