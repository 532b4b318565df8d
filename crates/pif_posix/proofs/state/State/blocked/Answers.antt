use Rattle.std.proofs.Common.{◌∙◌, ◌-◌, sym, length, arith}
use Rattle.pif_model.specs.Posix.{blocked_below}
use Rattle.pif_posix.proofs.Choosing.{blocked_found, blocked_passed, blocked_all}
use Rattle.pif_posix.proofs.state.State.blocked.Goals as goal

pub loop-u-preserved-in-Continue-branch-2 : goal.loop-u-preserved-in-Continue-branch-2
loop-u-preserved-in-Continue-branch-2 c =
    blocked_found c.args.self.now c.args.variable c.loop-u.u (c.loop-u.u - 1) c.waits.result c.loop-u.all.items c.push.new.items.items
    (blocked_below c.args.self.now c.args.variable (length c.args.self.now.threads)) (omega arith) (sym c.is_blocked_on.ensures ∙ c.if-is_blocked_on.true)
    c.waits.ensures c.in_ok-push.ensures c.loop-u.invariant

pub loop-u-preserved : goal.loop-u-preserved
loop-u-preserved c =
    blocked_passed c.args.self.now c.args.variable c.loop-u.u (c.loop-u.u - 1) c.loop-u.all.items
    (blocked_below c.args.self.now c.args.variable (length c.args.self.now.threads)) (omega arith) (sym c.is_blocked_on.ensures ∙ c.if-is_blocked_on.false)
    c.loop-u.invariant

pub returns : goal.returns
returns c =
    blocked_all c.args.self.now c.args.variable c.loop-u.u c.loop-u.all.items (blocked_below c.args.self.now c.args.variable (length c.args.self.now.threads))
    (omega arith) c.loop-u.invariant
