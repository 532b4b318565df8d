use Rattle.std.proofs.Common.{◌∙◌, sym}
use Rattle.pif_posix.proofs.Choosing.{still_blocked}
use Rattle.pif_posix.proofs.state.State.is_still_blocked.Goals as goal

pub returns : goal.returns
returns c =
    c.is_among.ensures
    ∙ still_blocked c.args.self.now c.args.thread c.args.variable c.args.other c.waits.result c.found.result.now
    (sym c.is_blocked_on.ensures ∙ c.if-not-is_blocked_on.false) c.found.ensures c.waits.ensures
