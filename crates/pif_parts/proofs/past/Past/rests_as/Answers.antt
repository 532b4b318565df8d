use Rattle.std.proofs.Common.{◌∙◌, sym}
use Rattle.pif_parts.proofs.UseLemmas.{go_on_below, go_on_exactly}
use Rattle.pif_parts.proofs.past.Past.rests_as.Goals as goal

pub returns-then-is_same : goal.returns-then-is_same
returns-then-is_same c = λ lines others is other e.
    go_on_exactly c.args.limits c.args.later lines others c.args.self.now.rest c.args.other.now.rest is other
    (c.is_same.ensures c.if-is_same.true)

pub returns : goal.returns
returns c = λ lines others is other e.
    go_on_below c.args.limits c.args.later lines others c.args.self.now.rest c.args.other.now.rest is other
    (c.is_alike.ensures c.if-not-is_alike.false) (sym c.stays_below.ensures ∙ c.if-not-stays_below.false)
    (sym c.stays_below-2.ensures ∙ e)
