-- The handle holds a core already, or a limit is outside its range.
use Rattle.std.proofs.Common.{sym, ◌∙◌}
use Rattle.pif_c.specs.Handles.{held}
use Rattle.pif_c.proofs.Making.{there_on, not_within_on}
use Rattle.pif_c.proofs.cores.pif_core_new.Goals as goal

pub returns-then-is_full : goal.returns-then-is_full
returns-then-is_full c = there_on _ (held c.args.handle.now) (sym c.is_full.ensures ∙ c.if-is_full.true)

pub returns-in-None : goal.returns-in-None
returns-in-None c =
    not_within_on _ (held c.args.handle.now) (sym c.is_full.ensures ∙ c.if-is_full.false) c.in-None.ensures.valid.1
