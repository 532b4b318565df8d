use Rattle.std.proofs.Common.{sym, subst}
use Rattle.pif_script_model.specs.Running.{Makes}
use Rattle.pif_script_model.proofs.RunningLemmas.{answered-later, first_answer-later}
use Rattle.pif_script_core.proofs.running.open_core.Goals as goal

pub open_default-requires : goal.open_default-requires
open_default-requires c = answered-later c.args.command _ c.in_default.not-Limits

pub returns-in_default : goal.returns-in_default
returns-in_default c =
    subst (λ a. Makes a c.open_default.result) (sym (first_answer-later c.args.command c.in_default.not-Limits))
    c.open_default.ensures
