use Rattle.std.proofs.Common.{sym, ap, ◌∙◌}
use Rattle.pif_model.specs.Table.{new_table}
use Rattle.pif_script_model.specs.Running.{command_answer, answer_or_fault}
use Rattle.pif_script_core.proofs.running.open_default.Goals as goal

pub returns-in-Some : goal.returns-in-Some
returns-in-Some c =
    let made = c.in-Ok.ensures.made ∙ ap new_table c.default_limits.ensures in
    ap (λ s. answer_or_fault (command_answer c.args.command s)) (sym made) ∙ ap answer_or_fault c.in-Some.ensures

pub returns-in-None : goal.returns-in-None
returns-in-None c =
    let made = c.in-Ok.ensures.made ∙ ap new_table c.default_limits.ensures in
    ap (λ s. answer_or_fault (command_answer c.args.command s)) (sym made) ∙ ap answer_or_fault c.in-None.ensures.0
