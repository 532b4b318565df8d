use Rattle.std.proofs.Common.{◌∙◌, sym, arith}
use Rattle.std.proofs.lemmas.List.{take_all}
use Rattle.pif_history_machine.proofs.dying.are_same.Goals as goal

pub returns : goal.returns
returns c =
    λ h. sym (take_all c.loop-i.i c.args.threads.now (omega arith)) ∙ c.loop-i.invariant ∙ take_all c.loop-i.i c.args.others.now (omega arith)
