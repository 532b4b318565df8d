use Rattle.std.proofs.Common.{◌≡◌, ◌∷◌, map, take}
use Rattle.pif_types.specs.Numbers.{number_of}
use Rattle.pif_history_model.specs.declared.lines.Line.TheVariants.{Answer}
use Rattle.pif_history_model.specs.declared.labels.Label.TheVariants.{Shown}
use Rattle.pif_history_machine.proofs.Errors.{errors}
use Rattle.pif_history_machine.proofs.labels.answers_of.Given as goal

abbrev pub invariant-loop-error : goal.invariant-loop-error
invariant-loop-error l =
    l.labels.items ≡ Shown (Answer l.thread 0) ∷ map (λ e. Shown (Answer l.thread (number_of e))) (take l.error-index errors)
