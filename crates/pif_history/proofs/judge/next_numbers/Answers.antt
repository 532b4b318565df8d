use Rattle.std.proofs.Common.{◌∙◌, List, sym, ap}
use Rattle.pif_history_model.specs.declared.labels.Label.{Label}
use Rattle.pif_history_model.specs.Numbers.{numbers_in}
use Rattle.pif_history_model.specs.Searched.{start_of}
use Rattle.pif_history_model.proofs.Covered.{enough_by_covering}
use Rattle.pif_history.proofs.Settling.{next_by}
use Rattle.pif_history_model.proofs.ShownLines.{lines_shown}
use Rattle.pif_history.proofs.judge.next_numbers.Goals as goal

pub possible-requires-clause-enough : goal.possible-requires-clause-enough
possible-requires-clause-enough g c = enough_by_covering _ _ _ (c.in_ok-start.ensures ∙ ap start_of (sym c.new-machine.ensures.limits))

pub possible-requires-clause-shown : goal.possible-requires-clause-shown
possible-requires-clause-shown g c = rw (c.as_slice.ensures.value ∙ c.in_ok-lines.ensures) (lines_shown c.args.before.now)

pub returns-in-Some : goal.returns-in-Some
returns-in-Some g c = (
  c.in-Some.labels.items,
  c.in_ok-numbers_of-in-Some.ensures ∙ ap (λ (xs : List Label). numbers_in xs) c.as_slice-in-Some.ensures.value,
  next_by c.args.rules.now _ c.args.limits _ _ c.args.before.now _ c.args.candidates.now c.in-Some.labels.items c.new-machine.ensures.rules
      c.new-machine.ensures.limits c.in_ok-start.ensures
      (c.as_slice.ensures.value ∙ c.in_ok-lines.ensures) (c.in_ok-found.ensures c.in-Some.labels c.in-Some.is),
)
