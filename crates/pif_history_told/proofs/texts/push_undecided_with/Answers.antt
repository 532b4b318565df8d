use Rattle.std.proofs.Common.{◌∙◌}
use Rattle.std.specs.Prelude.{codes, decimal}
use Rattle.pif_history_told.specs.Texts.{names_of}
use Rattle.pif_history_told.proofs.SetLemmas.{line_told}
use Rattle.pif_history_told.proofs.texts.push_undecided_with.Goals as goal

pub returns : goal.returns
returns c =
    line_told c.push_with.result c.args.out.now.items c.extend_from_slice.new.self.items c.append_decimal.new.out.items
    c.push_with.new.out.items (codes "undecided at ") (decimal c.args.number) (codes " with") c.as_slice.result.now
    (names_of c.args.base.now c.args.rules.now) c.in_ok-extend_from_slice.ensures.items
    (rw c.from.ensures at c.in_ok-append_decimal.ensures) (c.as_slice.ensures.value ∙ c.in_ok-names.ensures) c.push_with.ensures
