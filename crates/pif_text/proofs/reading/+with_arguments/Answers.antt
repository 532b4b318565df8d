use Rattle.std.proofs.Common.{◌≡◌, List, [], refl, arith}
use Rattle.std.proofs.lemmas.List.{drop_all}
use Rattle.pif_text_model.proofs.Splits.{no_more_arguments}
use Rattle.pif_text.proofs.reading.+with_arguments.Goals as goal

pub returns-in-Some : goal.returns-in-Some
returns-in-Some t c =
    let empty : c.args.parameters.now ≡ [] = drop_all 0 c.args.parameters.now (omega (arith, c.in-empty.len_below)) in
    rw (empty, c.in-Some.is, no_more_arguments) refl
