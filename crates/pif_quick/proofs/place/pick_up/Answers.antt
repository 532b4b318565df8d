use Rattle.std.proofs.Common.{sym, ap, ◌∙◌, ◌∷◌, Some}
use Rattle.atomic_table.specs.Table.{rest}
use Rattle.pif_quick.proofs.place.pick_up.Goals as goal

pub exchange-requires : goal.exchange-requires
exchange-requires g c =
    let value = c.requires.1 in
    (c.requires.0, (Some value.0, value.1 ∙ ap (λ cs. (c.args.word, Some value.0) ∷ rest cs) (sym value.1)))
