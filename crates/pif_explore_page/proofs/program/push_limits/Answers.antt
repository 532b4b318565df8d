use Rattle.std.proofs.Common.{◌∙◌, ap}
use Rattle.std.proofs.lemmas.Result.{on_ok_weaker}
use Rattle.pif_types.specs.Bounds.{Bounds}
use Rattle.pif_explore_page.proofs.Pieces.{limits_grown}
use Rattle.pif_explore_page.proofs.program.push_limits.Goals as goal

pub returns : goal.returns
returns c =
    on_ok_weaker c.push_numbers.result
    (limits_grown c.args.limits.now c.from.result c.from-2.result c.from-3.result c.from-4.result c.args.out.now.items
    c.push_numbers.new.out.items (c.from.ensures ∙ ap (λ (l : Bounds). l.threads) c.limits.view_is)
    (c.from-2.ensures ∙ ap (λ (l : Bounds). l.mutexes) c.limits.view_is) (c.from-3.ensures ∙ ap (λ (l : Bounds). l.conds) c.limits.view_is)
    (c.from-4.ensures ∙ ap (λ (l : Bounds). l.signals) c.limits.view_is))
    c.push_numbers.ensures
