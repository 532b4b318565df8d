use Rattle.std.proofs.Common.{◌∙◌, ap, ℕ, ◌==◌, not, rules, tests}
use Rattle.std.specs.List.{filter}
use Rattle.std.proofs.lemmas.Fn.{filter_same}
use Rattle.pif_history_machine.proofs.dying.without.Goals as goal

pub returns : goal.returns
returns c =
    filter_same _ (λ (x : ℕ). not (x == c.args.thread)) _
    (λ x b f' k. (search (rules, tests), search rules)) _ _ c.retain.ensures.filtered ∙ ap (filter (λ (x : ℕ). not (x == c.args.thread))) c.in_ok-rest.ensures
