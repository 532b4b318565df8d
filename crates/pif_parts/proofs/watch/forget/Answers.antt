use Rattle.std.proofs.Common.{◌==◌, not, rules, tests}
use Rattle.std.proofs.lemmas.Fn.{filter_same}
use Rattle.pif_parts.proofs.watch.forget.Goals as goal

pub returns : goal.returns
returns c =
    filter_same _ (λ u. not (u == c.args.thread)) _ (λ x b f' k. (search (rules, tests), search rules)) _ _ c.retain.ensures.filtered
