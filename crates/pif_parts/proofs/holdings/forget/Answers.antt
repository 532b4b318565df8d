use Rattle.std.proofs.Common.{not, rules, tests}
use Rattle.std.proofs.lemmas.Fn.{filter_same}
use Rattle.pif_parts.specs.declared.holdings.Holding.{Holding}
use Rattle.pif_parts.specs.Holdings.{is_of}
use Rattle.pif_parts.proofs.holdings.forget.Goals as goal

pub returns : goal.returns
returns c =
    filter_same _ (λ (x : Holding). not (is_of c.args.thread c.args.mutex x)) _ (λ x b f' k. (search (rules, tests), search rules)) _ _ c.retain.ensures.filtered
