use Rattle.std.proofs.Common.{ℕ, ◌==◌, true, false, if◌then◌else◌, rules, tests}
use Rattle.std.proofs.lemmas.Fn.{filter_same}
use Rattle.pif_posix.proofs.changes.drop_from.Goals as goal

pub returns : goal.returns
returns c =
    filter_same _ (λ (x : ℕ × ℕ). if x.0 == c.args.thread then false else true) _
    (λ x b f' k. (search (rules, tests), search rules)) _ _ c.retain.ensures.filtered
