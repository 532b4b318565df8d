use Rattle.std.proofs.Common.{◌∙◌, ap, sym}
use Rattle.std.specs.Option.{is_some}
use Rattle.pif_components.specs.Groups.{name_of}
use Rattle.pif_components.proofs.GroupLemmas.{already_in, none_there}
use Rattle.pif_components.proofs.groups.Groups.enter.Goals as goal

pub returns-then-is_some : goal.returns-then-is_some
returns-then-is_some c = λ e bounded.
    already_in (name_of c.args.object) c.args.self.now (ap is_some (sym c.group.ensures) ∙ sym c.is_some.ensures ∙ c.if-is_some.true) bounded

pub returns : goal.returns
returns c = λ e bounded.
    c.in_ok-found.ensures bounded (c.has_place.ensures c.if-not-has_place.false)
    (sym c.group.ensures ∙ none_there c.group.result (sym c.is_some.ensures ∙ c.if-is_some.false))
