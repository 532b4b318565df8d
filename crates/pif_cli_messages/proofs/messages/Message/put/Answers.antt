use Rattle.std.proofs.Common.{sym, ◌∙◌}
use Rattle.pif_cli_messages.proofs.ShownLemmas.{shown_behind}
use Rattle.pif_cli_messages.proofs.messages.Message.put.Goals as goal

pub invariant_of-self-clause-shown : goal.invariant_of-self-clause-shown
invariant_of-self-clause-shown c =
    shown_behind c.args.self.now.text.bytes _ c.args.character c.ranges.character.0
    (sym c.is_printable.ensures ∙ c.if-is_printable.true) c.args.self.now.shown c.push.ensures.bytes
