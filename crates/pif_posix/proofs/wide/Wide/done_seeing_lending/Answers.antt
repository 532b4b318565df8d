use Rattle.pif_rules_model.specs.Rules.{hidden_from}
use Rattle.pif_posix.proofs.wide.Wide.done_seeing_lending.Goals as goal

pub returns : goal.returns
returns c = c.seeing_lending.ensures (hidden_from c.args.rule c.args.thread c.args.self.now) c.hidden_from-hidden.ensures
