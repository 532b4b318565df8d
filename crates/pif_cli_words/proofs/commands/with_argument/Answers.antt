use Rattle.std.proofs.Common.{subst, sym}
use Rattle.clap.specs.Words.{Rule, with_rule}
use Rattle.pif_cli_words.specs.Commands.{IsApp, IsCommand}
use Rattle.pif_cli_words.proofs.CommandLemmas.{added}
use Rattle.pif_cli_words.proofs.commands.with_argument.Goals as goal

pub returns-in-Ok : goal.returns-in-Ok
returns-in-Ok c = λ app is.
    subst (λ (r : Rule). IsApp (with_rule app r) c.boxed.result) c.argument-arg.ensures.rule
    (c.boxed.ensures _ (added c.arg.result c.into_inner.result c.argument-arg.result app c.arg.ensures c.argument-arg.ensures.local
    (subst (IsCommand app) (sym c.into_inner.ensures) (subst (IsApp app) c.in-Ok.is is))))
