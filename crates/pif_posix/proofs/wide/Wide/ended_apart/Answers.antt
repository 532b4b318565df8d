use Rattle.std.proofs.Common.{◌≡◌, List, [], sym, subst}
use Rattle.std.specs.Prelude.{IfOk}
use Rattle.pif_posix_steps.proofs.DoingCases.{choose_then}
use Rattle.pif_rules_model.specs.Lending.{not_owned}
use Rattle.pif_rules_model.specs.Rules.{Wide}
use Rattle.pif_rules_model.specs.Ruled.{seeing_lending, ended_in_steps}
use Rattle.pif_posix.proofs.wide.Wide.ended_apart.Goals as goal

pub returns : goal.returns
returns c =
    let s = c.args.self.now in
    let ended : List Wide = seeing_lending (not_owned s.world c.args.thread s.prio_none) (ended_in_steps c.args.rules.now c.args.thread) s in
    subst (λ (ns : List Wide). IfOk c.seeing_own.result (λ v. v.items ≡ ns))
    (sym (choose_then c.args.rules.now.ends_apart ended [] c.if-not-rules.false)) c.seeing_own.ensures
