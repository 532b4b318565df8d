use Rattle.std.proofs.Common.{sym}
use Rattle.std.proofs.lemmas.Result.{IfOk-weaker}
use Rattle.pif_history_model.proofs.LineLemmas.{no_end}
use Rattle.pif_history.proofs.Playing.{comes_from}
use Rattle.pif_history.proofs.stepping.come.Goals as goal

pub come_on-requires : goal.come_on-requires
come_on-requires c = no_end c.args.position.now.wide.world c.args.line.now c.args.entry.now (sym c.requires.entry) c.requires.no_end

pub returns : goal.returns
returns c =
    IfOk-weaker c.come_on.result _ _
    (λ b came h r. comes_from r c.args.limits.now c.args.line.now c.args.position.now _ c.args.entry.now c.come_on.new.wide c.position.view_is
    c.requires.comes c.requires.among c.requires.kept c.requires.entry
    (no_end c.args.position.now.wide.world c.args.line.now c.args.entry.now (sym c.requires.entry) c.requires.no_end) (came h r))
    c.come_on.ensures
