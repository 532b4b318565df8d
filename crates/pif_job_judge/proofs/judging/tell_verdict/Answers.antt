use Rattle.std.proofs.Common.{◌∙◌, sym}
use Rattle.pif_history_text.specs.Reading.{heard_of}
use Rattle.pif_job_judge.proofs.JudgingLemmas.{asked_wrong, if_ok, told_alone, told_asked}
use Rattle.pif_job_judge.proofs.judging.tell_verdict.Goals as goal

pub returns-then-asks : goal.returns-then-asks
returns-then-asks g c =
    if_ok c.tell_asked.result _ _
    (told_asked c.args.asked.now.plain c.args.asked.now.form (heard_of c.args.history) c.args.verdict c.args.out.now.items
    c.tell_asked.new.out.items c.requires.verdict (sym c.asks.ensures ∙ c.if-asks.true))
    c.tell_asked.ensures

pub returns-else-asks : goal.returns-else-asks
returns-else-asks g c =
    if_ok c.tell.result _ _
    (told_alone c.args.asked.now.plain c.args.asked.now.form (heard_of c.args.history) c.args.verdict c.args.out.now.items
    c.tell.new.out.items c.requires.verdict (sym c.asks.ensures ∙ c.if-asks.false))
    c.tell.ensures

pub tell_asked-requires-clause-wrong : goal.tell_asked-requires-clause-wrong
tell_asked-requires-clause-wrong g c = asked_wrong c.args.asked.now.plain _ (sym c.asks.ensures ∙ c.if-asks.true)
