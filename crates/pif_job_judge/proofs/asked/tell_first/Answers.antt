use Rattle.std.proofs.Common.{◌∙◌, sym}
use Rattle.pif_history_text.specs.Reading.{heard_of}
use Rattle.pif_job_judge.proofs.AskedLemmas.{first_forbids, first_others}
use Rattle.pif_job_judge.proofs.JudgingLemmas.{if_ok}
use Rattle.pif_job_judge.proofs.asked.tell_first.Goals as goal

pub returns-in-Some : goal.returns-in-Some
returns-in-Some g c =
    if_ok c.tell_briefly.result _ _
    (first_forbids c.args.asked.now.form (heard_of c.args.history.now) c.args.says.now _ c.args.out.now.items c.tell_briefly.new.out.items
    (sym c.forbidden_from.ensures ∙ c.in-Some.is)) c.tell_briefly.ensures

pub returns-in-None : goal.returns-in-None
returns-in-None g c =
    if_ok c.tell_lines.result _ _
    (first_others c.args.asked.now.form (heard_of c.args.history.now) c.args.says.now c.args.out.now.items c.tell_lines.new.out.items
    (sym c.forbidden_from.ensures ∙ c.in-None.is)) c.tell_lines.ensures
