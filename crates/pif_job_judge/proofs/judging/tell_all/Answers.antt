use Rattle.std.proofs.Common.{subst}
use Rattle.pif_history_text.specs.Reading.{heard_of}
use Rattle.pif_job_judge.specs.declared.mistakes.Outcome.{Outcome}
use Rattle.pif_job_judge.specs.Mistakes.{IsFound}
use Rattle.pif_job_judge.proofs.JudgingLemmas.{if_ok, told_log}
use Rattle.pif_job_judge.proofs.judging.tell_all.Goals as goal

pub returns-in-Log : goal.returns-in-Log
returns-in-Log g c =
    if_ok c.tell_log.result _ _
    (told_log c.args.asked.now.plain c.args.asked.now.form (heard_of c.args.history) c.args.out.now.items c.tell_log.new.out.items)
    c.tell_log.ensures

pub tell_log-requires-clause-mistake : goal.tell_log-requires-clause-mistake
tell_log-requires-clause-mistake g c =
    subst (λ (x : Outcome). IsFound (heard_of c.args.history) x) c.in-Log.is c.requires.found

pub tell_verdict-requires-clause-verdict : goal.tell_verdict-requires-clause-verdict
tell_verdict-requires-clause-verdict g c =
    (subst (λ (x : Outcome). IsFound (heard_of c.args.history) x) c.in-Verdict.is c.requires.found).0

pub tell_verdict-requires-clause-front : goal.tell_verdict-requires-clause-front
tell_verdict-requires-clause-front g c =
    (subst (λ (x : Outcome). IsFound (heard_of c.args.history) x) c.in-Verdict.is c.requires.found).1
