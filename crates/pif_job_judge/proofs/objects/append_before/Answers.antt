use Rattle.pif_history_text.specs.Reading.{heard_of}
use Rattle.pif_job_judge.proofs.FrontLemmas.{front_is}
use Rattle.pif_job_judge.proofs.objects.append_before.Goals as goal

pub append_known-requires-clause-front : goal.append_known-requires-clause-front
append_known-requires-clause-front g c = front_is (heard_of c.args.history.now) c.args.front.now c.in-Some.known c.in-Some.is c.requires.front
