use Rattle.pif_job_judge.proofs.clues.clues_at.Goals as goal

pub returns : goal.returns
returns g c = record { in_the_way = c.in_ok-in_the_way.ensures; legal_if = c.in_ok-legal_if.ensures }
