use Rattle.pif_history.proofs.judge.plain_witness.Goals as goal

pub returns : goal.returns
returns g c = rw c.no_rules.ensures at c.played_or_guided.ensures
