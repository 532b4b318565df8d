use Rattle.std.proofs.Common.{arith}
use Rattle.pif_history_text.specs.Reading.{heard_of}
use Rattle.pif_job_judge.proofs.FrontLemmas.{front_is, up_to_none, up_to_some}
use Rattle.pif_job_judge.proofs.fronts.up_to.Goals as goal

pub returns-in-Some : goal.returns-in-Some
returns-in-Some c =
    up_to_some (heard_of c.args.history.now) c.args.front.now c.in-Some.front c.number_at.result c.in-Some.is c.number_at.ensures

pub returns-in-None : goal.returns-in-None
returns-in-None c = up_to_none (heard_of c.args.history.now) c.args.front.now c.in-None.is

pub number_at-requires : goal.number_at-requires
number_at-requires c =
    let it = front_is (heard_of c.args.history.now) c.args.front.now c.in-Some.front c.in-Some.is c.requires.front in
    record { within = (it.0, omega (arith, it.1, c.requires.paired, c.args.history.now.shown.ok.0, c.args.history.now.numbers.ok.0)) }
