use Rattle.std.proofs.Common.{Err}
use Rattle.pif_history_text.specs.Reading.{heard_of}
use Rattle.pif_job_parts.proofs.SplittingLemmas.{splits}
use Rattle.pif_job_parts.proofs.splitting.split.Goals as goal

pub returns-in-Ok : goal.returns-in-Ok
returns-in-Ok g c =
    splits (g.R.Read.remaining c.args.reader.now) (g.R.Read.remaining c.read_history.new.reader)
    (heard_of c.in-Ok.read.history) c.split_history.result c.in-Ok.ensures.read c.split_history.ensures

pub returns-in-Err : goal.returns-in-Err
returns-in-Err g c = (Err c.in-Err.fault, c.in-Err.ensures.failed)
