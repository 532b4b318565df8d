-- What splitting a history that was read comes to.
use Rattle.std.proofs.Common.{ℕ, List, Option, Result, Ok, Err, IfOk}
use Rattle.pif_history_text.specs.Histories.{Heard}
use Rattle.pif_history_text.specs.Reading.{ReadsHistory}
use Rattle.pif_job_parts.specs.declared.faults.PartsFault.{PartsFault}
use Rattle.pif_job_parts.specs.declared.splitting.Parts.{Parts}
use Rattle.pif_job_parts.specs.Splitting.{IsSplit, SplitsTo}

pub splits : (before after : Option (List ℕ)) (h : Heard) (r : Result Parts PartsFault) → ReadsHistory before after (Ok h)
    → IfOk r (IsSplit h) → SplitsTo before after r
splits before after h (Ok parts) read is = (h, read, is)
splits before after h (Err e) read is = (Ok h, read)
