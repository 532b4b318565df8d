use Rattle.std.proofs.Common.{Ok, Err}
use Rattle.std.proofs.KnownBytes.{Appends-trans}
use Rattle.std.proofs.lemmas.Result.{on_ok_weaker}
use Rattle.pif_script_model.proofs.ShowingLemmas.{Stays-written}
use Rattle.pif_job_run.proofs.showing.write_line.Goals as goal

pub returns-in-Ok-clause-told : goal.returns-in-Ok-clause-told
returns-in-Ok-clause-told g c =
    let front = rw c.as_slice.ensures.value at c.in-Ok.ensures in
    on_ok_weaker c.write_core.result (λ told. Appends-trans _ _ _ _ _ front told) c.write_core.ensures.told

pub returns-in-Ok-clause-stays : goal.returns-in-Ok-clause-stays
returns-in-Ok-clause-stays g c =
    λ front p. c.write_core.ensures.stays front (Stays-written _ _ _ (Ok c.in-Ok.field-0) c.in-Ok.ensures front p)

pub returns-in-Err-clause-stays : goal.returns-in-Err-clause-stays
returns-in-Err-clause-stays g c = Stays-written _ _ _ (Err c.in-Err.field-0) c.in-Err.ensures
