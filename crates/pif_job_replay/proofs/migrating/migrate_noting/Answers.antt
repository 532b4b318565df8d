use Rattle.std.proofs.Common.{◌≡◌, Err, true, subst, arith}
use Rattle.std.specs.Prelude.{is_ok}
use Rattle.pif_script_model.specs.Migrating.{form_end}
use Rattle.pif_script_model.proofs.MigrateLemmas.{formed-length, Migrates-written, Migrates-stopped}
use Rattle.pif_job_replay.proofs.migrating.migrate_noting.Goals as goal

pub index_mut-requires : goal.index_mut-requires
index_mut-requires g c =
    let ok = rw c.in-Ok-None.field-0-is at c.in-Ok-None.ensures in
    omega (arith, formed-length c.as_slice.result.now ok, c.as_slice.ensures.len)

pub returns-in-Ok-None : goal.returns-in-Ok-None
returns-in-Ok-None g c =
    let ok = rw c.in-Ok-None.field-0-is at c.in-Ok-None.ensures in
    Migrates-written _ _ _ _ c.in_ok-bytes.bytes.items c.as_slice-in-Ok-None.result.now c.write_whole.result
    c.in_ok-bytes.ensures.read (subst (λ l. is_ok (form_end l) ≡ true) c.as_slice.ensures.value ok)
    c.as_slice-in-Ok-None.ensures.value c.write_whole.ensures

pub returns-in-Ok-Some : goal.returns-in-Ok-Some
returns-in-Ok-Some g c =
    let faulty = rw c.in-Ok-Some.field-0-is at c.in-Ok-Some.ensures in
    Migrates-stopped _ _ _ _ c.in_ok-bytes.bytes.items c.in-Ok-Some.end c.stop.result c.in_ok-bytes.ensures.read
    (subst (λ l. form_end l ≡ Err c.in-Ok-Some.end) c.as_slice.ensures.value faulty) (rw c.new.ensures at c.stop.ensures)
