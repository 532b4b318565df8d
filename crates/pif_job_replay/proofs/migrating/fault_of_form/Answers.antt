use Rattle.std.proofs.Common.{◌+◌, refl, get_or, drop}
use Rattle.std.proofs.lemmas.List.{drop_more, drop_all}
use Rattle.pif_script.specs.Scanners.{scan_of}
use Rattle.pif_script_model.proofs.MigrateLemmas.{EndsSo-start, EndsSo-more, EndsSo-stopped, EndsSo-closed, EndsSo-unclosed}
use Rattle.pif_job_replay.proofs.migrating.fault_of_form.Goals as goal

pub loop-byte-init : goal.loop-byte-init
loop-byte-init c = EndsSo-start c.args.bytes.now _ (scan_of c.new-scanner.result) c.new-scanner.ensures refl

pub loop-byte-preserved : goal.loop-byte-preserved
loop-byte-preserved c =
    let i = c.loop-byte.byte-index in
    let s = c.args.bytes.now in
    let e = rw (drop_more s i 0 c.loop-byte-test.true) at c.loop-byte.invariant in
    EndsSo-more s (drop (i + 1) s) (scan_of c.loop-byte.scanner) (scan_of c.take.new.self) (get_or s i 0) _ _
    c.in-Ok.field-0 e c.in-Ok.ensures.answer

pub returns-in-Err-Ended : goal.returns-in-Err-Ended
returns-in-Err-Ended c =
    let i = c.loop-byte.byte-index in
    let s = c.args.bytes.now in
    let e = rw (drop_more s i 0 c.loop-byte-test.true) at c.loop-byte.invariant in
    let answer = rw c.in-Err-Ended.field-0-is at c.in-Err-Ended.ensures.answer in
    rw c.in-Err-Ended.field-0-is (EndsSo-stopped s (drop (i + 1) s) (scan_of c.loop-byte.scanner)
    (scan_of c.take.new.self) (get_or s i 0) _ _ c.in-Err-Ended.end e answer)

pub returns-in-Ok-close : goal.returns-in-Ok-close
returns-in-Ok-close c =
    let s = c.args.bytes.now in
    EndsSo-closed s (drop c.loop-byte.byte-index s) (scan_of c.loop-byte.scanner) _ _ c.in-Ok-close.field-0
    c.loop-byte.invariant (drop_all c.loop-byte.byte-index s c.loop-byte-test.false) c.in-Ok-close.ensures

pub returns-in-Err : goal.returns-in-Err
returns-in-Err c =
    let s = c.args.bytes.now in
    EndsSo-unclosed s (drop c.loop-byte.byte-index s) (scan_of c.loop-byte.scanner) _ _ c.in-Err.end
    c.loop-byte.invariant (drop_all c.loop-byte.byte-index s c.loop-byte-test.false) c.in-Err.ensures
