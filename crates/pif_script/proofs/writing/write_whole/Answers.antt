use Rattle.std.proofs.Common.{arith, add-zero}
use Rattle.std.proofs.lemmas.List.{take_rest, length-drop}
use Rattle.std.proofs.KnownBytes.{Appends-kept}
use Rattle.pif_script_model.proofs.RunLemmas.{Appends-take, WritesPart-front}
use Rattle.pif_script.proofs.writing.write_whole.Goals as goal

pub loop-written-preserved : goal.loop-written-preserved
loop-written-preserved g c =
    let s = c.args.bytes.now in
    let i = c.loop-written.written in
    let bound = rw (take_rest s i) at c.in-Ok.ensures.bound in
    let bytes = rw (take_rest s i) at c.in-Ok.ensures.bytes in
    (omega (arith, length-drop i s, bound), Appends-take s i c.in-Ok.count _ _ _ c.loop-written.invariant.1 bytes)

pub returns-in-Ok-eq0 : goal.returns-in-Ok-eq0
returns-in-Ok-eq0 g c =
    let s = c.args.bytes.now in
    let i = c.loop-written.written in
    let bytes = rw (take_rest s i) at c.in-Ok-eq0.ensures.bytes in
    let all = Appends-take s i c.in-Ok-eq0.field-0 _ _ _ c.loop-written.invariant.1 bytes in
    WritesPart-front s i _ _ c.loop-written-test.true (rw (c.in-Ok-eq0.field-0-test, add-zero) at all)

pub returns-in-Err : goal.returns-in-Err
returns-in-Err g c =
    WritesPart-front c.args.bytes.now c.loop-written.written _ _ c.loop-written-test.true
    (Appends-kept _ _ _ _ c.loop-written.invariant.1 c.in-Err.ensures.bytes)
