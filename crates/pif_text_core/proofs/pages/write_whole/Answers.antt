use Rattle.std.proofs.Common.{arith}
use Rattle.std.proofs.lemmas.List.{take_rest, length-drop}
use Rattle.pif_text_model.proofs.Extending.{Stays-appended, Stays-kept}
use Rattle.pif_text_core.proofs.TellingLemmas.{Appends-take}
use Rattle.pif_text_core.proofs.pages.write_whole.Goals as goal

pub loop-written-preserved : goal.loop-written-preserved
loop-written-preserved g c =
    let s = c.args.bytes.now in
    let i = c.loop-written.written in
    let bound = rw (take_rest s i) at c.in-Ok.ensures.bound in
    let bytes = rw (take_rest s i) at c.in-Ok.ensures.bytes in
    (omega (arith, length-drop i s, bound), Appends-take s i c.in-Ok.count _ _ _ c.loop-written.invariant.1 bytes)

pub returns-in-Ok-eq0-clause-stays : goal.returns-in-Ok-eq0-clause-stays
returns-in-Ok-eq0-clause-stays g c =
    λ front p. Stays-appended _ _ _ c.in-Ok-eq0.ensures.bytes front (Stays-appended _ _ _ c.loop-written.invariant.1 front p)

pub returns-in-Err-clause-stays : goal.returns-in-Err-clause-stays
returns-in-Err-clause-stays g c =
    λ front p. Stays-kept _ _ c.in-Err.ensures.bytes front (Stays-appended _ _ _ c.loop-written.invariant.1 front p)

pub returns-clause-stays : goal.returns-clause-stays
returns-clause-stays g c = Stays-appended _ _ _ c.loop-written.invariant.1
