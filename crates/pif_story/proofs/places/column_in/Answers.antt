use Rattle.std.proofs.Common.{arith, sym, ◌∙◌}
use Rattle.std.proofs.lemmas.List.{take_rest}
use Rattle.pif_story.proofs.NoteLemmas.{column_behind, column_end, column_here}
use Rattle.pif_story.proofs.places.column_in.Goals as goal

pub loop-place-preserved : goal.loop-place-preserved
loop-place-preserved c =
    let line = c.args.line.now in
    let i = c.loop-place.place in
    let here = rw (take_rest line i) at c.is_here.ensures in
    record {
      same = c.loop-place.invariant.same
          ∙ rw c.is_blank-begins.ensures (column_behind c.args.word.now line i c.loop-place.begins c.loop-place-test.true
          (sym here ∙ c.if-is_here.false));
      within = omega (arith, c.loop-place-test.true);
    }

pub returns-then-is_here : goal.returns-then-is_here
returns-then-is_here c =
    let line = c.args.line.now in
    let i = c.loop-place.place in
    let here = rw (take_rest line i) at c.is_here.ensures in
    sym (c.loop-place.invariant.same ∙ column_here c.args.word.now line i c.loop-place.begins c.loop-place-test.true
    (sym here ∙ c.if-is_here.true))

pub returns : goal.returns
returns c =
    sym (c.loop-place.invariant.same
    ∙ column_end c.args.word.now c.args.line.now c.loop-place.place c.loop-place.begins c.loop-place.invariant.within
    c.loop-place-test.false)
