use Rattle.std.proofs.Common.{List, refl, reverse, subst, sym, take}
use Rattle.std.proofs.lemmas.Option.{slice_get_read}
use Rattle.pif_job_judge.specs.declared.before.Come.{Come}
use Rattle.pif_job_judge.specs.Before.{HaveCome}
use Rattle.pif_job_judge.proofs.BeforeLemmas.{heard_more, refused_at}
use Rattle.pif_job_judge.proofs.before.first_refused.Goals as goal

pub returns-in-Some : goal.returns-in-Some
returns-in-Some c =
    let n = c.loop-place.place in
    let lines = c.args.lines.now in
    let here = slice_get_read lines _ _ _ refl c.loop-place-test.true c.index-lines-place.is in
    let come = subst (λ (ts : List Come). HaveCome (reverse (take n lines)) ts) (sym c.as_slice.ensures.value) c.loop-place.invariant.come in
    refused_at c.args.limits lines n c.loop-place.threads.items c.loop-place.counts c.index-lines-place.result c.in_ok-refused.refused c.in-Some.why
    c.loop-place-test.true here c.loop-place.invariant c.in-Some.is (c.in_ok-refused.ensures come c.loop-place.invariant.counted)

pub loop-place-preserved : goal.loop-place-preserved
loop-place-preserved c =
    let n = c.loop-place.place in
    let lines = c.args.lines.now in
    let here = slice_get_read lines _ _ _ refl c.loop-place-test.true c.index-lines-place.is in
    let come = subst (λ (ts : List Come). HaveCome (reverse (take n lines)) ts) (sym c.as_slice.ensures.value) c.loop-place.invariant.come in
    heard_more c.args.limits lines n c.loop-place.threads.items c.hear.new.threads.items c.loop-place.counts c.in_ok-counts.counts
    c.index-lines-place.result c.in_ok-refused.refused c.loop-place-test.true here c.loop-place.invariant c.in_default.not-Some
    (c.in_ok-refused.ensures come c.loop-place.invariant.counted) c.in_ok-hear.ensures c.in_ok-counts.ensures
