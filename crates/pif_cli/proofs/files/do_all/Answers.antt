use Rattle.std.proofs.Common.{arith, ◌∙◌}
use Rattle.pif_cli.proofs.ApartLemmas.{apart-ahead}
use Rattle.pif_cli.proofs.FilesLemmas.{DidAll-done, DidAll-next}
use Rattle.pif_cli.proofs.files.do_all.Goals as goal

pub do_one-ended-requires-after_bounds : goal.do_one-ended-requires-after_bounds
do_one-ended-requires-after_bounds g c κs within =
    apart-ahead c.args.asked.now.job c.args.names.now c.reach.new.self.begin c.loop-place.place _
    c.index-names-place.result c.at.result c.reach.ensures.begin c.index-names-place.is c.reach.ensures.apart c.at.ensures

pub loop-place-preserved : goal.loop-place-preserved
loop-place-preserved g c = (
  c.do_one-ended.ensures.same_output ∙ c.loop-place.invariant.0,
  c.do_one-ended.ensures.same_errors ∙ c.loop-place.invariant.1,
  omega (arith, c.reach.ensures.begin),
  c.reach.ensures.apart,
  rw c.first_status-status.ensures
      (DidAll-next c.args.asked.now.rewrites c.args.asked.now.job c.args.names.now c.loop-place.place
      c.index-names-place.result _ _ _ _ _ _ _ _ _ _ _ c.loop-place-test.true c.index-names-place.is
      c.loop-place.invariant.4 c.do_one-ended.ensures.did),
)

pub returns-clause-did : goal.returns-clause-did
returns-clause-did g c =
    DidAll-done c.args.asked.now.rewrites c.args.asked.now.job c.args.names.now c.loop-place.place _ _ _ _ _ _ _
    c.loop-place-test.false c.loop-place.invariant.4
