-- Each hop goes on to whom the thread waits for, and the last one leads to nobody.
use Rattle.std.proofs.Common.{sym, ap, subst, arith, rules}
use Rattle.std.specs.Prelude.{unwrap_or}
use Rattle.pif_kernel_model.proofs.Ways.{IsPathing, pathing-start, pathing-few, pathing-hop, pathing-end}
use Rattle.pif_plain.proofs.paths.path.Goals.{In-Some}
use Rattle.pif_plain.proofs.paths.path.Goals as goal

-- the walk, if it stands at a thread
here : (c : In-Some) → IsPathing c.args.owners.now c.args.start c.loop-next.passed.items c.in-Some.at
here c = subst (IsPathing c.args.owners.now c.args.start c.loop-next.passed.items)
    (ap (λ o. unwrap_or o 0) c.in-Some.is) c.loop-next.invariant

pub loop-next-init : goal.loop-next-init
loop-next-init c =
    subst (λ xs. IsPathing c.args.owners.now c.args.start xs c.args.start)
    (sym c.new-passed.ensures) (pathing-start c.args.owners.now c.args.start)

pub push-requires : goal.push-requires
push-requires c = (
  omega arith,
  pathing-few c.args.owners.now c.threads-threads.ensures.sound c.args.start
      c.loop-next.passed.items c.in-Some.at (here (goal.at.push-requires c).In-Some) (search rules),
)

pub loop-next-smaller : goal.loop-next-smaller
loop-next-smaller c =
    omega (
      arith,
      c.push.ensures.len,
      pathing-few c.args.owners.now c.threads-threads.ensures.sound c.args.start
          c.loop-next.passed.items c.in-Some.at (here (goal.at.loop-next-smaller c).In-Some)
          (search rules),
    )

pub loop-next-preserved : goal.loop-next-preserved
loop-next-preserved c =
    subst (λ xs. IsPathing c.args.owners.now c.args.start xs (unwrap_or c.awaited-next.result 0))
    (sym c.push.ensures.items)
    (pathing-hop c.args.owners.now c.threads-threads.ensures.sound c.args.start
    c.loop-next.passed.items c.in-Some.at (here (goal.at.loop-next-preserved c).In-Some)
    (search rules) (unwrap_or c.awaited-next.result 0) c.awaited-next.ensures
    (omega (arith, c.awaited-next.ensures, c.requires c.in-Some.at)))

pub returns : goal.returns
returns c =
    pathing-end c.args.owners.now c.args.start c.loop-next.passed.items
    (subst (IsPathing c.args.owners.now c.args.start c.loop-next.passed.items)
    (ap (λ o. unwrap_or o 0) c.in_default.is) c.loop-next.invariant)
