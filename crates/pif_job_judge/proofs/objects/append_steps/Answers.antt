use Rattle.std.proofs.Common.{subst, sym}
use Rattle.pif_types.specs.Bounds.{Bounds}
use Rattle.pif_history_told.specs.Ways.{IsRun}
use Rattle.pif_job_judge.proofs.objects.append_steps.Goals as goal

pub run_text-requires : goal.run_text-requires
run_text-requires c = record {
  run = subst (λ (k : Bounds). IsRun c.args.history.now.allowed k c.args.labels.now) (sym c.limits.ensures) c.requires;
}
