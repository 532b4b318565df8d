use Rattle.std.proofs.Common.{◌∙◌}
use Rattle.pif_explore_text.specs.Views.{sheet_view}
use Rattle.pif_job_explore.proofs.ExploringLemmas.{planned}
use Rattle.pif_job_explore.proofs.starts.plan_of.Goals as goal

pub returns : goal.returns
returns c =
    planned (sheet_view c.args.sheet.now) _ _ _ _ _ _ c.requires c.in_ok-ticks.ensures (c.limits_of.ensures ∙ c.limits.ensures)
    c.is_some.ensures (c.in_ok-prio_none.ensures.items ∙ c.as_slice.ensures.value) c.in_ok-enders.ensures
