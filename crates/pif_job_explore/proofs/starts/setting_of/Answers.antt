use Rattle.std.proofs.Common.{◌∙◌, List, ap, length}
use Rattle.pif_explore_model.specs.declared.programs.Point.{Point}
use Rattle.pif_explore_text.specs.Views.{sheet_view}
use Rattle.pif_job_explore.proofs.ExploringLemmas.{started}
use Rattle.pif_job_explore.proofs.starts.setting_of.Goals as goal

pub returns-clause-start : goal.returns-clause-start
returns-clause-start c =
    started c.args.answers (sheet_view c.args.sheet.now) c.limits_of-limits.result c.as_slice-additions.result.now c.in_ok-world.world
    c.in_ok-start.start (c.limits_of-limits.ensures ∙ c.limits.ensures) c.as_slice-additions.ensures.value
    c.in_ok-world.ensures c.in_ok-start.ensures

pub start_of-requires-clause-points : goal.start_of-requires-clause-points
start_of-requires-clause-points c =
    ap (λ (ps : List Point). length ps) (c.as_slice-points.ensures.value ∙ c.in-Ok.ensures.points)
