use Rattle.std.proofs.Common.{arith}
use Rattle.std.proofs.lemmas.List.{take_all, drop_all}
use Rattle.std.proofs.lemmas.List.Edits.{map_over_more}
use Rattle.std.proofs.lemmas.Grind.{common_steps}
use Rattle.pif_components.specs.Groups.{relabelled}
use Rattle.pif_components.proofs.groups.relabel.Goals as goal

pub returns : goal.returns
returns c = grind (arith, common_steps, take_all, drop_all)

pub loop-group-preserved : goal.loop-group-preserved
loop-group-preserved c = grind (arith, common_steps, map_over_more (relabelled c.args.low c.args.high c.args.last))
