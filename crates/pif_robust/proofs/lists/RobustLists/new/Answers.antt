use Rattle.std.proofs.Common.{rules, ◌≡◌, ◌+◌, replicate}
use Rattle.pif_robust.specs.Links.{unlinked, empty_head}
use Rattle.pif_robust.proofs.SeenLemmas.{Shows-new}
use Rattle.pif_robust.proofs.lists.RobustLists.new.Goals as goal

pub invariant_of-result : goal.invariant_of-result
invariant_of-result c =
    let links : c.in_ok-links.links.items ≡ replicate (c.args.limits.mutexes + 1) unlinked = search rules in
    let heads : c.in_ok-heads.heads.items ≡ replicate (c.args.limits.threads + 1) empty_head = search rules in
    (Shows-new c.args.limits c.mutexes.ensures.range.mutexes links heads).invariant

pub returns-clause-made : goal.returns-clause-made
returns-clause-made c =
    let links : c.in_ok-links.links.items ≡ replicate (c.args.limits.mutexes + 1) unlinked = search rules in
    let heads : c.in_ok-heads.heads.items ≡ replicate (c.args.limits.threads + 1) empty_head = search rules in
    (Shows-new c.args.limits c.mutexes.ensures.range.mutexes links heads).view

pub returns-clause-sound : goal.returns-clause-sound
returns-clause-sound c =
    let links : c.in_ok-links.links.items ≡ replicate (c.args.limits.mutexes + 1) unlinked = search rules in
    let heads : c.in_ok-heads.heads.items ≡ replicate (c.args.limits.threads + 1) empty_head = search rules in
    (Shows-new c.args.limits c.mutexes.ensures.range.mutexes links heads).sound
