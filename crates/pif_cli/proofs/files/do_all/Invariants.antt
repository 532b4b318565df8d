use Rattle.std.proofs.Common.{◌≡◌, ◌≤◌, drop, take}
use Rattle.pif_cli.specs.Apart.{AreApart}
use Rattle.pif_cli.specs.Words.{DidAll}
use Rattle.pif_cli.proofs.files.do_all.Given as goal

-- the files so far, and what was done with those that come next
abbrev pub invariant-loop-place : goal.invariant-loop-place
invariant-loop-place g l =
    (l.host.output.ghost_name ≡ l.initial.host.output.ghost_name)
    × (l.host.errors.ghost_name ≡ l.initial.host.errors.ghost_name)
    × (l.ahead.begin ≤ l.place)
    × AreApart l.asked.job (drop l.ahead.begin l.names) l.ahead.found.items
    × DidAll l.asked.rewrites l.asked.job (take l.place l.names)
    (g.R.Read.remaining l.initial.input) (g.R.Read.remaining l.input) (g.W.Write.contents l.initial.host.output.now)
    (g.W.Write.contents l.host.output.now) (g.E.Write.contents l.initial.host.errors.now)
    (g.E.Write.contents l.host.errors.now) l.status
