use Rattle.std.proofs.Common.{◌≡◌, take}
use Rattle.pif_rules_model.specs.Rules.{given_by_others}
use Rattle.pif_posix.proofs.lost.given_by_others.Given as goal

abbrev pub invariant-loop-i : goal.invariant-loop-i
invariant-loop-i l = l.all.items ≡ given_by_others l.thread (take l.i l.given)
