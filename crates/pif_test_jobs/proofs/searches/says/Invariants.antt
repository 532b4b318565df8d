use Rattle.std.proofs.Common.{All, ◌≡◌, false}
use Rattle.pif_test_jobs.specs.Counting.{is_hidden}
use Rattle.pif_test_jobs.proofs.searches.says.Given as goal

abbrev pub invariant-loop-count : goal.invariant-loop-count
invariant-loop-count l = All (λ x. is_hidden x ≡ false) l.lines.items
