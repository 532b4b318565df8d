use Rattle.std.proofs.Common.{◌≡◌, [], length}
use Rattle.pif_explore_text.specs.Sheets.{named_from}
use Rattle.pif_explore_text.specs.Words.{filled}
use Rattle.pif_explore_text.proofs.sheets.named_threads.Given as goal

abbrev pub invariant-loop-word : goal.invariant-loop-word
invariant-loop-word l = named_from l.names [] (filled l.text) ≡ named_from l.names l.threads.items (filled l.rest)

abbrev pub decreases-loop-word : goal.decreases-loop-word
decreases-loop-word l = length (filled l.rest)
