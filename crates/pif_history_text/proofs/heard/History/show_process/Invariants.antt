use Rattle.std.proofs.Common.{length, option_copied}
use Rattle.pif_text_model.specs.Words.{words, words_behind}
use Rattle.pif_history_text.specs.Reading.{heard_of}
use Rattle.pif_history_text.proofs.ProcessLemmas.{AreShown}
use Rattle.pif_history_text.proofs.heard.History.show_process.Given as goal

abbrev pub invariant-names : goal.invariant-names
invariant-names l =
    AreShown (heard_of l.initial.self) (heard_of l.self) (words l.names) (words_behind (option_copied l.rest))

abbrev pub decreases-names : goal.decreases-names
decreases-names l = length (words_behind (option_copied l.rest))
