use Rattle.std.proofs.Common.{◌≡◌, length, option_copied}
use Rattle.pif_text_model.specs.Words.{words, words_behind}
use Rattle.pif_rules_model.specs.Sets.{no_rules}
use Rattle.pif_history_text.specs.Allowed.{rules_in}
use Rattle.pif_history_text.proofs.allowed.rules_of.Given as goal

abbrev pub invariant-words : goal.invariant-words
invariant-words l = rules_in no_rules (words l.text) ≡ rules_in l.rules (words_behind (option_copied l.rest))

abbrev pub decreases-words : goal.decreases-words
decreases-words l = length (words_behind (option_copied l.rest))
