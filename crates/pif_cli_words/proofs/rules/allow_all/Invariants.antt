use Rattle.std.proofs.Common.{◌≡◌, drop, map}
use Rattle.pif_rules_model.specs.Sets.{no_rules}
use Rattle.pif_cli_words.specs.Rules.{allow_all}
use Rattle.pif_cli_words.proofs.rules.allow_all.Given as goal

abbrev pub invariant-loop-word : goal.invariant-loop-word
invariant-loop-word l =
    allow_all no_rules (map (λ word. word.now) l.words) ≡ allow_all l.rules (map (λ word. word.now) (drop l.word-index l.words))
