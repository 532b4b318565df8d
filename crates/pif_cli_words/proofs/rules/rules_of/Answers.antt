use Rattle.std.proofs.Common.{◌∙◌, List, Some, None, ap, map, sym}
use Rattle.clap.specs.Words.{Text, found_of}
use Rattle.pif_rules_model.specs.declared.rules.Rules.{Rules}
use Rattle.pif_rules_model.specs.Sets.{no_rules}
use Rattle.pif_cli_words.specs.Rules.{allow_all}
use Rattle.pif_cli_words.proofs.RulesLemmas.{allow_none, rules_found}
use Rattle.pif_cli_words.proofs.rules.rules_of.Goals as goal

pub returns-in-Some : goal.returns-in-Some
returns-in-Some c =
    c.allow_all.ensures
    ∙ ap (λ (words : List Text). allow_all no_rules words)
    (rules_found (Some (map (λ word. word.now) c.in-Some.words.now)) (found_of c.args.given.now) c.in-Some.ensures)

pub returns-in-None : goal.returns-in-None
returns-in-None c =
    ap (λ (r : Rules). Some r) c.no_rules.ensures
    ∙ sym (allow_none no_rules)
    ∙ ap (λ (words : List Text). allow_all no_rules words) (rules_found None (found_of c.args.given.now) c.in-None.ensures)
