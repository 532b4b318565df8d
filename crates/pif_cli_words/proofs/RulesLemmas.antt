-- The rules that words name.
use Rattle.std.proofs.Common.{◌≡◌, ◌∙◌, List, [], Option, Some, unwrap_or, option_map, codes, refl, ap}
use Rattle.clap.specs.Words.{Text, all_of, matched_of, raw_values, rows_of}
use Rattle.clap.specs.declared.parser.matches.Found.{Found}
use Rattle.clap.proofs.WalkLemmas.{raw_values-rows}
use Rattle.pif_rules_model.specs.declared.rules.Rules.{Rules}
use Rattle.pif_cli_words.specs.Rules.{allow_all}

-- no word
pub allow_none : (r : Rules) → allow_all r [] ≡ Some r
allow_none r = refl

-- the words that were found
pub rules_found : (o : Option (List Text)) (found : Found) → o ≡ option_map raw_values (matched_of found (codes "allow"))
    → unwrap_or o [] ≡ unwrap_or (all_of (codes "allow") (rows_of found)) []
rules_found o found e = ap (λ (l : Option (List Text)). unwrap_or l []) (e ∙ raw_values-rows found (codes "allow"))
