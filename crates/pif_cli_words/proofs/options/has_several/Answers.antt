use Rattle.std.proofs.Common.{◌∙◌, List, Some, None, ap, length, map, nat_lt, sym}
use Rattle.std.proofs.lemmas.List.{length-map}
use Rattle.clap.specs.Words.{Text, found_of}
use Rattle.pif_cli_words.proofs.WordsLemmas.{files_found}
use Rattle.pif_cli_words.proofs.options.has_several.Goals as goal

pub returns-in-Some : goal.returns-in-Some
returns-in-Some c =
    ap (nat_lt 1) (sym (length-map c.in-Some.files.now (λ file. file.now)))
    ∙ ap (λ (files : List Text). nat_lt 1 (length files))
    (files_found (Some (map (λ file. file.now) c.in-Some.files.now)) (found_of c.args.given.now) c.in-Some.ensures)

pub returns-in-None : goal.returns-in-None
returns-in-None c =
    ap (λ (files : List Text). nat_lt 1 (length files)) (files_found None (found_of c.args.given.now) c.in-None.ensures)
