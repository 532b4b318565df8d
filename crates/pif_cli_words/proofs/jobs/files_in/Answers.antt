use Rattle.std.proofs.Common.{Some, None, map}
use Rattle.clap.specs.Words.{found_of}
use Rattle.pif_cli_words.proofs.WordsLemmas.{files_found}
use Rattle.pif_cli_words.proofs.jobs.files_in.Goals as goal

pub returns-in_ok-from_slice-in-Some : goal.returns-in_ok-from_slice-in-Some
returns-in_ok-from_slice-in-Some c =
    rw c.in_ok-from_slice-in-Some.ensures.items
    (files_found (Some (map (λ file. file.now) c.in-Some.files.now)) (found_of c.args.given.now) c.in-Some.ensures)

pub returns-in-None : goal.returns-in-None
returns-in-None c = rw c.new.ensures.items (files_found None (found_of c.args.given.now) c.in-None.ensures)
