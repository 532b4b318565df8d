-- The job, the files and the refusals of words, by what a parse met.
use Rattle.std.proofs.Common.{unwrap_or, ◌≡◌, ◌∙◌, ◌++◌, map, ℕ, Bool, true, List, [], Option, Some, None, option_map, codes, Box, ap, refl, sym, subst}
use Rattle.std.specs.Box.{box_value}
use Rattle.std.specs.declared.alloc.Global.{Global}
use Rattle.clap.specs.Kinds.{or_else}
use Rattle.clap.specs.Values.{kind_of}
use Rattle.clap.specs.Words.{App, HasKind, Kinds, fault_of, is_simple_and_free, HasMatchesOf, Row, Text, matched_of, raw_values, rows_of, subcommand_name_of, subcommand_of, subcommand_rows}
use Rattle.clap.specs.declared.error.Error.{Error}
use Rattle.clap.specs.declared.parser.matches.ArgMatches.{ArgMatches}
use Rattle.clap.specs.declared.parser.matches.ArgMatches.TheViews.{out-ArgMatches, out-SubCommand}
use Rattle.clap.specs.declared.parser.matches.Found.{Found}
use Rattle.clap.specs.declared.parser.matches.SubCommand.{SubCommand}
use Rattle.clap.proofs.FaultLemmas.{first_fails}
use Rattle.clap.proofs.WalkLemmas.{raw_values-rows}
use Rattle.pif_cli_words.specs.declared.clashes.Clash.{Clash}
use Rattle.pif_cli_words.specs.declared.jobs.Job.{Job}
use Rattle.pif_cli_words.specs.Defaults.{completed}
use Rattle.pif_cli_words.specs.Words.{aside_by, aside_in, aside_of, clash_by, clash_kinds, command_of, files_by, files_in, files_of, job_by, job_named, job_of, program, refusals_of, rewrites, rewrites_by}

-- a list that was empty, and got the words as they are completed
pub room-filled : {A : Type 0} (now : A → Text) (before after lent : List A) (given : List (List ℕ)) → before ≡ []
    → map now after ≡ map now before ++ completed given → lent ≡ after → map now lent ≡ completed given
room-filled now before after lent given empty grown same =
    ap (map now) same ∙ (grown ∙ ap (λ l. map now l ++ completed given) empty)

-- words with which the program's commands were parsed have no refusal by a parse
pub unrefused : (pif : App) (words : List (List ℕ)) → pif ≡ program → (is_simple_and_free pif ≡ true → fault_of pif words ≡ []) → fault_of program words ≡ []
unrefused pif words e k = subst (λ a. (is_simple_and_free a ≡ true → fault_of a words ≡ []) → fault_of program words ≡ []) (sym e) (λ f. f refl) k

-- words with which they were not parsed, once they were completed, are refused for the reason that was given
pub refusals-told : (pif : App) (words given : List (List ℕ)) (e : Error) → words ≡ completed given → pif ≡ program
    → (is_simple_and_free pif ≡ true → HasKind (fault_of pif words) e) → HasKind (refusals_of given) e
refusals-told pif words given e whole same k =
    let told : HasKind (fault_of program words) e =
    subst (λ a. (is_simple_and_free a ≡ true → HasKind (fault_of a words) e) → HasKind (fault_of program words) e) (sym same) (λ f. f refl) k in
    first_fails (fault_of program (completed given)) (clash_kinds (clash_by (command_of given))) (kind_of e)
    (subst (λ (w : List (List ℕ)). HasKind (fault_of program w) e) whole told)

-- the subcommand that a parse met, by its name and its rows
met : (o : Option (Box SubCommand Global)) (name : Text) (rows : List Row)
    → Some name ≡ option_map (λ b. (out-SubCommand (box_value b)).name.now) o
    → Some rows ≡ option_map (λ (p : Text × List Row). p.1) (subcommand_rows o)
    → subcommand_rows o ≡ Some (name, rows)
met None name rows n r = cc
met (Some b) name rows n r = cc

module _ (pif : App) (words given : List (List ℕ)) (m : ArgMatches) (name : Text) (found : Found) (whole : words ≡ completed given)
    (e : pif ≡ program)
    (has : HasMatchesOf pif words m) (n : Some name ≡ subcommand_name_of m)
    (r : Some (rows_of found)
    ≡ option_map (λ (p : Text × List Row). p.1) (subcommand_rows (out-ArgMatches m).subcommand)) where
  -- the subcommand of the words is the one that a parse met
  there : command_of given ≡ Some (name, rows_of found)
  there =
      let shown = (subst (λ (a : App). HasMatchesOf a words m) e has refl).1 in
      ap (subcommand_of program) (sym whole) ∙ (sym shown ∙ met (out-ArgMatches m).subcommand name (rows_of found) n r)

  -- the job of a parse that met a subcommand, by its name and what was found for it
  pub job_read : (job : Job) → job ≡ job_named name (rows_of found) → job ≡ job_of given
  job_read job j = j ∙ sym (ap job_by there)

  -- and its files
  pub files_read : (files : List Text) → files ≡ files_in (rows_of found) → files ≡ files_of given
  files_read files f = f ∙ sym (ap files_by there)

  -- and the folder or the index that is given to it
  pub aside_read : (aside : Text) → aside ≡ aside_in (rows_of found) → aside ≡ aside_of given
  aside_read aside f = f ∙ sym (ap aside_by there)

  -- and whether its files are to be written
  pub rewrites_read : (rewrite : Bool) → rewrite ≡ rewrites_by (Some (name, rows_of found)) → rewrite ≡ rewrites given
  rewrites_read rewrite f = f ∙ sym (ap rewrites_by there)

  -- and how its words clash
  pub clash_read : (clash : Option Clash) → clash ≡ clash_by (Some (name, rows_of found)) → fault_of program words ≡ []
      → refusals_of given ≡ clash_kinds clash
  clash_read clash c none =
      ap (λ (k : Kinds). or_else k (clash_kinds (clash_by (command_of given)))) (ap (fault_of program) (sym whole) ∙ none)
      ∙ (ap (λ (command : Option (Text × List Row)). clash_kinds (clash_by command)) there
      ∙ ap (λ (o : Option Clash). clash_kinds o) (sym c))

-- the files that were found
pub files_found : (o : Option (List Text)) (found : Found) → o ≡ option_map raw_values (matched_of found (codes "FILE"))
    → unwrap_or o [] ≡ files_in (rows_of found)
files_found o found e = ap (λ (l : Option (List Text)). unwrap_or l []) (e ∙ raw_values-rows found (codes "FILE"))
