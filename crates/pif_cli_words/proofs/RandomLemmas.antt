-- The random scripts that words can ask for.
use Rattle.std.proofs.Common.{◌≡◌, ℕ, ◌≤◌, Bool, true, false, List, Option, Some, None, codes, subst, if◌then◌else◌}
use Rattle.std.specs.Str.{bytes_eq}
use Rattle.clap.specs.Words.{Row, Text, first_of}
use Rattle.pif_cli_words.specs.declared.random.Recipe.{Recipe}
use Rattle.pif_cli_words.specs.declared.jobs.Drawn.{Drawn}
use Rattle.pif_cli_words.specs.declared.jobs.Exploring.{Exploring}
use Rattle.pif_cli_words.specs.declared.jobs.Followed.{Followed}
use Rattle.pif_cli_words.specs.declared.jobs.Judging.{Judging}
use Rattle.pif_cli_words.specs.declared.jobs.Job.TheVariants.{Run, Replay, Trace, Migrate, Show, Picture, Draw, Shell, Check, Strict, Fill, FillSeveral, Judge, Split, Joined, Follow, Explore, Random, Drive}
use Rattle.pif_script_model.specs.declared.pictures.Picture.TheVariants.{States, Graph}
use Rattle.pif_script_model.specs.declared.details.Detail.TheVariants.{Changes, All}
use Rattle.pif_cli_words.specs.Options.{flag_in, is_named, number_between}
use Rattle.pif_cli_words.specs.Random.{recipe_in}
use Rattle.pif_cli_words.specs.Words.{drawn_in, exploring_in, followed_in, has_several, job_by, judging_in}
use Rattle.pif_cli_words.proofs.OptionsLemmas.{number_within}

-- of the jobs that a name may have, one alone is a random script
random_job : (replay trace migrate show json dot whole draw shell check write print several strict judge split joined follow explore random drive : Bool)
    (drawn : Drawn) (asked : Judging) (followed : Followed) (sought : Exploring) (mine recipe : Recipe) (least clients : ℕ) → mine.lines ≤ 262144
    → (if replay then Replay
    else (if trace then Trace
    else (if migrate then Migrate
    else (if show then (if json then Picture States
    else (if dot then Picture Graph else (if whole then Show All else Show Changes)))
    else (if draw then Draw drawn
    else (if shell then Shell
    else (if check then (if write then Fill
    else (if print then (if several then FillSeveral else Fill) else (if strict then Strict else Check)))
    else (if judge then (if split then Split least else (if joined then Joined else (if follow then Follow followed else Judge asked)))
    else (if explore then Explore sought
    else (if random then Random mine else (if drive then Drive clients else Run))))))))))) ≡ Random recipe
    → recipe.lines ≤ 262144
random_job true trace migrate show json dot whole draw shell check write print several strict judge split joined follow explore random drive drawn asked followed sought mine recipe least clients most e = cc
random_job false true migrate show json dot whole draw shell check write print several strict judge split joined follow explore random drive drawn asked followed sought mine recipe least clients most e = cc
random_job false false true show json dot whole draw shell check write print several strict judge split joined follow explore random drive drawn asked followed sought mine recipe least clients most e = cc
random_job false false false true true dot whole draw shell check write print several strict judge split joined follow explore random drive drawn asked followed sought mine recipe least clients most e = cc
random_job false false false true false true whole draw shell check write print several strict judge split joined follow explore random drive drawn asked followed sought mine recipe least clients most e = cc
random_job false false false true false false true draw shell check write print several strict judge split joined follow explore random drive drawn asked followed sought mine recipe least clients most e = cc
random_job false false false true false false false draw shell check write print several strict judge split joined follow explore random drive drawn asked followed sought mine recipe least clients most e = cc
random_job false false false false json dot whole true shell check write print several strict judge split joined follow explore random drive drawn asked followed sought mine recipe least clients most e = cc
random_job false false false false json dot whole false true check write print several strict judge split joined follow explore random drive drawn asked followed sought mine recipe least clients most e = cc
random_job false false false false json dot whole false false true true print several strict judge split joined follow explore random drive drawn asked followed sought mine recipe least clients most e = cc
random_job false false false false json dot whole false false true false true true strict judge split joined follow explore random drive drawn asked followed sought mine recipe least clients most e = cc
random_job false false false false json dot whole false false true false true false strict judge split joined follow explore random drive drawn asked followed sought mine recipe least clients most e = cc
random_job false false false false json dot whole false false true false false several true judge split joined follow explore random drive drawn asked followed sought mine recipe least clients most e = cc
random_job false false false false json dot whole false false true false false several false judge split joined follow explore random drive drawn asked followed sought mine recipe least clients most e = cc
random_job false false false false json dot whole false false false write print several strict true true joined follow explore random drive drawn asked followed sought mine recipe least clients most e = cc
random_job false false false false json dot whole false false false write print several strict true false true follow explore random drive drawn asked followed sought mine recipe least clients most e = cc
random_job false false false false json dot whole false false false write print several strict true false false true explore random drive drawn asked followed sought mine recipe least clients most e = cc
random_job false false false false json dot whole false false false write print several strict true false false false explore random drive drawn asked followed sought mine recipe least clients most e = cc
random_job false false false false json dot whole false false false write print several strict false split joined follow true random drive drawn asked followed sought mine recipe least clients most e = cc
random_job false false false false json dot whole false false false write print several strict false split joined follow false true drive drawn asked followed sought mine recipe least clients most e =
    let same : mine ≡ recipe = cc in
    subst (λ (r : Recipe). r.lines ≤ 262144) same most
random_job false false false false json dot whole false false false write print several strict false split joined follow false false true drawn asked followed sought mine recipe least clients most e = cc
random_job false false false false json dot whole false false false write print several strict false split joined follow false false false drawn asked followed sought mine recipe least clients most e = cc

-- a random script that is asked for has as many lines as it may have, or fewer
pub lines_within : (command : Option (Text × List Row)) (recipe : Recipe) → job_by command ≡ Random recipe
    → recipe.lines ≤ 262144
lines_within None recipe e = cc
lines_within (Some command) recipe e =
    random_job (bytes_eq command.0 (codes "replay")) (bytes_eq command.0 (codes "trace"))
    (bytes_eq command.0 (codes "migrate")) (bytes_eq command.0 (codes "show")) (flag_in (codes "json") command.1)
    (flag_in (codes "dot") command.1) (flag_in (codes "all") command.1) (bytes_eq command.0 (codes "draw"))
    (bytes_eq command.0 (codes "shell")) (bytes_eq command.0 (codes "check")) (flag_in (codes "write") command.1)
    (flag_in (codes "print") command.1) (has_several command.1) (flag_in (codes "strict") command.1)
    (bytes_eq command.0 (codes "judge")) (is_named (codes "split") command.1)
    (is_named (codes "joined") command.1) (flag_in (codes "follow") command.1) (bytes_eq command.0 (codes "explore")) (bytes_eq command.0 (codes "random"))
    (bytes_eq command.0 (codes "drive")) (drawn_in command.1) (judging_in command.1) (followed_in command.1) (exploring_in command.1)
    (recipe_in command.1) recipe (number_between 1 4294967295 (first_of (codes "lines") command.1))
    (number_between 1 64 (first_of (codes "N") command.1))
    (number_within 1 262144 (first_of (codes "lines") command.1)) e
