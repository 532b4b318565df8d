-- `random`: its options, and the script that is asked for.
use Rattle.std.specs.Prelude.{false, List, codes}
use Rattle.clap.specs.Words.{App, Row, first_of, new_app, with_rule}
use Rattle.pif_job_random.specs.declared.shapes.Shape.{Shape}
use Rattle.pif_cli_words.specs.Options.{chosen_rule, flag_in, flag_rule, needed_rule, number_between}
use Rattle.pif_cli_words.specs.declared.random.Recipe.{Recipe}

-- the options that must be given: the seed, and how many lines there are
abbrev pub with_size : App → App
with_size random =
    with_rule (with_rule random (needed_rule (codes "seed") 0 18446744073709551615))
    (needed_rule (codes "lines") 1 262144)

-- the options that say how many threads, mutexes and condition variables there are
abbrev pub with_counts : App → App
with_counts random =
    with_rule (with_rule (with_rule random (chosen_rule (codes "threads") 1 1024 (codes "4")))
    (chosen_rule (codes "mutexes") 0 1024 (codes "3"))) (chosen_rule (codes "conds") 0 256 (codes "1"))

-- the options that say what happens: whether there are robust mutexes, ends of threads, and times
abbrev pub with_flags : App → App
with_flags random =
    with_rule (with_rule (with_rule random (flag_rule (codes "robust"))) (flag_rule (codes "ends")))
    (flag_rule (codes "times"))

-- the command `random`
abbrev pub random_app : App
random_app = with_flags (with_counts (with_size (new_app (codes "random"))))

-- what a script is made of, by what was given
abbrev pub shape_in : List Row → Shape
shape_in rows = record {
  threads = number_between 1 1024 (first_of (codes "threads") rows);
  mutexes = number_between 0 1024 (first_of (codes "mutexes") rows);
  conds = number_between 0 256 (first_of (codes "conds") rows);
  robust = flag_in (codes "robust") rows;
  ends = flag_in (codes "ends") rows;
  times = flag_in (codes "times") rows;
}

-- what it is made of if nothing but the seed and the lines is given
abbrev pub plain_shape : Shape
plain_shape = record { threads = 4; mutexes = 3; conds = 1; robust = false; ends = false; times = false }

-- the script that is asked for, by what was given
abbrev pub recipe_in : List Row → Recipe
recipe_in rows = record {
  seed = number_between 0 18446744073709551615 (first_of (codes "seed") rows);
  lines = number_between 1 262144 (first_of (codes "lines") rows);
  shape = shape_in rows;
}
