-- A run, a check, and a show, with notes do what they do without.
use Rattle.std.proofs.Common.{◌≡◌, ℕ, List, Option, Ok, Err, subst}
use Rattle.pif_script_model.specs.declared.faults.CliFault.{CliFault}
use Rattle.pif_script_model.specs.Running.{RunsTo}
use Rattle.pif_script_model.specs.Checks.{Telling, TellsTo, check_telling}
use Rattle.pif_script_model.specs.StoryShowing.{ShowsStoryTo}
use Rattle.pif_story.specs.declared.missing.Note.{Note}
use Rattle.pif_story.specs.Notes.{ShowsNoting, TellsNoting}
use Rattle.pif_job_run.specs.Noting.{RunsNoting}

-- what was run, whatever is noted
pub run_noting : (before after held holds : Option (List ℕ)) (notes : List Note)
    → RunsNoting before after held holds notes → RunsTo before after held holds (Ok tt)
run_noting before after held holds notes n = (n.0, n.1, n.2)

-- what was told, whatever is noted
pub told_noting : (notes : List Note) (telling : List ℕ → Telling) (a b h k : Option (List ℕ))
    → TellsNoting telling a b h k (Ok notes) → TellsTo telling a b h k (Ok tt)
told_noting notes telling a b h k t = (t.0, t.1, t.2, t.3)

-- what a check that failed has told, by the name that was lent
pub told_under : (name lent : List ℕ) (a b h k : Option (List ℕ)) (fault : CliFault) → lent ≡ name
    → TellsNoting (check_telling lent) a b h k (Err fault) → TellsTo (check_telling name) a b h k (Err fault)
told_under name lent a b h k fault is t =
    subst (λ x. TellsTo (check_telling x) a b h k (Err fault)) is (t.0, t.1, t.2, t.3)

-- what was shown, whatever is noted
pub shown_noting : (notes : List Note) (before after held holds : Option (List ℕ))
    → ShowsNoting before after held holds (Ok notes) → ShowsStoryTo before after held holds (Ok tt)
shown_noting notes before after held holds n = (n.3.0, (n.0, n.1, n.2, n.3.1), n.3.2)

-- what a show that failed has shown
pub shown_failing : (before after held holds : Option (List ℕ)) (fault : CliFault)
    → ShowsNoting before after held holds (Err fault) → ShowsStoryTo before after held holds (Err fault)
shown_failing before after held holds fault n = (n.3.0, (n.0, n.1, n.2, n.3.1), n.3.2)
