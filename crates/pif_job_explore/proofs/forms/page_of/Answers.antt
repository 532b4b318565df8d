use Rattle.std.proofs.Common.{List, ℕ, [], ◌∙◌, subst}
use Rattle.std.specs.Prelude.{IfOk}
use Rattle.pif_history_told.specs.Pages.{IsPageOf}
use Rattle.pif_job_explore.proofs.forms.page_of.Goals as goal

pub returns : goal.returns
returns c =
    subst (λ (lines : List ℕ). IfOk c.page_around.result (λ out. IsPageOf lines [] out.items))
    (c.as_slice.ensures.value ∙ c.in_ok-lines.ensures) c.page_around.ensures
