use Rattle.std.proofs.Common.{◌∙◌, ◌++◌}
use Rattle.std.proofs.lemmas.Result.{on_ok_weaker}
use Rattle.std.specs.Prelude.{codes, decimal, flat_map}
use Rattle.pif_job_explore.specs.Lines.{claim_told, outcome_told}
use Rattle.pif_job_explore.proofs.Parts.{five_more}
use Rattle.pif_job_explore.proofs.telling.push_played.Goals as goal

pub returns : goal.returns
returns c =
    on_ok_weaker c.push_numbers.result
    (λ rest.
    five_more c.args.out.now.items _ _ _ _ _ _ _ _ _ _
    (c.in_ok-push_outcomes.ensures ∙ (λ i. c.args.out.now.items ++ flat_map outcome_told (c.as_slice.ensures.value i)))
    (c.in_ok-push_claims.ensures ∙ (λ i. c.push_outcomes.new.out.items ++ flat_map claim_told (c.as_slice-2.ensures.value i)))
    c.in_ok-push_count.ensures c.in_ok-push_count-2.ensures
    (rest ∙ (λ i. c.push_count-2.new.out.items ++ (decimal (c.from.ensures i) ++ codes " schedules on the core\n"))))
    c.push_numbers.ensures
