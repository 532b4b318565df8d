use Rattle.std.proofs.Common.{◌∙◌, ℕ, List, [], ◌++◌, None, ap, false}
use Rattle.pif_history_told.specs.declared.ends.AtEnd.{AtEnd}
use Rattle.pif_history_told.specs.Ends.{at_end_text}
use Rattle.pif_history_told.specs.Texts.{legal_text}
use Rattle.pif_job_follow.proofs.TellingLemmas.{legal_said}
use Rattle.pif_job_follow.proofs.telling.said_legal.Goals as goal

pub returns : goal.returns
returns c = λ full x.
    let at_end : AtEnd = record { calls = c.in_ok-open_calls.field-0; deadlock = false } in
    legal_said full c.args.followed.now at_end c.tell_legal.new.out.items c.legal_end.result
    (c.in_ok-tell_legal.ensures
    ∙ ap (λ (bs : List ℕ). bs ++ (legal_text c.args.followed.now.later.count c.args.followed.now.calls [] None ++ at_end_text at_end ++ []))
    c.new-text.ensures.items) c.legal_end.ensures x
