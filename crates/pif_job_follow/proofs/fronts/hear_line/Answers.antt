use Rattle.std.proofs.Common.{◌∙◌, sym}
use Rattle.pif_history_text.specs.Reading.{heard_of}
use Rattle.pif_job_follow.proofs.FrontLemmas.{hears_next}
use Rattle.pif_job_follow.proofs.fronts.hear_line.Goals.{else-len-before-via-then-len-before+else-allows, else-len-before-via-else-len-before}
use Rattle.pif_job_follow.proofs.fronts.hear_line.Goals as goal

pub returns-then-has_no_rules-clause-heard : goal.returns-then-has_no_rules-clause-heard
returns-then-has_no_rules-clause-heard c = λ front numbers named f.
    hears_next front numbers named (heard_of c.args.later.now) (heard_of c.hear.new.self) c.args.line.now f
    (elim c.else-len-before.branch [
      | else-len-before-via-then-len-before+else-allows w ↦ λ same. sym w.allows.ensures ∙ w.if-allows.false
      | else-len-before-via-else-len-before w ↦ λ same.
          absurd (w.if-len-before.false (c.len.ensures ∙ c.hear.new.self.shown.ok.0 ∙ same ∙ sym (c.len-before.ensures ∙ c.args.later.now.shown.ok.0)))
    ]) c.in-Ok.ensures.heard
