use Rattle.std.proofs.Common.{◌∙◌, List, ap, subst, sym}
use Rattle.std.specs.Prelude.{option_copied}
use Rattle.pif_history_model.specs.declared.labels.Label.{Label}
use Rattle.pif_history_model.specs.Verdicts.{IsLegal}
use Rattle.pif_history_text.specs.Histories.{Heard, limits_of}
use Rattle.pif_history_text.specs.Reading.{heard_of}
use Rattle.pif_job_judge.specs.declared.forms.Form.TheVariants.{Text}
use Rattle.pif_job_judge.specs.Judging.{front_of}
use Rattle.pif_job_judge.specs.Mistakes.{is_found_legal}
use Rattle.pif_rules.specs.Sets.{both}
use Rattle.pif_rules_model.specs.declared.rules.Rules.{Rules}
use Rattle.pif_job_judge.proofs.LeastLemmas.{all_in_lines, judged_written}
use Rattle.pif_job_judge.proofs.least.judge_history.Goals as goal

pub returns-in-Err-run_of : goal.returns-in-Err-run_of
returns-in-Err-run_of g c =
    let all = heard_of c.allowing-history.result in
    judged_written c.args.asked.now.plain c.args.asked.now.allowed (heard_of c.args.history) all (g.W.Write.contents c.args.writer.now)
    (g.W.Write.contents c.write_all.new.writer) (front_of (option_copied c.args.asked.now.name) Text) c.write_all.result
    c.allowing-history.ensures.heard (_, c.in-Ok.ensures, ap is_found_legal (sym c.in-Err-run_of.ensures.wrong.0) ∙ c.in-Err-run_of.ensures.wrong.1)
    (all_in_lines c.in_lines-asked.result.plain c.args.asked.now.plain c.in_lines-asked.result.form (option_copied c.in_lines-asked.result.name)
    (option_copied c.args.asked.now.name) all (g.W.Write.contents c.args.writer.now) (g.W.Write.contents c.write_all.new.writer)
    c.write_all.result c.in_lines-asked.ensures.plain c.in_lines-asked.ensures.form c.in_lines-asked.ensures.name c.write_all.ensures)

pub write_least-requires-clause-legal : goal.write_least-requires-clause-legal
write_least-requires-clause-legal g c =
    let h = heard_of c.allowing-history.result in
    let rules = both c.args.asked.now.allowed c.args.history.allowed in
    subst (λ (ls : List Label). IsLegal rules (limits_of h) h.shown ls) (sym c.as_slice.ensures.value)
    (subst (λ (r : Rules). IsLegal r (limits_of h) h.shown c.in-Ok-run_of.labels.items)
    (ap (λ (x : Heard). x.allowed) c.allowing-history.ensures.heard) (c.in-Ok-run_of.ensures.legal h c.in-Ok.ensures))
