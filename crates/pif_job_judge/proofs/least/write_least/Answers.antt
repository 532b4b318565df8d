use Rattle.std.specs.Prelude.{option_copied}
use Rattle.pif_history_text.specs.Reading.{heard_of}
use Rattle.pif_job_judge.specs.declared.forms.Form.TheVariants.{Text}
use Rattle.pif_job_judge.specs.Judging.{front_of}
use Rattle.pif_job_judge.proofs.LeastLemmas.{needed_written}
use Rattle.pif_job_judge.proofs.least.write_least.Goals as goal

pub returns-in-Ok-shown_lines : goal.returns-in-Ok-shown_lines
returns-in-Ok-shown_lines g c =
    needed_written c.args.asked.now.plain c.args.asked.now.allowed (heard_of c.args.history.now) (g.W.Write.contents c.args.writer.now)
    (g.W.Write.contents c.write_told.new.writer) (front_of (option_copied c.args.asked.now.name) Text) c.in-Ok.out.items
    c.tell_least.new.out.items c.in-Ok-shown_lines.text.items c.as_slice.result.now c.in-Ok-tell_least.told c.as_result.result
    c.write_told.result c.in-Ok.ensures c.in-Ok-tell_least.ensures c.in-Ok-shown_lines.ensures c.as_slice.ensures.value
    c.as_result.ensures c.write_told.ensures
