use Rattle.std.proofs.Common.{[], Err, ◌∙◌, sym, subst, suc, drop, take, ◌++◌}
use Rattle.std.specs.Prelude.{flat_map}
use Rattle.std.proofs.KnownBytes.{Appends-nil}
use Rattle.std.proofs.lemmas.Result.{err_from_is_err_and}
use Rattle.pif_script_model.specs.Runs.{Writes}
use Rattle.pif_script_model.specs.Traces.{entry_line, front_lines, trace}
use Rattle.pif_script_model.proofs.RunLemmas.{Writes-more}
use Rattle.pif_script_model.proofs.TracingLemmas.{trace-at, trace-all}
use Rattle.pif_job_run.proofs.tracing.write_trace.Goals as goal

pub returns-in_err-write_whole : goal.returns-in_err-write_whole
unfolding trace
returns-in_err-write_whole g c =
    let p = err_from_is_err_and c.from_residual.result c.from_residual.ensures.1 in
    let held = g.W.Write.contents c.args.writer.now in
    rw (p.1, p.2) (Writes-more [] c.as_slice.result.now (front_lines c.args.limits)
    (flat_map entry_line c.args.entries.now) held held _
    c.in_err-write_whole.field-0.0 (Appends-nil held) (c.as_slice.ensures.value ∙ c.front_lines.ensures.written)
    c.in_err-write_whole.ensures)

pub returns-in_err-write_whole-2 : goal.returns-in_err-write_whole-2
returns-in_err-write_whole-2 g c =
    let p = err_from_is_err_and c.from_residual-in_err-write_whole-2.result
    c.from_residual-in_err-write_whole-2.ensures.1 in
    let entries = c.args.entries.now in
    let i = c.loop-entry.entry-index in
    let parts = trace-at c.args.limits entries i c.entry-item.result c.loop-entry-test.true c.entry-item.is in
    let written = Writes-more (front_lines c.args.limits ++ flat_map entry_line (take i entries))
    c.as_slice-in-loop-entry.result.now
    (entry_line c.entry-item.result) (flat_map entry_line (drop (suc i) entries)) (g.W.Write.contents c.args.writer.now)
    (g.W.Write.contents c.loop-entry.writer) _ c.in_err-write_whole-2.field-0.0 c.loop-entry.invariant
    (c.as_slice-in-loop-entry.ensures.value ∙ c.entry_line.ensures) c.in_err-write_whole-2.ensures in
    rw (p.1, p.2) (subst (λ l. Writes (g.W.Write.contents c.args.writer.now)
    (g.W.Write.contents c.write_whole-in-loop-entry.new.writer) l (Err c.in_err-write_whole-2.field-0.0))
    (sym parts) written)

pub returns : goal.returns
returns g c =
    rw (← trace-all c.args.limits c.args.entries.now c.loop-entry.entry-index c.loop-entry-test.false)
    c.loop-entry.invariant
