use Rattle.std.proofs.Common.{ℕ, ap, arith, subst, sym, ◌∙◌}
use Rattle.pif_types.specs.Bounds.{Bounds}
use Rattle.pif_history_told.specs.Ways.{IsRun}
use Rattle.pif_history_text.specs.Reading.{heard_of}
use Rattle.pif_job_judge.specs.Objects.{left_out_of}
use Rattle.pif_job_judge.proofs.ObjectLemmas.{legal_told}
use Rattle.pif_job_judge.proofs.objects.append_legal_history.Goals as goal

pub returns : goal.returns
returns g c =
    let left = c.left_out-left.ensures
    ∙ ap (λ (k : ℕ). left_out_of c.args.asked.now.form k) (omega (arith, c.len.ensures, c.args.history.now.shown.ok.0)) in
    legal_told c.args.asked.now.form (heard_of c.args.history.now) c.args.labels.now c.calls_in-calls.result c.in_ok-count.count
    c.left_out-left.result c.in_ok-written.field-0 c.limits-limits.result c.as_slice-numbers.result.now c.in_ok-found.found
    c.in_ok-at_end.at_end c.of_legal.result c.args.out.now.items c.append_legal.new.out.items c.append_steps.new.out.items c.calls_in-calls.ensures
    c.in_ok-count.ensures left c.in_ok-written.ensures c.limits-limits.ensures c.as_slice-numbers.ensures.value c.requires.legal
    c.in_ok-found.ensures c.in_ok-at_end.ensures c.in_ok-append_legal.ensures c.in_ok-append_steps.ensures c.of_legal.ensures

pub first_unlisted-requires : goal.first_unlisted-requires
first_unlisted-requires g c = record {
  run = subst (λ (k : Bounds). IsRun c.args.history.now.allowed k c.args.labels.now) (sym c.limits-limits.ensures)
      (c.requires.legal.last, c.requires.legal.run);
}

pub append_steps-requires : goal.append_steps-requires
append_steps-requires g c = (c.requires.legal.last, c.requires.legal.run)
