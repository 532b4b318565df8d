use Rattle.std.proofs.Common.{ℕ, List, ◌++◌, ◌∙◌, ap, subst, sym}
use Rattle.pif_types.specs.Bounds.{Bounds}
use Rattle.pif_history_text.specs.Reading.{heard_of}
use Rattle.pif_history_told.specs.Ends.{at_end_text}
use Rattle.pif_history_told.specs.Texts.{calls_in, legal_text}
use Rattle.pif_history_told.specs.Unlisted.{IsFirstUnlisted}
use Rattle.pif_history_told.specs.Ways.{IsRun}
use Rattle.pif_job_judge.specs.Endings.{legal_end}
use Rattle.pif_job_judge.specs.Lines.{TellsRun}
use Rattle.pif_job_judge.proofs.lines.tell_verdict_legal.Goals as goal

pub returns : goal.returns
returns g c =
    let h = heard_of c.args.history.now in
    let form = c.args.asked.now.form in
    let old = c.args.out.now.items in
    let found = c.in_ok-found.found in
    let run = c.in_ok-more.more.items in
    let at_end = c.in_ok-at_end.at_end in
    let end_text = at_end_text at_end in
    let calls_are = c.calls_in-calls.ensures in (
      run,
      found,
      at_end,
      subst (λ (k : Bounds). TellsRun form h.allowed k c.args.witness.now run) c.limits-limits.ensures c.in_ok-more.ensures,
      subst (λ (k : Bounds). IsFirstUnlisted h.allowed k c.args.witness.now found) c.limits-limits.ensures c.in_ok-found.ensures,
      c.in_ok-at_end.ensures,
      c.in_ok-tell_legal.ensures
          ∙ (ap (λ (n : ℕ). old ++ (legal_text h.count n c.as_slice-numbers.result.now found ++ end_text ++ c.as_slice.result.now)) calls_are
          ∙ (ap (λ (ns : List ℕ). old ++ (legal_text h.count (calls_in h) ns found ++ end_text ++ c.as_slice.result.now)) c.as_slice-numbers.ensures.value
          ∙ ap (λ (l : List ℕ). old ++ (legal_text h.count (calls_in h) h.numbers found ++ end_text ++ l)) c.as_slice.ensures.value)),
      c.of_legal.ensures ∙ ap (λ (n : ℕ). legal_end n) calls_are,
    )

pub first_unlisted-requires : goal.first_unlisted-requires
first_unlisted-requires g c = record {
  run = subst (λ (k : Bounds). IsRun c.args.history.now.allowed k c.args.witness.now) (sym c.limits-limits.ensures) c.requires.run;
}

pub told_run-requires : goal.told_run-requires
told_run-requires g c =
    subst (λ (k : Bounds). IsRun c.args.history.now.allowed k c.args.witness.now) (sym c.limits-limits.ensures) c.requires.run
