use Rattle.std.proofs.Common.{◌++◌, ◌∙◌, List, ap, subst, sym, ℕ}
use Rattle.pif_types.specs.Bounds.{Bounds}
use Rattle.pif_history_text.specs.Reading.{heard_of}
use Rattle.pif_history_told.specs.Unlisted.{IsFirstUnlisted}
use Rattle.pif_history_told.specs.Ways.{IsRun}
use Rattle.pif_job_judge.specs.Lines.{TellsRun}
use Rattle.pif_job_judge.specs.Posix.{posix_text}
use Rattle.pif_job_judge.proofs.ObjectLemmas.{both}
use Rattle.pif_job_judge.proofs.asked.tell_allowed_by.Goals as goal

pub returns : goal.returns
returns c =
    let h = heard_of c.args.history.now in
    let found = c.in_ok-found.found in
    let run = c.in_ok-more.more.items in
    let line = λ (numbers : List ℕ). posix_text c.args.base.now c.args.says.now c.args.number numbers found in (
      found,
      run,
      subst (λ (k : Bounds). IsFirstUnlisted h.allowed k c.args.labels.now found) c.limits-limits.ensures c.in_ok-found.ensures,
      subst (λ (k : Bounds). TellsRun c.args.form h.allowed k c.args.labels.now run) c.limits-limits.ensures c.in_ok-more.ensures,
      both c.args.out.now.items c.push_says.new.out.items c.extend_from_slice.new.self.items (line h.numbers) run
          (c.in_ok-push_says.ensures ∙ ap (λ (ns : List ℕ). c.args.out.now.items ++ line ns) c.as_slice-numbers.ensures.value)
          (c.in_ok-extend_from_slice.ensures.items
          ∙ ap (λ (l : List ℕ). c.push_says.new.out.items ++ l) c.as_slice.ensures.value),
    )

pub first_unlisted-requires : goal.first_unlisted-requires
first_unlisted-requires c = record {
  run = subst (λ (k : Bounds). IsRun c.args.history.now.allowed k c.args.labels.now) (sym c.limits-limits.ensures) c.requires;
}

pub told_run-requires : goal.told_run-requires
told_run-requires c =
    subst (λ (k : Bounds). IsRun c.args.history.now.allowed k c.args.labels.now) (sym c.limits-limits.ensures) c.requires
