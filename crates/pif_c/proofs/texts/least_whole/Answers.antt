-- The writer was empty before, no name stands in front, and POSIX isn't asked.
use Rattle.std.proofs.Common.{◌≡◌, Bool, ℕ, Some, List, [], ap, subst}
use Rattle.std.specs.Prelude.{option_copied}
use Rattle.pif_job_judge.specs.Judging.{front_of}
use Rattle.pif_job_judge.specs.Least.{JudgesLeastTo}
use Rattle.pif_job_judge.specs.declared.forms.Form.TheVariants as form
use Rattle.pif_c.proofs.texts.least_whole.Goals as goal

pub returns : goal.returns
returns c =
    let nameless : front_of (option_copied c.args.asked.now.name) form.Text ≡ [] = ap (λ n. front_of (option_copied n) form.Text) c.requires.nameless in (
      Some c.judge_least-done.new.reader.now,
      subst (λ (b : Bool). JudgesLeastTo b c.args.asked.now.allowed (Some c.args.history.now) (Some c.judge_least-done.new.reader.now) (Some []) (Some c.judge_least-done.new.writer.items) [] c.judge_least-done.result) c.requires.plain
          (subst (λ (front : List ℕ). JudgesLeastTo c.args.asked.now.plain c.args.asked.now.allowed (Some c.args.history.now) (Some c.judge_least-done.new.reader.now) (Some []) (Some c.judge_least-done.new.writer.items) front c.judge_least-done.result) nameless
          (subst (λ (held : List ℕ). JudgesLeastTo c.args.asked.now.plain c.args.asked.now.allowed (Some c.args.history.now) (Some c.judge_least-done.new.reader.now) (Some held) (Some c.judge_least-done.new.writer.items) (front_of (option_copied c.args.asked.now.name) form.Text) c.judge_least-done.result) c.new-text.ensures.items c.judge_least-done.ensures)),
    )
