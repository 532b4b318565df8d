-- The writer was empty before, and no name stands in front.
use Rattle.std.proofs.Common.{◌≡◌, Bool, ℕ, Some, List, [], ap, subst}
use Rattle.std.specs.Prelude.{option_copied}
use Rattle.pif_job_judge.specs.Judging.{JudgesTo, front_of}
use Rattle.pif_c.proofs.texts.judge_whole.Goals as goal

pub returns : goal.returns
returns c =
    let form = c.args.asked.now.form in
    let nameless : front_of (option_copied c.args.asked.now.name) form ≡ [] = ap (λ n. front_of (option_copied n) form) c.requires.nameless in (
      Some c.judge-done.new.reader.now,
      subst (λ (b : Bool). JudgesTo b form c.args.asked.now.allowed (Some c.args.history.now) (Some c.judge-done.new.reader.now) (Some []) (Some c.judge-done.new.writer.items) [] c.judge-done.result) c.requires.plain
          (subst (λ (front : List ℕ). JudgesTo c.args.asked.now.plain form c.args.asked.now.allowed (Some c.args.history.now) (Some c.judge-done.new.reader.now) (Some []) (Some c.judge-done.new.writer.items) front c.judge-done.result) nameless
          (subst (λ (held : List ℕ). JudgesTo c.args.asked.now.plain form c.args.asked.now.allowed (Some c.args.history.now) (Some c.judge-done.new.reader.now) (Some held) (Some c.judge-done.new.writer.items) (front_of (option_copied c.args.asked.now.name) form) c.judge-done.result) c.new-text.ensures.items c.judge-done.ensures)),
    )
