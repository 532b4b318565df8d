use Rattle.std.proofs.Common.{◌≡◌, ◌-◌, arith, length, subst, take}
use Rattle.std.proofs.lemmas.List.{length-take-le}
use Rattle.std.proofs.lemmas.Option.{slice_get_within}
use Rattle.pif_history_text.specs.Histories.{limits_of}
use Rattle.pif_history_text.specs.Reading.{heard_of}
use Rattle.pif_job_judge.specs.declared.posix.Says.{Says}
use Rattle.pif_job_judge.specs.Posix.{IsSaid}
use Rattle.pif_job_judge.proofs.posix.number_of.Goals as goal

pub number_at-requires : goal.number_at-requires
number_at-requires c =
    let h = heard_of c.args.history.now in
    let said = subst (λ (says : Says). IsSaid h.allowed (limits_of h) h.shown says) c.in-Forbids.is c.requires.said in
    record {
      within = (
        said.0,
        omega (arith, said.1, c.args.history.now.shown.ok.0, c.args.history.now.numbers.ok.0, c.requires.paired),
      );
    }

pub number_at-requires-in-Undecided : goal.number_at-requires-in-Undecided
number_at-requires-in-Undecided c =
    let h = heard_of c.args.history.now in
    let said = subst (λ (says : Says). IsSaid h.allowed (limits_of h) h.shown says) c.in-Undecided.is c.requires.said in
    record {
      within = (
        said.0,
        omega (arith, said.1, c.args.history.now.shown.ok.0, c.args.history.now.numbers.ok.0, c.requires.paired),
      );
    }

pub number_at-requires-in-Undefined : goal.number_at-requires-in-Undefined
number_at-requires-in-Undefined c =
    let h = heard_of c.args.history.now in
    let n = c.in-Undefined.field-0 in
    let said = subst (λ (says : Says). IsSaid h.allowed (limits_of h) h.shown says) c.in-Undefined.is c.requires.said in
    let as_many : length (take (n - 1) h.shown) ≡ n - 1 = length-take-le (n - 1) h.shown (omega (arith, said.1)) in
    let inside = slice_get_within (take (n - 1) h.shown) (c.in-Undefined.begun.count - 1) _ said.3.begins in
    record {
      within = (
        said.3.some,
        omega (arith, as_many, inside, said.0, said.1, said.3.some, c.args.history.now.shown.ok.0, c.args.history.now.numbers.ok.0, c.requires.paired),
      );
    }
