use Rattle.std.proofs.Common.{ℕ, ◌++◌, ◌∙◌, ap, arith, refl, subst}
use Rattle.pif_history_text.specs.Histories.{limits_of}
use Rattle.pif_history_text.specs.Reading.{heard_of}
use Rattle.pif_job_judge.specs.declared.faults.Ended.TheVariants as ended
use Rattle.pif_job_judge.specs.Endings.{legal_end}
use Rattle.pif_job_judge.specs.declared.search.Needed.{Needed}
use Rattle.pif_job_judge.specs.declared.search.Needed.TheVariants.{Legal, Undecided}
use Rattle.pif_job_judge.specs.LeastRules.{IsLeast}
use Rattle.pif_history_told.specs.Texts.{calls_in, legal_with, undecided_with}
use Rattle.pif_job_judge.proofs.needed.tell_needed.Goals as goal

pub number_at-number-requires : goal.number_at-number-requires
number_at-number-requires c =
    let h = heard_of c.args.history.now in
    let least = subst (λ (x : Needed). IsLeast h.allowed c.args.asked.now (limits_of h) h.shown x) c.in-Undecided.is
    c.requires.found in
    record {
      within = (
        least.0,
        omega (arith, least.1, c.args.history.now.shown.ok.0, c.args.history.now.numbers.ok.0, c.requires.paired),
      );
    }

pub returns-in_ok-push_legal_with-in-Legal : goal.returns-in_ok-push_legal_with-in-Legal
returns-in_ok-push_legal_with-in-Legal c =
    let h = heard_of c.args.history.now in
    let found = c.in-Legal.found in
    let rules = found.rules in
    let least = subst (λ (x : Needed). IsLeast h.allowed c.args.asked.now (limits_of h) h.shown x) c.in-Legal.is
    c.requires.found in (
      legal_with h.count (calls_in h) h.allowed rules,
      (
        Legal found,
        least,
        (refl, c.of_legal.ensures ∙ ap (λ (k : ℕ). legal_end k) c.calls_in-calls.ensures),
      ),
      c.in_ok-push_legal_with-in-Legal.ensures
          ∙ ap (λ (k : ℕ). c.args.out.now.items ++ legal_with h.count k h.allowed rules) c.calls_in-calls.ensures,
    )

pub returns-in_ok-push_undecided_with-in-Undecided : goal.returns-in_ok-push_undecided_with-in-Undecided
returns-in_ok-push_undecided_with-in-Undecided c =
    let h = heard_of c.args.history.now in
    let rules = c.in-Undecided.rules in
    let number = c.number_at-number.result in
    let least = subst (λ (x : Needed). IsLeast h.allowed c.args.asked.now (limits_of h) h.shown x) c.in-Undecided.is
    c.requires.found in (
      undecided_with number h.allowed rules,
      (
        Undecided rules c.in-Undecided.count,
        least,
        (
          number,
          c.number_at-number.ensures,
          refl,
          ap (λ (k : ℕ). ended.Undecided k) c.from.ensures,
        ),
      ),
      c.in_ok-push_undecided_with-in-Undecided.ensures,
    )
