use Rattle.std.proofs.Common.{◌≡◌, ◌+◌, ◌-◌, ℕ, List, IfSome, Some, arith, subst, take}
use Rattle.std.specs.Prelude.{slice_get}
use Rattle.pif_history_model.specs.declared.lines.Line.{Line}
use Rattle.pif_history_text.specs.Histories.{limits_of}
use Rattle.pif_history_text.specs.Reading.{heard_of}
use Rattle.pif_history_told.specs.Why.{IsNumbered}
use Rattle.pif_judge_reasons.specs.declared.terms.Terms.{Terms}
use Rattle.pif_judge_reasons.specs.Found.{AreFound}
use Rattle.pif_judge_reasons.specs.Fronts.{count_of}
use Rattle.pif_job_judge.proofs.unfound.unfound_behind.Goals as goal

pub returns : goal.returns
returns g c =
    let h = heard_of c.args.history.now in
    let line = c.line_at-line.result in
    let o = c.in_ok-found.found in
    let known : c.count_of-known.result ≡ count_of c.args.front.now = c.count_of-known.ensures in
    let back : c.count_of-known.result + 1 - 1 ≡ count_of c.args.front.now = omega (arith, known) in
    let by_terms = subst (λ (t : Terms). IfSome o (λ v. AreFound t.rules t.limits (take c.count_of-known.result c.as_slice.result.now) line v.items))
    c.terms_of-terms.ensures c.in_ok-found.ensures in
    let by_lines = subst (λ (ls : List Line). IfSome o (λ v. AreFound h.allowed (limits_of h) (take c.count_of-known.result ls) line v.items))
    c.as_slice.ensures.value by_terms in
    record {
      legal = c.requires.front;
      up_to = c.up_to-up_to.ensures;
      number = subst (λ (k : ℕ). IsNumbered h (k + 1) c.number_at-number.result) known c.number_at-number.ensures;
      line = subst (λ (k : ℕ). slice_get h.shown k ≡ Some line) back c.line_at-line.ensures;
      found = subst (λ (k : ℕ). IfSome o (λ v. AreFound h.allowed (limits_of h) (take k h.shown) line v.items)) known by_lines;
    }
