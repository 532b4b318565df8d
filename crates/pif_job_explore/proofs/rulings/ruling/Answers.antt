use Rattle.std.proofs.Common.{◌∙◌, refl}
use Rattle.pif_job_explore.proofs.rulings.ruling.Goals as goal

pub returns : goal.returns
returns c = λ start enough. record {
  assertion = c.args.claim.now.assertion;
  is = refl;
  number = refl;
  text = c.in_ok-text.ensures.items ∙ c.as_slice.ensures.value;
  verdict = c.in_ok-verdict.ensures start enough;
}
