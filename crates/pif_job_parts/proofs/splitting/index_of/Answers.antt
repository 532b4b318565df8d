use Rattle.std.proofs.Common.{◌∙◌, refl}
use Rattle.pif_job_parts.proofs.splitting.index_of.Goals as goal

pub returns : goal.returns
returns c = record {
  index = record {
    lines = c.args.history.now.count;
    calls = c.calls_in.result;
    spans = c.in_ok-spans.spans;
    runs = c.in_ok-runs.runs;
  };
  written = c.in_ok-text.ensures;
  lines = refl;
  spans = c.in_ok-spans.ensures;
  numbers = c.in_ok-runs.ensures ∙ c.as_slice.ensures.value;
}
