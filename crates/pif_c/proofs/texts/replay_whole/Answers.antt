-- The writer was empty before.
use Rattle.std.proofs.Common.{ℕ, Some, List, subst}
use Rattle.pif_script_model.specs.Traces.{ReplaysTo}
use Rattle.pif_c.proofs.texts.replay_whole.Goals as goal

pub returns : goal.returns
returns c = (Some c.replay-done.new.reader.now, subst (λ (held : List ℕ). ReplaysTo (Some c.args.trace.now) (Some c.replay-done.new.reader.now) (Some held) (Some c.replay-done.new.writer.items) c.replay-done.result) c.new-text.ensures.items c.replay-done.ensures)
