-- The writer was empty before.
use Rattle.std.proofs.Common.{ℕ, Some, List, subst}
use Rattle.pif_script_model.specs.Running.{RunsTo}
use Rattle.pif_c.proofs.texts.run_whole.Goals as goal

pub returns : goal.returns
returns c = (Some c.run-done.new.reader.now, subst (λ (held : List ℕ). RunsTo (Some c.args.script.now) (Some c.run-done.new.reader.now) (Some held) (Some c.run-done.new.writer.items) c.run-done.result) c.new-text.ensures.items c.run-done.ensures)
