-- The writer was empty before.
use Rattle.std.proofs.Common.{ℕ, Some, List, subst}
use Rattle.pif_script_model.specs.Checks.{TellsTo, check_telling}
use Rattle.pif_c.proofs.texts.check_whole.Goals as goal

pub returns : goal.returns
returns c = (Some c.check-done.new.reader.now, subst (λ (held : List ℕ). TellsTo (check_telling c.args.name.now) (Some c.args.story.now) (Some c.check-done.new.reader.now) (Some held) (Some c.check-done.new.writer.items) c.check-done.result) c.new-text.ensures.items c.check-done.ensures)
