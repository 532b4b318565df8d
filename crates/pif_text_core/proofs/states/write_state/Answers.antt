use Rattle.pif_text_core.proofs.states.write_state.Goals as goal

pub returns-clause-told : goal.returns-clause-told
returns-clause-told g c = rw c.new.ensures at c.write_lines.ensures.told
