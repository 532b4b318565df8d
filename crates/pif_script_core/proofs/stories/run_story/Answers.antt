use Rattle.pif_script_model.specs.Lines.{lines}
use Rattle.pif_script_model.specs.Stories.{rows_from, script_by}
use Rattle.pif_script_model.proofs.ChecksLemmas.{ran_to_fault, ran_well}
use Rattle.pif_script_core.proofs.stories.run_story.Goals as goal

pub returns-in-Ok-run-clause-printed : goal.returns-in-Ok-run-clause-printed
returns-in-Ok-run-clause-printed c =
    let run = rw (c.new-output.ensures.items, c.as_slice.ensures.value, c.in-Ok.ensures) at c.in-Ok-run.ensures in
    (ran_well (script_by (rows_from 1 (lines c.args.plain.now))) _ _ _ run).0

pub returns-in-Ok-run-clause-fault : goal.returns-in-Ok-run-clause-fault
returns-in-Ok-run-clause-fault c =
    let run = rw (c.new-output.ensures.items, c.as_slice.ensures.value, c.in-Ok.ensures) at c.in-Ok-run.ensures in
    (ran_well (script_by (rows_from 1 (lines c.args.plain.now))) _ _ _ run).1

pub returns-in-Err-Script-clause-printed : goal.returns-in-Err-Script-clause-printed
returns-in-Err-Script-clause-printed c =
    let ended = rw c.in-Err-Script.field-0-is at c.in-Err-Script.ensures in
    let run = rw (c.new-output.ensures.items, c.as_slice.ensures.value, c.in-Ok.ensures) at ended in
    (ran_to_fault (script_by (rows_from 1 (lines c.args.plain.now))) _ _ _ _ run).0

pub returns-in-Err-Script-clause-fault : goal.returns-in-Err-Script-clause-fault
returns-in-Err-Script-clause-fault c =
    let ended = rw c.in-Err-Script.field-0-is at c.in-Err-Script.ensures in
    let run = rw (c.new-output.ensures.items, c.as_slice.ensures.value, c.in-Ok.ensures) at ended in
    (ran_to_fault (script_by (rows_from 1 (lines c.args.plain.now))) _ _ _ _ run).1
