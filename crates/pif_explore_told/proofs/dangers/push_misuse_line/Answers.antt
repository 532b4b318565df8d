use Rattle.std.proofs.Common.{◌∙◌}
use Rattle.std.proofs.lemmas.Result.{on_ok_weaker}
use Rattle.pif_explore_told.proofs.TellingLemmas.{wait_more, priority_more}
use Rattle.pif_explore_told.proofs.dangers.push_misuse_line.Goals as goal

pub returns-in-Wait : goal.returns-in-Wait
returns-in-Wait c =
    on_ok_weaker c.push_numbers-in-Wait.result
    (wait_more c.push_numbers-in-Wait.new.out.items c.args.out.now.items c.args.thread c.in-Wait.cond c.in-Wait.mutex c.from-in-Wait.result
    c.from-in-Wait-2.result c.args.request.now c.in-Wait.is (c.from-in-Wait.ensures ∙ c.get-in-Wait.ensures.value)
    (c.from-in-Wait-2.ensures ∙ c.get-in-Wait-2.ensures.value))
    c.push_numbers-in-Wait.ensures

pub returns-in-SetPrio : goal.returns-in-SetPrio
returns-in-SetPrio c =
    on_ok_weaker c.push_numbers-in-SetPrio.result
    (priority_more c.push_numbers-in-SetPrio.new.out.items c.args.out.now.items c.args.thread c.in-SetPrio.other c.in-SetPrio.field-1
    c.from-in-SetPrio.result c.args.request.now c.in-SetPrio.is (c.from-in-SetPrio.ensures ∙ c.get-in-SetPrio.ensures.value))
    c.push_numbers-in-SetPrio.ensures
