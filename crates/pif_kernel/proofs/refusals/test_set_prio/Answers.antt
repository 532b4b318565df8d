use Rattle.std.proofs.Common.{◌≤◌, sym, ◌∙◌}
use Rattle.pif_kernel_model.specs.Inside.{kernel_of}
use Rattle.pif_kernel.proofs.Answering.{none_out, some_in, set_prio_invalid, set_prio_dead, set_prio_done}
use Rattle.pif_kernel.proofs.refusals.test_set_prio.Goals as goal

pub returns-in-None-clause-answer : goal.returns-in-None-clause-answer
returns-in-None-clause-answer g c = set_prio_invalid _ _ _ (none_out c.new.result c.in-None.is c.new.ensures.valid)

pub returns-in-Some-clause-answer : goal.returns-in-Some-clause-answer
returns-in-Some-clause-answer g c =
    let range : (1 ≤ c.args.p) × (c.args.p ≤ 99)
    = some_in c.new.result c.in-Some.prio c.in-Some.is c.new.ensures.valid in
    set_prio_done c.args.t c.args.p (kernel_of c.args.parts.now) range.0 range.1 (sym c.lives.ensures ∙ c.if-lives.true)

pub returns-in-Some-2-clause-answer : goal.returns-in-Some-2-clause-answer
returns-in-Some-2-clause-answer g c =
    let range : (1 ≤ c.args.p) × (c.args.p ≤ 99)
    = some_in c.new.result c.in-Some-2.field-0 c.in-Some-2.is c.new.ensures.valid in
    set_prio_dead c.args.t c.args.p (kernel_of c.args.parts.now) range.0 range.1 (sym c.lives.ensures ∙ c.if-lives.false)
