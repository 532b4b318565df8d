-- A core that stands stands after an event.
use Rattle.pif_model_simulation.proofs.Bound.{open_ends_within_24}
use Rattle.pif_core.proofs.StandsAfter.{step_stands, stands_legal, stands_one_holder}
use Rattle.pif_core.proofs.cores.Core.step.Goals as goal

pub returns-clause-stands : goal.returns-clause-stands
returns-clause-stands c =
    step_stands c.args.self.now c.turn.new.self c.args.event c.turn.result c.turn.ensures.seen c.turn.ensures.after

pub returns-clause-legal : goal.returns-clause-legal
returns-clause-legal c = λ h r w st.
    let next = returns-clause-stands c h r w st in
    stands_legal _ _ _ next.0 next.1

pub returns-clause-holders : goal.returns-clause-holders
returns-clause-holders c = λ h r w st.
    let next = returns-clause-stands c h r w st in
    stands_one_holder _ _ _ next.0 next.1

pub returns-clause-ends : goal.returns-clause-ends
returns-clause-ends c = λ t known busy. open_ends_within_24 t c.turn.new.self known busy
