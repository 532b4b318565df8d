use Rattle.pif_test_core.proofs.Passes.{same_turn}
use Rattle.std.proofs.Common.{refl}
use Rattle.pif_test_core.proofs.quick.turns.hand_over.Goals as goal

pub unlock_quiet-requires-clause-turn : goal.unlock_quiet-requires-clause-turn
unlock_quiet-requires-clause-turn g c =
    same_turn c.args.quick.now c.args.pass.now c.wait_for_mark-marked.new.pass c.args.held c.args.held refl c.wait_for_mark-marked.ensures.kept
    c.requires.turn

pub unlock-requires-clause-turn : goal.unlock-requires-clause-turn
unlock-requires-clause-turn g c =
    same_turn c.args.quick.now c.wait_for_mark-marked.new.pass c.unlock_quiet.new.pass c.args.held c.in-Err.held c.in-Err.ensures.told.0
    c.in-Err.ensures.told.1
    (same_turn c.args.quick.now c.args.pass.now c.wait_for_mark-marked.new.pass c.args.held c.args.held refl c.wait_for_mark-marked.ensures.kept
    c.requires.turn)
