use Rattle.std.proofs.Common.{refl}
use Rattle.pif_test_jobs.proofs.Searching.{whole_both, whole_switch}
use Rattle.pif_test_jobs.proofs.counters.WholeMachine.moves.Goals as goal

pub returns-in_ok-steps-in-Some-clause-complete : goal.returns-in_ok-steps-in-Some-clause-complete
returns-in_ok-steps-in-Some-clause-complete c = λ l t h s.
    whole_both c.args.self.now.top c.args.from.now _ c.in-Some.risen t l c.in_ok-steps-in-Some.steps.items c.in_ok-steps-in-Some.ensures refl refl c.in-Some.ensures.some.1 c.in-Some.ensures.some.2 h s

pub returns-in_ok-steps-in-None-clause-complete : goal.returns-in_ok-steps-in-None-clause-complete
returns-in_ok-steps-in-None-clause-complete c = λ l t h s.
    whole_switch c.args.self.now.top c.args.from.now _ t l c.in_ok-steps-in-None.steps.items c.in_ok-steps-in-None.ensures refl refl (c.in-None.ensures.none refl) h s
