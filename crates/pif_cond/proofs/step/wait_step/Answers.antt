-- A wait that takes no step on its variable takes one on its mutex.
use Rattle.std.proofs.Common.{ap, ◌∙◌, sym}
use Rattle.pif_types.specs.declared.requests.Request.{Request}
use Rattle.pif_types.specs.declared.requests.Request.TheVariants.{Wait}
use Rattle.pif_model.specs.declared.lines.Place.{Place}
use Rattle.pif_model.specs.Lines.{go_outcome}
use Rattle.pif_model.specs.declared.lines.Line.TheVariants.{At}
use Rattle.pif_mutex.specs.Mutexes.{is_of_mutexes}
use Rattle.pif_cond.proofs.Stepping.{on_mutex, park_goes}
use Rattle.pif_cond.proofs.step.wait_step.Goals as goal

pub wait_on_mutex-requires-clause-mutexes : goal.wait_on_mutex-requires-clause-mutexes
wait_on_mutex-requires-clause-mutexes g c =
    ap (λ (q : Request). is_of_mutexes (At q c.args.place)) c.requires.is
    ∙ on_mutex c.args.place c.args.c c.args.m c.requires.belongs c.in_default.not-Load c.in_default.not-LoadUses
    c.in_default.not-Park c.in_default.not-StayParked

pub returns-in-Park : goal.returns-in-Park
returns-in-Park g c =
    c.wait_park.ensures
    ∙ sym (ap (λ (p : Place). go_outcome (At (Wait c.args.c c.args.m) p) c.args.t c.args.state.now) c.in-Park.is
    ∙ park_goes _ c.args.c c.args.m c.args.t c.args.state.now)
