-- A line of an open call is that of its place, and leaves the parts sound.
use Rattle.std.proofs.Common.{sym, ap, ◌∙◌, subst}
use Rattle.pif_model.specs.declared.lines.Line.{Line}
use Rattle.pif_model.specs.PiKernel.{is_living}
use Rattle.pif_model.specs.Table.{Table, line_at}
use Rattle.pif_model.specs.Lines.{Outcome, go_outcome}
use Rattle.pif_model.specs.Soundness.{IsSound}
use Rattle.pif_model_simulation.proofs.events.SoundTables.{step_sound}
use Rattle.pif_model_simulation.proofs.events.Steps.{step_owns_once}
use Rattle.pif_mutex.proofs.parts.Parts.take.Goals as goal

pub invariant_of-self : goal.invariant_of-self
invariant_of-self g c =
    subst (λ (o : Outcome). IsSound o.after) (sym c.take.ensures)
    (step_sound c.self.inside.state c.args.t c.args.request c.args.place c.self.invariant
    (ap (λ (x : Table). is_living x.kernel c.args.t) c.self.view_is ∙ c.requires.living)
    (ap (λ (x : Table). line_at x c.args.t) c.self.view_is ∙ c.requires.line))

pub returns-clause-line : goal.returns-clause-line
returns-clause-line g c =
    c.take.ensures
    ∙ ap (λ (l : Line). go_outcome l c.args.t c.self.inside.state)
    (sym (ap (λ (x : Table). line_at x c.args.t) c.self.view_is ∙ c.requires.line))
    ∙ ap (λ (x : Table). go_outcome (line_at x c.args.t) c.args.t x) c.self.view_is

pub returns-clause-once : goal.returns-clause-once
returns-clause-once g c = λ m changed owned.
    step_owns_once c.self.inside.state _ _ c.args.t c.args.request c.args.place c.self.invariant
    (ap (λ (x : Table). is_living x.kernel c.args.t) c.self.view_is ∙ c.requires.living)
    (ap (λ (x : Table). line_at x c.args.t) c.self.view_is ∙ c.requires.line) c.self.view_is
    (ap (λ (o : Outcome). o.after) c.take.ensures) m changed
