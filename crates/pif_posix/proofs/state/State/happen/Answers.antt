use Rattle.std.proofs.Common.{ℕ, ◌≡◌, ◌∙◌, Bool, sym, ap}
use Rattle.std.specs.Prelude.{option_to_list}
use Rattle.std.proofs.lemmas.Result.{IfOk-weaker}
use Rattle.pif_model.specs.declared.events.Event.{Event}
use Rattle.pif_model.specs.declared.events.Event.TheVariants.{Begin}
use Rattle.pif_model.specs.declared.events.Seen.{Seen}
use Rattle.pif_posix_steps.specs.Doing.{begun, Does}
use Rattle.pif_posix.specs.Results.{if_done, happened_in_place}
use Rattle.pif_posix.proofs.Results.{done_by_rule}
use Rattle.pif_posix.proofs.state.State.happen.Goals as goal

pub returns-in-Begun : goal.returns-in-Begun
returns-in-Begun c =
    IfOk-weaker c.begin.result (λ (b : Bool). Does c.args.self.now (begun c.get.result c.in-Begin.request c.args.self.now) b c.begin.new.self)
    (λ (b : Bool). happened_in_place c.args.event c.args.seen c.args.self.now ≡ if_done b c.begin.new.self)
    (λ b d. ap (λ (x : Event). happened_in_place x c.args.seen c.args.self.now) c.in-Begin.is
    ∙ ap (λ (s : Seen). happened_in_place (Begin c.in-Begin.thread c.in-Begin.request) s c.args.self.now) c.in-Begun.is
    ∙ ap (λ (t : ℕ). option_to_list (begun t c.in-Begin.request c.args.self.now)) (sym c.get.ensures.value) ∙ done_by_rule d) c.begin.ensures
