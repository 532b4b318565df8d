use Rattle.std.proofs.Common.{ℕ, ◌≡◌, ◌∙◌, Bool, sym, ap}
use Rattle.std.specs.Prelude.{option_to_list}
use Rattle.std.proofs.lemmas.Result.{IfOk-weaker}
use Rattle.pif_types.specs.declared.requests.Request.{Request}
use Rattle.pif_posix_steps.specs.Doing.{first_effects, locked, Does}
use Rattle.pif_posix.specs.Results.{if_done}
use Rattle.pif_posix.proofs.Results.{done_by_rule}
use Rattle.pif_posix.proofs.state.State.act_first.Goals as goal

pub returns-in_ok-place_of_mutex-in-Lock : goal.returns-in_ok-place_of_mutex-in-Lock
returns-in_ok-place_of_mutex-in-Lock c =
    IfOk-weaker c.lock.result (λ (b : Bool). Does c.args.self.now (locked c.args.thread c.get-in-Lock.result c.args.self.now) b c.lock.new.self)
    (λ (b : Bool). first_effects c.args.request c.args.thread c.args.self.now ≡ if_done b c.lock.new.self)
    (λ b d. ap (λ (q : Request). first_effects q c.args.thread c.args.self.now) c.in-Lock.is
    ∙ ap (λ (m : ℕ). option_to_list (locked c.args.thread m c.args.self.now)) (sym c.get-in-Lock.ensures.value) ∙ done_by_rule d) c.lock.ensures
