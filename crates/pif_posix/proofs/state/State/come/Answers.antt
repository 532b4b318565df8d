use Rattle.std.proofs.Common.{◌≡◌, Bool, true, [], ◌∷◌}
use Rattle.std.proofs.lemmas.Result.{IfOk-weaker}
use Rattle.pif_posix_steps.specs.Once.{Enters}
use Rattle.pif_posix_steps.specs.Doing.{entered}
use Rattle.pif_posix.specs.Results.{if_done, entered_in_place}
use Rattle.pif_posix.proofs.Nobody.{came_alone, one_entry}
use Rattle.pif_posix.proofs.state.State.come.Goals as goal

pub returns-clause-sound : goal.returns-clause-sound
returns-clause-sound c =
    IfOk-weaker c.comes.result (λ (b : Bool). entered_in_place c.args.limits.now c.args.self.now c.args.entry.now ≡ if_done b c.comes.new.self)
    (λ (b : Bool). b ≡ true → Enters c.args.limits.now c.args.self.now c.args.entry.now c.comes.new.self)
    (λ b did h. one_entry c.args.limits.now c.args.self.now c.args.entry.now c.comes.new.self
    (came_alone c.args.limits.now c.args.self.now c.args.entry.now b c.comes.new.self did h)) c.comes.ensures

pub returns-clause-value : goal.returns-clause-value
returns-clause-value c =
    IfOk-weaker c.comes.result (λ (b : Bool). entered_in_place c.args.limits.now c.args.self.now c.args.entry.now ≡ if_done b c.comes.new.self)
    (λ (b : Bool). b ≡ true → entered c.args.limits.now c.args.self.now c.args.entry.now ≡ c.comes.new.self ∷ [])
    (λ b did h. came_alone c.args.limits.now c.args.self.now c.args.entry.now b c.comes.new.self did h) c.comes.ensures
