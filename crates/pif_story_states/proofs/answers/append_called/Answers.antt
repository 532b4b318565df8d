use Rattle.std.proofs.lemmas.Result.{on_ok_weaker}
use Rattle.pif_story_states.proofs.ObjectLemmas.{called_appended}
use Rattle.pif_story_states.proofs.answers.append_called.Goals as goal

pub returns : goal.returns
returns c =
    on_ok_weaker c.append_object.result
    (λ e.
    called_appended c.args.number c.args.out.now.items c.append_object.new.out.items _ c.error_name.ensures e)
    c.append_object.ensures
