use Rattle.std.proofs.Common.{refl}
use Rattle.std.proofs.lemmas.Result.{on_ok_weaker}
use Rattle.pif_components.proofs.GroupLemmas.{thread_added}
use Rattle.pif_components.proofs.groups.Groups.add_thread.Goals as goal

pub returns : goal.returns
returns c = on_ok_weaker c.push.result (λ e b. thread_added c.args.self.now _ e refl refl refl b) c.push.ensures
