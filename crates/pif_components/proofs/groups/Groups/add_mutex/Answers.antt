use Rattle.std.proofs.Common.{refl}
use Rattle.std.proofs.lemmas.Result.{on_ok_weaker}
use Rattle.pif_components.proofs.GroupLemmas.{mutex_added}
use Rattle.pif_components.proofs.groups.Groups.add_mutex.Goals as goal

pub returns : goal.returns
returns c = on_ok_weaker c.push.result (λ e b. mutex_added c.args.self.now _ refl e refl refl b) c.push.ensures
