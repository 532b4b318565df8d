use Rattle.pif_c.proofs.Replaying.{replays-are_alike}
use Rattle.pif_c.proofs.machine_exports.replays_are_alike.Goals as goal

pub returns : goal.returns
returns c = replays-are_alike
