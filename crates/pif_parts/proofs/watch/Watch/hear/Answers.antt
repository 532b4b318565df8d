use Rattle.std.proofs.lemmas.Result.{on_ok_weaker}
use Rattle.pif_parts.proofs.WatchLemmas.{heard}
use Rattle.pif_parts.proofs.watch.Watch.hear.Goals as goal

pub returns : goal.returns
returns c =
    on_ok_weaker c.take.result (λ x lines h. heard lines c.args.self.now h c.args.line.now c.take.new.self x) c.take.ensures
