use Rattle.std.proofs.Common.{drop}
use Rattle.pif_cli.proofs.ApartLemmas.{apart-front}
use Rattle.pif_cli.proofs.apart.Ahead.reach.Goals as goal

pub returns-clause-apart : goal.returns-clause-apart
returns-clause-apart g c =
    apart-front c.args.job _ (drop c.args.place c.args.names.now) c.done_apart.result.items c.done_apart.ensures
