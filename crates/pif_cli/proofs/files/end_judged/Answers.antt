use Rattle.pif_cli.proofs.ApartLemmas.{did-judged}
use Rattle.pif_cli.proofs.files.end_judged.Goals as goal

pub returns-clause-did : goal.returns-clause-did
returns-clause-did g c =
    let told = rw c.new.ensures at c.tell_end.ensures.tells in
    rw c.tell_end.ensures.unwritten
    (did-judged c.args.job c.args.name.now c.args.judged.now _ _ _ _ c.write_judged-done.result _ c.requires
    c.write_judged-done.ensures c.tell_end.ensures.status told)
