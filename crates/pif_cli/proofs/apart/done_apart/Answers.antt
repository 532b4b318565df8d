use Rattle.std.proofs.Common.{◌≡◌, length, arith}
use Rattle.std.proofs.lemmas.List.{take_at}
use Rattle.pif_cli.proofs.apart.done_apart.Goals as goal

pub returns : goal.returns
returns g c =
    let same : length c.judge_in_threads.new.found ≡ c.in-Judge-Ok.found.len =
    omega (arith, c.judge_in_threads.auto.found, c.as_mut_slice.ensures.len) in
    rw (take_at c.judge_in_threads.new.found _ _ same) (rw c.in-Judge-Ok.is-0 c.judge_in_threads.ensures)
