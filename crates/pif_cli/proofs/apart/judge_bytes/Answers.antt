use Rattle.std.proofs.Common.{Some}
use Rattle.pif_cli.proofs.apart.judge_bytes.Goals as goal

pub returns : goal.returns
returns g c =
    let judged = rw c.new-text.ensures.items at c.judge_input-done.ensures in
    (Some c.args.bytes.now, Some c.judge_input-done.new.input.now, judged)
