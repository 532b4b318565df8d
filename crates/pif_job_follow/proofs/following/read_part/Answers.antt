use Rattle.std.proofs.Common.{arith, subst, take}
use Rattle.std.specs.Io.KnownBytes.{Consumes}
use Rattle.std.proofs.lemmas.Result.{IfOk-weaker}
use Rattle.pif_job_follow.proofs.ReadingLemmas.{part_ends, part_taken}
use Rattle.pif_job_follow.proofs.following.read_part.Goals as goal

pub returns-in-Ok-end : goal.returns-in-Ok-end
returns-in-Ok-end g c = λ before u.
    part_ends before (g.R.Read.remaining c.args.reader.now) (g.R.Read.remaining c.read_some.new.reader) c.args.followed.now
    c.end.new.self c.in-Ok-end.verdict
    (subst (λ n. Consumes (g.R.Read.remaining c.args.reader.now) (g.R.Read.remaining c.read_some.new.reader) (take n c.read_some.new.chunk))
    c.if-count-eq0.true c.in-Ok.ensures.0)
    (c.in-Ok.ensures.2 c.if-count-eq0.true (omega (arith, c.read_some.auto.chunk))) c.in-Ok-end.ensures u

pub returns : goal.returns
returns g c =
    IfOk-weaker c.take.result _ _
    (λ v takes before u. part_taken before (g.R.Read.remaining c.args.reader.now) (g.R.Read.remaining c.read_some.new.reader)
    (take c.in-Ok.count c.read_some.new.chunk) c.args.followed.now c.take.new.self v c.in-Ok.ensures.0 takes u) c.take.ensures
