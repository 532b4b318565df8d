use Rattle.std.proofs.Common.{subst}
use Rattle.pif_job_follow.specs.Following.{ReadsPart}
use Rattle.pif_job_follow.proofs.ReadingLemmas.{under_first}
use Rattle.pif_job_follow.proofs.following.read_all.Goals as goal

pub loop-part-init : goal.loop-part-init
loop-part-init g c = under_first (g.R.Read.remaining c.args.reader.now) c.args.followed.now c.requires

pub returns-in-Some : goal.returns-in-Some
returns-in-Some g c =
    subst (λ v. ReadsPart (g.R.Read.remaining c.args.reader.now) (g.R.Read.remaining c.read_part.new.reader) c.read_part.new.followed v)
    c.in-Some.is (c.in_ok-verdict.ensures (g.R.Read.remaining c.args.reader.now) c.loop-part.invariant)

pub loop-part-preserved : goal.loop-part-preserved
loop-part-preserved g c =
    subst (λ v. ReadsPart (g.R.Read.remaining c.args.reader.now) (g.R.Read.remaining c.read_part.new.reader) c.read_part.new.followed v)
    c.in-None.is (c.in_ok-verdict.ensures (g.R.Read.remaining c.args.reader.now) c.loop-part.invariant)
