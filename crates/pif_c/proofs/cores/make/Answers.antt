-- A core was made, or the heap refused a request.
use Rattle.pif_c.specs.Handles.{held}
use Rattle.pif_c.proofs.Making.{made_on, none_left_on}
use Rattle.pif_c.proofs.cores.make.Goals as goal

pub returns-in-Some : goal.returns-in-Some
returns-in-Some c =
    made_on c.args.limits (held c.args.handle.now) (held c.put.new.self) c.in-Some.core.value c.requires c.put.ensures
    c.in-Some.ensures c.threads-threads.ensures.range

pub returns-in-None : goal.returns-in-None
returns-in-None c = none_left_on c.args.limits (held c.args.handle.now) c.requires c.threads-threads.ensures.range
