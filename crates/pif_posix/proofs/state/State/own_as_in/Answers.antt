use Rattle.std.proofs.Common.{ℕ, arith, ◌∙◌, ap, get_or}
use Rattle.pif_rules_model.specs.Lending.{with_owner}
use Rattle.pif_posix.proofs.SeeingLending.{owned_more}
use Rattle.pif_posix.proofs.state.State.own_as_in.Goals as goal

pub loop-i-preserved : goal.loop-i-preserved
loop-i-preserved c =
    owned_more c.args.other.now c.args.mutexes.now c.loop-i.i 0 c.args.self.now c.loop-i.self c.own.new.self (omega (arith, c.loop-i-test.true)) c.loop-i.invariant
    (c.in_ok-own.ensures ∙ ap (λ (o : ℕ). with_owner (get_or c.args.mutexes.now c.loop-i.i 0) o c.loop-i.self) c.owner_or_none-owner.ensures)
