use Rattle.std.proofs.Common.{subst}
use Rattle.std.proofs.lemmas.Result.{on_ok_weaker}
use Rattle.pif_parts.specs.Resting.{Changes}
use Rattle.pif_parts.proofs.RestLemmas.{rested}
use Rattle.pif_parts.proofs.past.Past.hear.Goals as goal

pub returns : goal.returns
returns c =
    on_ok_weaker c.hear-2.result
    (λ x lines h. record {
      watch = x lines h.watch;
      rest = rested lines c.args.self.now.watch h.watch c.args.line.now c.args.self.now.rest c.hear.new.self h.rest
          (subst (λ o. Changes c.args.line.now o c.args.self.now.rest c.hear.new.self) c.call_answered-call.ensures c.in_ok-hear.ensures);
    })
    c.hear-2.ensures
