use Rattle.std.proofs.Common.{List, ◌++◌, reverse, subst, sym}
use Rattle.std.proofs.lemmas.Result.{on_ok_weaker}
use Rattle.pif_history_model.specs.declared.lines.Line.{Line}
use Rattle.pif_parts.specs.Standing.{IsPast}
use Rattle.pif_parts_judged.proofs.FollowingLemmas.{next_open}
use Rattle.pif_parts_judged.proofs.following.Judged.hear.Goals as goal

pub returns : goal.returns
returns c =
    on_ok_weaker c.hear.result
    (λ x limits front later h. record {
      count = h.count;
      legal = h.legal;
      stands = h.stands;
      at_first = h.at_first;
      past = subst (λ (ys : List Line). IsPast ys c.hear.new.self) (sym (next_open front later c.args.line.now))
          (x (reverse (front ++ later)) h.past);
    })
    c.hear.ensures
