use Rattle.std.proofs.Common.{List, [], refl, reverse, subst, sym}
use Rattle.pif_types.specs.Bounds.{Bounds}
use Rattle.pif_history_model.specs.declared.lines.Line.{Line}
use Rattle.pif_parts.specs.Standing.{StandFor}
use Rattle.pif_parts_judged.specs.Following.{lines_most}
use Rattle.pif_parts_judged.proofs.FollowingLemmas.{none_shown, nothing_stands}
use Rattle.pif_parts_judged.proofs.following.Judged.new.Goals as goal

pub returns : goal.returns
returns c =
    let stands : (m : Bounds) → StandFor m lines_most (reverse c.new-2.result.items) [] =
    λ m. subst (λ (ys : List Line). StandFor m lines_most (reverse ys) []) (sym c.new-2.ensures.items) (nothing_stands m lines_most) in
    λ limits. record {
      count = refl;
      legal = none_shown limits;
      stands = stands limits;
      at_first = λ none. stands;
      past = c.in_ok-new.ensures;
    }
