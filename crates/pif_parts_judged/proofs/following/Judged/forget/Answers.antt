use Rattle.std.proofs.Common.{◌∙◌, arith, refl, sym}
use Rattle.pif_parts_judged.proofs.FollowingLemmas.{grown, stays}
use Rattle.pif_parts_judged.proofs.following.Judged.forget.Goals as goal

pub returns-then-later-eq0 : goal.returns-then-later-eq0
returns-then-later-eq0 c = λ limits front lines h len legal stands.
    stays limits front lines c.args.self.now (len ∙ c.if-later-eq0.true) h

pub returns-in-Some : goal.returns-in-Some
returns-in-Some c = λ limits front lines h len legal stands.
    grown limits front lines c.args.self.now _ h (omega (arith, c.in-Some.ensures, len)) refl legal stands
    (λ none. c.if-later-eq0.false (sym len ∙ none))
