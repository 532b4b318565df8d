use Rattle.std.proofs.Common.{ap, sym}
use Rattle.std.proofs.lemmas.Result.{on_ok_weaker}
use Rattle.pif_history_told.specs.InTheWay.{in_the_way_member}
use Rattle.pif_history_told.proofs.Appending.{grown_first, grown_more, grown_same, on_ok_grown}
use Rattle.pif_history_told.proofs.in_the_way.append_in_the_way.Goals as goal

pub returns : goal.returns
unfolding in_the_way_member
returns c =
    let h1 = grown_first c.args.out.now.items _ _ c.in_ok-extend_from_slice.ensures.items in
    let h2 = grown_more _ _ _ _ _ h1 c.in_ok-append_words.ensures in
    on_ok_weaker c.extend_from_slice-2.result
    (λ e. grown_same _ _ _ _ (grown_more _ _ _ _ _ h2 e) (ap in_the_way_member (sym c.in-Some.is)))
    (on_ok_grown c.extend_from_slice-2.result _ _ _ c.extend_from_slice-2.ensures.items)
