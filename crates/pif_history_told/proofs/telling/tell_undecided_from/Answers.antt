use Rattle.std.proofs.Common.{refl}
use Rattle.std.proofs.lemmas.Result.{on_ok_weaker}
use Rattle.pif_history_told.proofs.Appending.{grown_first, grown_more, grown_same}
use Rattle.pif_history_told.proofs.telling.tell_undecided_from.Goals as goal

pub returns : goal.returns
returns c =
    let h1 = grown_first c.args.out.now.items _ _ c.in_ok-push_numbered.ensures in
    let h2 = grown_more _ _ _ _ _ h1 c.in_ok-extend_from_slice.ensures.items in
    on_ok_weaker c.tell_line.result (λ e. grown_same _ _ _ _ (grown_more _ _ _ _ _ h2 e) refl) c.tell_line.ensures
