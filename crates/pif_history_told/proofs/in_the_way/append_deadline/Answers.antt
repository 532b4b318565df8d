use Rattle.std.proofs.Common.{append_assoc, sym}
use Rattle.std.specs.Prelude.{codes}
use Rattle.std.proofs.lemmas.Result.{on_ok_weaker}
use Rattle.pif_history_told.specs.InTheWay.{fact_words, numbered}
use Rattle.pif_history_told.proofs.Appending.{grown_first, grown_more, grown_same}
use Rattle.pif_history_told.proofs.in_the_way.append_deadline.Goals as goal

pub returns : goal.returns
unfolding fact_words
returns c =
    let h1 = grown_first c.args.out.now.items _ _ c.in_ok-append_numbered.ensures in
    let apart = append_assoc (numbered (codes "the deadline of t") c.args.thread) (numbered (codes " is ") c.args.deadline)
    (numbered (codes ", and the time is ") c.args.time) in
    on_ok_weaker c.append_both.result (λ e. grown_same _ _ _ _ (grown_more _ _ _ _ _ h1 e) (sym apart)) c.append_both.ensures
