-- Clients whose logs are just the calls of their threads are one for each thread, have their receipts, and together
-- all answers.
use Rattle.std.proofs.Common.{◌∙◌, List, ap, sym, subst, count_by}
use Rattle.std.specs.List.{All}
use Rattle.std.proofs.lemmas.List.Elements.{All-weaker}
use Rattle.pif_model.specs.declared.events.Entry.{Entry}
use Rattle.pif_desk.specs.Rooms.{ClientState, RoomState, history_of, IsExact}
use Rattle.pif_model.specs.Posix.{IsRun}
use Rattle.pif_desk.specs.Settling.{Settles, HasReceipts, is_answer}
use Rattle.pif_desk.proofs.Receipts.{receipts_held}
use Rattle.pif_desk.proofs.Answering.{answers_settle}
use Rattle.pif_desk.proofs.Pigeons.{one_client}
use Rattle.pif_desk.proofs.room.Room.settle.Goals as goal

pub returns-in-None-clause-settled : goal.returns-in-None-clause-settled
returns-in-None-clause-settled c =
    subst (λ (r : RoomState). Settles c.args.clients.items r.journal) c.self.view_is
    (subst (λ (cs : List ClientState). Settles cs c.self.inside.journal.items) c.as_slice.ensures.value
    (subst (λ (j : List Entry). Settles c.as_slice.result.now j) c.as_slice-2.ensures.value c.in-None.ensures))

pub returns-in-None-clause-one_each : goal.returns-in-None-clause-one_each
returns-in-None-clause-one_each c =
    let s = returns-in-None-clause-settled c in one_client c.args.clients.items c.args.self.journal s.counted s.known

pub returns-in-None-clause-sum : goal.returns-in-None-clause-sum
returns-in-None-clause-sum c =
    let legal = c.into_book.ensures.legal in
    c.into_book.ensures.answered ∙ ap (λ (j : List Entry). count_by is_answer j) c.into_book.ensures.entries
    ∙ answers_settle c.into_book.result.limits c.args.clients.items c.args.self.journal legal.states legal.last
    (subst (λ (j : List Entry). IsRun c.into_book.result.limits (history_of j) legal.states legal.last)
    c.into_book.ensures.entries legal.run)
    (returns-in-None-clause-settled c)

pub returns-in-None-clause-receipts : goal.returns-in-None-clause-receipts
returns-in-None-clause-receipts c =
    let clients = c.args.clients.items in
    let journal = c.args.self.journal in
    subst (λ (j : List Entry). All (λ d. HasReceipts d j) clients) (sym c.into_book.ensures.entries)
    (All-weaker (λ d. IsExact d journal) (λ d. HasReceipts d journal) (receipts_held journal) clients
    (returns-in-None-clause-settled c).exact)
