-- The exchange writes the thread's number, or fails.
use Rattle.std.proofs.Common.{◌≡◌, ap, ◌∙◌}
use Rattle.pif_model.specs.Word.{word_of, held_by}
use Rattle.pif_model_lemmas.proofs.WordBits.{word_of-number}
use Rattle.pif_mutex.proofs.Exchanges.{own_exchange_done, own_exchange_failed}
use Rattle.pif_mutex.proofs.state.State.own_exchange.Goals as goal

pub returns-then-exchange : goal.returns-then-exchange
returns-then-exchange g c =
    let held : word_of c.number_of-number.result ≡ held_by c.args.t =
    word_of-number c.number_of-number.result c.number_of-number.ensures.bare
    ∙ ap held_by c.number_of-number.ensures.value in
    own_exchange_done c.args.request c.args.t c.args.m (word_of c.number_of-number.result)
    c.args.self.now c.exchange.new.self c.exchange.result _ held
    c.if-exchange.true c.exchange.ensures.value c.exchange.ensures.after c.end_by.ensures

pub returns-else-exchange : goal.returns-else-exchange
returns-else-exchange g c =
    own_exchange_failed c.args.request c.args.t c.args.m (word_of c.number_of-number.result)
    c.args.self.now c.exchange.new.self c.exchange.result _
    c.if-exchange.false c.exchange.ensures.value c.exchange.ensures.after c.go_on.ensures
