-- The exchange writes the free word, or fails.
use Rattle.std.proofs.Common.{ap, ◌∙◌, arith}
use Rattle.pif_model.specs.Word.{word_of, is_bare}
use Rattle.pif_model.specs.Table.{cell_at}
use Rattle.pif_model_lemmas.proofs.WordBits.{word_of-number}
use Rattle.pif_mutex.proofs.Exchanges.{give_exchange_done, give_exchange_failed}
use Rattle.pif_mutex.proofs.state.State.give_exchange.Goals as goal

pub returns-then-exchange : goal.returns-then-exchange
returns-then-exchange g c =
    give_exchange_done c.args.request c.args.purpose c.args.t c.args.m (word_of 0) c.args.self.now c.exchange.new.self c.exchange.result _
    (word_of-number 0 (omega arith)) c.if-exchange.true
    (c.exchange.ensures.value ∙ ap (is_bare (cell_at c.args.self.now c.args.m).word) c.number_of-number.ensures.value)
    c.exchange.ensures.after c.given_up.ensures

pub returns-else-exchange : goal.returns-else-exchange
returns-else-exchange g c =
    give_exchange_failed c.args.request c.args.purpose c.args.t c.args.m (word_of 0) c.args.self.now c.exchange.new.self c.exchange.result _
    c.if-exchange.false
    (c.exchange.ensures.value ∙ ap (is_bare (cell_at c.args.self.now c.args.m).word) c.number_of-number.ensures.value)
    c.exchange.ensures.after c.go_on.ensures
