-- The parts fit together after the exchange, which writes the word of one mutex, or none.
use Rattle.std.specs.Prelude.{◌==◌}
use Rattle.std.specs.Result.{is_ok}
use Rattle.pif_model.specs.Word.{word_of, set_word}
use Rattle.pif_word.specs.declared.cells.Cell.TheVariants.{Mutex}
use Rattle.pif_word.specs.WordMap.{words_of, bits_at}
use Rattle.pif_mutex.proofs.Exchanges.{exchanged_words, exchanged_table}
use Rattle.pif_mutex.proofs.Assembly.{exchanged_assembled}
use Rattle.pif_mutex.proofs.state.State.exchange.Goals as goal

pub invariant_of-self : goal.invariant_of-self
invariant_of-self g c =
    let bits = bits_at c.self.inside.words (Mutex c.args.m) in
    let words = exchanged_words (bits == c.args.expected) bits c.compare_exchange.result c.self.inside.words
    c.compare_exchange.new.self c.args.m c.args.new
    c.compare_exchange.ensures.value c.compare_exchange.ensures.stored in
    record {
      assembled = exchanged_assembled c.self.invariant.assembled (is_ok c.compare_exchange.result) c.args.m
          (word_of c.args.new) (words_of c.compare_exchange.new.self) words;
      lines = c.self.invariant.lines;
      timers = c.self.invariant.timers;
      mutexes = c.self.invariant.mutexes;
      conds = c.self.invariant.conds;
    }

pub returns-clause-after : goal.returns-clause-after
returns-clause-after g c =
    let bits = bits_at c.self.inside.words (Mutex c.args.m) in
    let words = exchanged_words (bits == c.args.expected) bits c.compare_exchange.result c.self.inside.words
    c.compare_exchange.new.self c.args.m c.args.new
    c.compare_exchange.ensures.value c.compare_exchange.ensures.stored in
    rw (← c.self.view_is, c.is_ok.ensures.value)
    (exchanged_table (is_ok c.compare_exchange.result) _
    (set_word (words_of c.self.inside.words) c.args.m (word_of c.args.new))
    (words_of c.compare_exchange.new.self) words)
