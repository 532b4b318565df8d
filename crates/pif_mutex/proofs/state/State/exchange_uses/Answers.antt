-- The parts fit together after the exchange, which writes the condition word of one variable, or none.
use Rattle.std.specs.Prelude.{◌==◌}
use Rattle.pif_model.specs.Word.{set_cond_word}
use Rattle.pif_word.specs.declared.cells.Cell.TheVariants.{Cond}
use Rattle.pif_word.specs.WordMap.{words_of, bits_at}
use Rattle.pif_mutex.proofs.Exchanges.{exchanged_uses, exchanged_table}
use Rattle.pif_mutex.proofs.Assembly.{uses_assembled}
use Rattle.pif_mutex.proofs.state.State.exchange_uses.Goals as goal

pub invariant_of-self : goal.invariant_of-self
invariant_of-self g c =
    let hit = bits_at c.self.inside.words (Cond c.args.c) == c.args.expected in
    let words = exchanged_uses hit c.self.inside.words c.compare_exchange.new.self c.args.c c.args.new
    c.compare_exchange.ensures.stored in
    record {
      assembled = uses_assembled c.self.invariant.assembled hit c.args.c c.args.new
          (words_of c.compare_exchange.new.self) words;
      lines = c.self.invariant.lines;
      timers = c.self.invariant.timers;
      mutexes = c.self.invariant.mutexes;
      conds = c.self.invariant.conds;
    }

pub returns-clause-after : goal.returns-clause-after
returns-clause-after g c =
    let hit = bits_at c.self.inside.words (Cond c.args.c) == c.args.expected in
    let words = exchanged_uses hit c.self.inside.words c.compare_exchange.new.self c.args.c c.args.new
    c.compare_exchange.ensures.stored in
    rw (← c.self.view_is)
    (exchanged_table hit _ (set_cond_word (words_of c.self.inside.words) c.args.c c.args.new)
    (words_of c.compare_exchange.new.self) words)
