-- Parts to which nothing was added are the table to which nothing was added.
use Rattle.std.proofs.Common.{refl}
use Rattle.pif_mutex.proofs.Assembly.{words_free_at_first}
use Rattle.pif_mutex.proofs.state.State.new.Goals as goal

pub returns : goal.returns
returns g c =
    rw (
      c.in_ok-words.ensures.made,
      c.in_ok-lists.ensures.made,
      c.in_ok-lines.ensures.items,
      c.in_ok-timers.ensures.items,
      c.in_ok-mutexes.ensures.items,
      c.in_ok-conds.ensures.items,
      c.new-nobody.ensures,
      c.requires.new,
      words_free_at_first
          c.args.limits,
    )
    refl
