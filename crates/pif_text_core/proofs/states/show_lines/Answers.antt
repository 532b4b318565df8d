use Rattle.std.specs.Prelude.{option_copied}
use Rattle.pif_text_core.proofs.StateLemmas.{whole_lines}
use Rattle.pif_text_core.proofs.TellingLemmas.{same, then}
use Rattle.pif_text_core.proofs.states.show_lines.Goals as goal

pub returns : goal.returns
returns g c =
    same (whole_lines c.args.names.now (option_copied c.args.before) c.args.core.now)
    (then (then (then (then (then (then (then c.show_time.ensures c.show_threads.ensures) c.show_mutexes.ensures)
    c.show_conds.ensures) c.show_run_queue.ensures) c.show_chains.ensures) c.show_no_chain.ensures) c.words.ensures)
