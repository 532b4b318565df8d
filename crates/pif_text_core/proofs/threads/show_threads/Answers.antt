use Rattle.std.specs.Prelude.{option_copied}
use Rattle.pif_text_core.specs.Changes.{new_thread_line}
use Rattle.pif_text_core.proofs.ListLemmas.{flat_next, flat_none}
use Rattle.pif_text_core.proofs.TellingLemmas.{nothing, same, then}
use Rattle.pif_text_core.proofs.threads.show_threads.Goals as goal

pub loop-place-init : goal.loop-place-init
loop-place-init g c = same (flat_none (new_thread_line c.args.names.now (option_copied c.args.before) c.args.core.now)) (nothing _ _)

pub loop-place-preserved : goal.loop-place-preserved
loop-place-preserved g c =
    same (flat_next (new_thread_line c.args.names.now (option_copied c.args.before) c.args.core.now) c.loop-place.place)
    (then c.loop-place.invariant c.show_thread_if_new.ensures)
