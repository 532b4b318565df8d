use Rattle.std.specs.Prelude.{flat_map}
use Rattle.pif_model.specs.Calls.{threads_answer}
use Rattle.pif_text.specs.Json.{numbers}
use Rattle.pif_text_core.specs.Waiting.{conds_added, mutexes_added}
use Rattle.pif_story_states.specs.Graphs.{cond_parts, mutex_parts, parts_of, thread_edge, thread_node}
use Rattle.pif_story_states.proofs.ListLemmas.{four_texts}
use Rattle.pif_story_states.proofs.cores.append_parts.Goals as goal

pub returns : goal.returns
unfolding parts_of
returns c =
    let s = c.args.core.now in
    rw (c.in_ok-append_all-4.ensures, c.threads-2.ensures.value, c.in_ok-append_all-3.ensures, c.conds_added.ensures, c.in_ok-append_all-2.ensures, c.mutexes_added.ensures, c.in_ok-append_all.ensures, c.threads.ensures.value)
    (four_texts c.args.out.now.items (flat_map (thread_node s) (numbers (threads_answer s)))
    (flat_map (mutex_parts s) (numbers (mutexes_added s))) (flat_map (cond_parts s) (numbers (conds_added s)))
    (flat_map (thread_edge s) (numbers (threads_answer s))))
