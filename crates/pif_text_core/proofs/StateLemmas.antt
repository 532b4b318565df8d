-- The text of a state, or of what has changed, by its parts.
use Rattle.std.proofs.Common.{◌≡◌, ℕ, List, ◌++◌, Option, Some, None, refl, ap, append-nil}
use Rattle.std.specs.Prelude.{[], codes, flat_map}
use Rattle.pif_model.specs.Table.{Table}
use Rattle.pif_model.specs.Calls.{threads_answer}
use Rattle.pif_text.specs.Json.{numbers}
use Rattle.pif_text_core.specs.Waiting.{conds_added, mutexes_added}
use Rattle.pif_text_core.specs.Changes.{changes_text, lines_text, new_lines}
use Rattle.pif_text_core.specs.Texts.{chain_line_at, cond_line, mutex_line, ready_line, state_text, thread_line, time_line}

-- if there was nothing before, each line is new, and no chain is gone
pub whole_lines : (names : List (List ℕ)) (before : Option Table) (now : Table) → new_lines names before now ≡ lines_text names before now
unfolding state_text changes_text
whole_lines names None now =
    ap (λ l. l ++ codes "\n") (append-nil (time_line 0 now.time ++ flat_map (thread_line names now) (numbers (threads_answer now))
    ++ flat_map (mutex_line names now) (numbers (mutexes_added now)) ++ flat_map (cond_line names now) (numbers (conds_added now))
    ++ ready_line names [] now ++ flat_map (chain_line_at names now) (numbers (threads_answer now))))
whole_lines names (Some before) now = refl
