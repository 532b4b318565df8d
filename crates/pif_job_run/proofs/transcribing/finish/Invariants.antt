use Rattle.std.proofs.Common.{◌≡◌, ◌-◌, ◌+◌, ◌*◌, ◌≤◌, ◌++◌}
use Rattle.arrayvec.specs.ArrayVec.{array_vec_len}
use Rattle.pif_model.specs.Lines.{goes_on}
use Rattle.pif_script_model.specs.Transcripts.{entry_lines, going_entries}
use Rattle.pif_job_run.proofs.transcribing.finish.Given as goal

abbrev pub invariant-loop-turn : goal.invariant-loop-turn
invariant-loop-turn l =
    (goes_on (23 - l._turn) l.thread l.core ≡ goes_on 23 l.thread l.initial.core)
    × (l.output.items ++ entry_lines (going_entries (23 - l._turn) l.thread l.core)
    ≡ l.initial.output.items ++ entry_lines (going_entries 23 l.thread l.initial.core))
    × (array_vec_len l.output ≤ array_vec_len l.initial.output + 106 * l._turn)
