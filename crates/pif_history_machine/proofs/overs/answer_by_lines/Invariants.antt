use Rattle.std.proofs.Common.{◌≡◌, drop}
use Rattle.pif_history_model.specs.Known.{known_answer}
use Rattle.pif_history_machine.proofs.overs.answer_by_lines.Given as goal

abbrev pub invariant-loop-place : goal.invariant-loop-place
invariant-loop-place l = known_answer l.thread (drop l.from l.lines) ≡ known_answer l.thread (drop l.place l.lines)
