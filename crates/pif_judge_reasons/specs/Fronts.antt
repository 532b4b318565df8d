-- How many first lines of a history are known to be legal.
use Rattle.std.specs.Prelude.{ℕ, ◌≤◌, ◌<◌, List, length, take, Option, None, Some}
use Rattle.pif_types.specs.Bounds.{Bounds}
use Rattle.pif_rules_model.specs.declared.rules.Rules.{Rules}
use Rattle.pif_history_model.specs.declared.lines.Line.{Line}
use Rattle.pif_history_model.specs.Verdicts.{IsLegal}
use Rattle.pif_judge_reasons.specs.declared.fronts.Front.{Front}

-- Some run shows so many first lines of these, but not all of them are among them: one with these labels.
abbrev pub IsFront : Rules → Bounds → List Line → Front → Type 0
IsFront r l lines f = (1 ≤ f.count) × (f.count < length lines) × IsLegal r l (take f.count lines) f.labels.items

-- How many lines that are; none, if there is no such front.
abbrev pub count_of : Option Front → ℕ
count_of None = 0
count_of (Some f) = f.count
