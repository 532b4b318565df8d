-- What is said of the lines of a history, oldest first, if these rules are allowed.
use Rattle.std.specs.Prelude.{ℕ, zero, suc, ◌≡◌, ◌≤◌, List, length, reverse, Option}
use Rattle.pif_types.specs.Bounds.{Bounds}
use Rattle.pif_search.specs.declared.verdicts.Verdict.{Verdict as Found}
use Rattle.pif_search.specs.declared.verdicts.Verdict.TheVariants as found
use Rattle.pif_rules_model.specs.declared.rules.Rules.{Rules}
use Rattle.pif_history_machine.specs.declared.verdicts.Verdict.{Verdict}
use Rattle.pif_history_machine.specs.declared.verdicts.Verdict.TheVariants.{Legal, Illegal, Undecided}
use Rattle.pif_history_model.specs.declared.lines.Line.{Line}
use Rattle.pif_history_model.specs.declared.labels.Label.{Label}
use Rattle.pif_history_model.specs.declared.refusals.LineRefusal.{LineRefusal}
use Rattle.pif_history_model.specs.Refused.{refusal_of_line}
use Rattle.pif_history_model.specs.Verdicts.{IsLegal, IsIllegal}

-- a verdict on these lines: a witness; how many of them no run shows; or nothing but that it is one of them
abbrev pub IsVerdictOf : Rules → Bounds → List Line → Verdict → Type 0
IsVerdictOf r l lines (Legal witness) = IsLegal r l lines witness.items
IsVerdictOf r l lines (Illegal n) = (1 ≤ n) × (n ≤ length lines) × IsIllegal r l lines n
IsVerdictOf r l lines (Undecided n) = (1 ≤ n) × (n ≤ length lines)

-- the number of a line from 1: a search that gave up before the first one gave up at it
abbrev pub line_number : ℕ → ℕ
line_number zero = 1
line_number (suc n) = suc n

-- the verdict of a search, on some lines
abbrev pub verdict_from : Found Label → Verdict
verdict_from (found.Legal witness) = Legal witness
verdict_from (found.Illegal n) = Illegal n
verdict_from (found.Undecided n) = Undecided (line_number n)

-- why no run has the line behind these, oldest first, whatever was answered
abbrev pub IsRefusalThere : Bounds → List Line → Line → Option LineRefusal → Type 0
IsRefusalThere l before line why = why ≡ refusal_of_line l (reverse before) line
