-- By which rules and within which limits the lines of a history are searched.
use Rattle.std.specs.Prelude.{ℕ}
use Rattle.pif_history_text.specs.Histories.{Heard, limits_of}
use Rattle.pif_judge_reasons.specs.declared.terms.Terms.{Terms}

-- By those of the history, with at most so many states for a line.
abbrev pub terms_of : Heard → (states : ℕ) → Terms
terms_of h most = record { rules = h.allowed; limits = limits_of h; states = most }
