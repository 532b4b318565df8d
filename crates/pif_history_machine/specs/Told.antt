-- What the lines before a line tell of one thread and of what was added.
use Rattle.std.specs.Prelude.{ℕ, ◌≡◌, Bool, true, false, List}
use Rattle.pif_history_model.specs.declared.lines.Line.{Line}
use Rattle.pif_history_model.specs.Lines.{is_among, dying_by, halted_by}
use Rattle.pif_history_model.specs.Refused.{threads_in, mutexes_in, conds_in, time_by, is_open, is_gone}
use Rattle.pif_history_machine.specs.declared.refused.Told.{Told}

-- these lines, newest first, tell it of t
pub record IsTold (t : ℕ) (lines : List Line) (x : Told) : Type 0 where
  pub threads : x.threads ≡ threads_in lines
  pub mutexes : x.mutexes ≡ mutexes_in lines
  pub conds : x.conds ≡ conds_in lines
  pub time : x.time ≡ time_by lines
  pub calling : x.open_call ≡ is_open lines t
  pub gone : x.gone ≡ is_gone lines t
  pub dying : x.dying ≡ is_among (dying_by lines) t
  pub halted : x.halted ≡ halted_by lines

-- once the thread, if it is this one, has ended
abbrev pub after_end : Bool → Told → Told
after_end true x = record x { gone = true; dying = false }
after_end false x = x
