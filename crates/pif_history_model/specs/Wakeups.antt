-- Which waits may have been woken, by the lines of a history alone: a signal or a broadcast of their variable was open
-- together with them. Lines are listed newest first.
use Rattle.std.specs.Prelude.{ℕ, ◌≡◌, ◌==◌, Bool, true, false, List, [], ◌∷◌, Option, Some, None, if◌then◌else◌}
use Rattle.pif_types.specs.declared.requests.Request.{Request}
use Rattle.pif_types.specs.Shapes.{shape_of, waits}
use Rattle.pif_model.specs.Posix.{is_use, variable_of}
use Rattle.pif_history_model.specs.declared.lines.Line.{Line}
use Rattle.pif_history_model.specs.declared.lines.Line.TheVariants.{Begin, Answer}

-- the variable that a request waits for, if it is a wait
abbrev pub waited_variable : Request → Option ℕ
waited_variable q = waits (shape_of q)

-- whether a request signals or broadcasts c
abbrev pub is_use_of : ℕ → Request → Bool
is_use_of c q = if is_use q then variable_of q == c else false

-- the request of t's open call behind one more line, if that was it before
abbrev pub request_after : ℕ → Line → Option Request → Option Request
request_after t (Begin u q) r = if u == t then Some q else r
request_after t (Answer u a) r = if u == t then None else r
request_after t x r = r

-- the request of t's call, if it is open by these lines. Of a thread that ends it stays open: that allows for more
abbrev pub open_request : ℕ → List Line → Option Request
open_request t [] = None
open_request t (x ∷ xs) = request_after t x (open_request t xs)

-- a signal or a broadcast of c is open by these lines
pub record HasOpenUse (c : ℕ) (lines : List Line) : Type 0 where
  pub thread : ℕ
  pub request : Request
  pub is_open : open_request thread lines ≡ Some request
  pub uses : is_use_of c request ≡ true

-- whether a line begins a call of t
abbrev pub begins : ℕ → Line → Bool
begins t (Begin u q) = u == t
begins t x = false

-- whether a line begins a signal or a broadcast of c
abbrev pub begins_use : ℕ → Line → Bool
begins_use c (Begin u q) = is_use_of c q
begins_use c x = false

-- t's last call may have been woken by these lines, if it waits for c: a use of c was open as it began, or began since
pub data MayBeWoken (t c : ℕ) : List Line → Type 0 where
  -- a use of c was open as the call began
  found : (x : Line) (xs : List Line) → begins t x ≡ true → HasOpenUse c xs → MayBeWoken t c (x ∷ xs)
  -- a use of c begins since
  used : (x : Line) (xs : List Line) → begins t x ≡ false → begins_use c x ≡ true → MayBeWoken t c (x ∷ xs)
  -- it may have been by the lines before
  before : (x : Line) (xs : List Line) → begins t x ≡ false → MayBeWoken t c xs → MayBeWoken t c (x ∷ xs)
