-- Which calls are open behind lines, as a list that each line changes.
use Rattle.std.specs.Prelude.{ℕ, ◌==◌, Bool, true, false, not, List, [], ◌∷◌, ◌++◌, Option, Some, None, filter, if◌then◌else◌, ◌≡◌}
use Rattle.std.specs.List.{list_any}
use Rattle.pif_types.specs.declared.requests.Request.{Request}
use Rattle.pif_model.specs.Deadlines.{plain}
use Rattle.pif_history_model.specs.declared.lines.Line.{Line}
use Rattle.pif_history_model.specs.declared.lines.Line.TheVariants.{Begin, Answer, End}
use Rattle.pif_parts_model.specs.Quiet.{changed_by}
use Rattle.pif_parts.specs.declared.calls.OpenCall.{OpenCall}

-- the call of t among these
abbrev pub call_in : List OpenCall → ℕ → Option Request
call_in [] t = None
call_in (x ∷ xs) t = if x.thread == t then Some x.request else call_in xs t

-- no thread has two of them
abbrev pub AreApart : List OpenCall → Type 0
AreApart [] = Unit {0}
AreApart (x ∷ xs) = (call_in xs x.thread ≡ None) × AreApart xs

-- all but that of t
abbrev pub closed : ℕ → List OpenCall → List OpenCall
closed t xs = filter (λ x. not (x.thread == t)) xs

-- and t has this one open, without its deadline
abbrev pub opened : ℕ → Request → List OpenCall → List OpenCall
opened t q xs = closed t xs ++ record { thread = t; request = plain q } ∷ []

-- behind one more line
abbrev pub calls_after : Line → List OpenCall → List OpenCall
calls_after (Begin t q) xs = opened t q xs
calls_after (Answer t a) xs = closed t xs
calls_after (End t) xs = closed t xs
calls_after line xs = xs

-- whether a request changes the priority of u
abbrev pub is_number : ℕ → Option ℕ → Bool
is_number u None = false
is_number u (Some v) = v == u

abbrev pub changes : ℕ → Request → Bool
changes u q = is_number u (changed_by (Some q))

-- whether one of these calls changes the priority of u
abbrev pub any_changes : ℕ → List OpenCall → Bool
any_changes u xs = list_any (λ (x : OpenCall). changes u x.request) xs

-- whether none of these calls changes the priority that this one changes, if it changes any
abbrev pub none_changes : Option ℕ → List OpenCall → Bool
none_changes None xs = true
none_changes (Some u) xs = not (any_changes u xs)

abbrev pub changes_alone : Request → List OpenCall → Bool
changes_alone q xs = none_changes (changed_by (Some q)) xs
