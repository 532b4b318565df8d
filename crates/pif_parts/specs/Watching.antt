-- What lines tell of where a history is quiet.
use Rattle.std.specs.Prelude.{ℕ, ◌≡◌, ◌==◌, ◌&&◌, Bool, true, not, List, [], ◌∷◌, ◌++◌, filter, None, Option, false}
use Rattle.std.specs.List.{list_any}
use Rattle.pif_types.specs.declared.requests.Request.{Request}
use Rattle.pif_history_model.specs.declared.lines.Line.{Line}
use Rattle.pif_history_model.specs.declared.lines.Line.TheVariants.{Begin, Answer, Dying, End}
use Rattle.pif_history_model.specs.Lines.{is_among, dying_by}
use Rattle.pif_parts_model.specs.Quiet.{AreOrderly, call_by, holds_by}
use Rattle.pif_parts.specs.declared.calls.OpenCall.{OpenCall}
use Rattle.pif_parts.specs.declared.holdings.Holding.{Holding}
use Rattle.pif_parts.specs.declared.watch.Watch.{Watch}
use Rattle.pif_parts.specs.Calls.{call_in, calls_after, changes_alone, AreApart}
use Rattle.pif_parts.specs.Holdings.{count_in, held_after, AreSome}

-- whether a list is empty
abbrev pub is_none : {A : Type 0} → List A → Bool
is_none [] = true
is_none (x ∷ xs) = false

-- who is dying, the newest last
abbrev pub dying_list : Line → List ℕ → List ℕ
dying_list (Dying t) us = us ++ t ∷ []
dying_list (End t) us = filter (λ u. not (u == t)) us
dying_list line us = us

-- whether t has one of these calls open; and whether it holds anything by these
abbrev pub is_calling : ℕ → List OpenCall → Bool
is_calling t calls = list_any (λ (x : OpenCall). x.thread == t) calls

abbrev pub is_holding : ℕ → List Holding → Bool
is_holding t held = list_any (λ (x : Holding). x.thread == t) held

-- whether t has no call open, and holds nothing
abbrev pub is_idle : ℕ → List OpenCall → List Holding → Bool
is_idle t calls held = not (is_calling t calls) && not (is_holding t held)

-- whether a line is orderly, if these calls are open before it, and this is held
abbrev pub is_orderly : Line → List OpenCall → List Holding → Bool
is_orderly (Begin t q) calls held = changes_alone q calls
is_orderly (Dying t) calls held = is_idle t calls held
is_orderly (End t) calls held = is_idle t calls held
is_orderly line calls held = true

-- a watch has heard one more line
pub record Hears (line : Line) (before after : Watch) : Type 0 where
  pub calls : after.calls.items ≡ calls_after line before.calls.items
  pub held : after.held.items ≡ held_after line before.calls.items before.held.items
  pub dying : after.dying.items ≡ dying_list line before.dying.items
  pub orderly : after.orderly ≡ (before.orderly && is_orderly line before.calls.items before.held.items)

-- a watch has heard these lines, newest first
pub record HasHeard (lines : List Line) (watch : Watch) : Type 0 where
  pub calls : (t : ℕ) → call_in watch.calls.items t ≡ call_by lines t
  pub apart : AreApart watch.calls.items
  pub held : (t m : ℕ) → count_in watch.held.items t m ≡ holds_by lines t m
  pub some : AreSome watch.held.items
  pub dying : (t : ℕ) → is_among watch.dying.items t ≡ is_among (dying_by lines) t
  pub orderly : watch.orderly ≡ true → AreOrderly lines
  pub told : AreOrderly lines → watch.orderly ≡ true

-- the call that a line answers, if it answers one that is open
abbrev pub call_answered : Watch → Line → Option Request
call_answered watch (Answer t a) = call_in watch.calls.items t
call_answered watch line = None

-- whether nothing is open, held or dying, and the lines are orderly
abbrev pub is_still : Watch → Bool
is_still watch =
    watch.orderly && (is_none watch.calls.items && (is_none watch.held.items && is_none watch.dying.items))
