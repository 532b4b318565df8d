-- Which entries are hidden, and which are shown.
use Rattle.std.proofs.Common.{ℕ, ◌≡◌, ◌⊎◌, true, false, List, [], ◌∷◌, ◌++◌, Some, length, suc, refl, subst, ap, inl, inr}
use Rattle.pif_types.specs.Bounds.{Bounds}
use Rattle.pif_model.specs.declared.events.Event.{Event}
use Rattle.pif_model.specs.declared.events.Event.TheVariants as event
use Rattle.pif_model.specs.declared.events.Seen.{Seen}
use Rattle.pif_model.specs.declared.events.Seen.TheVariants as seen
use Rattle.pif_model.specs.declared.events.Entry.{Entry}
use Rattle.pif_model.specs.declared.events.Entry.TheVariants as entry
use Rattle.pif_model.specs.Posix.{World, IsRun}
use Rattle.pif_model.specs.Posix.IsRun.{next}
use Rattle.pif_posix_steps.specs.Once as once
use Rattle.pif_history_model.specs.declared.lines.Line.{Line}
use Rattle.pif_history_model.specs.Lines.{line_of, is_among}
use Rattle.pif_history_model.specs.Shown.{is_hidden, GoesOn}

-- a hidden entry is a step that went or waited, or the end of a dying thread
pub record EndsOf (dying : List ℕ) (e : Entry) : Type 0 where
  pub thread : ℕ
  pub is : e ≡ entry.Step (event.End thread) seen.Ended
  pub among : is_among dying thread ≡ true

pub hidden-cases : (dying : List ℕ) (e : Entry) → is_hidden dying e ≡ true
    → (once.is_hidden e ≡ true) ⊎ EndsOf dying e
hidden-cases dying (entry.Step (event.Go t) seen.Went) h = inl refl
hidden-cases dying (entry.Step (event.Go t) seen.Waits) h = inl refl
hidden-cases dying (entry.Step (event.End t) seen.Ended) h = inr (record { thread = t; is = refl; among = h })
hidden-cases dying _ h = absurd (cc)

-- a Go that the posix machine hides is hidden
pub hidden-from_go : (dying : List ℕ) (t : ℕ) (s : Seen) → once.is_hidden (entry.Step (event.Go t) s) ≡ true
    → is_hidden dying (entry.Step (event.Go t) s) ≡ true
hidden-from_go dying t seen.Went h = refl
hidden-from_go dying t seen.Waits h = refl
hidden-from_go dying t _ h = absurd (cc)

-- an entry that a line shows is neither hidden nor refused
pub shown_not_hidden : (e : Entry) (line : Line) → line_of e ≡ Some line → once.is_hidden e ≡ false
shown_not_hidden (entry.Step (event.Go t) seen.Went) line h = absurd (cc)
shown_not_hidden (entry.Step (event.Go t) seen.Waits) line h = absurd (cc)
shown_not_hidden _ line h = refl

pub shown_not_refused : (e : Entry) (line : Line) → line_of e ≡ Some line → once.is_refused e ≡ false
shown_not_refused (entry.Step x (seen.Refused r)) line h = absurd (refused-no_line x r line h)
  where
    refused-no_line : (x : Event) (r : _) (line : Line) → line_of (entry.Step x (seen.Refused r)) ≡ Some line → ⊥
    refused-no_line (event.Begin t q) r line h = cc
    refused-no_line _ r line h = cc
shown_not_refused _ line h = refl

-- RUNS THAT GO ON

-- a run that goes on by no entry is where it was
pub record Stays (before : List World) (last : World) (older : List World) (newest : World) : Type 0 where
  pub states : older ≡ before
  pub state : newest ≡ last

pub stays-from_none : {before older : List World} {last newest : World} → GoesOn [] before last older newest
    → Stays before last older newest
stays-from_none {before} {older} {last} {newest} g = go g.passed g.count g.states
  where
    go : (p : List World) → length p ≡ 0 → newest ∷ older ≡ p ++ last ∷ before → Stays before last older newest
    go [] n e = record { states = cc; state = cc }
    go (x ∷ p) n e = absurd (cc)

-- a run that goes on by one entry more went on by the others before
pub goes_on_less : {e : Entry} {piece : List Entry} {before r : List World} {last w newest : World}
    → GoesOn (e ∷ piece) before last (w ∷ r) newest → GoesOn piece before last r w
goes_on_less {e} {piece} {before} {r} {last} {w} {newest} g = go g.passed g.count g.states
  where
    go : (p : List World) → length p ≡ length (e ∷ piece) → newest ∷ w ∷ r ≡ p ++ last ∷ before
        → GoesOn piece before last r w
    go [] n s = absurd (cc)
    go (x ∷ p) n s = record { passed = p; count = cc; states = cc }

-- and goes on by one entry more
pub goes_on_more : {e : Entry} {piece : List Entry} {before older : List World} {last newest v : World}
    → GoesOn piece before last older newest → GoesOn (e ∷ piece) before last (newest ∷ older) v
goes_on_more {v = v} g =
    record { passed = v ∷ g.passed; count = ap (λ n. suc n) g.count; states = ap (λ (x : List World). v ∷ x) g.states }

pub goes_on_none : {before : List World} {last : World} → GoesOn [] before last before last
goes_on_none = record { passed = []; count = refl; states = refl }

-- the run up to where it goes on
pub run_before : (l : Bounds) (piece h : List Entry) (before older : List World) (last newest : World)
    → IsRun l (piece ++ h) older newest → GoesOn piece before last older newest → IsRun l h before last
run_before l [] h before older last newest r g =
    let s : Stays before last older newest = stays-from_none g in
    subst (λ (x : List World). IsRun l h x last) s.states (subst (λ (x : World). IsRun l h older x) s.state r)
run_before l (e ∷ piece) h before older last newest (next {r = r} {w = w} x s) g =
    run_before l piece h before r last w x (goes_on_less g)
