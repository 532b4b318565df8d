-- A step of the machine that is searched, as a side sees it: one of the side is a step of the part too, and another one
-- leaves the part as it is.
use Rattle.std.proofs.Common.{ℕ, ◌≡◌, ◌∙◌, ◌==◌, ◌||◌, not, Bool, true, false, cond, List, [], ◌∷◌, Option, Some, None, refl, sym, ap, true≢false, eqb-true, eq-eqb, if◌then◌else◌, filter}
use Rattle.std.proofs.lemmas.Bool.{ne_eqb}
use Rattle.pif_model.specs.declared.events.Event.TheVariants as event
use Rattle.pif_model.specs.declared.events.Seen.TheVariants as seen
use Rattle.pif_model.specs.declared.events.Entry.{Entry}
use Rattle.pif_model.specs.declared.events.Entry.TheVariants as entry
use Rattle.pif_history_model.specs.declared.lines.Protocol.TheVariants.{PrioInherit}
use Rattle.pif_history_model.specs.declared.lines.Line.{Line}
use Rattle.pif_history_model.specs.declared.lines.Line.TheVariants.{Thread, Mutex, Cond, Begin, Answer, Dying, End, Tick}
use Rattle.pif_history_model.specs.Lines.{line_of, thread_of, is_among, is_line_among, dying_after}
use Rattle.pif_components_model.specs.Components.{Side, keeps, concerns, thread_of_entry, BeginsBeside}
use Rattle.pif_components_model.specs.Components.Name.{OfThread}
use Rattle.pif_components_model.specs.Sides.{LineBeside}

-- LINES AND ENTRIES

-- a line and the entry that it shows are of the same thread
thread_matches : (e : Entry) (k : Line) → line_of e ≡ Some k → thread_of_entry e ≡ thread_of k
thread_matches (entry.Thread t p) k h = (let is : Thread p ≡ k = cc in ap thread_of is)
thread_matches (entry.Mutex m i r) k h = (let is : Mutex i r PrioInherit ≡ k = cc in ap thread_of is)
thread_matches (entry.Cond c m) k h = (let is : Cond m ≡ k = cc in ap thread_of is)
thread_matches (entry.Step (event.Begin t q) seen.Begun) k h = (let is : Begin t q ≡ k = cc in ap thread_of is)
thread_matches (entry.Step (event.Go t) (seen.Answered a)) k h = (let is : Answer t a ≡ k = cc in ap thread_of is)
thread_matches (entry.Step (event.End t) seen.Ended) k h = (let is : End t ≡ k = cc in ap thread_of is)
thread_matches (entry.Step (event.Tick n) seen.Ticked) k h = (let is : Tick n ≡ k = cc in ap thread_of is)
thread_matches _ k h = absurd (cc)

-- so they belong to the same sides
pub kept : (x : Side) (e : Entry) (k : Line) → line_of e ≡ Some k → concerns x e ≡ keeps x k
kept x e k h = ap (λ (o : Option ℕ). elim o [ None ↦ true | Some t ↦ x (OfThread t) ]) (thread_matches e k h)

pub entry_beside : (x : Side) (e : Entry) (k : Line) → line_of e ≡ Some k → LineBeside x k → BeginsBeside x e
entry_beside x e k h b = λ t q is. b t q (let both : Some k ≡ Some (Begin t q) = sym h ∙ ap line_of is in cc)

-- WHO IS DYING

-- who stays once t is taken out
among_filter : (t u : ℕ) (us : List ℕ) → is_among (filter (λ v. not (v == t)) us) u ≡ (if u == t then false else is_among us u)
among_filter t u [] = step (u == t)
  where
    step : (b : Bool) → false ≡ (if b then false else false)
    step true = refl
    step false = refl
among_filter t u (v ∷ vs) = step (v == t) (v == u) (u == t) refl refl refl (among_filter t u vs)
  where
    step : (b c d : Bool) → (v == t) ≡ b → (v == u) ≡ c → (u == t) ≡ d
        → is_among (filter (λ v. not (v == t)) vs) u ≡ (if d then false else is_among vs u)
        → is_among (cond (not b) (v ∷ filter (λ v. not (v == t)) vs) (filter (λ v. not (v == t)) vs)) u
        ≡ (if d then false else (c || is_among vs u))
    step true c true e f g ih = ih
    step true false false e f g ih = ih
    step true true false e f g ih =
        absurd (true≢false (sym (eq-eqb u t (sym (eqb-true v u f) ∙ eqb-true v t e)) ∙ g))
    step false true true e f g ih =
        absurd (true≢false (sym (eq-eqb v t (eqb-true v u f ∙ eqb-true u t g)) ∙ e))
    step false false true e f g ih = ap (λ (z : Bool). z || is_among (filter (λ v. not (v == t)) vs) u) f ∙ ih
    step false c false e f g ih = ap (λ (z : Bool). z || is_among (filter (λ v. not (v == t)) vs) u) f ∙ ap (λ (z : Bool). c || z) ih

-- the same threads of the side are dying
abbrev pub SameDying : Side → List ℕ → List ℕ → Type 0
SameDying x us vs = (t : ℕ) → x (OfThread t) ≡ true → is_among vs t ≡ is_among us t

-- whether a thread of a line is on the side, or dying; a line may have none
abbrev on_side : Side → Option ℕ → Bool
on_side x None = true
on_side x (Some t) = x (OfThread t)

abbrev at_end : List ℕ → Option ℕ → Bool
at_end us None = false
at_end us (Some t) = is_among us t

by_thread : (x : Side) (us vs : List ℕ) → SameDying x us vs → (o : Option ℕ) → on_side x o ≡ true → at_end vs o ≡ at_end us o
by_thread x us vs h None on = refl
by_thread x us vs h (Some t) on = h t on

-- a line is of a thread of the side that is dying, or isn't, in both
pub line_among_same : (x : Side) (us vs : List ℕ) → SameDying x us vs → (k : Line) → keeps x k ≡ true → is_line_among vs k ≡ is_line_among us k
line_among_same x us vs h k on = by_thread x us vs h (thread_of k) on

-- behind the same line the same threads of the side are dying
pub dying_same : (x : Side) (us vs : List ℕ) → SameDying x us vs → (k : Line) → SameDying x (dying_after k us) (dying_after k vs)
dying_same x us vs h (Dying t) = λ u on. ap (λ (b : Bool). (t == u) || b) (h u on)
dying_same x us vs h (End t) =
    λ u on. among_filter t u vs ∙ ap (λ (b : Bool). if u == t then false else b) (h u on) ∙ sym (among_filter t u us)
dying_same x us vs h _ = h

-- a line of the other side changes nothing of it
pub dying_apart : (x : Side) (us vs : List ℕ) → SameDying x us vs → (k : Line) → keeps x k ≡ false → SameDying x (dying_after k us) vs
dying_apart x us vs h (Dying t) off = λ u on.
    h u on ∙ sym (ap (λ (b : Bool). b || is_among us u) (ne_eqb t u (λ e. true≢false (sym on ∙ ap (λ n. x (OfThread n)) (sym e) ∙ off))))
dying_apart x us vs h (End t) off = λ u on.
    h u on ∙ sym (among_filter t u us
    ∙ ap (λ (b : Bool). if b then false else is_among us u) (ne_eqb u t (λ e. true≢false (sym on ∙ ap (λ n. x (OfThread n)) e ∙ off))))
dying_apart x us vs h _ off = h
