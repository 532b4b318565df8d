-- What the end of a thread changes of what the lines tell.
use Rattle.std.proofs.Common.{ℕ, ◌≡◌, ◌≢◌, ◌∙◌, ◌==◌, ◌||◌, Bool, true, false, not, List, [], ◌∷◌, refl, sym, subst, ap, if◌then◌else◌}
use Rattle.std.specs.List.{filter}
use Rattle.std.proofs.lemmas.Bool.{eqb-true, eqb-false, ne_eqb}
use Rattle.pif_history_model.specs.declared.lines.Line.{Line}
use Rattle.pif_history_model.specs.declared.lines.Line.TheVariants.{End}
use Rattle.pif_history_model.specs.Lines.{is_among, dying_by}
use Rattle.pif_history_machine.specs.declared.refused.Told.{Told}
use Rattle.pif_history_machine.specs.Told.{IsTold, after_end}

-- a thread that was left out is not among the others
left_out : (us : List ℕ) (t : ℕ) → is_among (filter (λ x. not (x == t)) us) t ≡ false
left_out [] t = refl
left_out (x ∷ us) t = go (left_out us t) (x == t) refl
  where
    go : is_among (filter (λ y. not (y == t)) us) t ≡ false → (b : Bool) → (x == t) ≡ b
        → is_among (if not b then x ∷ filter (λ y. not (y == t)) us else filter (λ y. not (y == t)) us) t ≡ false
    go ih true e = ih
    go ih false e = rw e ih

-- another one is as before
left_in : (us : List ℕ) (t u : ℕ) → u ≢ t → is_among (filter (λ x. not (x == u)) us) t ≡ is_among us t
left_in [] t u n = refl
left_in (x ∷ us) t u n = go (left_in us t u n) (x == u) refl
  where
    go : is_among (filter (λ y. not (y == u)) us) t ≡ is_among us t → (b : Bool) → (x == u) ≡ b
        → is_among (if not b then x ∷ filter (λ y. not (y == u)) us else filter (λ y. not (y == u)) us) t ≡ is_among (x ∷ us) t
    go ih true e =
        let same : x ≡ u = eqb-true x u e in
        let other : (x == t) ≡ false = ne_eqb x t (λ h. n (sym same ∙ h)) in
        ih ∙ sym (ap (λ b. b || is_among us t) other)
    go ih false e = ap (λ b. (x == t) || b) ih

pub told_end : (t u : ℕ) (lines : List Line) (x : Told) → IsTold t lines x → IsTold t (End u ∷ lines) (after_end (u == t) x)
told_end t u lines x h = go (u == t) refl
  where
    go : (b : Bool) → (u == t) ≡ b → IsTold t (End u ∷ lines) (after_end b x)
    go true e =
        let same : u ≡ t = eqb-true u t e in
        record {
          threads = h.threads;
          mutexes = h.mutexes;
          conds = h.conds;
          time = h.time;
          calling = h.calling;
          gone = rw e refl;
          dying = sym (subst (λ (k : ℕ). is_among (filter (λ y. not (y == k)) (dying_by lines)) t ≡ false) (sym same) (left_out (dying_by lines) t));
          halted = h.halted;
        }
    go false e =
        let other : u ≢ t = eqb-false u t e in
        record {
          threads = h.threads;
          mutexes = h.mutexes;
          conds = h.conds;
          time = h.time;
          calling = h.calling;
          gone = rw e h.gone;
          dying = h.dying ∙ sym (left_in (dying_by lines) t u other);
          halted = h.halted;
        }
