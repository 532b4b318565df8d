-- What a player has played, step by step, and what a run of it shows.
use Rattle.std.proofs.Common.{ℕ, ◌≡◌, ◌∙◌, ◌<◌, ◌+◌, Bool, true, false, not, List, [], ◌∷◌, ◌++◌, Some, None, Option, map, length, reverse, take, get_or, refl, sym, ap, subst, if◌then◌else◌, Result, Ok, Err, IfOk}
use Rattle.std.specs.List.{Contains}
use Rattle.std.proofs.lemmas.List.{reverse-append, take_more}
use Rattle.pif_types.specs.Bounds.{Bounds}
use Rattle.pif_model.specs.declared.events.Entry.{Entry}
use Rattle.pif_model.specs.Posix.{World}
use Rattle.pif_posix_steps.specs.Once.{MovesOnce}
use Rattle.pif_posix_steps.specs.Doing.{entered}
use Rattle.pif_posix_steps.proofs.DoingLists.{in_one_from}
use Rattle.pif_posix_steps.proofs.DoingEntries.{entered_to}
use Rattle.pif_rules_model.specs.declared.rules.Rules.{Rules}
use Rattle.pif_rules_model.specs.Rules.{Wide, WideMoves, WideEnters, end_of, has_all_again}
use Rattle.pif_rules_model.specs.Rules.WideEnters.{other}
use Rattle.pif_rules_model.proofs.Sets.{moves_widely}
use Rattle.pif_search.specs.declared.machine.Stop.{Stop}
use Rattle.pif_search.specs.Runs.{Runs, shown}
use Rattle.pif_history_model.specs.declared.lines.Line.{Line}
use Rattle.pif_history_model.specs.declared.labels.Label.{Label}
use Rattle.pif_history_model.specs.declared.labels.Label.TheVariants.{Shown, Moves}
use Rattle.pif_history_model.specs.Lines.{is_line_among, dying_after, comes_while, ended_by}
use Rattle.pif_history_model.specs.Listed.{entry_for, is_seen}
use Rattle.pif_history_model.specs.Searched.{Configuration, Steps, Advances, hides, start_of, told_of, at_end_of, at_entry}
use Rattle.pif_history_model.specs.Searched.Steps.{moves, enters, sees}
use Rattle.pif_history_model.specs.Verdicts.{IsLegal}
use Rattle.pif_history_model.proofs.Judging.{labels_of, legal-from_run}
use Rattle.pif_history_model.proofs.LineLemmas.{shows-entry_for, no_end, seen-to}
use Rattle.pif_history.specs.declared.player.Player.{Player}
use Rattle.pif_history.specs.Played.{IsPlayed, Plays}

-- ONE STEP MORE

newest : (xs ys : List Label) (x : Label) → ys ≡ xs ++ x ∷ [] → reverse ys ≡ x ∷ reverse xs
newest xs ys x e = ap (λ (zs : List Label). reverse zs) e ∙ reverse-append xs (x ∷ [])

module _ (r : Rules) (l : Bounds) (p q : Player) (x : Label) (a : Advances r l p.position x q.position) (e : q.labels.items ≡ p.labels.items ++ x ∷ []) where
  run_on : (lines : List Label) → IsPlayed r l lines p → Runs (Advances r l) (start_of l) (reverse q.labels.items) q.position
  run_on lines y =
      subst (λ (h : List Label). Runs (Advances r l) (start_of l) h q.position) (sym (newest p.labels.items q.labels.items x e)) (p.position, y.run, a)

  shows_on : (ls : List Label) → shown hides (x ∷ reverse p.labels.items) ≡ ls → shown hides (reverse q.labels.items) ≡ ls
  shows_on ls h = ap (λ (zs : List Label). shown hides zs) (newest p.labels.items q.labels.items x e) ∙ h

  pub plays_hidden : hides x ≡ true → Plays r l [] p q
  plays_hidden h lines y = record {
    run = run_on lines y;
    shows = shows_on lines (ap (λ (b : Bool). if b then shown hides (reverse p.labels.items) else x ∷ shown hides (reverse p.labels.items)) h ∙ y.shows);
  }

  pub plays_shown : hides x ≡ false → Plays r l (x ∷ []) p q
  plays_shown h lines y = record {
    run = run_on lines y;
    shows = shows_on (x ∷ lines) (ap (λ (b : Bool). if b then shown hides (reverse p.labels.items) else x ∷ shown hides (reverse p.labels.items)) h ∙ ap (λ (ls : List Label). x ∷ ls) y.shows);
  }

-- A STEP IN PLACE

-- a plain move, of the state with what rules remember, if each mutex inherits
pub moves_from : (r : Rules) (s t : Wide) (n : ℕ) (v : World) → t ≡ s → s.prio_none ≡ [] → MovesOnce n t.world v
    → WideMoves r n s (record t { world = v })
moves_from r s t n v same none m =
    subst (λ (u : Wide). WideMoves r n u (record t { world = v })) same (moves_widely r n t v (ap (λ (u : Wide). u.prio_none) same ∙ none) m)

-- an entry that is no end of a thread, and has one result
pub enters_from : (r : Rules) (l : Bounds) (s t : Wide) (e : Entry) (v : World) → t ≡ s → end_of e ≡ None → has_all_again s e ≡ true
    → entered l t.world e ≡ v ∷ [] → WideEnters r l s e (record t { world = v })
enters_from r l s t e v same is all one =
    let step = entered_to l t.world e v (subst (λ (vs : List World). Contains vs v) (sym one) (in_one_from v v refl)) in
    subst (λ (u : Wide). WideEnters r l u e (record t { world = v })) same (other v is (ap (λ (u : Wide). has_all_again u e) same ∙ all) step refl)

-- the same of a position in which threads run, if t stands for s
pub goes_from : (r : Rules) (l : Bounds) (s t : Configuration) (n : ℕ) (v : Wide) → t ≡ s → s.halted ≡ false → WideMoves r n t.wide v
    → Advances r l s (Moves n) (record t { wide = v })
goes_from r l s t n v same runs m = record {
  comes = ap not runs;
  step = subst (λ (u : Configuration). Steps r l u (Moves n) (record t { wide = v })) same (moves n v refl m refl);
}

-- the rules for an entry that is no end of a thread are those that are allowed
entry_by_rules : (r : Rules) (s : Configuration) (e : Entry) → end_of e ≡ None → at_entry s r e ≡ r
entry_by_rules r s e none = ap (λ (o : Option ℕ). elim o [ None ↦ r | Some t ↦ at_end_of s r t ]) none

-- A LINE

module _ (r : Rules) (l : Bounds) (line : Line) where
  -- the entry that the line shows has come
  comes : (s : Configuration) (e : Entry) (v : Wide) → is_line_among s.dying line ≡ false → dying_after line s.dying ≡ s.dying
      → Some e ≡ entry_for s.wide.world line → end_of e ≡ None → WideEnters r l s.wide e v
      → Steps r l s (Shown line) (record s { wide = v })
  comes s e v among kept entry none step =
      enters line e v refl (shows-entry_for s.wide.world line e (sym entry)) among
      (subst (λ (q : Rules). WideEnters q l s.wide e v) (sym (entry_by_rules r s e none)) step)
      (λ i. record s { wide = v; dying = sym kept i })

  pub comes_from : (s t : Configuration) (e : Entry) (v : Wide) → t ≡ s → comes_while s.halted line ≡ true
      → is_line_among s.dying line ≡ false → dying_after line s.dying ≡ s.dying → Some e ≡ entry_for s.wide.world line
      → end_of e ≡ None → WideEnters r l t.wide e v → Advances r l s (Shown line) (record t { wide = v })
  comes_from s t e v same may among kept entry none step =
      let back = sym same in
      record {
        comes = may;
        step = subst (λ (u : Configuration). Steps r l u (Shown line) (record t { wide = v })) same
            (comes t e v (subst (λ (u : Configuration). is_line_among u.dying line ≡ false) back among)
            (subst (λ (u : Configuration). dying_after line u.dying ≡ u.dying) back kept)
            (subst (λ (u : Configuration). Some e ≡ entry_for u.wide.world line) back entry) none step);
      }

  -- what the line tells is so
  pub tells : (s : Configuration) → comes_while s.halted line ≡ true → is_line_among s.dying line ≡ false
      → dying_after line s.dying ≡ s.dying → is_seen (told_of line s.wide) line ≡ true → Advances r l s (Shown line) s
  tells s may among kept seen = record {
    comes = may;
    step = sees line refl among (seen-to (told_of line s.wide) line seen) (λ i. record s { dying = sym kept i });
  }

-- ALL LINES

module _ (r : Rules) (l : Bounds) where
  -- one step after others
  pub plays_then : (added : List Label) (p q k : Player) → Plays r l [] p q → Plays r l added q k → Plays r l added p k
  plays_then added p q k a b lines y = b lines (a lines y)

  pub plays_after : (added : List Label) (p q k : Player) (x : Result Bool Stop) → Plays r l [] p q
      → IfOk x (λ b. b ≡ true → Plays r l added q k) → IfOk x (λ b. b ≡ true → Plays r l added p k)
  plays_after added p q k (Ok b) a h = λ e. plays_then added p q k a (h e)
  plays_after added p q k (Err e) a h = h

  -- one line more
  pub one_line_more : (lines : List Line) (n : ℕ) (line : Line) (p q : Player) → n < length lines → get_or lines n line ≡ line
      → Plays r l (Shown line ∷ []) p q → IsPlayed r l (labels_of (reverse (take n lines))) p
      → IsPlayed r l (labels_of (reverse (take (n + 1) lines))) q
  one_line_more lines n line p q lt same a y =
      let e : reverse (take (n + 1) lines) ≡ line ∷ reverse (take n lines) =
      ap reverse (take_more lines n line lt) ∙ reverse-append (take n lines) (get_or lines n line ∷ []) ∙ ap (λ (x : Line). x ∷ reverse (take n lines)) same in
      subst (λ (ls : List Line). IsPlayed r l (labels_of ls) q) (sym e) (a (labels_of (reverse (take n lines))) y)

  -- all lines have come
  pub legal_by_play : (lines : List Line) (witness : List Label) (p : Player) → witness ≡ reverse p.labels.items
      → IsPlayed r l (labels_of (reverse lines)) p → IsLegal r l lines witness
  legal_by_play lines witness p e y =
      subst (λ (w : List Label). IsLegal r l lines w) (sym e)
      (legal-from_run r l lines (reverse p.labels.items) p.position y.run y.shows)

  -- no line has come
  pub nothing_played : (p : Player) → p.position ≡ start_of l → p.labels.items ≡ [] → IsPlayed r l [] p
  nothing_played p e f = record {
    run = subst (λ (ls : List Label). Runs (Advances r l) (start_of l) (reverse ls) p.position) (sym f) (sym e);
    shows = ap (λ (ls : List Label). shown hides (reverse ls)) f;
  }
