-- The core behind commands that are handed on, one after the other.
use Rattle.std.proofs.Common.{◌≡◌, ℕ, ◌+◌, ◌<◌, ◌≤◌, Bool, true, false, not, List, [], ◌∷◌, drop, get_or, length, Option, Some, None, refl, sym, ap, ◌∙◌}
use Rattle.std.specs.Prelude.{is_some, map, option_and_then}
use Rattle.std.proofs.lemmas.List.{drop_all, drop_more}
use Rattle.pif_model.specs.Table.{Table}
use Rattle.pif_script_model.specs.declared.rows.AnsweredRow.{AnsweredRow}
use Rattle.pif_script_model.specs.Rows.{AreRowsOf, Asked, asked_in}
use Rattle.pif_script_model.specs.Stories.{NumberedRow}
use Rattle.pif_story_states.specs.Stories.{core_after, core_behind, graph_from, graph_if}

behind_nothing : (before : Option Table) → core_behind before [] ≡ before
unfolding core_behind
behind_nothing before = refl

behind_fault : (before : Option Table) (asked : Asked) (more : List Asked)
    → option_and_then (core_after before) asked.2 ≡ None → core_behind before (asked ∷ more) ≡ None
unfolding core_behind
behind_fault before asked more e = rw (core_behind, e) refl

behind_next : (before : Option Table) (asked : Asked) (more : List Asked) (s : Table)
    → option_and_then (core_after before) asked.2 ≡ Some s
    → core_behind before (asked ∷ more) ≡ core_behind (Some s) more
unfolding core_behind
behind_next before asked more s e = rw (core_behind, e) refl

-- ---- the command at a place

module _ (whole : Option Table) (rows : List AnsweredRow) (place : ℕ) (before : Option Table)
    (left : whole ≡ core_behind before (map asked_in (drop place rows))) where
  module _ (row : AnsweredRow) (within : place < length rows) (here : row ≡ get_or rows place row) where
    here_left : whole ≡ core_behind before (asked_in row ∷ map asked_in (drop (place + 1) rows))
    here_left =
        left ∙ ap (λ l. core_behind before (map asked_in l)) (drop_more rows place row within)
        ∙ ap (λ r. core_behind before (asked_in r ∷ map asked_in (drop (place + 1) rows))) (sym here)

    -- one that is a fault
    pub core_lost : (after : Option Table) (lost : Bool) → after ≡ core_after before row.command
        → is_some after ≡ not lost → lost ≡ true → after ≡ whole
    core_lost (Some s) lost e n l = absurd (cc)
    core_lost None lost e n l =
        sym (here_left ∙ behind_fault before (asked_in row) (map asked_in (drop (place + 1) rows)) (sym e))

    -- and one that is done
    pub core_on : (after : Option Table) (lost : Bool) → after ≡ core_after before row.command
        → is_some after ≡ not lost → lost ≡ false → whole ≡ core_behind after (map asked_in (drop (place + 1) rows))
    core_on None lost e n l = absurd (cc)
    core_on (Some s) lost e n l =
        here_left ∙ behind_next before (asked_in row) (map asked_in (drop (place + 1) rows)) s (sym e)

  -- no command is left
  pub core_whole : length rows ≤ place → before ≡ whole
  core_whole le =
      sym (left ∙ ap (λ l. core_behind before (map asked_in l)) (drop_all place rows le) ∙ behind_nothing before)

-- ---- the graph

-- commands are handed on as they stand in the story
pub graph_same : (core : Option Table) (numbered : List NumberedRow) (rows : List AnsweredRow)
    → core ≡ core_behind None (map asked_in rows) → AreRowsOf numbered rows → graph_if core ≡ graph_from numbered
unfolding graph_from
graph_same core numbered rows e same = ap graph_if (e ∙ ap (core_behind None) same)
