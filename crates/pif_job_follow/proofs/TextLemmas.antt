-- How bytes lead from one place of a text to another.
use Rattle.std.proofs.Common.{◌≡◌, ℕ, ◌+◌, ◌∙◌, List, [], ◌∷◌, ◌++◌, true, Result, Ok, length, drop, refl, sym, ap, arith, append_assoc, append-nil, length-append}
use Rattle.std.proofs.Math.Seq.{drop-append_seam, get_or-append_seam, take-append_seam}
use Rattle.std.proofs.lemmas.List.{drop-drop, get_or_append_left}
use Rattle.pif_script_model.specs.Lines.{lines}
use Rattle.pif_script_model.proofs.LinesLemmas.{some_line, split_at_end, split_nowhere}
use Rattle.pif_history_text.specs.Histories.{Heard, after_line, at_end, goes_behind, heard_from, numbered, unheard}
use Rattle.pif_text_model.specs.declared.replies.Cause.{Cause}
use Rattle.pif_history_text.specs.Reading.{HasNoFeed, goes_on, start}
use Rattle.pif_job_follow.specs.Followed.{Leads, stream_of}

-- before the first byte
pub at_start : (line : List ℕ) → line ≡ [] → Leads [] (record { heard = unheard; line = line })
at_start line e = λ rest. ap (λ (xs : List ℕ). goes_on true (record { heard = unheard; line = xs }) rest) (sym e)

-- a line, and what stands behind its LF
first_line : (line rest : List ℕ) → HasNoFeed line → lines (line ++ 10 ∷ rest) ≡ line ∷ lines rest
first_line line rest h =
    split_at_end (line ++ 10 ∷ rest) (length line)
    (let both = length-append line (10 ∷ rest) in omega (arith, both))
    (get_or-append_seam line 10 rest 0)
    (λ k lt e. h k lt (sym (get_or_append_left line (10 ∷ rest) 0 k lt) ∙ e))
    ∙ (λ i. take-append_seam line (10 ∷ rest) i ∷ lines (behind_feed i))
  where
    behind_feed : drop (length line + 1) (line ++ 10 ∷ rest) ≡ rest
    behind_feed = sym (drop-drop 1 (length line) (line ++ 10 ∷ rest)) ∙ ap (drop 1) (drop-append_seam line (10 ∷ rest))

-- what a line that isn't the last comes to
goes_behind_line : (h m : Heard) (line next : List ℕ) (more : List (List ℕ)) → after_line h line ≡ Ok m
    → heard_from true h (line ∷ next ∷ more) ≡ heard_from true m (next ∷ more)
unfolding heard_from
goes_behind_line h m line next more e =
    ap (λ (r : Result Heard Cause). goes_behind (λ n. heard_from true n (next ∷ more)) (numbered h r)) e

-- a line is ended by its LF
pub leads_line : (read line after : List ℕ) (h m : Heard) → after ≡ [] → HasNoFeed line → after_line h line ≡ Ok m
    → Leads read (record { heard = h; line = line }) → Leads (read ++ 10 ∷ []) (record { heard = m; line = after })
leads_line read line after h m empty plain e x = λ rest.
    let some = some_line rest in
    ap (goes_on true start) (append_assoc read (10 ∷ []) rest) ∙ x (10 ∷ rest)
    ∙ ap (heard_from true h) (first_line line rest plain ∙ ap (λ (ls : List (List ℕ)). line ∷ ls) some.2)
    ∙ goes_behind_line h m line some.0 some.1 e ∙ ap (heard_from true m) (sym some.2)
    ∙ ap (λ (xs : List ℕ). goes_on true (record { heard = m; line = xs }) rest) (sym empty)

-- the text ends
only_line : (line : List ℕ) → HasNoFeed line → lines line ≡ line ∷ []
only_line line h = split_nowhere line h

ends_with : (h : Heard) (line : List ℕ) → heard_from true h (line ∷ []) ≡ at_end h line
unfolding heard_from
ends_with h line = refl

pub leads_end : (read line : List ℕ) (h m : Heard) → HasNoFeed line → at_end h line ≡ Ok m
    → Leads read (record { heard = h; line = line }) → stream_of read ≡ Ok m
leads_end read line h m plain e x =
    ap (goes_on true start) (sym (append-nil read)) ∙ x []
    ∙ ap (heard_from true h) (ap lines (append-nil line) ∙ only_line line plain) ∙ ends_with h line ∙ e
