-- No command of a story has an LF.
use Rattle.std.proofs.Common.{◌≡◌, ℕ, zero, suc, ◌+◌, ◌-◌, ◌==◌, not, Bool, true, false, cond, ◌≤◌, List, [], ◌∷◌, ◌++◌, append-nil, append_assoc, take, drop, length, length-append, arith, get_or, Option, Some, None, inl, inr, refl, sym, ap, ◌∙◌, subst, if◌then◌else◌}
use Rattle.std.specs.Prelude.{is_some, map, option_map}
use Rattle.std.specs.Borrow.{Bor}
use Rattle.std.specs.Option.{option_map_or}
use Rattle.std.specs.List.{All, join_with_byte, onto_first, slice_split}
use Rattle.std.specs.Str.Lines.{strip_carriage_return}
use Rattle.std.proofs.lemmas.Bool.{and_parts, and_from, false≢true}
use Rattle.std.proofs.lemmas.List.Splits.{slice_split_at, slice_split_none}
use Rattle.pif_text_model.specs.Traces.{is_marked, parts_of}
use Rattle.pif_text_model.proofs.Plain.{lacks}
use Rattle.pif_script_model.specs.Lines.{StoryRow, commentless, is_passed, lines, lines_behind, plain, plain_line, plain_lines, row_by, row_in, without_comment, without_mark}
use Rattle.pif_script_model.specs.Stories.{rows_from, rows_of}
use Rattle.pif_script_model.proofs.AnswerLines.{NoneEnds}
use Rattle.pif_script_model.proofs.LinesLemmas.{some_line}
use Rattle.pif_script_model.proofs.PlainLemmas.{plain_fits, plain_lacks}
use Rattle.pif_script_model.proofs.StoriesLemmas.{by_option, rows_from_nothing, rows_from_passed, rows_from_row}

-- each of these lines lacks LF
NoLineEnds : List (List ℕ) → Type 0
NoLineEnds [] = Unit {0}
NoLineEnds (line ∷ lines) = (lacks 10 line ≡ true) × NoLineEnds lines

first-longer : (x : ℕ) (parts : List (List ℕ)) → not (x == 10) ≡ true → NoLineEnds parts
    → NoLineEnds (onto_first x parts)
unfolding NoLineEnds
first-longer x [] e p = (and_from (not (x == 10)) true e refl, tt)
first-longer x (part ∷ parts) e p = (and_from (not (x == 10)) (lacks 10 part) e p.0, p.1)

lines-lack : (text : List ℕ) → NoLineEnds (lines text)
unfolding lines NoLineEnds
lines-lack [] = (refl, tt)
lines-lack (x ∷ xs) = by_test (x == 10) refl (lines-lack xs)
  where
    by_test : (b : Bool) → (x == 10) ≡ b → NoLineEnds (slice_split (λ byte. byte == 10) xs)
        → NoLineEnds
        (cond b ([] ∷ slice_split (λ byte. byte == 10) xs) (onto_first x (slice_split (λ byte. byte == 10) xs)))
    by_test true e p = (refl, p)
    by_test false e p = first-longer x _ (ap not e) p

-- ---- parts of a line

take-lacks : (n : ℕ) (xs : List ℕ) → lacks 10 xs ≡ true → lacks 10 (take n xs) ≡ true
take-lacks zero xs e = refl
take-lacks (suc n) [] e = refl
take-lacks (suc n) (x ∷ xs) e =
    let p = and_parts (not (x == 10)) (lacks 10 xs) e in
    and_from (not (x == 10)) (lacks 10 (take n xs)) p.0 (take-lacks n xs p.1)

return-lacks : (line : List ℕ) → lacks 10 line ≡ true → lacks 10 (strip_carriage_return line) ≡ true
return-lacks line e = by_test (get_or line (length line - 1) 0 == 13)
  where
    by_test : (b : Bool) → lacks 10 (if b then take (length line - 1) line else line) ≡ true
    by_test true = take-lacks (length line - 1) line e
    by_test false = e

front-lacks : (xs : List ℕ) (p : List ℕ × List ℕ) → parts_of xs ≡ Some p → lacks 10 xs ≡ true → lacks 10 p.0 ≡ true
unfolding parts_of
front-lacks [] p e l = cc
front-lacks (x ∷ xs) p e l =
    let w = and_parts (not (x == 10)) (lacks 10 xs) l in
    by_test (is_marked x xs) (parts_of xs) w.0 (λ q f. front-lacks xs q f w.1) e
  where
    by_test : (b : Bool) (o : Option (List ℕ × List ℕ)) → not (x == 10) ≡ true
        → ((q : List ℕ × List ℕ) → o ≡ Some q → lacks 10 q.0 ≡ true)
        → ◌≡◌ {A = Option (List ℕ × List ℕ)}
        (if b then Some ([], drop 2 xs) else option_map (λ parts. (x ∷ parts.0, parts.1)) o) (Some p)
        → lacks 10 p.0 ≡ true
    by_test true o w h e =
        let q : ([], drop 2 xs) ≡ p = cc in
        ap (λ (y : List ℕ × List ℕ). lacks 10 y.0) (sym q)
    by_test false None w h e = cc
    by_test false (Some y) w h e =
        let q : (x ∷ y.0, y.1) ≡ p = cc in
        ap (λ (z : List ℕ × List ℕ). lacks 10 z.0) (sym q) ∙ and_from (not (x == 10)) (lacks 10 y.0) w (h y refl)

row-lacks : (line : List ℕ) (row : StoryRow) → row_in line ≡ Some row → lacks 10 line ≡ true → lacks 10 row.0 ≡ true
unfolding row_in
row-lacks line row e l = by_test (is_passed line) (parts_of line) refl e
  where
    by_test : (b : Bool) (o : Option (List ℕ × List ℕ)) → parts_of line ≡ o
        → ◌≡◌ {A = Option StoryRow} (if b then None else Some (row_by line o)) (Some row) → lacks 10 row.0 ≡ true
    by_test true o f e = cc
    by_test false None f e =
        let q : (line, None) ≡ row = cc in
        ap (λ (r : StoryRow). lacks 10 r.0) (sym q) ∙ l
    by_test false (Some p) f e =
        let q : (p.0, Some p.1) ≡ row = cc in
        ap (λ (r : StoryRow). lacks 10 r.0) (sym q) ∙ front-lacks line p f l

rows-lack : (number : ℕ) (ls : List (List ℕ)) → NoLineEnds ls → NoneEnds (rows_from number ls)
unfolding NoLineEnds
rows-lack number [] p = subst NoneEnds (sym (rows_from_nothing number)) tt
rows-lack number (line ∷ ls) p =
    elim (by_option (row_in line)) [
      | inl e ↦ subst NoneEnds (sym (rows_from_passed number line ls e)) (rows-lack (number + 1) ls p.1)
      | inr e ↦
          subst NoneEnds (sym (rows_from_row number line ls e.0 e.1))
          (row-lacks line e.0 e.1 p.0, rows-lack (number + 1) ls p.1)
    ]

-- of a text with nothing but its words
pub text_ends : (text : List ℕ) → NoneEnds (rows_from 1 (lines text))
text_ends text = rows-lack 1 (lines text) (lines-lack text)

-- ---- lines with nothing but their words

comment-lacks : (xs : List ℕ) → lacks 10 xs ≡ true → lacks 10 (without_comment xs) ≡ true
unfolding without_comment
comment-lacks [] e = refl
comment-lacks (x ∷ xs) e =
    let p = and_parts (not (x == 10)) (lacks 10 xs) e in
    by_test (x == 35) (and_from (not (x == 10)) (lacks 10 (without_comment xs)) p.0 (comment-lacks xs p.1))
  where
    by_test : (b : Bool) → lacks 10 (x ∷ without_comment xs) ≡ true
        → lacks 10 (if b then [] else x ∷ without_comment xs) ≡ true
    by_test true h = refl
    by_test false h = h

-- a line that lacks LF, with nothing but its words
pub plain_line_lacks : (line : List ℕ) → lacks 10 line ≡ true → lacks 10 (plain_line line) ≡ true
plain_line_lacks line e = plain_lacks (commentless line) (comment-lacks (strip_carriage_return line) (return-lacks line e))

plain-lack : (ls : List (List ℕ)) → NoLineEnds ls → NoLineEnds (map plain_line ls)
unfolding NoLineEnds
plain-lack [] p = tt
plain-lack (line ∷ ls) p = (plain_line_lacks line p.0, plain-lack ls p.1)

pub none_ends : (story : List ℕ) → NoneEnds (rows_of story)
none_ends story = rows-lack 1 (plain_lines story) (plain-lack (lines (without_mark story)) (lines-lack (without_mark story)))

-- ---- the lines of lines that are joined

none-lf : (xs : List ℕ) → lacks 10 xs ≡ true → All (λ x. (x == 10) ≡ false) xs
none-lf [] e k d lt = absurd (omega arith)
none-lf (x ∷ xs) e zero d lt = not_true (x == 10) (and_parts (not (x == 10)) (lacks 10 xs) e).0
  where
    not_true : (b : Bool) → not b ≡ true → b ≡ false
    not_true true e = absurd (false≢true e)
    not_true false e = refl
none-lf (x ∷ xs) e (suc k) d lt = none-lf xs (and_parts (not (x == 10)) (lacks 10 xs) e).1 k d (omega arith)

-- lines that lack LF, joined by LF, are cut into the same lines
lines-joined : (line : List ℕ) (ls : List (List ℕ)) → NoLineEnds (line ∷ ls)
    → lines (join_with_byte 10 (line ∷ ls)) ≡ line ∷ ls
unfolding lines NoLineEnds
lines-joined line [] p = slice_split_none (λ byte. byte == 10) line (none-lf line p.0)
lines-joined line (next ∷ ls) p =
    slice_split_at (λ byte. byte == 10) line 10 (join_with_byte 10 (next ∷ ls)) (none-lf line p.0) refl
    ∙ ap (λ l. line ∷ l) (lines-joined next ls p.1)

-- the lines of a story with nothing but their words, joined by LF
pub plain_joined : (story : List ℕ) → lines (join_with_byte 10 (plain_lines story)) ≡ plain_lines story
unfolding NoLineEnds
plain_joined story =
    by_lines (lines (without_mark story)) (some_line (without_mark story)) (lines-lack (without_mark story))
  where
    by_lines : (ls : List (List ℕ)) → ((l : List ℕ) × (more : List (List ℕ)) × (ls ≡ l ∷ more)) → NoLineEnds ls
        → lines (join_with_byte 10 (map plain_line ls)) ≡ map plain_line ls
    by_lines [] some none = cc
    by_lines (l ∷ ls) some none = lines-joined (plain_line l) (map plain_line ls) (plain-lack (l ∷ ls) none)

-- ---- a story with nothing but its words, line by line

-- a line with more behind it
pub plain_on : (whole text line : List ℕ) (behind : Option (List ℕ)) → is_some behind ≡ true
    → whole ≡ text ++ join_with_byte 10 (map plain_line (line ∷ lines_behind behind))
    → whole ≡ ((text ++ plain_line line) ++ 10 ∷ []) ++ join_with_byte 10 (map plain_line (lines_behind behind))
plain_on whole text line None s e = absurd (false≢true s)
plain_on whole text line (Some more) s e =
    by_lines (lines more) (some_line more) e
  where
    by_lines : (ls : List (List ℕ)) → ((l : List ℕ) × (ms : List (List ℕ)) × (ls ≡ l ∷ ms))
        → whole ≡ text ++ join_with_byte 10 (map plain_line (line ∷ ls))
        → whole ≡ ((text ++ plain_line line) ++ 10 ∷ []) ++ join_with_byte 10 (map plain_line ls)
    by_lines [] some e = cc
    by_lines (l ∷ ls) some e =
        let rest = join_with_byte 10 (map plain_line (l ∷ ls)) in
        e ∙ sym (append_assoc text (plain_line line) (10 ∷ rest))
        ∙ sym (append_assoc (text ++ plain_line line) (10 ∷ []) rest)

-- the last line
pub plain_out : (whole text line : List ℕ) (behind : Option (List ℕ)) → is_some behind ≡ false
    → whole ≡ text ++ join_with_byte 10 (map plain_line (line ∷ lines_behind behind))
    → whole ≡ (text ++ plain_line line) ++ join_with_byte 10 (map plain_line (lines_behind behind))
plain_out whole text line None s e = e ∙ sym (append-nil (text ++ plain_line line))
plain_out whole text line (Some more) s e = absurd (false≢true (sym s))

-- with no line left, it is whole
pub plain_whole : (story text : List ℕ)
    → join_with_byte 10 (plain_lines story) ≡ text ++ join_with_byte 10 (map plain_line []) → lines text ≡ plain_lines story
plain_whole story text e = ap lines (sym (e ∙ append-nil text)) ∙ plain_joined story

-- ---- how long it is

-- how many bytes are left behind a line, as the code has them
abbrev pub size_left : Option (Bor (List ℕ)) → ℕ
size_left behind = option_map_or (λ text. length text.now) behind 0

module _ (out said line left : List ℕ) (most : ℕ) (short : length said ≤ length line) where
  -- a line with more behind it
  pub fits_on : (behind : Option (Bor (List ℕ))) → is_some behind ≡ true
      → length line + option_map_or (λ text. length text.now + 1) behind 0 ≡ length left
      → length out + length left ≤ most → length ((out ++ plain said) ++ 10 ∷ []) + size_left behind ≤ most
  fits_on None s parts fits = absurd (false≢true s)
  fits_on (Some more) s parts fits =
      let first = length-append (out ++ plain said) (10 ∷ []) in
      let second = length-append out (plain said) in
      let words = plain_fits said in
      omega (arith, first, second, words, short, parts, fits)

  -- the last line
  pub fits_out : (behind : Option (Bor (List ℕ))) → is_some behind ≡ false
      → length line + option_map_or (λ text. length text.now + 1) behind 0 ≡ length left
      → length out + length left ≤ most → length (out ++ plain said) + size_left behind ≤ most
  fits_out None s parts fits =
      let second = length-append out (plain said) in
      let words = plain_fits said in
      omega (arith, second, words, short, parts, fits)
  fits_out (Some more) s parts fits = absurd (false≢true (sym s))
