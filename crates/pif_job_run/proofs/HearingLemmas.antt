-- A script that is shown, as a run hears it, and as it is told.
use Rattle.std.proofs.Common.{◌≡◌, ℕ, zero, suc, ◌<◌, ◌≤◌, Bool, true, false, cond, List, [], ◌∷◌, ◌++◌, take, get_or, Option, Some, None, Result, Ok, Err, inl, inr, refl, sym, ap, ◌∙◌, subst, arith, append-nil, get_or-take}
use Rattle.std.proofs.lemmas.Bool.Decides.{nat_tests}
use Rattle.std.proofs.lemmas.List.{length-take-le}
use Rattle.std.specs.Prelude.{◌==◌, nat_lt, length, option_map}
use Rattle.pif_model.specs.Table.{Table}
use Rattle.pif_text_model.specs.declared.commands.Command.{Command}
use Rattle.pif_text_model.specs.declared.replies.Cause.{Cause}
use Rattle.pif_text_model.specs.declared.replies.Cause.TheVariants as cause
use Rattle.pif_text_model.specs.Commands.{command_in}
use Rattle.pif_script_model.specs.declared.details.Detail.{Detail}
use Rattle.pif_script_model.specs.declared.ending.End.{End}
use Rattle.pif_script_model.specs.declared.ending.Ending.TheVariants.{Fault}
use Rattle.pif_script_model.specs.declared.ending.Stop.TheVariants.{Ended, NoMemory}
use Rattle.pif_script_model.specs.Running.{Answer, answer_line, answer_or_fault, command_answer, first_answer, first_line_meaning, line_meaning, made_by, script}
use Rattle.pif_script_model.proofs.LineLemmas.{TakesAll-byte}
use Rattle.pif_script_model.proofs.ScriptLemmas.{by_cases, reading_of-err, reading_of-nil, reading_of-ok, reading_of-unheard}
use Rattle.pif_script_model.specs.Scripts.{FirstMeaning, Meaning, NeedsIn, NeedsListener, Scan, TakesAll, TakesSome, after_line, answer_to_line, answered_first, answered_later, byte_taken, reading_of, with_byte}
use Rattle.pif_job_run.specs.Shows.{IsPart, Moment, behind_part, core_scan, first_named, first_told, front_told, later_named, later_told, line_told, named, named_line, showing}

-- ---- as a run hears it

-- where a script stands behind a byte that was answered so, or how it ended
abbrev stands : Result (List ℕ × Scan Table) End → Result (Scan Table) End
stands (Ok m) = Ok m.1
stands (Err e) = Err e

abbrev core_stands : Result (List ℕ × Scan Moment) End → Result (Scan Table) End
core_stands (Ok m) = Ok (core_scan m.1)
core_stands (Err e) = Err e

module _ (s : Scan Moment) where
  named_first : (r : Result Answer Cause)
      → stands (after_line (core_scan s) (answered_first (made_by (answer_line r))))
      ≡ core_stands (after_line s (answered_first (made_by (named_line None r))))
  named_first (Ok a) = refl
  named_first (Err c) = refl

  named_later : (before : Option Table) (r : Result Answer Cause)
      → stands (after_line (core_scan s) (answered_later (answer_line r)))
      ≡ core_stands (after_line s (answered_later (named_line before r)))
  named_later before (Ok a) = refl
  named_later before (Err c) = refl

  -- the line at which it stands, if nobody answers yet
  same_first : stands (after_line (core_scan s) (answered_first (first_line_meaning s.line)))
      ≡ core_stands (after_line s (answered_first (first_named s.line)))
  unfolding first_line_meaning first_named
  same_first = by_command (command_in s.line)
    where
      by_command : (o : Option Command)
          → stands (after_line (core_scan s) (answered_first (elim o [
            | None ↦ Err (Fault cause.Command)
            | Some c ↦ made_by (answer_line (first_answer c))
          ])))
          ≡ core_stands (after_line s (answered_first (elim o [
            | None ↦ Err (Fault cause.Command)
            | Some c ↦ made_by (named_line None (first_answer c))
          ])))
      by_command None = refl
      by_command (Some c) = named_first (first_answer c)

  -- and if a core does
  same_later : (t : Table) → stands (after_line (core_scan s) (answered_later (line_meaning t s.line)))
      ≡ core_stands (after_line s (answered_later (later_named t s.line)))
  unfolding line_meaning later_named
  same_later t = by_command (command_in s.line)
    where
      by_command : (o : Option Command)
          → stands (after_line (core_scan s) (answered_later (elim o [
            | None ↦ Err (Fault cause.Command)
            | Some c ↦ answer_line (answer_or_fault (command_answer c t))
          ])))
          ≡ core_stands (after_line s (answered_later (elim o [
            | None ↦ Err (Fault cause.Command)
            | Some c ↦ named_line (Some t) (answer_or_fault (command_answer c t))
          ])))
      by_command None = refl
      by_command (Some c) = named_later (Some t) (answer_or_fault (command_answer c t))

  same_line : (l : Option Moment)
      → stands (after_line (core_scan s) (answer_to_line script (option_map (λ m. m.core) l) s.version s.line))
      ≡ core_stands (after_line s (answer_to_line named l s.version s.line))
  same_line None = same_first
  same_line (Some m) = same_later m.core

  same_byte : (b : ℕ) → stands (byte_taken script (core_scan s) b) ≡ core_stands (byte_taken named s b)
  unfolding byte_taken
  same_byte b = by_tests (nat_lt s.taken 16777216) (b == 10) (nat_lt (length s.line) 120) _ _ _ _ (same_line s.listener)
    where
      by_tests : (x y z : Bool) (p : Result (List ℕ × Scan Table) End) (q : Result (List ℕ × Scan Moment) End) (long size : End)
          → stands p ≡ core_stands q
          → stands (cond x (cond y p (cond z (Ok ([], with_byte (core_scan s) b)) (Err long))) (Err size))
          ≡ core_stands (cond x (cond y q (cond z (Ok ([], with_byte s b)) (Err long))) (Err size))
      by_tests true true z p q long size e = e
      by_tests true false true p q long size e = refl
      by_tests true false false p q long size e = refl
      by_tests false y z p q long size e = refl

abbrev with_text : List ℕ → Result (Scan Table) End → Result (List ℕ × Scan Table) End
with_text text (Ok v) = Ok (text, v)
with_text text (Err f) = Err f

stood : (r : Result (List ℕ × Scan Table) End) (u : Scan Table) → stands r ≡ Ok u → (text : List ℕ) × (r ≡ Ok (text, u))
stood (Ok m) u e = (m.0, ap (with_text m.0) e)
stood (Err f) u e = absurd (cc)

ended : (r : Result (List ℕ × Scan Table) End) (f : End) → stands r ≡ Err f → r ≡ Err f
ended (Ok m) f e = absurd (cc)
ended (Err g) f e = ap (with_text []) e

abbrev scan_or : Scan Moment → Result (Scan Moment) End → Scan Moment
scan_or s (Ok t) = t
scan_or s (Err e) = s

abbrev end_or : End → Result (Scan Moment) End → End
end_or e (Ok t) = e
end_or e (Err f) = f

-- bytes that were read are read by a run too
core_read : (bs : List ℕ) (s u : Scan Moment) → (reading_of named s bs).stands ≡ Ok u
    → (reading_of script (core_scan s) bs).stands ≡ Ok (core_scan u)
core_read [] s u e =
    let same : s ≡ u = ap (scan_or s) (sym (reading_of-nil named s).1 ∙ e) in
    (reading_of-nil script (core_scan s)).1 ∙ ap (λ v. Ok (core_scan v)) same
core_read (b ∷ bs) s u e =
    elim (by_cases (byte_taken named s b)) [
      | inl r ↦
          let one = reading_of-ok named s b bs r.0 r.1 in
          let next = stood (byte_taken script (core_scan s) b) (core_scan r.0.1) (same_byte s b ∙ ap core_stands r.1) in
          let run = reading_of-ok script (core_scan s) b bs (next.0, core_scan r.0.1) next.1 in
          run.1 ∙ core_read bs r.0.1 u (sym one.1 ∙ e)
      | inr r ↦ let one = reading_of-err named s b bs r.0 r.1 in let bad : Err r.0 ≡ Ok u = sym one.1 ∙ e in cc
    ]

-- and if one of them ended the script, it ends the run
core_stopped : (bs : List ℕ) (s : Scan Moment) (f : End) → (reading_of named s bs).stands ≡ Err f
    → (reading_of script (core_scan s) bs).stands ≡ Err f
core_stopped [] s f e = let bad : Ok s ≡ Err f = sym (reading_of-nil named s).1 ∙ e in cc
core_stopped (b ∷ bs) s f e =
    elim (by_cases (byte_taken named s b)) [
      | inl r ↦
          let one = reading_of-ok named s b bs r.0 r.1 in
          let next = stood (byte_taken script (core_scan s) b) (core_scan r.0.1) (same_byte s b ∙ ap core_stands r.1) in
          let run = reading_of-ok script (core_scan s) b bs (next.0, core_scan r.0.1) next.1 in
          run.1 ∙ core_stopped bs r.0.1 f (sym one.1 ∙ e)
      | inr r ↦
          let one = reading_of-err named s b bs r.0 r.1 in
          let run = reading_of-err script (core_scan s) b bs r.0
          (ended (byte_taken script (core_scan s) b) r.0 (same_byte s b ∙ ap core_stands r.1)) in
          run.1 ∙ ap Err (ap (end_or f) (sym one.1 ∙ e))
    ]

-- what some bytes are answered by a run
abbrev core_text : Scan Moment → List ℕ → List ℕ
core_text s bs = (reading_of script (core_scan s) bs).text

-- some bytes that were answered so are taken by a run too
pub core_took : (s : Scan Moment) (bs old new : List ℕ) (t : Scan Moment) (n : ℕ) → TakesSome named s bs old new t (Ok n)
    → TakesSome script (core_scan s) bs [] (core_text s (take n bs)) (core_scan t) (Ok n)
core_took s bs old new t n k = (core_read (take n bs) s t k.0, refl)

-- and those of which one ends the script end it
pub core_ended : (s : Scan Moment) (bs old new : List ℕ) (t : Scan Moment) (e : End)
    → TakesSome named s bs old new t (Err (Ended e))
    → TakesSome script (core_scan s) bs [] (core_text s bs) (core_scan t) (Err (Ended e))
core_ended s bs old new t e k = (core_stopped bs s e k.0, refl)

needs_first : (r : Result Answer Cause) → NeedsListener (made_by (named_line None r)) → NeedsListener (made_by (answer_line r))
needs_first (Ok a) n = tt
needs_first (Err c) n = n

needs_line : (line : List ℕ) → NeedsListener (first_named line) → NeedsListener (first_line_meaning line)
unfolding first_line_meaning first_named
needs_line line = by_command (command_in line)
  where
    by_command : (o : Option Command)
        → NeedsListener (elim o as (λ o. FirstMeaning Moment) [
          | None ↦ Err (Fault cause.Command)
          | Some c ↦ made_by (named_line None (first_answer c))
        ])
        → NeedsListener (elim o as (λ o. FirstMeaning Table) [
          | None ↦ Err (Fault cause.Command)
          | Some c ↦ made_by (answer_line (first_answer c))
        ])
    by_command None n = n
    by_command (Some c) n = needs_first (first_answer c) n

-- a line for which there was no memory
pub core_needs : (s : Scan Moment) (bs old new : List ℕ) (t : Scan Moment) → TakesSome named s bs old new t (Err NoMemory)
    → TakesSome script (core_scan s) bs [] [] (core_scan t) (Err NoMemory)
core_needs s bs old new t k =
    let n = k.0 in
    let needs = n.6 in (
      (
        n.0,
        core_scan n.1,
        n.2,
        n.3,
        n.4,
        core_read n.0 s n.1 n.5,
        (ap (option_map (λ m. m.core)) needs.0, needs_line n.1.line needs.1, needs.2, needs.3),
      ),
      refl,
    )

-- there is nobody to answer before such a line
pub needs_nobody : (s : Scan Moment) (bs : List ℕ) → NeedsIn named s bs → s.listener ≡ None
needs_nobody s bs n = (reading_of-unheard named n.0 s n.1 n.5 n.6.0).0

-- ---- as it is told

pub is_zero : (n : ℕ) → n ≡ 0 → (n == 0) ≡ true
is_zero n e = grind (arith, nat_tests)

pub not_zero : (n : ℕ) → (n ≡ 0 → ⊥) → (n == 0) ≡ false
not_zero n p = grind (arith, nat_tests)

not_feed : (b : ℕ) → (b ≡ 10 → ⊥) → (b == 10) ≡ false
not_feed b n = grind (arith, nat_tests)

is_feed : (b : ℕ) → b ≡ 10 → (b == 10) ≡ true
is_feed b e = grind (arith, nat_tests)

module _ (detail : Detail) (names : List (List ℕ)) where
  -- what is told of an answer to a line, and where the script stands behind it
  abbrev told_of : Scan Moment → (ends_line : Bool) → List ℕ × Scan Moment → Result (List ℕ × Scan Moment) End
  told_of s ends p = Ok (behind_part detail names ends (front_told ends s.line ++ p.0) p.1.listener, p.1)

  nothing_behind : (told : List ℕ) (l : Option Moment) → [] ≡ behind_part detail names false told l
  nothing_behind told None = refl
  nothing_behind told (Some m) = refl

  abbrev pair_or : List ℕ × Scan Moment → Result (List ℕ × Scan Moment) End → List ℕ × Scan Moment
  pair_or p (Ok q) = q
  pair_or p (Err f) = p

  module _ (s : Scan Moment) (text : List ℕ) (t : Scan Moment) where
    same_pair : (p : List ℕ × Scan Moment) → ◌≡◌ {A = Result (List ℕ × Scan Moment) End} (Ok p) (Ok (text, t)) → p ≡ (text, t)
    same_pair p e = ap (pair_or p) e

    told_first : (r : FirstMeaning Moment) → after_line s (answered_first r) ≡ Ok (text, t)
        → after_line s (answered_first (first_told detail names s.line r)) ≡ told_of s true (text, t)
    told_first (Ok (Some m)) e = ap (told_of s true) (same_pair _ e)
    told_first (Ok None) e = ap (told_of s true) (same_pair _ e)
    told_first (Err f) e = absurd (cc)

    told_later : (r : Meaning Moment) → after_line s (answered_later r) ≡ Ok (text, t)
        → after_line s (answered_later (later_told detail names s.line r)) ≡ told_of s true (text, t)
    told_later (Ok m) e = ap (told_of s true) (same_pair _ e)
    told_later (Err f) e = absurd (cc)

    told_line : (l : Option Moment) → after_line s (answer_to_line named l s.version s.line) ≡ Ok (text, t)
        → after_line s (answer_to_line (showing detail names) l s.version s.line) ≡ told_of s true (text, t)
    told_line None e = told_first (first_named s.line) e
    told_line (Some m) e = told_later (later_named m.core s.line) e

    -- what is told of a byte that was answered so
    told_byte : (b : ℕ) → byte_taken named s b ≡ Ok (text, t)
        → byte_taken (showing detail names) s b ≡ told_of s (b == 10) (text, t)
    unfolding byte_taken
    told_byte b e =
        by_tests (nat_lt s.taken 16777216) (b == 10) (nat_lt (length s.line) 120) _ _ _ _ (told_line s.listener) e
      where
        by_tests : (x y z : Bool) (p q : Result (List ℕ × Scan Moment) End) (long size : End)
            → (p ≡ Ok (text, t) → q ≡ told_of s true (text, t))
            → cond x (cond y p (cond z (Ok ([], with_byte s b)) (Err long))) (Err size) ≡ Ok (text, t)
            → cond x (cond y q (cond z (Ok ([], with_byte s b)) (Err long))) (Err size) ≡ told_of s y (text, t)
        by_tests true true z p q long size h e = h e
        by_tests true false true p q long size h e =
            ap (λ (l : List ℕ). Ok (l, with_byte s b)) (nothing_behind ([] ++ []) s.listener) ∙ ap (told_of s false) (same_pair _ e)
        by_tests true false false p q long size h e = absurd (cc)
        by_tests false y z p q long size h e = absurd (cc)

  -- bytes before the first LF are told nothing
  told_plain : (bs : List ℕ) (s u : Scan Moment) → ((k : ℕ) → k < length bs → get_or bs k 0 ≡ 10 → ⊥)
      → (reading_of named s bs).stands ≡ Ok u
      → ((reading_of (showing detail names) s bs).stands ≡ Ok u) × ((reading_of (showing detail names) s bs).text ≡ [])
  told_plain [] s u p e =
      let n = reading_of-nil (showing detail names) s in
      (n.1 ∙ sym (reading_of-nil named s).1 ∙ e, n.0)
  told_plain (b ∷ bs) s u p e =
      elim (by_cases (byte_taken named s b)) [
        | inl r ↦
            let one = reading_of-ok named s b bs r.0 r.1 in
            let here = told_byte s r.0.0 r.0.1 b r.1 ∙ ap (λ x. told_of s x r.0) (not_feed b (p 0 (omega arith)))
            ∙ ap (λ (l : List ℕ). Ok (l, r.0.1)) (sym (nothing_behind ([] ++ r.0.0) r.0.1.listener)) in
            let shown = reading_of-ok (showing detail names) s b bs ([], r.0.1) here in
            let rest = told_plain bs r.0.1 u (λ k h. p (suc k) (omega arith)) (sym one.1 ∙ e) in
            (shown.1 ∙ rest.0, shown.0 ∙ rest.1)
        | inr r ↦ let one = reading_of-err named s b bs r.0 r.1 in let bad : Err r.0 ≡ Ok u = sym one.1 ∙ e in (cc, cc)
      ]

  -- an LF is told with its line, and what is told of the core stands behind it
  told_feed : (s : Scan Moment) (b : ℕ) (bs new : List ℕ) (u : Scan Moment) → b ≡ 10
      → TakesSome named s (b ∷ bs) (line_told s.line) new u (Ok 1)
      → TakesSome (showing detail names) s (b ∷ bs) [] (behind_part detail names true new u.listener) u (Ok 1)
  told_feed s b bs new u feed took =
      elim (by_cases (byte_taken named s b)) [
        | inl r ↦
            let one = reading_of-ok named s b [] r.0 r.1 in
            let none = reading_of-nil named r.0.1 in
            let same : r.0.1 ≡ u = ap (scan_or u) (sym none.1 ∙ sym one.1 ∙ took.0) in
            let text : line_told s.line ++ r.0.0 ≡ new =
            sym (took.1 ∙ ap (λ l. line_told s.line ++ l) (one.0 ∙ ap (λ l. r.0.0 ++ l) none.0 ∙ append-nil r.0.0)) in
            let here = told_byte s r.0.0 r.0.1 b r.1 ∙ ap (λ x. told_of s x r.0) (is_feed b feed) in
            let all = TakesAll-byte (showing detail names) s b []
            (behind_part detail names true (line_told s.line ++ r.0.0) r.0.1.listener) r.0.1
            (behind_part detail names true (line_told s.line ++ r.0.0) r.0.1.listener, here, refl) in
            subst (λ (l : List ℕ). TakesAll (showing detail names) s (b ∷ []) [] (behind_part detail names true l u.listener) u (Ok tt))
            text
            (subst (λ (v : Scan Moment). TakesAll (showing detail names) s (b ∷ []) []
            (behind_part detail names true (line_told s.line ++ r.0.0) v.listener) v (Ok tt)) same all)
        | inr r ↦
            let one = reading_of-err named s b [] r.0 r.1 in let bad : Err r.0 ≡ Ok u = sym one.1 ∙ took.0 in (cc, cc)
      ]

  -- what is told of bytes that were answered so: some of those before the first LF, or that one
  pub told_part : (s : Scan Moment) (bs : List ℕ) (plain n : ℕ) (new : List ℕ) (u : Scan Moment)
      → ((k : ℕ) → k < plain → get_or bs k 0 ≡ 10 → ⊥) → (plain < length bs → get_or bs plain 0 ≡ 10)
      → n ≤ length bs → IsPart plain n → TakesSome named s bs (front_told (plain == 0) s.line) new u (Ok n)
      → TakesSome (showing detail names) s bs [] (behind_part detail names (plain == 0) new u.listener) u (Ok n)
  told_part s [] zero n new u p q le one took = absurd (omega (arith, le, one))
  told_part s (b ∷ bs) zero n new u p q le one took =
      subst (λ k. TakesSome (showing detail names) s (b ∷ bs) [] (behind_part detail names true new u.listener) u (Ok k))
      (sym one)
      (told_feed s b bs new u (q (omega arith))
      (subst (λ k. TakesSome named s (b ∷ bs) (line_told s.line) new u (Ok k)) one took))
  told_part s bs (suc m) n new u p q le part took =
      let size : length (take n bs) ≡ n = length-take-le n bs le in
      let few : n ≤ suc m = part.1 in
      let r = told_plain (take n bs) s u (λ k h. rw (get_or-take n bs k 0 (omega arith)) (p k (omega arith))) took.0 in
      subst (λ b. TakesSome (showing detail names) s bs [] (behind_part detail names b new u.listener) u (Ok n))
      (sym (not_zero (suc m) (λ e. omega (arith, e)))) (r.0, sym (nothing_behind new u.listener) ∙ sym r.1)
