-- A history that is judged while it is read is one in two parts: its front, and the open lines.
use Rattle.std.proofs.Common.{ℕ, ◌≡◌, ◌∙◌, ◌≤◌, ◌+◌, ◌-◌, List, [], ◌∷◌, ◌++◌, append_assoc, append-nil, arith, ap, drop, length, length-append, refl, reverse, subst, sym, take}
use Rattle.std.proofs.Math.Seq.{drop-append_seam, take-append_seam, take-length}
use Rattle.std.proofs.lemmas.List.{reverse-append}
use Rattle.std.specs.Global.{Vec}
use Rattle.pif_types.specs.Bounds.{Bounds}
use Rattle.pif_model.specs.Posix.{World, empty_world}
use Rattle.pif_model.specs.Posix.IsRun.{start}
use Rattle.pif_history_model.specs.declared.lines.Line.{Line}
use Rattle.pif_history_model.specs.Shown.{IsShown}
use Rattle.pif_history_model.specs.Shown.IsCut.{no_line}
use Rattle.pif_parts_model.specs.Quiet.{IsQuiet}
use Rattle.pif_parts.specs.declared.parts.Part.{Part}
use Rattle.pif_parts.specs.declared.joining.PartVerdict.{PartVerdict}
use Rattle.pif_parts.specs.declared.joining.PartVerdict.TheVariants as part
use Rattle.pif_parts.specs.Parts.{AreOfParts, ArePartsOf, IsOf, IsOfPart, alone}
use Rattle.pif_parts.specs.Standing.{GoOnAlike, IsPast, StandFor}
use Rattle.pif_parts.specs.Standing.GoOnAlike.{but_for_uses, exactly}
use Rattle.pif_parts_judged.specs.declared.following.Judged.{Judged}
use Rattle.pif_parts_judged.specs.Following.{IsJudged, IsOfOpen, both, lines_most}

-- BEFORE ANY LINE

quiet_at_first : IsQuiet []
quiet_at_first = record { orderly = tt; idle = λ t. record { closed = refl; free = λ m. refl }; nobody_dying = refl }

pub nothing_stands : (l : Bounds) (n : ℕ) → StandFor l n [] []
nothing_stands l n = record { quiet = quiet_at_first; others_quiet = quiet_at_first; alike = exactly refl }

-- if fewer lines may follow, they stand for others, too
fewer_follow : (l : Bounds) (n k : ℕ) (lines others : List Line) → k ≤ n → StandFor l n lines others → StandFor l k lines others
fewer_follow l n k lines others le s = record { quiet = s.quiet; others_quiet = s.others_quiet; alike = go s.alike }
  where
    go : {w v : World} → GoOnAlike n w v → GoOnAlike k w v
    go (exactly e) = exactly e
    go (but_for_uses e f g) = but_for_uses e (λ part few. f part (omega (arith, few, le))) (λ part few. g part (omega (arith, few, le)))

pub none_shown : (l : Bounds) → IsShown l []
none_shown l = record { history = []; before = []; last = empty_world l.signals; run = start refl; cut = no_line }

-- ONE MORE LINE

pub next_open : (front later : List Line) (x : Line) → reverse (front ++ (later ++ x ∷ [])) ≡ x ∷ reverse (front ++ later)
next_open front later x = ap reverse (sym (append_assoc front later (x ∷ []))) ∙ reverse-append (front ++ later) (x ∷ [])

-- THE TWO PARTS

module _ (l : Bounds) (front later : List Line) (j : Judged) (h : IsJudged l front later j) (none : Vec Line)
    (empty : none.items ≡ []) (n : ℕ) (len : length later ≡ n) (few : n ≤ lines_most) where
  front_taken : take j.count (front ++ later) ≡ front
  front_taken = ap (λ k. take k (front ++ later)) h.count ∙ take-append_seam front later

  open_taken : take n (drop j.count (front ++ later)) ≡ later
  open_taken =
      ap (take n) (ap (λ k. drop k (front ++ later)) h.count ∙ drop-append_seam front later)
      ∙ ap (λ k. take k later) (sym len) ∙ take-length later

  abbrev pub first_part : Part
  first_part = record { first = 0; count = j.count; before = none }

  abbrev pub last_part : Part
  last_part = record { first = j.count; count = n; before = j.before }

  pub are_parts : ArePartsOf l (front ++ later) (first_part ∷ last_part ∷ [])
  are_parts =
      let zero_more : 0 + j.count ≡ j.count = omega arith in
      let all : 0 + j.count + n ≡ length (front ++ later) =
      let e = h.count in let both_lengths = length-append front later in omega (arith, e, both_lengths, len) in (
        refl,
        subst (λ (ys : List Line). StandFor l (length (front ++ later) - 0) (reverse ys) []) (sym empty)
            (nothing_stands l (length (front ++ later) - 0)),
        (
          sym zero_more,
          subst (λ (ys : List Line). StandFor l (length (front ++ later) - (0 + j.count)) (reverse j.before.items) (reverse ys))
              (sym (ap (λ k. take k (front ++ later)) zero_more ∙ front_taken))
              (fewer_follow l lines_most (length (front ++ later) - (0 + j.count)) (reverse j.before.items) (reverse front)
              (omega (arith, all, few)) h.stands),
          all,
        ),
      )

  -- the open lines with those that stand for the front
  last_alone : alone (front ++ later) last_part ≡ both j.before.items later
  last_alone = ap (λ (ys : List Line). j.before.items ++ ys) open_taken

  first_alone : alone (front ++ later) first_part ≡ front
  first_alone = ap (λ (ys : List Line). ys ++ take j.count (front ++ later)) empty ∙ front_taken

  last_verdict : (v : PartVerdict) → IsOfOpen l j later v → IsOfPart l (front ++ later) last_part v
  last_verdict v x = subst (λ (ys : List Line). IsOf l ys v) (sym last_alone) x

  pub are_verdicts : (v : PartVerdict) → IsOfOpen l j later v
      → AreOfParts l (front ++ later) (first_part ∷ last_part ∷ []) (part.Legal ∷ v ∷ [])
  are_verdicts v x =
      (subst (λ (ys : List Line). IsShown l (reverse ys)) (sym first_alone) h.legal, (last_verdict v x, tt))

-- THE FRONT GROWS

-- by nothing
pub stays : (l : Bounds) (front later : List Line) (j : Judged) → length later ≡ 0 → IsJudged l front later j
    → IsJudged l (front ++ later) [] j
stays l front [] j none h =
    subst (λ (ys : List Line). IsJudged l ys [] j) (sym (append-nil front)) h
stays l front (x ∷ xs) j none h = absurd (omega (arith, none))

pub grown : (l : Bounds) (front later : List Line) (old new : Judged) → IsJudged l front later old
    → new.count ≡ old.count + length later → new.past ≡ old.past → IsShown l (reverse (front ++ later))
    → StandFor l lines_most (reverse new.before.items) (reverse (front ++ later)) → (length later ≡ 0 → ⊥) → IsJudged l (front ++ later) [] new
grown l front later old new h e p legal stands some = record {
  count = let both_lengths = length-append front later in let c = h.count in omega (arith, both_lengths, c, e);
  legal = legal;
  stands = stands;
  at_first = λ none m.
      let both_lengths = length-append front later in
      let no_length : length (front ++ later) ≡ 0 = ap length none in absurd (some (omega (arith, both_lengths, no_length)));
  past = subst (λ (ys : List Line). IsPast (reverse ys) new.past) (sym (append-nil (front ++ later)))
      (subst (λ q. IsPast (reverse (front ++ later)) q) (sym p) h.past);
}
