-- The parts of a history, cut one after the other; and verdicts on them, which are joined.
use Rattle.std.proofs.Common.{ℕ, zero, suc, ◌≡◌, ◌∙◌, ◌≤◌, ◌<◌, ◌+◌, ◌-◌, List, [], ◌∷◌, ◌++◌, length, take, drop, reverse, map, get_or, refl, sym, ap, subst, arith}
use Rattle.std.proofs.lemmas.List.{reverse-append, length-append, take-take, drop-drop, drop-map, length-drop, take_more, length-reverse}
use Rattle.pif_types.specs.Bounds.{Bounds}
use Rattle.pif_rules_model.specs.Sets.{no_rules}
use Rattle.pif_model.specs.Posix.{empty_world}
use Rattle.pif_model.specs.Posix.IsRun.{start}
use Rattle.pif_history_model.specs.declared.lines.Line.{Line}
use Rattle.pif_history_model.specs.Shown.{IsShown}
use Rattle.pif_history_model.specs.Shown.IsCut.{no_line}
use Rattle.pif_history_model.specs.Verdicts.{IsIllegal}
use Rattle.pif_history_model.specs.Verdicts.IsShownBy.{plainly}
use Rattle.pif_history_model.proofs.Widening.{plain-from_shown}
use Rattle.pif_parts_model.specs.Resting.{world_by}
use Rattle.pif_parts_model.proofs.Cutting.{cut_there}
use Rattle.pif_parts_model.proofs.FewUses.{go_on_but_for_uses}
use Rattle.pif_parts_model.proofs.Judging.{go_on_alike}
use Rattle.pif_parts.specs.declared.parts.Part.{Part}
use Rattle.pif_parts.specs.declared.parts.Span.{Span}
use Rattle.pif_parts.specs.declared.parts.Cutting.{Cutting}
use Rattle.pif_parts.specs.declared.joining.PartVerdict.{PartVerdict}
use Rattle.pif_parts.specs.declared.joining.PartVerdict.TheVariants as part
use Rattle.pif_parts.specs.declared.joining.WholeVerdict.{WholeVerdict}
use Rattle.pif_parts.specs.declared.joining.WholeVerdict.TheVariants as whole
use Rattle.pif_parts.specs.Standing.{GoOnAlike, StandFor}
use Rattle.pif_parts.specs.Standing.GoOnAlike.{exactly, but_for_uses}
use Rattle.pif_parts.specs.Parts.{AreParts, AreOfParts, IsOfPart, IsOfWhole, IsPlaced, IsCutting, StandForFirst, alone, span_of}

-- CUTTING

-- one more part at the end
pub one_part_more : (l : Bounds) (lines : List Line) (a b : ℕ) (ps : List Part) (p : Part) → AreParts l lines a ps b → p.first ≡ b
    → StandForFirst l lines b p.before.items → AreParts l lines a (ps ++ p ∷ []) (b + p.count)
one_part_more l lines a b [] p e f s =
    (f ∙ sym e, subst (λ n. StandForFirst l lines n p.before.items) (sym e) s, ap (λ n. n + p.count) e)
one_part_more l lines a b (q ∷ ps) p x f s = (x.0, x.1, one_part_more l lines (a + q.count) b ps p x.2 f s)

-- the next part ends at a place
pub cut_more : (l : Bounds) (lines : List Line) (c : Cutting) (place : ℕ) → c.first ≤ place → (p : Part) → p.first ≡ c.first → p.count ≡ place - c.first
    → p.before.items ≡ c.before.items → (ps : List Part) → ps ≡ c.parts.items ++ p ∷ [] → IsCutting l lines c → AreParts l lines 0 ps place
cut_more l lines c place le p f n b ps e x =
    subst (λ qs. AreParts l lines 0 qs place) (sym e)
    (subst (λ k. AreParts l lines 0 (c.parts.items ++ p ∷ []) k) (ap (λ k. c.first + k) n ∙ (let back : c.first + (place - c.first) ≡ place = omega (arith, le) in back))
    (one_part_more l lines 0 c.first c.parts.items p x.parts f (subst (λ ys. StandForFirst l lines c.first ys) (sym b) x.before)))

-- one line more, newest first
pub next_heard : (lines : List Line) (n : ℕ) (x : Line) → n < length lines → x ≡ get_or lines n x
    → reverse (take (n + 1) lines) ≡ x ∷ reverse (take n lines)
next_heard lines n x le e =
    ap reverse (take_more lines n x le) ∙ reverse-append (take n lines) (get_or lines n x ∷ [])
    ∙ ap (λ y. y ∷ reverse (take n lines)) (sym e)

-- JOINING

-- no lines are shown
none_shown : (l : Bounds) → IsShown l []
none_shown l = record { history = []; before = []; last = empty_world l.signals; run = start refl; cut = no_line }

-- lists
take_on : {A : Type 0} (n k : ℕ) (xs : List A) → n ≤ length xs → take (n + k) xs ≡ take n xs ++ take k (drop n xs)
take_on zero k xs le = ap (λ m. take m xs) (let e : zero + k ≡ k = omega arith in e)
take_on (suc n) k [] le = absurd (omega (arith, le))
take_on (suc n) k (x ∷ xs) le =
    ap (λ m. take m (x ∷ xs)) (let e : suc n + k ≡ suc (n + k) = omega arith in e) ∙ ap (λ ys. x ∷ ys) (take_on n k xs (omega (arith, le)))

take_short : {A : Type 0} (n : ℕ) (xs : List A) → length (take n xs) ≤ length xs
take_short zero xs = omega arith
take_short (suc n) [] = omega arith
take_short (suc n) (x ∷ xs) = let less = take_short n xs in omega (arith, less)

-- behind a list, so many more
take_behind : {A : Type 0} (xs : List A) (k : ℕ) (ys : List A) → take (length xs + k) (xs ++ ys) ≡ xs ++ take k ys
take_behind {A} [] k ys = ap (λ m. take m ys) (let e : length {A = A} [] + k ≡ k = omega arith in e)
take_behind (x ∷ xs) k ys =
    ap (λ m. take m (x ∷ (xs ++ ys))) (let e : length (x ∷ xs) + k ≡ suc (length xs + k) = omega arith in e)
    ∙ ap (λ zs. x ∷ zs) (take_behind xs k ys)

-- in the other order
reversed_fits : (later : List Line) (n : ℕ) → length later ≤ n → length (reverse later) ≤ n
reversed_fits later n le = let same = length-reverse later in omega (arith, le, same)

-- what is behind the first of those that are left
drop_tail : {A : Type 0} (n : ℕ) (xs : List A) (x : A) (rest : List A) → drop n xs ≡ x ∷ rest → drop (n + 1) xs ≡ rest
drop_tail n xs x rest e = sym (drop-drop 1 n xs) ∙ ap (drop 1) e

-- parts end behind their beginning
parts_rise : (l : Bounds) (lines : List Line) (a b : ℕ) (ps : List Part) → AreParts l lines a ps b → a ≤ b
parts_rise l lines a b [] e = omega (arith, e)
parts_rise l lines a b (p ∷ ps) x = let more = parts_rise l lines (a + p.count) b ps x.2 in omega (arith, more)

-- what follows goes on alike, and the other way round
go_on : (l : Bounds) (n : ℕ) (lines others later : List Line) → StandFor l n lines others → length later ≤ n → IsShown l others
    → IsShown l (later ++ lines) → IsShown l (later ++ others)
go_on l n lines others later s le legal x = go s.alike
  where
    go : GoOnAlike n (world_by l lines) (world_by l others) → IsShown l (later ++ others)
    go (exactly e) = go_on_alike l lines others later s.quiet s.others_quiet (sym e) legal x
    go (but_for_uses e f g) = go_on_but_for_uses l lines others later s.quiet s.others_quiet (sym e) (f later le) (g later le) legal x

go_back : (l : Bounds) (n : ℕ) (lines others later : List Line) → StandFor l n lines others → length later ≤ n → IsShown l lines
    → IsShown l (later ++ others) → IsShown l (later ++ lines)
go_back l n lines others later s le legal x = go s.alike
  where
    go : GoOnAlike n (world_by l lines) (world_by l others) → IsShown l (later ++ lines)
    go (exactly e) = go_on_alike l others lines later s.others_quiet s.quiet e legal x
    go (but_for_uses e f g) = go_on_but_for_uses l others lines later s.others_quiet s.quiet e (g later le) (f later le) legal x

module _ (l : Bounds) (lines : List Line) (a : ℕ) (within : a ≤ length lines) (before : List Line)
    (stands : StandForFirst l lines a before) where
  -- lines behind the first ones are shown with these, or with those that stand for them
  shown_there : (later : List Line) → length later ≤ length lines - a → IsShown l (reverse (take a lines))
      → IsShown l (reverse (before ++ later)) → IsShown l (reverse (take a lines ++ later))
  shown_there later le whole x =
      let y : IsShown l (reverse later ++ reverse before) = subst (IsShown l) (reverse-append before later) x in
      subst (IsShown l) (sym (reverse-append (take a lines) later))
      (go_on l (length lines - a) (reverse before) (reverse (take a lines)) (reverse later) stands (reversed_fits later (length lines - a) le) whole y)

  shown_here : (later : List Line) → length later ≤ length lines - a → IsShown l (reverse before)
      → IsShown l (reverse (take a lines ++ later)) → IsShown l (reverse (before ++ later))
  shown_here later le alone_there x =
      let y : IsShown l (reverse later ++ reverse (take a lines)) = subst (IsShown l) (reverse-append (take a lines) later) x in
      subst (IsShown l) (sym (reverse-append before later))
      (go_back l (length lines - a) (reverse before) (reverse (take a lines)) (reverse later) stands (reversed_fits later (length lines - a) le) alone_there y)

  -- of the lines behind the first ones
  fits : (i : ℕ) → length (take i (drop a lines)) ≤ length lines - a
  fits i =
      let short : length (take i (drop a lines)) ≤ length (drop a lines) = take_short i (drop a lines) in
      let rest : length (drop a lines) ≡ length lines - a = length-drop a lines in
      omega (arith, short, rest)

  module _ (whole : IsShown l (reverse (take a lines))) (count : ℕ) where
    -- a part that is legal alone is legal there
    legal_there : IsShown l (reverse (before ++ take count (drop a lines))) → IsShown l (reverse (take (a + count) lines))
    legal_there x =
        subst (λ (zs : List Line). IsShown l (reverse zs)) (sym (take_on a count lines within))
        (shown_there (take count (drop a lines)) (fits count) whole x)

    -- the first illegal line of a part is that of the whole
    illegal_there : (k : ℕ) → 1 ≤ k → k ≤ count
        → IsIllegal no_rules l (before ++ take count (drop a lines)) (length before + k) → IsIllegal no_rules l lines (a + k)
    illegal_there k some below_count x = record {
      some = omega (arith, some);
      within = inside;
      illegal = λ y. x.illegal (plainly refl (subst (λ (zs : List Line). IsShown l (reverse zs)) (sym (first k below_count))
          (shown_here (take k (drop a lines)) (fits k) begins
          (subst (λ (zs : List Line). IsShown l (reverse zs)) (take_on a k lines within)
          (plain-from_shown l (reverse (take (a + k) lines)) y)))));
      legal = plainly refl (subst (λ (zs : List Line). IsShown l (reverse zs))
          (sym (ap (λ n. take n lines) (less a) ∙ take_on a (k - 1) lines within))
          (shown_there (take (k - 1) (drop a lines)) (fits (k - 1)) whole shown_before));
    }
      where
        less : (n : ℕ) → (n + k) - 1 ≡ n + (k - 1)
        less n = omega (arith, some)

        first : (i : ℕ) → i ≤ count → take (length before + i) (before ++ take count (drop a lines)) ≡ before ++ take i (drop a lines)
        first i le = take_behind before i (take count (drop a lines)) ∙ ap (λ zs. before ++ zs) (take-take i count (drop a lines) le)

        shown_before : IsShown l (reverse (before ++ take (k - 1) (drop a lines)))
        shown_before =
            subst (λ (zs : List Line). IsShown l (reverse zs))
            (ap (λ n. take n (before ++ take count (drop a lines))) (less (length before)) ∙ first (k - 1) (omega (arith, below_count)))
            (plain-from_shown l (reverse (take ((length before + k) - 1) (before ++ take count (drop a lines)))) x.legal)

        begins : IsShown l (reverse before)
        begins =
            (cut_there l (reverse before) stands.quiet (reverse (take (k - 1) (drop a lines)))
            (subst (IsShown l) (reverse-append before (take (k - 1) (drop a lines))) shown_before)).0

        inside : a + k ≤ length lines
        inside =
            let w = x.within in
            let both = length-append before (take count (drop a lines)) in
            let short : length (take count (drop a lines)) ≤ length (drop a lines) = take_short count (drop a lines) in
            let rest : length (drop a lines) ≡ length lines - a = length-drop a lines in
            omega (arith, w, both, short, rest, within)

-- HOW FAR VERDICTS WERE JOINED

-- all parts before the one of this number are legal
pub record AreJoined (l : Bounds) (lines : List Line) (ps : List Part) (vs : List PartVerdict) (number : ℕ) : Type 0 where
  pub place : ℕ
  pub parts : AreParts l lines place (drop number ps) (length lines)
  pub verdicts : AreOfParts l lines (drop number ps) (drop number vs)
  pub legal : IsShown l (reverse (take place lines))

pub joined_first : (l : Bounds) (lines : List Line) (ps : List Part) (vs : List PartVerdict) → AreParts l lines 0 ps (length lines)
    → AreOfParts l lines ps vs → AreJoined l lines ps vs 0
joined_first l lines ps vs p v = record { place = 0; parts = p; verdicts = v; legal = none_shown l }

-- the next part and its verdict
module _ (l : Bounds) (lines : List Line) (p : Part) (rest : List Part) (v : PartVerdict) (others : List PartVerdict) (a : ℕ)
    (parts : AreParts l lines a (p ∷ rest) (length lines)) (verdicts : AreOfParts l lines (p ∷ rest) (v ∷ others))
    (legal : IsShown l (reverse (take a lines))) where
  within : a ≤ length lines
  within = parts_rise l lines a (length lines) (p ∷ rest) parts

  -- its lines
  here : alone lines p ≡ p.before.items ++ take p.count (drop a lines)
  here = ap (λ n. p.before.items ++ take p.count (drop n lines)) parts.0

  legal_next : v ≡ part.Legal → IsShown l (reverse (take (a + p.count) lines))
  legal_next is =
      legal_there l lines a within p.before.items parts.1 legal p.count
      (subst (λ (zs : List Line). IsShown l (reverse zs)) here (subst (λ w. IsOfPart l lines p w) is verdicts.0))

  illegal_next : (n k : ℕ) → v ≡ part.Illegal n → length p.before.items < n → n ≤ length p.before.items + p.count
      → k ≡ p.first + (n - length p.before.items) → IsIllegal no_rules l lines k
  illegal_next n k is above below e =
      subst (λ m. IsIllegal no_rules l lines m) (sym (e ∙ ap (λ m. m + (n - length p.before.items)) parts.0))
      (illegal_there l lines a within p.before.items parts.1 legal p.count (n - length p.before.items) (omega (arith, above))
      (omega (arith, above, below))
      (subst (λ m. IsIllegal no_rules l (p.before.items ++ take p.count (drop a lines)) m) (omega (arith, above))
      (subst (λ (zs : List Line). IsIllegal no_rules l zs n) here (subst (λ w. IsOfPart l lines p w) is verdicts.0))))

-- the same by the number of the part
module _ (l : Bounds) (lines : List Line) (ps : List Part) (vs : List PartVerdict) (spans : List Span) (are : spans ≡ map span_of ps)
    (number : ℕ) (j : AreJoined l lines ps vs number) (s : Span) (v : PartVerdict)
    (span_here : drop number spans ≡ s ∷ drop (number + 1) spans) (verdict_here : drop number vs ≡ v ∷ drop (number + 1) vs) where
  -- the parts from this one on
  module _ (p : Part) (rest : List Part) (part_here : drop number ps ≡ p ∷ rest) where
    tail : rest ≡ drop (number + 1) ps
    tail = sym (drop_tail number ps p rest part_here)

    its_parts : AreParts l lines j.place (p ∷ rest) (length lines)
    its_parts = subst (λ xs. AreParts l lines j.place xs (length lines)) part_here j.parts

    its_verdicts : AreOfParts l lines (p ∷ rest) (v ∷ drop (number + 1) vs)
    its_verdicts =
        subst (λ ws. AreOfParts l lines (p ∷ rest) ws) verdict_here (subst (λ xs. AreOfParts l lines xs (drop number vs)) part_here j.verdicts)

    its_span : span_of p ≡ s
    its_span =
        let e : span_of p ∷ map span_of rest ≡ s ∷ drop (number + 1) spans =
        ap (map span_of) (sym part_here) ∙ sym (drop-map span_of number ps) ∙ ap (drop number) (sym are) ∙ span_here in cc

    next_joined : v ≡ part.Legal → AreJoined l lines ps vs (number + 1)
    next_joined is = record {
      place = j.place + p.count;
      parts = subst (λ xs. AreParts l lines (j.place + p.count) xs (length lines)) tail its_parts.2;
      verdicts = subst (λ xs. AreOfParts l lines xs (drop (number + 1) vs)) tail its_verdicts.1;
      legal = legal_next l lines p rest v (drop (number + 1) vs) j.place its_parts its_verdicts j.legal is;
    }

    next_illegal : (n : ℕ) (w : WholeVerdict) → v ≡ part.Illegal n → IsPlaced s n w → IsOfWhole l lines w
    next_illegal n whole.Legal is x = absurd x
    next_illegal n (whole.Illegal k) is x =
        illegal_next l lines p rest v (drop (number + 1) vs) j.place its_parts its_verdicts j.legal n k is
        (subst (λ (z : Span). z.before < n) (sym its_span) x.0) (subst (λ (z : Span). n ≤ z.before + z.count) (sym its_span) x.1)
        (subst (λ (z : Span). k ≡ z.first + (n - z.before)) (sym its_span) x.2)
    next_illegal n (whole.Undecided k) is x = absurd x
    next_illegal n (whole.Foreign k) is x = tt

  -- there is such a part
  by_part : (R : Type 0) → ((p : Part) (rest : List Part) → drop number ps ≡ p ∷ rest → R) → R
  by_part R f = go (drop number ps) refl
    where
      go : (xs : List Part) → drop number ps ≡ xs → R
      go [] e =
          let none : [] ≡ s ∷ drop (number + 1) spans =
          ap (map span_of) (sym e) ∙ sym (drop-map span_of number ps) ∙ ap (drop number) (sym are) ∙ span_here in absurd (cc)
      go (p ∷ rest) e = f p rest e

  pub joined_more : v ≡ part.Legal → AreJoined l lines ps vs (number + 1)
  joined_more is = by_part (AreJoined l lines ps vs (number + 1)) (λ p rest e. next_joined p rest e is)

  pub joined_illegal : (n : ℕ) (w : WholeVerdict) → v ≡ part.Illegal n → IsPlaced s n w → IsOfWhole l lines w
  joined_illegal n w is x = by_part (IsOfWhole l lines w) (λ p rest e. next_illegal p rest e n w is x)
