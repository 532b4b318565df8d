-- One more part is judged.
use Rattle.std.proofs.Common.{ℕ, ◌≡◌, ◌∙◌, ◌<◌, ◌+◌, List, [], ◌∷◌, ◌++◌, get_or, length, map, sym, ap, subst, take}
use Rattle.std.proofs.lemmas.List.{map-append, take_more}
use Rattle.pif_types.specs.Bounds.{Bounds}
use Rattle.pif_history_model.specs.declared.lines.Line.{Line}
use Rattle.pif_parts.specs.declared.parts.Part.{Part}
use Rattle.pif_parts.specs.declared.parts.Span.{Span}
use Rattle.pif_parts.specs.declared.joining.PartVerdict.{PartVerdict}
use Rattle.pif_parts.specs.Parts.{AreOfParts, IsOfPart, span_of}

pub one_more : (l : Bounds) (lines : List Line) (ps : List Part) (vs : List PartVerdict) (p : Part) (v : PartVerdict)
    → AreOfParts l lines ps vs → IsOfPart l lines p v → AreOfParts l lines (ps ++ p ∷ []) (vs ++ v ∷ [])
one_more l lines [] [] p v y x = (x, tt)
one_more l lines [] (w ∷ vs) p v y x = absurd y
one_more l lines (q ∷ ps) [] p v y x = absurd y
one_more l lines (q ∷ ps) (w ∷ vs) p v y x = (y.0, one_more l lines ps vs p v y.1 x)

-- the first parts, and one more
next_taken : (ps : List Part) (n : ℕ) (p : Part) → n < length ps → p ≡ get_or ps n p → take (n + 1) ps ≡ take n ps ++ p ∷ []
next_taken ps n p le e = take_more ps n p le ∙ ap (λ q. take n ps ++ q ∷ []) (sym e)

pub spans_more : (ps : List Part) (n : ℕ) (p : Part) → n < length ps → p ≡ get_or ps n p → (before after : List Span) (s : Span)
    → before ≡ map span_of (take n ps) → s ≡ span_of p → after ≡ before ++ s ∷ [] → after ≡ map span_of (take (n + 1) ps)
spans_more ps n p le e before after s h is f =
    f ∙ (λ i. h i ++ is i ∷ []) ∙ sym (map-append span_of (take n ps) (p ∷ [])) ∙ ap (map span_of) (sym (next_taken ps n p le e))

pub verdicts_more : (l : Bounds) (lines : List Line) (ps : List Part) (n : ℕ) (p : Part) → n < length ps → p ≡ get_or ps n p
    → (before after : List PartVerdict) (v : PartVerdict) → AreOfParts l lines (take n ps) before → IsOfPart l lines p v
    → after ≡ before ++ v ∷ [] → AreOfParts l lines (take (n + 1) ps) after
verdicts_more l lines ps n p le e before after v h is f =
    subst (λ ws. AreOfParts l lines (take (n + 1) ps) ws) (sym f)
    (subst (λ qs. AreOfParts l lines qs (before ++ v ∷ [])) (sym (next_taken ps n p le e)) (one_more l lines (take n ps) before p v h is))
