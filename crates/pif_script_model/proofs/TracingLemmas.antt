-- The trace of a history in parts.
use Rattle.std.proofs.Common.{◌≡◌, ℕ, ◌<◌, ◌≤◌, zero, suc, List, [], ◌∷◌, ◌++◌, length, take, drop, get_or, refl, sym, ap, ◌∙◌, append_assoc, arith}
use Rattle.std.specs.Prelude.{flat_map}
use Rattle.std.proofs.lemmas.List.{take_all}
use Rattle.pif_types.specs.Bounds.{Bounds}
use Rattle.pif_model.specs.declared.events.Entry.{Entry}
use Rattle.pif_script_model.specs.Traces.{entry_line, front_lines, trace}

-- the lines before an entry, its own, and those behind it
flat_map-at : (entries : List Entry) (i : ℕ) (e : Entry) → i < length entries
    → flat_map entry_line entries ≡ flat_map entry_line (take i entries)
    ++ (entry_line (get_or entries i e) ++ flat_map entry_line (drop (suc i) entries))
flat_map-at [] i e h = absurd (omega arith)
flat_map-at (x ∷ xs) zero e h = refl
flat_map-at (x ∷ xs) (suc i) e h =
    ap (λ l. entry_line x ++ l) (flat_map-at xs i e (omega arith))
    ∙ sym (append_assoc (entry_line x) (flat_map entry_line (take i xs))
    (entry_line (get_or xs i e) ++ flat_map entry_line (drop (suc i) xs)))

pub trace-at : (b : Bounds) (entries : List Entry) (i : ℕ) (e : Entry) → i < length entries → e ≡ get_or entries i e
    → trace b entries ≡ (front_lines b ++ flat_map entry_line (take i entries))
    ++ (entry_line e ++ flat_map entry_line (drop (suc i) entries))
unfolding trace
trace-at b entries i e h is =
    let rest = flat_map entry_line (drop (suc i) entries) in
    ap (λ l. front_lines b ++ l) (flat_map-at entries i e h)
    ∙ sym (append_assoc (front_lines b) (flat_map entry_line (take i entries))
    (entry_line (get_or entries i e) ++ rest))
    ∙ ap (λ x. (front_lines b ++ flat_map entry_line (take i entries)) ++ (entry_line x ++ rest)) (sym is)

pub trace-all : (b : Bounds) (entries : List Entry) (i : ℕ) → length entries ≤ i
    → front_lines b ++ flat_map entry_line (take i entries) ≡ trace b entries
unfolding trace
trace-all b entries i h = rw (take_all i entries h) refl
