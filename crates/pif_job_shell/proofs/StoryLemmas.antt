-- A script that is filled in.
use Rattle.std.proofs.Common.{◌≡◌, ℕ, ◌≤◌, List, [], ◌++◌, Some, Ok, length, length-append, append-nil, inl, inr, sym, ap, ◌∙◌, arith}
use Rattle.pif_script_model.specs.Checks.{TellsTo, fill_telling}

-- a script that was filled in, from memory to memory
pub story_filled : (script left out : List ℕ) (x : Unit {0}) → length script ≤ 16777216
    → TellsTo (fill_telling []) (Some script) (Some left) (Some []) (Some out) (Ok x) → fill_telling [] script ≡ (out, Ok x)
story_filled script left out x short t =
    let none : left ≡ [] =
    elim t.3.1 [
      | inl full ↦ absurd (omega (arith, full, short, ap length t.1, length-append t.0 left))
      | inr end ↦ end
    ] in
    let same : script ≡ t.0 = t.1 ∙ ap (λ l. t.0 ++ l) none ∙ append-nil t.0 in
    ap (fill_telling []) same ∙ (λ i. ((sym t.3.2) i, t.3.0 i))
