-- The flaws behind the last command.
use Rattle.std.proofs.Common.{◌≡◌, ℕ, ◌+◌, Bool, List, [], ◌∷◌, ◌++◌, Option, Some, None, refl, sym, ap, ◌∙◌}
use Rattle.pif_script_model.specs.Stories.{rows_from}
use Rattle.pif_script_model.specs.Verdicts.{Fault, Flaw, fault_flaws, faulty}
use Rattle.pif_script_model.proofs.ComparingLemmas.{flaws_end, flaws_from}
use Rattle.pif_script_model.proofs.StoriesLemmas.{rows_from_nothing}

same-fault : (last : ℕ) (fault : Option Fault)
    → fault_flaws last fault [] ≡ (elim fault [ None ↦ [] | Some f ↦ faulty last [] f.1 ∷ [] ])
same-fault last None = refl
same-fault last (Some fault) = refl

-- no command is left, and the fault is in the last line
pub found_end : (strict : Bool) (last before number : ℕ) (fault : Option Fault) (answers : List (List ℕ))
    (whole found : List Flaw) → number ≡ last
    → whole ≡ found ++ flaws_from strict last fault before (rows_from (number + 1) []) answers
    → found ++ fault_flaws number fault [] ≡ whole
found_end strict last before number fault answers whole found n e =
    ap (λ line. found ++ fault_flaws line fault []) n ∙ ap (λ l. found ++ l) (same-fault last fault)
    ∙ sym (ap (λ l. found ++ l) (flaws_end strict last before fault answers))
    ∙ sym (ap (λ rows. found ++ flaws_from strict last fault before rows answers) (rows_from_nothing (number + 1)))
    ∙ sym e
