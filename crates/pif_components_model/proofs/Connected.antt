-- Names of one component stay together: each function of names that is the same for names that a line joins is the same
-- for those that any chain joins.
use Rattle.std.proofs.Common.{◌≡◌, ◌∙◌, List, refl, sym}
use Rattle.pif_history_model.specs.declared.lines.Line.{Line}
use Rattle.pif_components_model.specs.Components.{Name, Joins, IsConnected}
use Rattle.pif_components_model.specs.Components.IsConnected.{same, on, back}

pub together : {B : Type 0} (f : Name → B) (lines : List Line) → ((a b : Name) → Joins lines a b → f a ≡ f b) → (a b : Name)
    → IsConnected lines a b → f a ≡ f b
together f lines joined a _ same = refl
together f lines joined a b (on {b = m} r j) = together f lines joined a m r ∙ joined m b j
together f lines joined a b (back {b = m} r j) = together f lines joined a m r ∙ sym (joined b m j)
