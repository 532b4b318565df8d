-- What is shown of what is told of a history: with the names and the places that its comments give, beside its numbers.
use Rattle.std.specs.Prelude.{ℕ, ◌≡◌, List, [], ◌∷◌, ◌++◌, codes}
use Rattle.pif_history_told.specs.Names.{AreNames}
use Rattle.pif_history_told.specs.Pages.{IsPageOf}
use Rattle.pif_job_judge.specs.declared.forms.Form.{Form}
use Rattle.pif_job_judge.specs.declared.forms.Form.TheVariants.{Text, Witness, Json, Page}

-- A text, and after it names and then places, each between such texts, or nothing.
abbrev pub HasNames : (names_front places_front back : List ℕ) → (text shown : List ℕ) → Type 0
HasNames names_front places_front back text shown =
    (names places : List ℕ) × AreNames names_front back names × AreNames places_front back places
    × (shown ≡ text ++ names ++ places)

-- In lines the last ones may have names and places, and so may the last objects in lines of JSON. A page holds these
-- lines.
abbrev pub IsShown : Form → (text shown : List ℕ) → Type 0
IsShown Text text shown = HasNames (codes "names: ") (codes "places: ") (10 ∷ []) text shown
IsShown Witness text shown = HasNames (codes "names: ") (codes "places: ") (10 ∷ []) text shown
IsShown Json text shown = HasNames (codes "{\"names\":{") (codes "{\"places\":{") (codes "}}\n") text shown
IsShown Page text shown = IsPageOf text [] shown
