-- What a new core on a handle comes to.
use Rattle.std.proofs.Common.{◌≡◌, sym, ap, ◌∙◌, subst, true, false, true≢false, Option, Some, None}
use Rattle.std.specs.Prelude.{is_some}
use Rattle.pif_types.specs.Bounds.{Bounds, IsWithin}
use Rattle.pif_model.specs.Table.{Table, new_table}
use Rattle.pif_c_numbers.specs.Codes as pif
use Rattle.pif_model_simulation.proofs.StandingLaws.{new_stands}
use Rattle.pif_c.specs.Standing.{IsMade}
use Rattle.pif_c.specs.Standing.IsMade.{made, none_left, not_within, there}

pub made_on : (l : Bounds) (before after : Option Table) (core : Table) → before ≡ None → after ≡ Some core
    → core ≡ new_table l → IsWithin l → IsMade l before after pif.ok
made_on l before after core empty holds is within =
    subst (λ (b : Option Table). IsMade l b after pif.ok) (sym empty)
    (subst (λ (a : Option Table). IsMade l None a pif.ok) (sym (holds ∙ ap Some is)) (made within (new_stands l within)))

pub none_left_on : (l : Bounds) (before : Option Table) → before ≡ None → IsWithin l → IsMade l before before pif.no_memory
none_left_on l before empty within =
    subst (λ (b : Option Table). IsMade l b b pif.no_memory) (sym empty) (none_left within)

pub there_on : (l : Bounds) (before : Option Table) → is_some before ≡ true → IsMade l before before pif.full
there_on l None e = absurd cc
there_on l (Some s) e = there s

pub not_within_on : (l : Bounds) (before : Option Table) → is_some before ≡ false → (IsWithin l → false ≡ true)
    → IsMade l before before pif.invalid
not_within_on l None e outside = not_within (λ within. true≢false (sym (outside within)))
not_within_on l (Some s) e outside = absurd cc
