-- Keys and parked threads in plain rows.
use Rattle.std.specs.Prelude.{◌≡◌, ◌≢◌, ℕ, ◌≤◌, eqb, true, List, map, Option, refl}
use Rattle.std.specs.List.{IsDistinct}
use Rattle.std.specs.Coded.{Coded, code_by, coded×, coded_ℕ, coded_list, coded_option}
use Rattle.pif_model.specs.PiKernel.{Parking, parked_pairs}
use Rattle.pif_kernel_model.specs.Codes.{parking_code}
use Rattle.pif_kernel_model.specs.Tickets.{is_named}

pub record PlainRows : Type 0 where
  -- for how many parked threads there is room
  pub room : ℕ
  -- the key of the owner state of each mutex, by number; None if there is no owner state
  pub keys : List (Option ℕ)
  -- the parked threads, in the order in which they were parked
  pub parked : List Parking

abbrev pub plain_rows_code : Coded PlainRows
plain_rows_code =
    code_by (ℕ × (List (Option ℕ) × List Parking))
    (coded× coded_ℕ (coded× (coded_list (coded_option coded_ℕ)) (coded_list parking_code)))
    (λ x. (x.room, (x.keys, x.parked))) (λ p. record { room = p.0; keys = p.1.0; parked = p.1.1 }) (λ _. refl)

-- no thread stands twice among these, and each has a number from 1 to `most`
pub record AreParkedOnce (most : ℕ) (ps : List Parking) : Type 0 where
  pub once : IsDistinct eqb (map (λ (w : ℕ × ℕ). w.0) (parked_pairs ps))
  pub known : (t : ℕ) → is_named t (parked_pairs ps) ≡ true → (t ≢ 0) × (t ≤ most)
