-- How the mutexes of robust lists are named, and how the lists are stored.
use Rattle.std.specs.Prelude.{ℕ, zero, suc, List, Option, Some, None, refl}
use Rattle.std.specs.Coded.{Coded, code_by, coded×, coded_ℕ, coded_list}
use Rattle.pif_model.specs.RobustList.{Robust, RobustRow}

-- the mutex of a number; 0 is none
abbrev pub named_mutex : ℕ → Option ℕ
named_mutex zero = None
named_mutex (suc m) = Some (suc m)

abbrev pub robust_row_code : Coded RobustRow
robust_row_code =
    code_by (List ℕ × (ℕ × ℕ)) (coded× (coded_list coded_ℕ) (coded× coded_ℕ coded_ℕ))
    (λ x. (x.listed, (x.half_linked, x.pending))) (λ p. record { listed = p.0; half_linked = p.1.0; pending = p.1.1 })
    (λ _. refl)

abbrev pub robust_code : Coded Robust
robust_code =
    code_by (List RobustRow × ℕ) (coded× (coded_list robust_row_code) coded_ℕ)
    (λ v. (v.threads, v.mutexes)) (λ p. record { threads = p.0; mutexes = p.1 }) (λ _. refl)
