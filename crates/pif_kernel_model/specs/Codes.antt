-- How what is kept is stored.
use Rattle.std.specs.Prelude.{◌≡◌, ℕ, ◌==◌, if◌then◌else◌, List, Option, refl}
use Rattle.std.specs.Coded.{Coded, code_by, coded×, coded_ℕ, coded_list, coded_option}
use Rattle.pif_types.specs.Bounds.{Bounds}
use Rattle.pif_model.specs.declared.lines.Status.{Status}
use Rattle.pif_model.specs.declared.lines.Status.TheVariants.{Ready, Queued, Parked, Stopped, Ended}
use Rattle.pif_model.specs.declared.lines.Woken.TheVariants.{Fresh, Owns, Again, Expired}
use Rattle.pif_nodes_model.specs.declared.keys.Key.{Key}
use Rattle.pif_nodes_model.specs.Table.{NodeLists}
use Rattle.pif_nodes_model.specs.Levels.{Queue}
use Rattle.pif_kernel_model.specs.Owners.{Owners, owners_code, rank_code}
use Rattle.pif_model.specs.PiKernel.{Parking}
use Rattle.pif_kernel_model.specs.Inside.{Inside}

abbrev pub bounds_code : Coded Bounds
bounds_code =
    code_by (ℕ × (ℕ × (ℕ × ℕ))) (coded× coded_ℕ (coded× coded_ℕ (coded× coded_ℕ coded_ℕ)))
    (λ l. (l.threads, (l.mutexes, (l.conds, l.signals))))
    (λ p. record { threads = p.0; mutexes = p.1.0; conds = p.1.1.0; signals = p.1.1.1 }) (λ _. refl)

-- a status as two numbers: which it is, and the mutex or the variable
abbrev numbers_of : Status → ℕ × ℕ
numbers_of (Ready Fresh) = (0, 0)
numbers_of (Ready Owns) = (1, 0)
numbers_of (Ready Again) = (2, 0)
numbers_of (Ready Expired) = (3, 0)
numbers_of (Queued m) = (4, m)
numbers_of (Parked c) = (5, c)
numbers_of Stopped = (6, 0)
numbers_of Ended = (7, 0)

abbrev status_of : ℕ × ℕ → Status
status_of p =
    if p.0 == 0 then Ready Fresh else
    (if p.0 == 1 then Ready Owns else
    (if p.0 == 2 then Ready Again else
    (if p.0 == 3 then Ready Expired else
    (if p.0 == 4 then Queued p.1 else (if p.0 == 5 then Parked p.1 else (if p.0 == 6 then Stopped else Ended))))))

pub status_of-numbers : (x : Status) → status_of (numbers_of x) ≡ x
status_of-numbers (Ready Fresh) = refl
status_of-numbers (Ready Owns) = refl
status_of-numbers (Ready Again) = refl
status_of-numbers (Ready Expired) = refl
status_of-numbers (Queued m) = refl
status_of-numbers (Parked c) = refl
status_of-numbers Stopped = refl
status_of-numbers Ended = refl

abbrev pub status_code : Coded Status
status_code = code_by (ℕ × ℕ) (coded× coded_ℕ coded_ℕ) numbers_of status_of status_of-numbers

abbrev pub queue_code : Coded Queue
queue_code =
    code_by (ℕ × (ℕ × (ℕ × ℕ))) (coded× coded_ℕ (coded× coded_ℕ (coded× coded_ℕ coded_ℕ)))
    (λ q. (q.first_list, (q.first_node, (q.threads, q.mask))))
    (λ p. record { first_list = p.0; first_node = p.1.0; threads = p.1.1.0; mask = p.1.1.1 }) (λ _. refl)

abbrev pub table_code : Coded NodeLists
table_code =
    code_by (List (List ℕ) × List Key) (coded× (coded_list (coded_list coded_ℕ)) (coded_list rank_code))
    (λ t. (t.lists, t.keys)) (λ p. record { lists = p.0; keys = p.1 }) (λ _. refl)

abbrev pub parking_code : Coded Parking
parking_code =
    code_by (ℕ × (ℕ × ℕ)) (coded× coded_ℕ (coded× coded_ℕ coded_ℕ))
    (λ x. (x.thread, (x.cond, x.target))) (λ p. record { thread = p.0; cond = p.1.0; target = p.1.1 }) (λ _. refl)

-- threads and mutexes
abbrev Sides : Type 0
Sides = List Status × (List (Option ℕ) × (List (ℕ × ℕ) × List Parking))

abbrev pub inside_code : Coded Inside
inside_code =
    code_by (Bounds × (Sides × (Owners × (Queue × (NodeLists × ℕ)))))
    (coded× bounds_code (coded× (coded× (coded_list status_code)
    (coded× (coded_list (coded_option coded_ℕ))
    (coded× (coded_list (coded× coded_ℕ coded_ℕ)) (coded_list parking_code)))) (coded× owners_code
    (coded× queue_code (coded× table_code coded_ℕ)))))
    (λ p. (p.limits, ((p.statuses, (p.keys, (p.arrivals, p.parked))), (p.owners, (p.queue, (p.table, p.next))))))
    (λ p. record {
      limits = p.0;
      statuses = p.1.0.0;
      keys = p.1.0.1.0;
      owners = p.1.1.0;
      queue = p.1.1.1.0;
      table = p.1.1.1.1.0;
      arrivals = p.1.0.1.1.0;
      parked = p.1.0.1.1.1;
      next = p.1.1.1.1.1;
    })
    (λ _. refl)
