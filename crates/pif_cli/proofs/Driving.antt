-- The lines of a drive.
use Rattle.std.proofs.Common.{◌≡◌, ◌*◌, inl, inr, ℕ, List, [], ◌∷◌, ◌++◌, Option, Result, Ok, Err, codes, decimal, refl, sym, subst}
use Rattle.pif_cli_messages.specs.declared.statuses.JobFault.{JobFault}
use Rattle.pif_cli_messages.specs.declared.statuses.JobFault.TheVariants.{Threads, Unsettled}
use Rattle.pif_cli.specs.Driving.{Drives, SaysSo, WritesLine, answered_text, threads_text, unsettled_text}

-- the line of all answered calls, or a part of it
pub answers_written : (clients answered : ℕ) (held holds : Option (List ℕ)) (r : Result (Unit {0}) JobFault)
    → answered ≡ 200 * clients → WritesLine held holds (codes "answered " ++ decimal answered ++ 10 ∷ []) r
    → Drives clients held holds r
answers_written clients answered held holds (Ok x) e w =
    subst (λ (n : ℕ). WritesLine held holds (codes "answered " ++ decimal n ++ 10 ∷ []) (Ok x)) e w
answers_written clients answered held holds (Err end) e w =
    let part = subst (λ (n : ℕ). WritesLine held holds (codes "answered " ++ decimal n ++ 10 ∷ []) (Err end)) e w in
    subst (λ (f : JobFault). Drives clients held holds (Err f)) (sym part.0)
    (answered_text clients, inl refl, part.1)

-- the line of a thread that could not be started, or a part of it
pub threads_said : (clients : ℕ) (held holds : Option (List ℕ)) (r : Result (Unit {0}) JobFault)
    → SaysSo held holds threads_text Threads r → Drives clients held holds r
threads_said clients held holds (Ok x) w = absurd w
threads_said clients held holds (Err end) w =
    elim w [
      | inl s ↦ subst (λ (f : JobFault). Drives clients held holds (Err f)) (sym s.0) s.1
      | inr s ↦ subst (λ (f : JobFault). Drives clients held holds (Err f)) (sym s.0)
          (threads_text, inr (inl refl), s.1)
    ]

-- the line of a desk that didn't settle, or a part of it
pub unsettled_said : (clients : ℕ) (held holds : Option (List ℕ)) (r : Result (Unit {0}) JobFault)
    → SaysSo held holds unsettled_text Unsettled r → Drives clients held holds r
unsettled_said clients held holds (Ok x) w = absurd w
unsettled_said clients held holds (Err end) w =
    elim w [
      | inl s ↦ subst (λ (f : JobFault). Drives clients held holds (Err f)) (sym s.0) s.1
      | inr s ↦ subst (λ (f : JobFault). Drives clients held holds (Err f)) (sym s.0)
          (unsettled_text, inr (inr refl), s.1)
    ]
