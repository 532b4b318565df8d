-- What was written into an empty text, and is written again.
use Rattle.std.proofs.Common.{◌≡◌, ◌⊎◌, inl, inr, ℕ, List, [], ◌∷◌, ◌++◌, Option, Some, None, append-nil, subst, sym, ◌∙◌}
use Rattle.std.specs.Io.KnownBytes.{Appends, Keeps}
use Rattle.pif_script_model.specs.Runs.{WritesPart}

-- nothing was written
keeps-nothing : (held holds : Option (List ℕ)) → Appends held holds [] → Keeps held holds
keeps-nothing None holds a = tt
keeps-nothing (Some xs) None a = absurd a
keeps-nothing (Some xs) (Some ys) a = a ∙ append-nil xs

-- nothing has no proper part
no-rest : (front rest : List ℕ) → [] ≡ front ++ rest → rest ≡ []
no-rest [] rest e = sym e
no-rest (x ∷ front) rest e = cc

no-part : (held holds : Option (List ℕ)) → WritesPart held holds [] → ⊥
no-part held holds part = part.3 (no-rest part.0 part.1 part.2)

-- How a text that was made is written: it ended so, if it ended by `unwritten` memory was refused for it, and nothing is
-- written; else all of it is, or a proper part.
abbrev pub Again : {X : Type 0} → (unwritten refused : X) → (text : List ℕ) → (done : X) → (held holds : Option (List ℕ)) → X
    → Type 0
Again unwritten refused text done held holds result =
    ((done ≡ unwritten) × (result ≡ refused) × Keeps held holds)
    ⊎ ((done ≡ unwritten → ⊥)
    × (((result ≡ done) × Appends held holds text) ⊎ ((result ≡ unwritten) × WritesPart held holds text)))

module _ {X : Type 0} (unwritten refused : X) (text : List ℕ) (done : X) (held holds : Option (List ℕ)) (result : X)
    (again : Again unwritten refused text done held holds result) where
  -- if nothing was made but an end, it is the end again, or memory is refused
  pub again-nothing : Keeps (Some []) (Some text) → (((result ≡ refused) × (done ≡ unwritten)) ⊎ (result ≡ done)) × Keeps held holds
  again-nothing none =
      elim again [
        | inl r ↦ (inl (r.1, r.0), r.2)
        | inr w ↦ elim w.1 [
          | inl all ↦ (inr all.0, keeps-nothing held holds (subst (Appends held holds) none all.1))
          | inr part ↦ absurd (no-part held holds (subst (WritesPart held holds) none part.1))
        ]
      ]

  -- memory was refused before
  pub again-refused : done ≡ refused → Keeps (Some []) (Some text) → (result ≡ refused) × Keeps held holds
  again-refused e none =
      let kept = again-nothing none in
      (elim kept.0 [ inl r ↦ r.0 | inr r ↦ r ∙ e ], kept.1)

  -- it ended by a fault that isn't `unwritten`
  pub again-fault : (end : X) → done ≡ end → (end ≡ unwritten → ⊥) → Keeps (Some []) (Some text) → (result ≡ end) × Keeps held holds
  again-fault end e other none =
      let kept = again-nothing none in
      (elim kept.0 [ inl r ↦ absurd (other (sym e ∙ r.1)) | inr r ↦ r ∙ e ], kept.1)

  -- these bytes were made
  pub again-text : (bytes : List ℕ) (end : X)
      → ((done ≡ end) × Appends (Some []) (Some text) bytes) ⊎ ((done ≡ unwritten) × WritesPart (Some []) (Some text) bytes)
      → ((result ≡ refused) × Keeps held holds)
      ⊎ (((result ≡ end) × Appends held holds bytes) ⊎ ((result ≡ unwritten) × WritesPart held holds bytes))
  again-text bytes end made =
      elim again [
        | inl r ↦ inl (r.1, r.2)
        | inr w ↦ elim made [
          | inl m ↦ elim w.1 [
            | inl all ↦ inr (inl (all.0 ∙ m.0, subst (Appends held holds) m.1 all.1))
            | inr part ↦ inr (inr (part.0, subst (WritesPart held holds) m.1 part.1))
          ]
          | inr m ↦ absurd (w.0 m.0)
        ]
      ]
