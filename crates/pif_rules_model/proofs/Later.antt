-- What is remembered of a state stays so once something that had stayed with a thread passes on.
use Rattle.std.proofs.Common.{ℕ, ◌≡◌, ◌∙◌, List, refl, ap}
use Rattle.pif_model.specs.Posix.{World}
use Rattle.pif_rules_model.specs.declared.rules.Rules.{Rules}
use Rattle.pif_rules_model.specs.Lending.{not_owned}
use Rattle.pif_rules_model.specs.Rules.{Wide, SeesLending, InWorld, WidePassesLater}

-- a step that changes the state of the POSIX machine alone
in_world-beside : (of : Wide → List ℕ) → ((s : Wide) (w : World) → of (record s { world = w }) ≡ of s) → (P : World → World → Type 0)
    → (ms : List ℕ) (s n : Wide) → SeesLending ms (InWorld P) s n → of n ≡ of s
in_world-beside of kept P ms s n h =
    ap of h.same
    ∙ (kept h.after _ ∙ (ap of h.step.same ∙ kept s h.step.world))

module _ (r : Rules) (t : ℕ) (s n : Wide) (h : WidePassesLater r t s n) where
  pub later-lost : n.lost ≡ s.lost
  later-lost = in_world-beside (λ (k : Wide). k.lost) (λ k w. refl) _ (not_owned s.world t s.prio_none) s n h

  pub later-apart : n.apart ≡ s.apart
  later-apart = in_world-beside (λ (k : Wide). k.apart) (λ k w. refl) _ (not_owned s.world t s.prio_none) s n h

  pub later-given : n.given ≡ s.given
  later-given = in_world-beside (λ (k : Wide). k.given) (λ k w. refl) _ (not_owned s.world t s.prio_none) s n h

  pub later-none : n.prio_none ≡ s.prio_none
  later-none = in_world-beside (λ (k : Wide). k.prio_none) (λ k w. refl) _ (not_owned s.world t s.prio_none) s n h
