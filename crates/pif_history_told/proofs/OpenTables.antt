-- Open calls, in the order of their threads.
use Rattle.std.proofs.Common.{◌≡◌, ℕ, ◌-◌, ◌≤◌, List, [], ◌∷◌, ◌++◌, length, Option, None, Some, refl, sym, ap, ◌∙◌}
use Rattle.std.proofs.lemmas.Grind.{flat_map-append}
use Rattle.std.proofs.lemmas.List.{append-nil}
use Rattle.std.specs.List.{flat_map}
use Rattle.pif_history_model.specs.Numbers.{up_to}
use Rattle.pif_history_model.proofs.Numbers.{up_to-next}
use Rattle.pif_history_text.specs.Histories.{Heard}
use Rattle.pif_history_told.specs.declared.verdicts.Began.{Began}
use Rattle.pif_history_told.specs.Why.{open_of, open_of_thread}

pub none_before : (h : Heard) → [] ≡ flat_map (open_of_thread h) (up_to 0)
unfolding up_to
none_before h = refl

abbrev listed : Option Began → List Began
listed o = elim o [ Some b ↦ b ∷ [] | None ↦ [] ]

pub listed_more : (h : Heard) (t : ℕ) (o : Option Began) (old : List Began) → 1 ≤ t → o ≡ open_of (Some t) h (length h.shown)
    → old ≡ flat_map (open_of_thread h) (up_to (t - 1)) → old ++ listed o ≡ flat_map (open_of_thread h) (up_to t)
listed_more h t o old some is so_far =
    ap (λ (bs : List Began). bs ++ listed o) so_far
    ∙ (ap (λ (x : Option Began). flat_map (open_of_thread h) (up_to (t - 1)) ++ listed x) is
    ∙ (ap (λ (bs : List Began). flat_map (open_of_thread h) (up_to (t - 1)) ++ bs) (sym (append-nil (open_of_thread h t)))
    ∙ (sym (flat_map-append (open_of_thread h) (up_to (t - 1)) (t ∷ []))
    ∙ ap (λ (ts : List ℕ). flat_map (open_of_thread h) ts) (sym (up_to-next t some)))))

pub some_more : (h : Heard) (t : ℕ) (o : Option Began) (b : Began) (old : List Began) → 1 ≤ t → o ≡ Some b
    → o ≡ open_of (Some t) h (length h.shown) → old ≡ flat_map (open_of_thread h) (up_to (t - 1))
    → old ++ b ∷ [] ≡ flat_map (open_of_thread h) (up_to t)
some_more h t o b old some e is so_far =
    ap (λ (x : Option Began). old ++ listed x) (sym e) ∙ listed_more h t o old some is so_far

pub none_more : (h : Heard) (t : ℕ) (o : Option Began) (old : List Began) → 1 ≤ t → o ≡ None
    → o ≡ open_of (Some t) h (length h.shown) → old ≡ flat_map (open_of_thread h) (up_to (t - 1))
    → old ≡ flat_map (open_of_thread h) (up_to t)
none_more h t o old some e is so_far =
    sym (append-nil old) ∙ (ap (λ (x : Option Began). old ++ listed x) (sym e) ∙ listed_more h t o old some is so_far)
