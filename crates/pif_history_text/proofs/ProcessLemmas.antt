-- The threads of a process, word by word.
use Rattle.std.proofs.Common.{◌≡◌, ℕ, List, [], ◌∷◌, ◌++◌, Option, Some, None, map, option_map, refl, sym, ap, ◌∙◌, append_assoc}
use Rattle.std.proofs.lemmas.List.{map-append}
use Rattle.pif_text_model.specs.Calls.{◌>>=◌}
use Rattle.pif_text_model.specs.Numbers.{thread_in}
use Rattle.pif_history_model.specs.declared.lines.Line.TheVariants.{Process}
use Rattle.pif_history_text.specs.Histories.{Heard, next_number}
use Rattle.pif_history_text.specs.Lines.{threads_in}

-- these threads are named by the first of all words, and shown after the lines of h
pub record AreShown (h m : Heard) (all left : List (List ℕ)) : Type 0 where
  pub done : List ℕ
  pub shown : m.shown ≡ h.shown ++ map Process done
  pub numbers : m.numbers ≡ h.numbers ++ map (λ t. next_number h) done
  pub named : m.named ≡ h.named
  pub allowed : m.allowed ≡ h.allowed
  pub count : m.count ≡ h.count
  pub threads : threads_in all ≡ option_map (λ ts. done ++ ts) (threads_in left)

behind_thread : (o : Option ℕ) (p : Option (List ℕ)) (t : ℕ) (done : List ℕ) → o ≡ Some t
    → option_map (λ ts. done ++ ts) (o >>= λ u. p >>= λ us. Some (u ∷ us)) ≡ option_map (λ ts. (done ++ t ∷ []) ++ ts) p
behind_thread o None t done e = rw e refl
behind_thread o (Some ts) t done e = rw e (ap (λ l. Some l) (sym (append_assoc done (t ∷ []) ts)))

-- one thread more
pub one_shown : (h m n : Heard) (all behind : List (List ℕ)) (name : List ℕ) (t : ℕ) → AreShown h m all (name ∷ behind)
    → thread_in name ≡ Some t → n.shown ≡ m.shown ++ Process t ∷ [] → n.numbers ≡ m.numbers ++ next_number h ∷ []
    → n.named ≡ m.named → n.allowed ≡ m.allowed → n.count ≡ m.count → AreShown h n all behind
one_shown h m n all behind name t a e shown numbers named allowed count = record {
  done = a.done ++ t ∷ [];
  shown = shown ∙ (ap (λ l. l ++ Process t ∷ []) a.shown ∙ (append_assoc h.shown (map Process a.done) (Process t ∷ [])
      ∙ ap (λ l. h.shown ++ l) (sym (map-append Process a.done (t ∷ [])))));
  numbers = numbers ∙ (ap (λ l. l ++ next_number h ∷ []) a.numbers
      ∙ (append_assoc h.numbers (map (λ (u : ℕ). next_number h) a.done) (next_number h ∷ [])
      ∙ ap (λ l. h.numbers ++ l) (sym (map-append (λ (u : ℕ). next_number h) a.done (t ∷ [])))));
  named = named ∙ a.named;
  allowed = allowed ∙ a.allowed;
  count = count ∙ a.count;
  threads = a.threads ∙ behind_thread (thread_in name) (threads_in behind) t a.done e;
}
