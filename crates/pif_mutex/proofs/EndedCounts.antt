-- What a thread that ends held is held once, mutex by mutex.
use Rattle.std.proofs.Common.{◌≡◌, ℕ, ◌==◌, false, List, [], ◌∷◌, get_or, set, if◌then◌else◌, refl, sym, ap, ◌∙◌}
use Rattle.pif_types.specs.declared.requests.Kind.TheVariants.{Normal}
use Rattle.pif_model.specs.Word.{Words, word_at}
use Rattle.pif_model.specs.Table.{Table, LibraryMutex, new_mutex}
use Rattle.pif_model.specs.Lines.{library_after_end}

-- what the library knows of mutexes once t, which ends, holds m once
abbrev pub held_once : ℕ → ℕ → Words → List LibraryMutex → List LibraryMutex
held_once t m ws ls =
    if (word_at ws m).number == t then set ls m (record (get_or ls m (new_mutex Normal false)) { count = 1 }) else ls

-- the table v is s once t holds those of these mutexes once that aren't ahead any more
pub record AreHeldOnce (t : ℕ) (ahead ms : List ℕ) (s v : Table) : Type 0 where
  pub others : v ≡ record s { mutexes = v.mutexes }
  pub counts : library_after_end t ahead s.words v.mutexes ≡ library_after_end t ms s.words s.mutexes

-- at first all are ahead
pub held_once_first : (t : ℕ) (ahead ms : List ℕ) (s : Table) → ahead ≡ ms → AreHeldOnce t ahead ms s s
held_once_first t ahead ms s all = record {
  others = refl;
  counts = ap (λ (ks : List ℕ). library_after_end t ks s.words s.mutexes) all;
}

-- one more
pub held_once_more : (t m : ℕ) (was ahead ms : List ℕ) (s v u : Table) → was ≡ m ∷ ahead → AreHeldOnce t was ms s v
    → u ≡ record v { mutexes = held_once t m v.words v.mutexes } → AreHeldOnce t ahead ms s u
unfolding library_after_end
held_once_more t m was ahead ms s v u is h after =
    let known : u.mutexes ≡ held_once t m v.words v.mutexes = ap (λ (w : Table). w.mutexes) after in
    record {
      others = after ∙ ap (λ (w : Table). record w { mutexes = held_once t m v.words v.mutexes }) h.others
          ∙ ap (λ (ls : List LibraryMutex). record s { mutexes = ls }) (sym known);
      counts = ap (λ (ls : List LibraryMutex). library_after_end t ahead s.words ls)
          (known ∙ ap (λ (w : Table). held_once t m w.words v.mutexes) h.others)
          ∙ ap (λ (ks : List ℕ). library_after_end t ks s.words v.mutexes) (sym is)
          ∙ h.counts;
    }

-- the robust lists stay as they were
pub held_once_lists : (t m : ℕ) (was ms : List ℕ) (s v u : Table) → AreHeldOnce t was ms s v
    → u ≡ record v { mutexes = held_once t m v.words v.mutexes } → u.lists ≡ s.lists
held_once_lists t m was ms s v u h after = ap (λ (w : Table). w.lists) after ∙ ap (λ (w : Table). w.lists) h.others

-- at last none is
pub held_once_last : (t : ℕ) (ahead ms : List ℕ) (s v : Table) → ahead ≡ [] → AreHeldOnce t ahead ms s v
    → v ≡ record s { mutexes = library_after_end t ms s.words s.mutexes }
unfolding library_after_end
held_once_last t ahead ms s v over h = h.others
    ∙ ap (λ (ls : List LibraryMutex). record s { mutexes = ls })
    (ap (λ (ks : List ℕ). library_after_end t ks s.words v.mutexes) (sym over) ∙ h.counts)
