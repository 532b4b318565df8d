-- Parts of a text that are read one after the other.
use Rattle.std.proofs.Common.{◌≡◌, ℕ, ◌∙◌, inl, inr, List, [], ◌++◌, Option, Some, None, Ok, sym, ap, subst, append_assoc, append-nil}
use Rattle.std.specs.Io.KnownBytes.{Consumes, IsAtEnd}
use Rattle.std.proofs.KnownBytes.{Consumes-nil, Consumes-trans}
use Rattle.pif_parts.specs.declared.joining.WholeVerdict.{WholeVerdict}
use Rattle.pif_job_follow.specs.declared.followed.Followed.{Followed}
use Rattle.pif_job_follow.specs.Followed.{EndsTo, IsReading, TakesTo, stream_of}
use Rattle.pif_job_follow.specs.Following.{IsUnder, ReadsPart, ReadsTo}

-- nothing was read yet
pub under_first : (a : Option (List ℕ)) (f : Followed) → IsReading [] f → IsUnder a a f
under_first a f x = ([], Consumes-nil a, x)

-- bytes were read and taken
pub part_taken : (before a b : Option (List ℕ)) (bytes : List ℕ) (old new : Followed) (v : Option WholeVerdict) → Consumes a b bytes
    → ((read : List ℕ) → IsReading read old → TakesTo read bytes new v) → IsUnder before a old → ReadsPart before b new v
part_taken before a b bytes old new None consumes takes u =
    (u.0 ++ bytes, Consumes-trans before a b u.0 bytes u.1 consumes, takes u.0 u.2)
part_taken before a b bytes old new (Some v) consumes takes u =
    let t = takes u.0 u.2 in (
      t.2.full,
      record {
        read = u.0 ++ bytes;
        consumes = Consumes-trans before a b u.0 bytes u.1 consumes;
        says = inr (
          u.0 ++ t.0,
          t.1,
          new.line.items,
          ap (λ (bs : List ℕ). u.0 ++ bs) t.3 ∙ sym (append_assoc u.0 t.0 t.1),
          t.2.leads,
          t.5,
        );
        rules = t.2.followed.rules;
        verdict = t.4;
      },
      t.2.followed,
    )

-- there was nothing more
pub part_ends : (before a b : Option (List ℕ)) (old new : Followed) (v : WholeVerdict) → Consumes a b [] → IsAtEnd b
    → ((read : List ℕ) → IsReading read old → EndsTo read new v) → IsUnder before a old → ReadsTo before b new v
part_ends before a b old new v consumes at_end ends u =
    let t = ends u.0 u.2 in (
      t.0,
      record {
        read = u.0 ++ [];
        consumes = Consumes-trans before a b u.0 [] u.1 consumes;
        says = inl (at_end, subst (λ (bs : List ℕ). stream_of bs ≡ Ok t.0) (sym (append-nil u.0)) t.1);
        rules = t.2.rules;
        verdict = t.3;
      },
      t.2,
    )
