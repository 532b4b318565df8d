-- Texts that are told one after the other.
use Rattle.std.proofs.Common.{◌≡◌, ℕ, ◌+◌, take, drop, true, false, List, [], ◌++◌, Option, Some, None, refl, sym, ap, ◌∙◌, subst, append-nil, append_assoc}
use Rattle.std.proofs.KnownBytes.{Appends-nil, Appends-trans}
use Rattle.std.proofs.Math.Seq.{take-add}
use Rattle.std.specs.Io.KnownBytes.{Appends, append_known}
use Rattle.pif_text_model.specs.Extends.{Stays}
use Rattle.std.specs.Prelude.{OnOk, Result, Ok, Err}
use Rattle.pif_text_core.specs.Pages.{Sheet, Tells}

-- nothing is told
pub nothing : (a : Sheet) (h : Option (List ℕ)) → Tells a a h h []
nothing a h = record { stays = λ front p. p; told = λ e. (e, Appends-nil (append_known h a.kept)) }

-- one text, and then another one
pub then : {a b c : Sheet} {h i j : Option (List ℕ)} {x y : List ℕ} → Tells a b h i x → Tells b c i j y
    → Tells a c h j (x ++ y)
then {a} {b} {c} {h} {i} {j} {x} {y} p q =
    record {
      stays = λ front r. q.stays front (p.stays front r);
      told = λ e. (
          let second = q.told e in
          let first = p.told second.0 in
          (first.0, Appends-trans (append_known h a.kept) (append_known i b.kept) (append_known j c.kept) x y first.1 second.1)
          );
    }

-- the same text
pub same : {a b : Sheet} {h i : Option (List ℕ)} {x y : List ℕ} → x ≡ y → Tells a b h i x → Tells a b h i y
same {a} {b} {h} {i} e p = subst (Tells a b h i) e p

-- ---- bytes that are kept

-- bytes are kept
pub kept : (a b : Sheet) (h : Option (List ℕ)) (bytes : List ℕ) → b.kept ≡ a.kept ++ bytes → b.failed ≡ a.failed
    → Tells a b h h bytes
kept a b None bytes e f = record { stays = λ front p. p; told = λ g. (sym f ∙ g, tt) }
kept a b (Some x) bytes e f =
    record {
      stays = λ front p. p;
      told = λ g. (sym f ∙ g, ap (λ l. x ++ l) e ∙ sym (append_assoc x a.kept bytes));
    }

-- a write has failed: only what stays is said
pub failed : (a b : Sheet) (h i : Option (List ℕ)) (text : List ℕ) → Stays h i → b.failed ≡ true → Tells a b h i text
failed a b h i text p f = record { stays = p; told = λ g. absurd (differ (sym f ∙ g)) }
  where
    differ : true ≡ false → ⊥
    differ = λ e. absurd (cc)

-- a whole text was told, of which nothing is kept
pub whole : (a b : Sheet) (h i : Option (List ℕ)) (text : List ℕ) → a ≡ record { kept = []; failed = false }
    → b ≡ record { kept = []; failed = false } → Tells a b h i text → Appends h i text
whole a b h i text e f p =
    let started = subst (λ s. Tells s b h i text) e p in
    let ended = subst (λ s. Tells (record { kept = []; failed = false }) s h i text) f started in
    bare h i (ended.told refl).1
  where
    bare : (h i : Option (List ℕ)) → Appends (append_known h []) (append_known i []) text → Appends h i text
    bare None i p = tt
    bare (Some x) None p = p
    bare (Some x) (Some y) p = sym (append-nil y) ∙ p ∙ ap (λ l. l ++ text) (append-nil x)

-- a part of some bytes was written, and then more of them
pub Appends-take : (bytes : List ℕ) (i n : ℕ) (a b c : Option (List ℕ)) → Appends a b (take i bytes)
    → Appends b c (take n (drop i bytes)) → Appends a c (take (i + n) bytes)
Appends-take bytes i n a b c p q = rw (take-add i n bytes) (Appends-trans a b c _ _ p q)

-- what is so if all went well
pub on_ok : {P Q : Type 0} {E : Type 0} (r : Result (Unit {0}) E) → (P → Q) → OnOk r P → OnOk r Q
on_ok (Ok x) f p = f p
on_ok (Err e) f p = p
