-- What one byte does, and bytes one after the other.
use Rattle.std.proofs.Common.{◌≡◌, ℕ, ◌+◌, ◌<◌, ◌≤◌, Bool, true, false, cond, List, [], ◌∷◌, ◌++◌, length, Option, Some, None, Result, Ok, Err, ◌⊎◌, inl, inr, refl, sym, ap, ◌∙◌, append_assoc, arith}
use Rattle.std.proofs.lemmas.Bool.Decides.{nat_tests}
use Rattle.pif_text_model.specs.declared.replies.Cause.TheVariants.{Size, Long}
use Rattle.pif_text_model.specs.declared.traces.Version.{Version}
use Rattle.pif_script_model.specs.declared.ending.Ending.TheVariants.{Fault}
use Rattle.pif_script_model.specs.declared.ending.End.{End}
use Rattle.pif_script_model.specs.declared.ending.Stop.{Stop}
use Rattle.pif_script_model.specs.declared.ending.Stop.TheVariants.{Ended, NoMemory}
use Rattle.pif_script_model.specs.Scripts.{Hearing, FirstMeaning, Meaning, Answered, Scan, byte_taken, reading_of, line_answer, answer_to_line, answered_first, answered_later, after_line, version_after, end_at, with_byte, Takes, Answers}

-- an outcome is one of the two
pub by_cases : {A E : Type 0} (r : Result A E) → ((x : A) × (r ≡ Ok x)) ⊎ ((e : E) × (r ≡ Err e))
by_cases (Ok x) = inl (x, refl)
by_cases (Err e) = inr (e, refl)

module _ {S : Type 0} (hearing : Hearing S) where
  pub byte_taken-size : (s : Scan S) (b : ℕ) → 16777216 ≤ s.taken → byte_taken hearing s b ≡ Err (end_at s (Fault Size))
  unfolding byte_taken
  byte_taken-size s b h = grind (arith, nat_tests)

  pub byte_taken-end : (s : Scan S) (b : ℕ) → s.taken < 16777216 → b ≡ 10
      → byte_taken hearing s b ≡ after_line s (line_answer hearing s)
  unfolding byte_taken
  byte_taken-end s b h e = grind (arith, nat_tests)

  pub byte_taken-long : (s : Scan S) (b : ℕ) → s.taken < 16777216 → (b ≡ 10 → ⊥) → 120 ≤ length s.line
      → byte_taken hearing s b ≡ Err (end_at s (Fault Long))
  unfolding byte_taken
  byte_taken-long s b h e f = grind (arith, nat_tests)

  pub byte_taken-byte : (s : Scan S) (b : ℕ) → s.taken < 16777216 → (b ≡ 10 → ⊥) → length s.line < 120
      → byte_taken hearing s b ≡ Ok ([], with_byte s b)
  unfolding byte_taken
  byte_taken-byte s b h e f = grind (arith, nat_tests)

  -- while a line leaves nobody to answer, it had nobody, and was told nothing
  first-unheard : (m : FirstMeaning S) (r : List ℕ × Option S) → answered_first m ≡ Ok r → r.1 ≡ None → r.0 ≡ []
  first-unheard (Ok (Some m)) r e n =
      let p : (m.0, Some m.1) ≡ r = cc in
      let q : Some m.1 ≡ None = ap (λ (x : List ℕ × Option S). x.1) p ∙ n in
      cc
  first-unheard (Ok None) r e n = let p : ([], None) ≡ r = cc in sym (ap (λ (x : List ℕ × Option S). x.0) p)
  first-unheard (Err c) r e n = cc

  later-heard : (m : Meaning S) (r : List ℕ × Option S) → answered_later m ≡ Ok r → r.1 ≡ None → ⊥
  later-heard (Ok m) r e n =
      let p : (m.0, Some m.1) ≡ r = cc in
      let q : Some m.1 ≡ None = ap (λ (x : List ℕ × Option S). x.1) p ∙ n in
      cc
  later-heard (Err c) r e n = cc

  answered-unheard : (l : Option S) (version : Option Version) (line : List ℕ) (r : List ℕ × Option S)
      → answer_to_line hearing l version line ≡ Ok r → r.1 ≡ None
      → (l ≡ None) × (r.0 ≡ [])
  answered-unheard None version line r e n = (refl, first-unheard (hearing.first_meaning version line) r e n)
  answered-unheard (Some l) version line r e n = absurd (later-heard (hearing.meaning l line) r e n)

  after_line-unheard : (s : Scan S) (m : Answered S) (r : List ℕ × Scan S)
      → ((x : List ℕ × Option S) → m ≡ Ok x → x.1 ≡ None → (s.listener ≡ None) × (x.0 ≡ []))
      → after_line s m ≡ Ok r → r.1.listener ≡ None → (s.listener ≡ None) × (r.0 ≡ [])
  after_line-unheard s (Ok m) r u e n =
      let p : (m.0, record { listener = m.1; version = version_after s; line = []; number = s.number + 1; taken = s.taken + 1 }) ≡ r = cc in
      let q = u m refl (ap (λ (x : List ℕ × Scan S). x.1.listener) p ∙ n) in
      (q.0, sym (ap (λ (x : List ℕ × Scan S). x.0) p) ∙ q.1)
  after_line-unheard s (Err c) r u e n = (cc, cc)

  unheard-by : (x y z : Bool) (s : Scan S) (b : ℕ) (m : Answered S) (f g : End) (r : List ℕ × Scan S)
      → ((x : List ℕ × Option S) → m ≡ Ok x → x.1 ≡ None → (s.listener ≡ None) × (x.0 ≡ []))
      → cond x (cond y (after_line s m) (cond z (Ok ([], with_byte s b)) (Err f))) (Err g) ≡ Ok r → r.1.listener ≡ None
      → (s.listener ≡ None) × (r.0 ≡ [])
  unheard-by true true z s b m f g r u e n = after_line-unheard s m r u e n
  unheard-by true false true s b m f g r u e n =
      let p : ([], with_byte s b) ≡ r = cc in
      (ap (λ (x : List ℕ × Scan S). x.1.listener) p ∙ n, sym (ap (λ (x : List ℕ × Scan S). x.0) p))
  unheard-by true false false s b m f g r u e n = (cc, cc)
  unheard-by false y z s b m f g r u e n = (cc, cc)

  -- while nobody answers, nothing was told
  pub byte_taken-unheard : (s : Scan S) (b : ℕ) (r : List ℕ × Scan S) → byte_taken hearing s b ≡ Ok r
      → r.1.listener ≡ None → (s.listener ≡ None) × (r.0 ≡ [])
  unfolding byte_taken
  byte_taken-unheard s b r e n =
      unheard-by _ _ _ s b (line_answer hearing s) _ _ r (answered-unheard s.listener s.version s.line) e n

  -- an LF whose line was answered
  pub byte_taken-answered : (s : Scan S) (b : ℕ) (text : List ℕ) (m : Option S) (v : Option Version) (l : List ℕ)
      → s.taken < 16777216
      → b ≡ 10 → line_answer hearing s ≡ Ok (text, m)
      → v ≡ version_after s → l ≡ []
      → byte_taken hearing s b ≡ Ok (
        text,
        record { listener = m; version = v; line = l; number = s.number + 1; taken = s.taken + 1 },
      )
  byte_taken-answered s b text m v l h e a w n = rw (w, n) (byte_taken-end s b h e ∙ ap (after_line s) a)

  same-end : (f : End) (s : Scan S) → f.line ≡ s.number → ◌≡◌ {A = End} (end_at s f.ending) f
  same-end f s e = λ i. record { line = (sym e) i; ending = f.ending }

  -- an LF whose line was not
  pub Takes-from_answer : (s : Scan S) (b : ℕ) (old new : List ℕ) (t : Scan S) (m : Option S) (y : Stop)
      → s.taken < 16777216 → b ≡ 10
      → Answers hearing s.listener s.version s.line s.number old new m (Err y) → Takes hearing s b old new t (Err y)
  Takes-from_answer s b old new t m (Ended f) h e a =
      (byte_taken-end s b h e ∙ ap (after_line s) a.0 ∙ ap Err (same-end f s a.1), a.2)
  Takes-from_answer s b old new t m NoMemory h e a = ((a.0, a.1, e, h), a.2)

  pub reading_of-ok : (s : Scan S) (b : ℕ) (bs : List ℕ) (r : List ℕ × Scan S) → byte_taken hearing s b ≡ Ok r
      → ((reading_of hearing s (b ∷ bs)).text ≡ r.0 ++ (reading_of hearing r.1 bs).text)
      × ((reading_of hearing s (b ∷ bs)).stands ≡ (reading_of hearing r.1 bs).stands)
  unfolding reading_of
  reading_of-ok s b bs r e = rw (reading_of, e) (refl, refl)

  pub reading_of-err : (s : Scan S) (b : ℕ) (bs : List ℕ) (f : End) → byte_taken hearing s b ≡ Err f
      → ((reading_of hearing s (b ∷ bs)).text ≡ []) × ((reading_of hearing s (b ∷ bs)).stands ≡ Err f)
  unfolding reading_of
  reading_of-err s b bs f e = rw (reading_of, e) (refl, refl)

  pub reading_of-nil : (s : Scan S) → ((reading_of hearing s []).text ≡ []) × ((reading_of hearing s []).stands ≡ Ok s)
  unfolding reading_of
  reading_of-nil s = (refl, refl)

  -- bytes after bytes that had no fault
  pub reading_of-append : (xs ys : List ℕ) (s t : Scan S) → (reading_of hearing s xs).stands ≡ Ok t
      → ((reading_of hearing s (xs ++ ys)).text ≡ (reading_of hearing s xs).text ++ (reading_of hearing t ys).text)
      × ((reading_of hearing s (xs ++ ys)).stands ≡ (reading_of hearing t ys).stands)
  reading_of-append [] ys s t e =
      let n = reading_of-nil s in
      let same : s ≡ t = cc in
      let text = ap (λ u. (reading_of hearing u ys).text) same in
      (text ∙ ap (λ l. l ++ (reading_of hearing t ys).text) (sym n.0), ap (λ u. (reading_of hearing u ys).stands) same)
  reading_of-append (x ∷ xs) ys s t e =
      elim (by_cases (byte_taken hearing s x)) [
        | inl r ↦
            let one = reading_of-ok s x xs r.0 r.1 in
            let all = reading_of-ok s x (xs ++ ys) r.0 r.1 in
            let rest = reading_of-append xs ys r.0.1 t (sym one.1 ∙ e) in (
              all.0 ∙ ap (λ l. r.0.0 ++ l) rest.0
                  ∙ sym (append_assoc r.0.0 (reading_of hearing r.0.1 xs).text (reading_of hearing t ys).text)
                  ∙ ap (λ l. l ++ (reading_of hearing t ys).text) (sym one.0),
              all.1 ∙ rest.1,
            )
        | inr r ↦ let one = reading_of-err s x xs r.0 r.1 in let bad : Err r.0 ≡ Ok t = sym one.1 ∙ e in (cc, cc)
      ]

  -- while nobody answers, nothing was told
  pub reading_of-unheard : (xs : List ℕ) (s t : Scan S) → (reading_of hearing s xs).stands ≡ Ok t → t.listener ≡ None
      → (s.listener ≡ None) × ((reading_of hearing s xs).text ≡ [])
  reading_of-unheard [] s t e n =
      let k = reading_of-nil s in
      let same : s ≡ t = cc in
      (ap (λ (u : Scan S). u.listener) same ∙ n, k.0)
  reading_of-unheard (x ∷ xs) s t e n =
      elim (by_cases (byte_taken hearing s x)) [
        | inl r ↦
            let one = reading_of-ok s x xs r.0 r.1 in
            let rest = reading_of-unheard xs r.0.1 t (sym one.1 ∙ e) n in
            let first = byte_taken-unheard s x r.0 r.1 rest.0 in
            (first.0, one.0 ∙ rw (first.1, rest.1) refl)
        | inr r ↦ let one = reading_of-err s x xs r.0 r.1 in let bad : Err r.0 ≡ Ok t = sym one.1 ∙ e in (cc, cc)
      ]
