-- Bytes of a line that are read at once.
use Rattle.std.proofs.Common.{◌≡◌, ℕ, suc, ◌+◌, ◌<◌, ◌≤◌, List, [], ◌∷◌, ◌++◌, length, take, drop, get_or, Option, Ok, Err, refl, sym, ap, ◌∙◌, subst, append_assoc, append-nil, add_assoc, arith, take-append-drop, length-append, get_or-take}
use Rattle.std.proofs.lemmas.List.{drop_more, take_more, length-take-le}
use Rattle.pif_text_model.specs.declared.traces.Version.{Version}
use Rattle.pif_script_model.specs.declared.ending.Stop.{Stop}
use Rattle.pif_script_model.specs.declared.ending.Stop.TheVariants.{Ended, NoMemory}
use Rattle.pif_script_model.specs.Scripts.{Hearing, Scan, reading_of, version_after, with_byte, Answers, Takes, TakesAll, TakesSome}
use Rattle.pif_script_model.proofs.ScriptLemmas.{Takes-from_answer, byte_taken-answered, byte_taken-byte, reading_of-append, reading_of-err, reading_of-nil, reading_of-ok}

-- the bytes of a line, its LF, and what stands behind it
split-line : (bs : List ℕ) (n : ℕ) → n < length bs → get_or bs n 0 ≡ 10 → bs ≡ take n bs ++ 10 ∷ drop (n + 1) bs
split-line bs n h e =
    sym (take-append-drop n bs) ∙ ap (λ l. take n bs ++ l) (drop_more bs n 0 h)
    ∙ ap (λ b. take n bs ++ b ∷ drop (n + 1) bs) e

-- and without what stands behind it
take-line : (bs : List ℕ) (n : ℕ) → n < length bs → get_or bs n 0 ≡ 10 → take (n + 1) bs ≡ take n bs ++ 10 ∷ []
take-line bs n h e = take_more bs n 0 h ∙ ap (λ b. take n bs ++ b ∷ []) e

module _ {S : Type 0} (hearing : Hearing S) where
  -- where a script stands after bytes with no LF
  abbrev pub with_bytes : Scan S → List ℕ → Scan S
  with_bytes s bs = record s { line = s.line ++ bs; taken = s.taken + length bs }

  -- such bytes are answered nothing, if the line and the script have room for them
  plain-read : (bs : List ℕ) (s : Scan S) → ((k : ℕ) → k < length bs → get_or bs k 0 ≡ 10 → ⊥)
      → length s.line + length bs ≤ 120 → s.taken + length bs ≤ 16777216
      → ((reading_of hearing s bs).text ≡ []) × ((reading_of hearing s bs).stands ≡ Ok (with_bytes s bs))
  plain-read [] s p l t =
      let n = reading_of-nil hearing s in
      let same : s.taken ≡ s.taken + 0 = omega arith in
      (n.0, n.1 ∙ (λ i. Ok (record s { line = (sym (append-nil s.line)) i; taken = same i })))
  plain-read (b ∷ bs) s p l t =
      let one = reading_of-ok hearing s b bs ([], with_byte s b)
      (byte_taken-byte hearing s b (omega arith) (p 0 (omega arith)) (omega arith)) in
      let rest = plain-read bs (with_byte s b) (λ k h. p (suc k) (omega arith))
      (omega (arith, length-append s.line (b ∷ []))) (omega arith) in
      let same : s.taken + 1 + length bs ≡ s.taken + length (b ∷ bs) = omega arith in
      (one.0 ∙ rest.0, one.1 ∙ rest.1 ∙ (λ i. Ok (record s { line = append_assoc s.line (b ∷ []) bs i; taken = same i })))

  -- the first bytes were read, with no LF among them
  pub TakesSome-plain : (s : Scan S) (bs : List ℕ) (n : ℕ) (old l : List ℕ) → n ≤ length bs → length s.line + n ≤ 120
      → s.taken + n ≤ 16777216 → ((k : ℕ) → k < n → get_or bs k 0 ≡ 10 → ⊥) → l ≡ s.line ++ take n bs
      → TakesSome hearing s bs old old (record s { line = l; taken = s.taken + n }) (Ok n)
  TakesSome-plain s bs n old l w h t p e =
      let size : length (take n bs) ≡ n = length-take-le n bs w in
      let r = plain-read (take n bs) s (λ k h. rw (get_or-take n bs k 0 (omega arith)) (p k (omega arith))) (omega arith)
      (omega arith) in
      (r.1 ∙ (λ i. Ok (record s { line = (sym e) i; taken = s.taken + size i })), rw r.0 (sym (append-nil old)))

  -- one byte was read
  pub TakesAll-byte : (s : Scan S) (b : ℕ) (old new : List ℕ) (t : Scan S) → Takes hearing s b old new t (Ok tt)
      → TakesAll hearing s (b ∷ []) old new t (Ok tt)
  TakesAll-byte s b old new t k =
      let one = reading_of-ok hearing s b [] (k.0, t) k.1 in
      let none = reading_of-nil hearing t in
      (one.1 ∙ none.1, k.2 ∙ ap (λ l. old ++ l) (sym (one.0 ∙ ap (λ l. k.0 ++ l) none.0 ∙ append-nil k.0)))

  -- or ended the script, behind bytes that did not
  ended-behind : (xs rest : List ℕ) (s u t : Scan S) (b : ℕ) (old new : List ℕ) (e : Stop)
      → (reading_of hearing s xs).text ≡ [] → (reading_of hearing s xs).stands ≡ Ok u
      → Takes hearing u b old new t (Err e) → TakesAll hearing s (xs ++ b ∷ rest) old new t (Err e)
  ended-behind xs rest s u t b old new (Ended f) q r k =
      let all = reading_of-append hearing xs (b ∷ rest) s u r in
      let one = reading_of-err hearing u b rest f k.0 in
      let quiet : (reading_of hearing s (xs ++ b ∷ rest)).text ≡ [] =
      all.0 ∙ ap (λ l. l ++ (reading_of hearing u (b ∷ rest)).text) q ∙ one.0 in
      (all.1 ∙ one.1, k.1 ∙ sym (append-nil old) ∙ ap (λ l. old ++ l) (sym quiet))
  ended-behind xs rest s u t b old new NoMemory q r k = ((xs, u, b, rest, refl, r, k.0), k.1)

  -- the first of these bytes was read
  pub TakesSome-byte : (s : Scan S) (bs old new : List ℕ) (t : Scan S) (x : Unit {0}) → 0 < length bs
      → Takes hearing s (get_or bs 0 0) old new t (Ok x) → TakesSome hearing s bs old new t (Ok 1)
  TakesSome-byte s [] old new t x h k = absurd (omega arith)
  TakesSome-byte s (b ∷ bs) old new t x h k = TakesAll-byte s b old new t k

  -- or ended the script
  pub TakesSome-ended : (s : Scan S) (bs old new : List ℕ) (t : Scan S) (e : Stop) → 0 < length bs
      → Takes hearing s (get_or bs 0 0) old new t (Err e) → TakesSome hearing s bs old new t (Err e)
  TakesSome-ended s [] old new t e h k = absurd (omega arith)
  TakesSome-ended s (b ∷ bs) old new t e h k =
      let n = reading_of-nil hearing s in ended-behind [] bs s s t b old new e n.0 n.1 k

  module _ (s : Scan S) (bs : List ℕ) (n : ℕ) (fresh : s.line ≡ []) (short : n ≤ 120) (few : s.taken + n < 16777216)
      (within : n < length bs) (plain : (k : ℕ) → k < n → get_or bs k 0 ≡ 10 → ⊥) (found : get_or bs n 0 ≡ 10) where
    line-read : ((reading_of hearing s (take n bs)).text ≡ [])
        × ((reading_of hearing s (take n bs)).stands ≡ Ok (record s { line = take n bs; taken = s.taken + n }))
    line-read =
        let size : length (take n bs) ≡ n = length-take-le n bs (omega arith) in
        let empty : length s.line ≡ 0 = ap length fresh in
        let r = plain-read (take n bs) s (λ k h. rw (get_or-take n bs k 0 (omega arith)) (plain k (omega arith)))
        (omega arith) (omega arith) in (
          r.0,
          r.1 ∙ (λ i. Ok (record s { line = (ap (λ l. l ++ take n bs) fresh) i; taken = s.taken + size i })),
        )

    -- a whole line was answered
    pub TakesSome-line : (old new : List ℕ) (m : Option S) (v : Option Version) (x : Unit {0})
        → Answers hearing s.listener s.version (take n bs) s.number old new m (Ok x)
        → v ≡ version_after (record s { line = take n bs })
        → TakesSome hearing s bs old new
        (record { listener = m; version = v; line = s.line; number = s.number + 1; taken = s.taken + (n + 1) })
        (Ok (n + 1))
    TakesSome-line old new m v x a w =
        let r = line-read in
        let u : Scan S = record s { line = take n bs; taken = s.taken + n } in
        let all = reading_of-append hearing (take n bs) (10 ∷ []) s u r.1 in
        let last = TakesAll-byte u 10 old new
        (record { listener = m; version = v; line = s.line; number = s.number + 1; taken = s.taken + n + 1 })
        (a.0, byte_taken-answered hearing u 10 a.0 m v s.line few refl a.1 w fresh, a.2) in
        let same : (reading_of hearing s (take n bs ++ 10 ∷ [])).text ≡ (reading_of hearing u (10 ∷ [])).text =
        all.0 ∙ ap (λ l. l ++ (reading_of hearing u (10 ∷ [])).text) r.0 in
        rw (take-line bs n within found) (
          all.1 ∙ last.0 ∙ (λ i. Ok (record {
            listener = m;
            version = v;
            line = s.line;
            number = s.number + 1;
            taken = add_assoc s.taken n 1 i;
          })),
          last.1 ∙ ap (λ l. old ++ l) (sym same),
        )

    -- or ended the script
    pub TakesSome-unheard : (old new : List ℕ) (m : Option S) (t : Scan S) (e : Stop)
        → Answers hearing s.listener s.version (take n bs) s.number old new m (Err e)
        → TakesSome hearing s bs old new t (Err e)
    TakesSome-unheard old new m t e a =
        let r = line-read in
        let u : Scan S = record s { line = take n bs; taken = s.taken + n } in
        subst (λ l. TakesAll hearing s l old new t (Err e)) (sym (split-line bs n within found))
        (ended-behind (take n bs) (drop (n + 1) bs) s u t 10 old new e r.0 r.1
        (Takes-from_answer hearing u 10 old new t m e few refl a))
