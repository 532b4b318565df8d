-- Runs in parts.
use Rattle.std.proofs.Common.{◌≡◌, ℕ, ◌+◌, ◌-◌, ◌<◌, Bool, length, take, drop, subst, take-append-drop, length-drop, arith, true, false, List, [], ◌∷◌, ◌++◌, Option, Some, None, Result, Ok, Err, refl, sym, ap, ◌∙◌, append_assoc, append-nil}
use Rattle.std.proofs.Math.Seq.{take-add}
use Rattle.std.proofs.lemmas.Bool.{false≢true}
use Rattle.std.proofs.KnownBytes.{Appends-nil, Appends-trans, Consumes-nil, Consumes-trans}
use Rattle.std.specs.Io.KnownBytes.{Appends, Consumes, IsAtEnd, Keeps}
use Rattle.std.specs.Prelude.{is_ok}
use Rattle.pif_script_model.specs.declared.faults.CliFault.{CliFault}
use Rattle.pif_script_model.specs.declared.faults.CliFault.TheVariants.{Read, Write, NoMemory, Script, Differs}
use Rattle.pif_script_model.specs.declared.ending.End.{End}
use Rattle.pif_script_model.specs.Scripts.{Hearing, Scan, reading_of, ended_by, closed_at}
use Rattle.pif_script_model.specs.Runs.{WritesPart, last_text, output_of, EndsAfter, RunsFrom, RunsPart, WritesEnd, Stops, Writes}
use Rattle.pif_script_model.proofs.ScriptLemmas.{reading_of-append, reading_of-unheard, reading_of-nil}

pub Appends-kept_before : (a b c : Option (List ℕ)) (bs : List ℕ) → Appends a b [] → Keeps b c → Keeps a c
Appends-kept_before None b c bs p q = tt
Appends-kept_before (Some x) None c bs p q = absurd p
Appends-kept_before (Some x) (Some y) None bs p q = absurd q
Appends-kept_before (Some x) (Some y) (Some z) bs p q = q ∙ p ∙ append-nil x

Consumes-from_keeps : (a b : Option (List ℕ)) → Keeps a b → Consumes a b []
Consumes-from_keeps None b p = tt
Consumes-from_keeps (Some x) None p = absurd p
Consumes-from_keeps (Some x) (Some y) p = sym p

-- what is said of an end was appended to what was told, and was not written
pub Stops-unwritten : (h k : Option (List ℕ)) (shown old said : List ℕ) (x : End) (e : CliFault) → shown ≡ old ++ said
    → Writes h k shown (Err e) → Stops h k old said x e
Stops-unwritten h k shown old said x Write p w = subst (λ l. WritesPart h k l) p w
Stops-unwritten h k shown old said x Read p w = absurd w
Stops-unwritten h k shown old said x NoMemory p w = absurd w
Stops-unwritten h k shown old said x (Script l c) p w = absurd w
Stops-unwritten h k shown old said x (Differs l) p w = absurd w

-- ---- bytes that are written in several calls

pub Appends-take : (bytes : List ℕ) (i n : ℕ) (a b c : Option (List ℕ)) → Appends a b (take i bytes)
    → Appends b c (take n (drop i bytes)) → Appends a c (take (i + n) bytes)
Appends-take bytes i n a b c p q = rw (take-add i n bytes) (Appends-trans a b c _ _ p q)

pub WritesPart-front : (bytes : List ℕ) (i : ℕ) (a b : Option (List ℕ)) → i < length bytes → Appends a b (take i bytes)
    → WritesPart a b bytes
WritesPart-front bytes i a b h p = (
  take i bytes,
  drop i bytes,
  sym (take-append-drop i bytes),
  λ e. let n : length bytes - i ≡ 0 = sym (length-drop i bytes) ∙ ap length e in omega arith,
  p,
)

tail-not_nil : (xs ys : List ℕ) → (xs ≡ [] → ⊥) → xs ++ ys ≡ [] → ⊥
tail-not_nil [] ys h e = h refl
tail-not_nil (x ∷ xs) ys h e = let bad : length (x ∷ xs ++ ys) ≡ 0 = ap length e in omega arith

WritesPart-append : (bytes more : List ℕ) (a b : Option (List ℕ)) → WritesPart a b bytes
    → WritesPart a b (bytes ++ more)
WritesPart-append bytes more a b w =
    (w.0, w.1 ++ more, ap (λ l. l ++ more) w.2 ∙ append_assoc w.0 w.1 more, tail-not_nil w.1 more w.3, w.4)

pub part-append : (first bytes : List ℕ) (h k l : Option (List ℕ)) → Appends h k first → WritesPart k l bytes
    → WritesPart h l (first ++ bytes)
part-append first bytes h k l p w = (
  first ++ w.0,
  w.1,
  ap (λ x. first ++ x) w.2 ∙ sym (append_assoc first w.0 w.1),
  w.3,
  Appends-trans h k l first w.0 p w.4,
)

-- a first part of bytes was written, and then not all of the next
pub Writes-more : (first shown bytes rest : List ℕ) (h k l : Option (List ℕ)) (e : CliFault) → Appends h k first
    → shown ≡ bytes → Writes k l shown (Err e)
    → Writes h l (first ++ (bytes ++ rest)) (Err e)
Writes-more first shown bytes rest h k l Write p q w =
    part-append first (bytes ++ rest) h k l p (WritesPart-append bytes rest k l (subst (λ x. WritesPart k l x) q w))
Writes-more first shown bytes rest h k l Read p q w = absurd w
Writes-more first shown bytes rest h k l NoMemory p q w = absurd w
Writes-more first shown bytes rest h k l (Script line cause) p q w = absurd w
Writes-more first shown bytes rest h k l (Differs line) p q w = absurd w

-- behind what was written before
pub Stops-after : (first text said : List ℕ) (h k l : Option (List ℕ)) (x : End) (e : CliFault) → Appends h k first
    → Stops k l text said x e → Stops h l (first ++ text) said x e
Stops-after first text said h k l x (Script n c) p w =
    (w.0, rw (append_assoc first text said) (Appends-trans h k l first (text ++ said) p w.1))
Stops-after first text said h k l x (Differs n) p w =
    (w.0, rw (append_assoc first text said) (Appends-trans h k l first (text ++ said) p w.1))
Stops-after first text said h k l x Write p w =
    rw (append_assoc first text said) (part-append first (text ++ said) h k l p w)
Stops-after first text said h k l x Read p w = absurd w
Stops-after first text said h k l x NoMemory p w = absurd w

module _ {S : Type 0} (hearing : Hearing S) where
  pub output_of-append : (xs ys : List ℕ) (s t : Scan S) → (reading_of hearing s xs).stands ≡ Ok t
      → output_of hearing (reading_of hearing s (xs ++ ys))
      ≡ (reading_of hearing s xs).text ++ output_of hearing (reading_of hearing t ys)
  output_of-append xs ys s t e =
      let f = reading_of-append hearing xs ys s t e in
      rw (f.0, f.1) (append_assoc (reading_of hearing s xs).text (reading_of hearing t ys).text
      (last_text hearing.said_of (ended_by hearing (reading_of hearing t ys).stands)))

  -- a run goes on where a part of it ended
  EndsAfter-more : (xs ys : List ℕ) (s t : Scan S) (c h k l : Option (List ℕ)) (result : Result (Unit {0}) CliFault)
      → (reading_of hearing s xs).stands ≡ Ok t → Appends h k (reading_of hearing s xs).text
      → EndsAfter hearing t ys c k l result → EndsAfter hearing s (xs ++ ys) c h l result
  EndsAfter-more xs ys s t c h k l (Ok x) e p q =
      let f = reading_of-append hearing xs ys s t e in (
        ap (λ x. is_ok (ended_by hearing x)) f.1 ∙ q.0,
        q.1,
        rw (output_of-append xs ys s t e) (Appends-trans h k l _ _ p q.2),
      )
  EndsAfter-more xs ys s t c h k l (Err (Script line cause)) e p q =
      let f = reading_of-append hearing xs ys s t e in (
        ap (ended_by hearing) f.1 ∙ q.0,
        λ o. q.1 (sym (ap is_ok f.1) ∙ o),
        rw (output_of-append xs ys s t e) (Appends-trans h k l _ _ p q.2),
      )
  EndsAfter-more xs ys s t c h k l (Err (Differs line)) e p q =
      let f = reading_of-append hearing xs ys s t e in
      ((q.0.0, ap (ended_by hearing) f.1 ∙ q.0.1), rw (output_of-append xs ys s t e) (Appends-trans h k l _ _ p q.1))
  EndsAfter-more xs ys s t c h k l (Err Read) e p q =
      let f = reading_of-append hearing xs ys s t e in
      (ap is_ok f.1 ∙ q.0, rw f.0 (Appends-trans h k l _ _ p q.1))
  EndsAfter-more xs ys s t c h k l (Err Write) e p q = rw (output_of-append xs ys s t e) (part-append _ _ h k l p q)
  EndsAfter-more xs ys s t c h k l (Err NoMemory) e p q =
      let n = q.0 in
      let f = reading_of-append hearing xs n.0 s t e in
      let quiet = reading_of-unheard hearing xs s t e (reading_of-unheard hearing n.0 t n.1 n.5 n.6.0).0 in (
        (xs ++ n.0, n.1, n.2, n.3, ap (λ l. xs ++ l) n.4 ∙ sym (append_assoc xs n.0 (n.2 ∷ n.3)), f.1 ∙ n.5, n.6),
        Appends-kept_before h k l [] (rw quiet.1 at p) q.1,
      )

  pub RunsFrom-more : (xs : List ℕ) (s t : Scan S) (a b c h k l : Option (List ℕ)) (result : Result (Unit {0}) CliFault)
      → Consumes a b xs → (reading_of hearing s xs).stands ≡ Ok t → Appends h k (reading_of hearing s xs).text
      → RunsFrom hearing t b c k l result → RunsFrom hearing s a c h l result
  RunsFrom-more xs s t a b c h k l result o e p r =
      (xs ++ r.0, Consumes-trans a b c xs r.0 o r.1, EndsAfter-more xs r.0 s t c h k l result e p r.2)

  -- ---- what was read so far has no fault

  -- from where the script stood at s to where it stands at t
  abbrev pub Goes : (s t : Scan S) → (a b h k : Option (List ℕ)) → Type 0
  Goes s t a b h k =
      (read : List ℕ) × Consumes a b read × ((reading_of hearing s read).stands ≡ Ok t)
      × Appends h k (reading_of hearing s read).text

  pub Goes-start : (s t : Scan S) (a h : Option (List ℕ)) → t ≡ s → Goes s t a a h h
  Goes-start s t a h e =
      let n = reading_of-nil hearing s in ([], Consumes-nil a, n.1 ∙ ap Ok (sym e), rw n.0 (Appends-nil h))

  pub Goes-more : (s t u : Scan S) (a b c h k l : Option (List ℕ)) → Goes s t a b h k → Goes t u b c k l
      → Goes s u a c h l
  Goes-more s t u a b c h k l p q =
      let f = reading_of-append hearing p.0 q.0 s t p.2 in
      (p.0 ++ q.0, Consumes-trans a b c _ _ p.1 q.1, f.1 ∙ q.2, rw f.0 (Appends-trans h k l _ _ p.3 q.3))

  pub Goes-ends : (s t : Scan S) (a b c h k l : Option (List ℕ)) (result : Result (Unit {0}) CliFault)
      → Goes s t a b h k
      → RunsFrom hearing t b c k l result → RunsFrom hearing s a c h l result
  Goes-ends s t a b c h k l result p r = RunsFrom-more p.0 s t a b c h k l result p.1 p.2 p.3 r

  -- ---- how a part of a run ends it

  pub RunsFrom-read_failed : (s : Scan S) (a b h : Option (List ℕ)) → Keeps a b → RunsFrom hearing s a b h h (Err Read)
  RunsFrom-read_failed s a b h k =
      let n = reading_of-nil hearing s in ([], Consumes-from_keeps a b k, (ap is_ok n.1, rw n.0 (Appends-nil h)))

  -- the text and what is said of an end were written
  stops : (s : Scan S) (read : List ℕ) (b h k : Option (List ℕ)) (x : End) (e : CliFault)
      → ended_by hearing (reading_of hearing s read).stands ≡ Err x
      → (is_ok (reading_of hearing s read).stands ≡ true → IsAtEnd b)
      → Stops h k (reading_of hearing s read).text (hearing.said_of x) x e
      → EndsAfter hearing s read b h k (Err e)
  stops s read b h k x (Script l c) f end w = (f ∙ ap Err w.0, end, rw f w.1)
  stops s read b h k x (Differs l) f end w = ((w.0.0, f ∙ ap Err w.0.1), rw f w.1)
  stops s read b h k x Write f end w = rw f w
  stops s read b h k x Read f end w = absurd w
  stops s read b h k x NoMemory f end w = absurd w

  -- a byte ended it
  pub EndsAfter-stopped : (s : Scan S) (read : List ℕ) (b h k : Option (List ℕ)) (x : End) (e : CliFault)
      → (reading_of hearing s read).stands ≡ Err x
      → Stops h k (reading_of hearing s read).text (hearing.said_of x) x e → EndsAfter hearing s read b h k (Err e)
  EndsAfter-stopped s read b h k x e f w =
      stops s read b h k x e (ap (ended_by hearing) f)
      (λ o. let bad : false ≡ true = sym (ap is_ok f) ∙ o in absurd (false≢true bad)) w

  closes-by : (s : Scan S) (a b h k : Option (List ℕ)) (told : Result (List ℕ) End) (result : Result Bool CliFault)
      → closed_at hearing s ≡ told
      → Consumes a b [] → IsAtEnd b → WritesEnd h k hearing.said_of told result → RunsPart hearing s s a b h k result
  closes-by s a b h k (Ok text) (Ok true) e p end w = absurd (false≢true (sym w.0))
  closes-by s a b h k (Ok text) (Ok false) e p end w =
      let n = reading_of-nil hearing s in
      let f = ap (ended_by hearing) n.1 ∙ e in
      ([], p, (ap is_ok f, end, rw (n.0, f) w.1))
  closes-by s a b h k (Ok text) (Err Write) e p end w =
      let n = reading_of-nil hearing s in
      let f = ap (ended_by hearing) n.1 ∙ e in
      ([], p, rw (n.0, f) w)
  closes-by s a b h k (Ok text) (Err Read) e p end w = absurd w
  closes-by s a b h k (Ok text) (Err NoMemory) e p end w = absurd w
  closes-by s a b h k (Ok text) (Err (Script l c)) e p end w = absurd w
  closes-by s a b h k (Ok text) (Err (Differs l)) e p end w = absurd w
  closes-by s a b h k (Err x) (Ok more) e p end w = absurd w
  closes-by s a b h k (Err x) (Err y) e p end w =
      let n = reading_of-nil hearing s in
      ([], p, stops s [] b h k x y (ap (ended_by hearing) n.1 ∙ e) (λ _. end) (rw n.0 w))

  -- the input ended
  pub RunsPart-closed : (s : Scan S) (a b h k : Option (List ℕ)) (result : Result Bool CliFault) → Consumes a b []
      → IsAtEnd b
      → WritesEnd h k hearing.said_of (closed_at hearing s) result → RunsPart hearing s s a b h k result
  RunsPart-closed s a b h k result p end w = closes-by s a b h k (closed_at hearing s) result refl p end w
