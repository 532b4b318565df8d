-- Runs that are shown: what a run does that writes to nobody knows where, but for a write that fails.
use Rattle.std.proofs.Common.{◌≡◌, ℕ, ◌≤◌, List, [], ◌∷◌, ◌++◌, Option, None, Result, Ok, Err, inl, inr, refl, sym, ap, ◌∙◌, subst, take, drop, append_assoc, append-nil, take-append-drop, take-take}
use Rattle.std.specs.Io.KnownBytes.{Appends}
use Rattle.std.specs.Prelude.{IfOk}
use Rattle.pif_text_model.specs.Extends.{Stays}
use Rattle.pif_text_model.proofs.Extending.{Stays-appended}
use Rattle.pif_script_model.specs.declared.faults.CliFault.{CliFault}
use Rattle.pif_script_model.specs.declared.faults.CliFault.TheVariants.{Read, Write, NoMemory, Script, Differs}
use Rattle.pif_script_model.specs.declared.ending.End.{End}
use Rattle.pif_script_model.specs.declared.ending.Stop.{Stop}
use Rattle.pif_script_model.specs.declared.ending.Stop.TheVariants.{Ended, NoMemory as StopNoMemory}
use Rattle.pif_script_model.specs.Scripts.{Hearing, Scan, TakesAll, TakesSome, byte_taken, reading_of}
use Rattle.pif_script_model.specs.Runs.{Feeds, Stops, Writes}
use Rattle.pif_script_model.specs.Showing.{OrUnwritten, SilentAt}
use Rattle.pif_script_model.proofs.ScriptLemmas.{by_cases, reading_of-err, reading_of-nil, reading_of-ok, reading_of-unheard}
use Rattle.pif_script_model.proofs.FeedLemmas.{Feeding, Feeding-flushed, Feeding-some, Feeds-stopped}

-- bytes were written, or a part of them
pub Stays-written : (h k : Option (List ℕ)) (bytes : List ℕ) (result : Result (Unit {0}) CliFault)
    → Writes h k bytes result → Stays h k
Stays-written h k bytes (Ok x) w = Stays-appended h k bytes w
Stays-written h k bytes (Err Write) w = Stays-appended h k w.0 w.4
Stays-written h k bytes (Err Read) w = absurd w
Stays-written h k bytes (Err NoMemory) w = absurd w
Stays-written h k bytes (Err (Script l c)) w = absurd w
Stays-written h k bytes (Err (Differs l)) w = absurd w

-- and so of an end
pub Stays-stopped : (h k : Option (List ℕ)) (text said : List ℕ) (x : End) (e : CliFault) → Stops h k text said x e
    → Stays h k
Stays-stopped h k text said x (Script l c) w = Stays-appended h k _ w.1
Stays-stopped h k text said x (Differs l) w = Stays-appended h k _ w.1
Stays-stopped h k text said x Write w = Stays-appended h k w.0 w.4
Stays-stopped h k text said x Read w = absurd w
Stays-stopped h k text said x NoMemory w = absurd w

-- such an end is not that of being out of memory
pub SilentAt-stopped : {S : Type 0} (s : Scan S) (a b h k : Option (List ℕ)) (text said : List ℕ) (x : End)
    (e : CliFault) → Stops h k text said x e → SilentAt s a b e
SilentAt-stopped s a b h k text said x (Script l c) w = tt
SilentAt-stopped s a b h k text said x (Differs l) w = tt
SilentAt-stopped s a b h k text said x Write w = tt
SilentAt-stopped s a b h k text said x Read w = absurd w
SilentAt-stopped s a b h k text said x NoMemory w = absurd w

module _ {S : Type 0} (hearing : Hearing S) where
  -- who has nobody to answer after some bytes had nobody before them
  pub unheard-before : (t u : Scan S) (bs old new : List ℕ) (n : ℕ) → TakesSome hearing t bs old new u (Ok n)
      → u.listener ≡ None → t.listener ≡ None
  unheard-before t u bs old new n k none = (reading_of-unheard hearing (take n bs) t u k.0 none).0

  -- some of the rest were read, and what was told of them was written
  pub Feeding-told : (s : Scan S) (bs : List ℕ) (held : Option (List ℕ)) (t : Scan S) (rest text : List ℕ)
      (holds k : Option (List ℕ)) (u : Scan S) (n : ℕ) → Feeding hearing s bs held t rest [] holds
      → TakesSome hearing t rest [] text u (Ok n) → Appends holds k text
      → Feeding hearing s bs held u (drop n rest) [] k
  Feeding-told s bs held t rest text holds k u n f took a =
      Feeding-flushed hearing s bs held u (drop n rest) text [] holds k tt
      (Feeding-some hearing s bs held t rest [] text holds u n f took) (text, sym (append-nil text), a)

  -- one of the rest ended the script
  pub Feeds-shown : (s : Scan S) (bs : List ℕ) (t : Scan S) (rest new text : List ℕ) (h k : Option (List ℕ))
      (u v : Scan S) (x : End) (e : CliFault) → Feeding hearing s bs None t rest [] None
      → TakesSome hearing t rest [] new u (Err (Ended x)) → Stops h k text (hearing.said_of x) x e
      → OrUnwritten {A = Unit {0}} (Feeds hearing s bs v None None) (Err e)
  Feeds-shown s bs t rest new text h k u v x (Script l c) f w stop =
      Feeds-stopped hearing s bs None t rest [] new None None u v x (Script l c) f w (stop.0, tt)
  Feeds-shown s bs t rest new text h k u v x (Differs l) f w stop =
      Feeds-stopped hearing s bs None t rest [] new None None u v x (Differs l) f w (stop.0, tt)
  Feeds-shown s bs t rest new text h k u v x Write f w stop = tt
  Feeds-shown s bs t rest new text h k u v x Read f w stop = absurd stop
  Feeds-shown s bs t rest new text h k u v x NoMemory f w stop = absurd stop

  -- bytes behind the line that ended the script are not read
  ended-front : (xs ys : List ℕ) (s : Scan S) (e : End) → (reading_of hearing s xs).stands ≡ Err e
      → ((reading_of hearing s (xs ++ ys)).stands ≡ Err e)
      × ((reading_of hearing s (xs ++ ys)).text ≡ (reading_of hearing s xs).text)
  ended-front [] ys s e p = let n = reading_of-nil hearing s in let bad : Ok s ≡ Err e = sym n.1 ∙ p in (cc, cc)
  ended-front (x ∷ xs) ys s e p =
      elim (by_cases (byte_taken hearing s x)) [
        | inl r ↦
            let one = reading_of-ok hearing s x xs r.0 r.1 in
            let all = reading_of-ok hearing s x (xs ++ ys) r.0 r.1 in
            let rest = ended-front xs ys r.0.1 e (sym one.1 ∙ p) in
            (all.1 ∙ rest.0, all.0 ∙ ap (λ l. r.0.0 ++ l) rest.1 ∙ sym one.0)
        | inr r ↦
            let one = reading_of-err hearing s x xs r.0 r.1 in
            let all = reading_of-err hearing s x (xs ++ ys) r.0 r.1 in
            (all.1 ∙ sym one.1 ∙ p, all.0 ∙ sym one.0)
      ]

  -- so many of the first bytes of a list are so many of its bytes
  pub TakesSome-front : (s : Scan S) (bs : List ℕ) (m : ℕ) (old new : List ℕ) (t : Scan S) (result : Result ℕ Stop)
      → TakesSome hearing s (take m bs) old new t result → IfOk result (λ n. n ≤ m)
      → TakesSome hearing s bs old new t result
  TakesSome-front s bs m old new t (Ok n) k le =
      subst (λ l. TakesAll hearing s l old new t (Ok tt)) (take-take n m bs le) k
  TakesSome-front s bs m old new t (Err (Ended e)) k le =
      let all = ended-front (take m bs) (drop m bs) s e k.0 in
      subst (λ l. TakesAll hearing s l old new t (Err (Ended e))) (take-append-drop m bs)
      (all.0, k.1 ∙ ap (λ l. old ++ l) (sym all.1))
  TakesSome-front s bs m old new t (Err StopNoMemory) k le =
      let n = k.0 in (
        (
          n.0,
          n.1,
          n.2,
          n.3 ++ drop m bs,
          sym (take-append-drop m bs) ∙ ap (λ l. l ++ drop m bs) n.4 ∙ append_assoc n.0 (n.2 ∷ n.3) (drop m bs),
          n.5,
          n.6,
        ),
        k.1,
      )
