-- Bytes that are read one after the other, of whose answers a front is written.
use Rattle.std.proofs.Common.{◌≡◌, ℕ, List, [], ◌∷◌, ◌++◌, Option, Result, Ok, Err, refl, sym, ap, ◌∙◌, subst, append_assoc, append-nil, drop, take, take-append-drop}
use Rattle.std.proofs.KnownBytes.{Appends-nil, Appends-trans, Keeps-refl}
use Rattle.std.specs.Io.KnownBytes.{Appends, Consumes}
use Rattle.pif_script_model.specs.declared.faults.CliFault.{CliFault}
use Rattle.pif_script_model.specs.declared.faults.CliFault.TheVariants.{Read, Write, NoMemory, Script, Differs}
use Rattle.pif_script_model.specs.declared.ending.End.{End}
use Rattle.pif_script_model.specs.Scripts.{Hearing, Scan, reading_of, TakesSome}
use Rattle.pif_script_model.specs.declared.ending.Stop.TheVariants.{Ended, NoMemory as StopNoMemory}
use Rattle.pif_script_model.specs.Runs.{EndsAfter, Feeds, Flushes, RunsFrom, Stops, Writes, WritesPart, output_of}
use Rattle.pif_script_model.proofs.ScriptLemmas.{reading_of-append, reading_of-nil, reading_of-unheard}
use Rattle.pif_script_model.proofs.RunLemmas.{Appends-kept_before, EndsAfter-stopped, Stops-after, Writes-more, output_of-append}

front-nil : (xs ys : List ℕ) → xs ++ ys ≡ [] → xs ≡ []
front-nil [] ys e = refl
front-nil (x ∷ xs) ys e = cc

module _ {S : Type 0} (hearing : Hearing S) where
  -- of the bytes bs, that were read from s on, all but the rest were read, and the script stands at t; of what their
  -- lines are answered all but out was written
  pub record Feeding (s : Scan S) (bs : List ℕ) (held : Option (List ℕ)) (t : Scan S) (rest out : List ℕ)
      (holds : Option (List ℕ)) : Type 0 where
    pub front : List ℕ
    pub split : bs ≡ front ++ rest
    pub stands : (reading_of hearing s front).stands ≡ Ok t
    pub done : List ℕ
    pub written : Appends held holds done
    pub told : (reading_of hearing s front).text ≡ done ++ out

  pub Feeding-start : (s : Scan S) (bs out : List ℕ) (held : Option (List ℕ)) → out ≡ []
      → Feeding s bs held s bs out held
  Feeding-start s bs out held e =
      let n = reading_of-nil hearing s in
      record { front = []; split = refl; stands = n.1; done = []; written = Appends-nil held; told = n.0 ∙ sym e }

  -- a front of the output was written
  pub Feeding-flushed : (s : Scan S) (bs : List ℕ) (held : Option (List ℕ)) (t : Scan S) (rest out new : List ℕ)
      (holds k : Option (List ℕ)) (x : Unit {0}) → Feeding s bs held t rest out holds → Flushes holds k out new (Ok x)
      → Feeding s bs held t rest new k
  Feeding-flushed s bs held t rest out new holds k x f w = record {
    front = f.front;
    split = f.split;
    stands = f.stands;
    done = f.done ++ w.0;
    written = Appends-trans held holds k f.done w.0 f.written w.2;
    told = f.told ∙ ap (λ l. f.done ++ l) w.1 ∙ sym (append_assoc f.done w.0 new);
  }

  -- some of the rest were read
  pub Feeding-some : (s : Scan S) (bs : List ℕ) (held : Option (List ℕ)) (t : Scan S) (rest out new : List ℕ)
      (holds : Option (List ℕ)) (u : Scan S) (n : ℕ) → Feeding s bs held t rest out holds
      → TakesSome hearing t rest out new u (Ok n) → Feeding s bs held u (drop n rest) new holds
  Feeding-some s bs held t rest out new holds u n f k =
      let more = reading_of-append hearing f.front (take n rest) s t f.stands in
      record {
        front = f.front ++ take n rest;
        split = f.split ∙ ap (λ l. f.front ++ l) (sym (take-append-drop n rest))
            ∙ sym (append_assoc f.front (take n rest) (drop n rest));
        stands = more.1 ∙ k.0;
        done = f.done;
        written = f.written;
        told = more.0 ∙ ap (λ l. l ++ (reading_of hearing t (take n rest)).text) f.told
            ∙ append_assoc f.done out (reading_of hearing t (take n rest)).text ∙ ap (λ l. f.done ++ l) (sym k.1);
      }

  -- not all of the output was written
  pub Feeding-unwritten : (s : Scan S) (bs : List ℕ) (held : Option (List ℕ)) (t : Scan S) (rest out : List ℕ)
      (holds k after : Option (List ℕ)) (e : CliFault) → Feeding s bs held t rest out holds
      → Writes holds k out (Err e) → EndsAfter hearing s bs after held k (Err e)
  Feeding-unwritten s bs held t rest out holds k after Write f w =
      let next = output_of hearing (reading_of hearing t rest) in
      let whole = ap (λ l. output_of hearing (reading_of hearing s l)) f.split
      ∙ output_of-append hearing f.front rest s t f.stands ∙ ap (λ l. l ++ next) f.told
      ∙ append_assoc f.done out next in
      subst (λ l. WritesPart held k l) (sym whole)
      (Writes-more f.done out out next held holds k Write f.written refl w)
  Feeding-unwritten s bs held t rest out holds k after Read f w = absurd w
  Feeding-unwritten s bs held t rest out holds k after NoMemory f w = absurd w
  Feeding-unwritten s bs held t rest out holds k after (Script l c) f w = absurd w
  Feeding-unwritten s bs held t rest out holds k after (Differs l) f w = absurd w

  -- all bytes were read, and the output was written, or not all of it
  pub Feeds-end : (s : Scan S) (bs : List ℕ) (held : Option (List ℕ)) (t : Scan S) (rest out shown : List ℕ)
      (holds k : Option (List ℕ)) (result : Result (Unit {0}) CliFault) → Feeding s bs held t rest out holds
      → rest ≡ [] → shown ≡ out → Writes holds k shown result → Feeds hearing s bs t held k result
  Feeds-end s bs held t rest out shown holds k (Ok x) f e same w =
      let whole = f.split ∙ ap (λ l. f.front ++ l) e ∙ append-nil f.front in
      let text = ap (λ l. (reading_of hearing s l).text) whole ∙ f.told in (
        ap (λ l. (reading_of hearing s l).stands) whole ∙ f.stands,
        subst (λ l. Appends held k l) (sym text)
            (Appends-trans held holds k f.done out f.written (subst (λ l. Appends holds k l) same w)),
      )
  Feeds-end s bs held t rest out shown holds k (Err e) f n same w =
      λ after. Feeding-unwritten s bs held t rest out holds k after e f (subst (λ l. Writes holds k l (Err e)) same w)

  -- one of the rest ended the script
  pub Feeds-stopped : (s : Scan S) (bs : List ℕ) (held : Option (List ℕ)) (t : Scan S) (rest out new : List ℕ)
      (holds k : Option (List ℕ)) (u v : Scan S) (x : End) (e : CliFault) → Feeding s bs held t rest out holds
      → TakesSome hearing t rest out new u (Err (Ended x)) → Stops holds k new (hearing.said_of x) x e
      → Feeds hearing s bs v held k (Err e)
  Feeds-stopped s bs held t rest out new holds k u v x e f w stop =
      let more = reading_of-append hearing f.front rest s t f.stands in
      let text : (reading_of hearing s bs).text ≡ f.done ++ new =
      ap (λ l. (reading_of hearing s l).text) f.split ∙ more.0
      ∙ ap (λ l. l ++ (reading_of hearing t rest).text) f.told
      ∙ append_assoc f.done out (reading_of hearing t rest).text ∙ ap (λ l. f.done ++ l) (sym w.1) in
      λ after. EndsAfter-stopped hearing s bs after held k x e
      (ap (λ l. (reading_of hearing s l).stands) f.split ∙ more.1 ∙ w.0)
      (subst (λ l. Stops held k l (hearing.said_of x) x e) (sym text)
      (Stops-after f.done new (hearing.said_of x) held holds k x e f.written stop))

  -- one of the rest ends a line that needs a listener for which there is no memory
  pub Feeds-unheard : (s : Scan S) (bs : List ℕ) (held : Option (List ℕ)) (t : Scan S) (rest out new : List ℕ)
      (holds : Option (List ℕ)) (u v : Scan S) → Feeding s bs held t rest out holds
      → TakesSome hearing t rest out new u (Err StopNoMemory) → Feeds hearing s bs v held holds (Err NoMemory)
  Feeds-unheard s bs held t rest out new holds u v f w =
      let n = w.0 in
      let more = reading_of-append hearing f.front n.0 s t f.stands in
      let before = reading_of-unheard hearing n.0 t n.1 n.5 n.6.0 in
      let quiet = reading_of-unheard hearing f.front s t f.stands before.0 in
      let none = front-nil f.done out (sym f.told ∙ quiet.1) in
      λ after. (
        (
          f.front ++ n.0,
          n.1,
          n.2,
          n.3,
          f.split ∙ ap (λ l. f.front ++ l) n.4 ∙ sym (append_assoc f.front n.0 (n.2 ∷ n.3)),
          more.1 ∙ n.5,
          n.6,
        ),
        Appends-kept_before held holds holds [] (subst (λ l. Appends held holds l) none f.written) (Keeps-refl holds),
      )

  -- a chunk that was fed ended the run
  pub RunsFrom-fed : (s t : Scan S) (read : List ℕ) (a b h k : Option (List ℕ)) (e : CliFault) → Consumes a b read
      → Feeds hearing s read t h k (Err e) → RunsFrom hearing s a b h k (Err e)
  RunsFrom-fed s t read a b h k e p f = (read, p, f b)
