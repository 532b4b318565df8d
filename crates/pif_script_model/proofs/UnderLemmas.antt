-- Two ways to hear a script: one keeps more than the other, and both answer each line alike.
use Rattle.std.proofs.Common.{◌≡◌, ◌<◌, ℕ, Bool, true, false, cond, List, [], ◌∷◌, ◌++◌, length, Option, Some, None, Result, Ok, Err, inl, inr, refl, sym, ap, ◌∙◌, subst}
use Rattle.std.specs.Io.KnownBytes.{Appends, IsAtEnd}
use Rattle.std.specs.Prelude.{◌==◌, is_ok, nat_lt, option_map}
use Rattle.pif_text_model.specs.declared.replies.Cause.{Cause}
use Rattle.pif_text_model.specs.declared.replies.Cause.TheVariants.{Cut}
use Rattle.pif_text_model.specs.declared.traces.Version.{Version}
use Rattle.pif_script_model.specs.declared.faults.CliFault.{CliFault}
use Rattle.pif_script_model.specs.declared.faults.CliFault.TheVariants.{Read, Write, NoMemory, Script, Differs}
use Rattle.pif_script_model.specs.declared.ending.Ending.{Ending}
use Rattle.pif_script_model.specs.declared.ending.Ending.TheVariants as ending
use Rattle.pif_script_model.specs.declared.ending.End.{End}
use Rattle.pif_script_model.specs.Runs.{EndsAfter, WritesPart, last_text, output_of}
use Rattle.pif_script_model.specs.Scripts.{Answered, FirstMeaning, Hearing, Meaning, NeedsAt, NeedsIn, NeedsListener, Scan, after_line, answer_to_line, answered_first, answered_later, at_end, byte_taken, closed_at, end_at, ended_by, reading_of, with_byte}
use Rattle.pif_script_model.proofs.ScriptLemmas.{by_cases, reading_of-err, reading_of-nil, reading_of-ok}

module _ {S T : Type 0} (less : S → T) where
  -- what a line means to who keeps less
  abbrev pub later_under : Meaning S → Meaning T
  later_under (Ok m) = Ok (m.0, less m.1)
  later_under (Err e) = Err e

  abbrev pub first_under : FirstMeaning S → FirstMeaning T
  first_under (Ok None) = Ok None
  first_under (Ok (Some m)) = Ok (Some (m.0, less m.1))
  first_under (Err e) = Err e

  -- where a script stands for who keeps less
  abbrev pub scan_under : Scan S → Scan T
  scan_under s = record {
    listener = option_map less s.listener;
    version = s.version;
    line = s.line;
    number = s.number;
    taken = s.taken;
  }

  abbrev stands_under : Result (Scan S) End → Result (Scan T) End
  stands_under (Ok s) = Ok (scan_under s)
  stands_under (Err e) = Err e

  abbrev taken_under : Result (List ℕ × Scan S) End → Result (List ℕ × Scan T) End
  taken_under (Ok m) = Ok (m.0, scan_under m.1)
  taken_under (Err e) = Err e

  module _ (more : Hearing S) (fewer : Hearing T)
      (first : (v : Option Version) (line : List ℕ) → fewer.first_meaning v line ≡ first_under (more.first_meaning v line))
      (later : (s : S) (line : List ℕ) → fewer.meaning (less s) line ≡ later_under (more.meaning s line))
      (ends : (n : ℕ) → fewer.end_text n ≡ more.end_text n) (said : (e : End) → fewer.said_of e ≡ more.said_of e) where
    after_first : (s : Scan S) (m : FirstMeaning S)
        → after_line (scan_under s) (answered_first (first_under m)) ≡ taken_under (after_line s (answered_first m))
    after_first s (Ok None) = refl
    after_first s (Ok (Some m)) = refl
    after_first s (Err e) = refl

    after_later : (s : Scan S) (m : Meaning S)
        → after_line (scan_under s) (answered_later (later_under m)) ≡ taken_under (after_line s (answered_later m))
    after_later s (Ok m) = refl
    after_later s (Err e) = refl

    after : (s : Scan S) (l : Option S)
        → after_line (scan_under s) (answer_to_line fewer (option_map less l) s.version s.line)
        ≡ taken_under (after_line s (answer_to_line more l s.version s.line))
    after s None =
        ap (λ m. after_line (scan_under s) (answered_first m)) (first s.version s.line)
        ∙ after_first s (more.first_meaning s.version s.line)
    after s (Some l) =
        ap (λ m. after_line (scan_under s) (answered_later m)) (later l s.line) ∙ after_later s (more.meaning l s.line)

    byte : (s : Scan S) (b : ℕ) → byte_taken fewer (scan_under s) b ≡ taken_under (byte_taken more s b)
    unfolding byte_taken
    byte s b = by_tests (nat_lt s.taken 16777216) (b == 10) (nat_lt (length s.line) 120) _ _ _ _ (after s s.listener)
      where
        by_tests : (x y z : Bool) (p : Result (List ℕ × Scan T) End) (q : Result (List ℕ × Scan S) End) (long size : End)
            → p ≡ taken_under q
            → cond x (cond y p (cond z (Ok ([], with_byte (scan_under s) b)) (Err long))) (Err size)
            ≡ taken_under (cond x (cond y q (cond z (Ok ([], with_byte s b)) (Err long))) (Err size))
        by_tests true true z p q long size e = e
        by_tests true false true p q long size e = refl
        by_tests true false false p q long size e = refl
        by_tests false y z p q long size e = refl

    -- the same is told, and the script stands where it does
    pub reading_under : (bs : List ℕ) (s : Scan S)
        → ((reading_of fewer (scan_under s) bs).text ≡ (reading_of more s bs).text)
        × ((reading_of fewer (scan_under s) bs).stands ≡ stands_under (reading_of more s bs).stands)
    reading_under [] s =
        let one = reading_of-nil fewer (scan_under s) in
        let other = reading_of-nil more s in
        (one.0 ∙ sym other.0, one.1 ∙ ap stands_under (sym other.1))
    reading_under (b ∷ bs) s =
        elim (by_cases (byte_taken more s b)) [
          | inl r ↦
              let one = reading_of-ok fewer (scan_under s) b bs (r.0.0, scan_under r.0.1) (byte s b ∙ ap taken_under r.1) in
              let other = reading_of-ok more s b bs r.0 r.1 in
              let rest = reading_under bs r.0.1 in (
                one.0 ∙ ap (λ l. r.0.0 ++ l) rest.0 ∙ sym other.0,
                one.1 ∙ rest.1 ∙ ap stands_under (sym other.1),
              )
          | inr r ↦
              let one = reading_of-err fewer (scan_under s) b bs r.0 (byte s b ∙ ap taken_under r.1) in
              let other = reading_of-err more s b bs r.0 r.1 in
              (one.0 ∙ sym other.0, one.1 ∙ ap stands_under (sym other.1))
        ]

    closed : (s : Scan S) → closed_at fewer (scan_under s) ≡ closed_at more s
    closed s =
        ap (λ t. cond (length s.line == 0) (at_end (scan_under s) t) (Err (end_at s (ending.Fault Cut)))) (ends s.number)
        ∙ by_end (more.end_text s.number)
      where
        by_end : (t : Result (List ℕ) Cause)
            → cond (length s.line == 0) (at_end (scan_under s) t) (Err (end_at s (ending.Fault Cut)))
            ≡ cond (length s.line == 0) (at_end s t) (Err (end_at s (ending.Fault Cut)))
        by_end (Ok text) = refl
        by_end (Err c) = refl

    ended : (r : Result (Scan S) End) → ended_by fewer (stands_under r) ≡ ended_by more r
    ended (Ok s) = closed s
    ended (Err e) = refl

    last : (r : Result (List ℕ) End) → last_text fewer.said_of r ≡ last_text more.said_of r
    last (Ok text) = refl
    last (Err e) = said e

    module _ (s : Scan S) (read : List ℕ) where
      ends_alike : ended_by fewer (reading_of fewer (scan_under s) read).stands
          ≡ ended_by more (reading_of more s read).stands
      ends_alike = ap (ended_by fewer) (reading_under read s).1 ∙ ended (reading_of more s read).stands

      writes_alike : output_of fewer (reading_of fewer (scan_under s) read) ≡ output_of more (reading_of more s read)
      writes_alike =
          ap (λ l. l ++ last_text fewer.said_of (ended_by fewer (reading_of fewer (scan_under s) read).stands))
          (reading_under read s).0
          ∙ ap (λ r. (reading_of more s read).text ++ last_text fewer.said_of r) ends_alike
          ∙ ap (λ l. (reading_of more s read).text ++ l) (last (ended_by more (reading_of more s read).stands))

      still : (r : Result (Scan S) End) → is_ok (stands_under r) ≡ is_ok r
      still (Ok t) = refl
      still (Err e) = refl

      stands_alike : is_ok (reading_of fewer (scan_under s) read).stands ≡ is_ok (reading_of more s read).stands
      stands_alike = ap is_ok (reading_under read s).1 ∙ still (reading_of more s read).stands

    needs : (m : FirstMeaning S) → NeedsListener m → NeedsListener (first_under m)
    needs (Ok None) n = n
    needs (Ok (Some m)) n = n
    needs (Err (ending.Fault c)) n = n
    needs (Err (ending.Differs r)) n = n

    needs_at : (s : Scan S) (b : ℕ) → NeedsAt more s b → NeedsAt fewer (scan_under s) b
    needs_at s b n = (
      ap (option_map less) n.0,
      subst NeedsListener (sym (first s.version s.line)) (needs (more.first_meaning s.version s.line) n.1),
      n.2,
      n.3,
    )

    -- a run ends alike
    pub EndsAfter_under : (s : Scan S) (read : List ℕ) (after held holds : Option (List ℕ))
        (result : Result (Unit {0}) CliFault)
        → EndsAfter more s read after held holds result → EndsAfter fewer (scan_under s) read after held holds result
    EndsAfter_under s read after held holds (Ok x) e = (
      ap is_ok (ends_alike s read) ∙ e.0,
      e.1,
      subst (Appends held holds) (sym (writes_alike s read)) e.2,
    )
    EndsAfter_under s read after held holds (Err (Script line cause)) e = (
      ends_alike s read ∙ e.0,
      λ o. e.1 (sym (stands_alike s read) ∙ o),
      subst (Appends held holds) (sym (writes_alike s read)) e.2,
    )
    EndsAfter_under s read after held holds (Err (Differs line)) e =
        ((e.0.0, ends_alike s read ∙ e.0.1), subst (Appends held holds) (sym (writes_alike s read)) e.1)
    EndsAfter_under s read after held holds (Err Read) e =
        (stands_alike s read ∙ e.0, subst (Appends held holds) (sym (reading_under read s).0) e.1)
    EndsAfter_under s read after held holds (Err Write) e =
        subst (WritesPart held holds) (sym (writes_alike s read)) e
    EndsAfter_under s read after held holds (Err NoMemory) e = (
      (
        e.0.0,
        scan_under e.0.1,
        e.0.2,
        e.0.3,
        e.0.4,
        (reading_under e.0.0 s).1 ∙ ap stands_under e.0.5,
        needs_at e.0.1 e.0.2 e.0.6,
      ),
      e.1,
    )
