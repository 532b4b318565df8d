-- A line that is heard behind forgotten lines is heard of the whole history.
use Rattle.std.proofs.Common.{ℕ, ◌≡◌, ◌∙◌, Bool, true, false, cond, List, [], ◌∷◌, ◌++◌, append_assoc, append-nil, ap, inl, inr, length, map, None, Option, Some, Result, Ok, Err, refl, subst, sym}
use Rattle.std.specs.List.{list_any}
use Rattle.pif_types.specs.Bounds.{Bounds}
use Rattle.pif_text_model.specs.declared.replies.Cause.{Cause}
use Rattle.pif_text_model.specs.declared.replies.Cause.TheVariants.{Command, Limits as OutOfRange}
use Rattle.pif_rules_model.specs.declared.rules.Rules.{Rules}
use Rattle.pif_rules.specs.Sets.{both, have_common}
use Rattle.pif_rules.specs.Words.{are_beyond}
use Rattle.pif_history_model.specs.declared.lines.Line.{Line}
use Rattle.pif_history_model.specs.declared.lines.Line.TheVariants.{Process}
use Rattle.pif_history_text.specs.declared.said.Said.{Said}
use Rattle.pif_history_text.specs.declared.said.Said.TheVariants.{Allow, Limits, Nothing, Shown}
use Rattle.pif_text_model.specs.Words.{words}
use Rattle.pif_history_text.specs.Histories.{Heard, after_line, after_process, after_said, after_shown, after_text, after_threads, has_begun, is_begin, next_number}
use Rattle.pif_history_text.specs.Lines.{is_long, said_in, several_in, text_of_line, threads_in}
use Rattle.pif_job_follow.specs.Fronts.{HearsNext, IsFrontOf, allows, behind, limits_named}

-- RESULTS

ok_is : {m n : Heard} → ◌≡◌ {A = Result Heard Cause} (Ok m) (Ok n) → m ≡ n
ok_is e = cc

err_is_not_ok : {c : Cause} {m : Heard} → ◌≡◌ {A = Result Heard Cause} (Err c) (Ok m) → ⊥
err_is_not_ok e = cc

-- what stands behind one test, or behind three, each of which may be a fault
by_one : (x : Bool) (c : Cause) (m w : Heard) → ◌≡◌ {A = Result Heard Cause} (cond x (Err c) (Ok w)) (Ok m) → w ≡ m
by_one true c m w e = absurd (err_is_not_ok e)
by_one false c m w e = ok_is e

by_three : (x y z : Bool) (c d f : Cause) (m w : Heard)
    → ◌≡◌ {A = Result Heard Cause} (cond x (Err c) (cond y (Err d) (cond z (Err f) (Ok w)))) (Ok m) → w ≡ m
by_three true y z c d f m w e = absurd (err_is_not_ok e)
by_three false true z c d f m w e = absurd (err_is_not_ok e)
by_three false false z c d f m w e = by_one z f m w e

-- a history that has begun names no limits
none_named : (x : Bool) (c : Cause) (m w : Heard) → x ≡ true
    → ◌≡◌ {A = Result Heard Cause} (cond x (Err c) (Ok w)) (Ok m) → ⊥
none_named true c m w is e = err_is_not_ok e
none_named false c m w is e = absurd (cc)

-- A HISTORY WITH LIMITS, OR WITH RULES

abbrev named_limits : Heard → (t k c s : ℕ) → Heard
named_limits h t k c s =
    record h { named = Some (record { threads = t; mutexes = k; conds = c; signals = s }); count = next_number h }

abbrev allowing : Heard → Rules → Heard
allowing h r = record h { allowed = both h.allowed r; count = next_number h }

allow_is : (h : Heard) (r : Rules) (m : Heard) → after_said h (Some (Allow r)) ≡ Ok m → allowing h r ≡ m
allow_is h r m e =
    by_three (list_any is_begin h.shown) (have_common h.allowed r) (are_beyond r.recursion) Command Command OutOfRange m (allowing h r) e

-- THE LINES GROW

record Grows (h m : Heard) : Type 0 where
  more : List Line
  is : m.shown ≡ h.shown ++ more

grows_by : (h w m : Heard) (more : List Line) → w.shown ≡ h.shown ++ more → w ≡ m → Grows h m
grows_by h w m more g e = subst (λ n. Grows h n) e (record { more = more; is = g })

grows_not : (h w m : Heard) → w.shown ≡ h.shown → w ≡ m → Grows h m
grows_not h w m s e = grows_by h w m [] (s ∙ sym (append-nil h.shown)) e

grows_threads : (h m : Heard) (o : Option (List ℕ)) → after_threads h o ≡ Ok m → Grows h m
grows_threads h m None e = absurd (err_is_not_ok e)
grows_threads h m (Some ts) e = grows_by h (after_process h ts) m (map Process ts) refl (ok_is e)

grows_said : (h m : Heard) (o : Option Said) → after_said h o ≡ Ok m → Grows h m
grows_said h m None e = absurd (err_is_not_ok e)
grows_said h m (Some Nothing) e = grows_not h (record h { count = next_number h }) m refl (ok_is e)
grows_said h m (Some (Limits t k c s)) e =
    grows_not h (named_limits h t k c s) m refl (by_one (has_begun h) Command m (named_limits h t k c s) e)
grows_said h m (Some (Allow r)) e = grows_not h (allowing h r) m refl (allow_is h r m e)
grows_said h m (Some (Shown l)) e = grows_by h (after_shown h l) m (l ∷ []) refl (ok_is e)

-- LINES ARE FORGOTTEN

-- what a line comes to, of the part and of the whole
record GoesAlike (front : List Line) (numbers : List ℕ) (named : Option Bounds) (h m : Heard) (whole : Result Heard Cause) : Type 0 where
  is : whole ≡ Ok (behind front numbers named m)
  same : m.named ≡ h.named

module _ (front : List Line) (numbers : List ℕ) (named : Option Bounds) (h : Heard) (b : Bounds) (has : h.named ≡ Some b) where
  alike_shown : (l : Line) (m : Heard) → after_shown h l ≡ m
      → GoesAlike front numbers named h m (Ok (after_shown (behind front numbers named h) l))
  alike_shown l m e = subst (λ n. GoesAlike front numbers named h n (Ok (after_shown (behind front numbers named h) l))) e (record {
    is = λ i. Ok (record (after_shown h l) {
      named = named;
      shown = append_assoc front h.shown (l ∷ []) i;
      numbers = append_assoc numbers h.numbers (next_number h ∷ []) i;
    });
    same = refl;
  })

  alike_threads : (o : Option (List ℕ)) (m : Heard) → after_threads h o ≡ Ok m
      → GoesAlike front numbers named h m (after_threads (behind front numbers named h) o)
  alike_threads None m e = absurd (err_is_not_ok e)
  alike_threads (Some ts) m e =
      subst (λ n. GoesAlike front numbers named h n (Ok (after_process (behind front numbers named h) ts))) (ok_is e) (record {
        is = λ i. Ok (record (after_process h ts) {
          named = named;
          shown = append_assoc front h.shown (map Process ts) i;
          numbers = append_assoc numbers h.numbers (map (λ t. next_number h) ts) i;
        });
        same = refl;
      })

  begun : has_begun h ≡ true
  begun = ap (λ (o : Option Bounds). has_begun (record h { named = o })) has

  alike_said : (o : Option Said) (m : Heard) → (length m.shown ≡ length h.shown → allows o ≡ false) → after_said h o ≡ Ok m
      → GoesAlike front numbers named h m (after_said (behind front numbers named h) o)
  alike_said None m a e = absurd (err_is_not_ok e)
  alike_said (Some Nothing) m a e =
      subst (λ n. GoesAlike front numbers named h n (after_said (behind front numbers named h) (Some Nothing))) (ok_is e)
      (record { is = refl; same = refl })
  alike_said (Some (Limits t k c s)) m a e = absurd (none_named (has_begun h) Command m (named_limits h t k c s) begun e)
  alike_said (Some (Allow r)) m a e =
      let none : allows (Some (Allow r)) ≡ false = a (ap (λ (n : Heard). length n.shown) (sym (allow_is h r m e))) in absurd (cc)
  alike_said (Some (Shown l)) m a e = alike_shown l m (ok_is e)

  alike_text : (names : Option (List (List ℕ))) (o : Option Said) (m : Heard) → (length m.shown ≡ length h.shown → allows o ≡ false)
      → ◌≡◌ {A = Result Heard Cause} (elim names [ Some ts ↦ after_threads h (threads_in ts) | None ↦ after_said h o ]) (Ok m)
      → GoesAlike front numbers named h m
      (elim names [ Some ts ↦ after_threads (behind front numbers named h) (threads_in ts) | None ↦ after_said (behind front numbers named h) o ])
  alike_text (Some ts) o m a e = alike_threads (threads_in ts) m e
  alike_text None o m a e = alike_said o m a e

grows_text : (h m : Heard) (names : Option (List (List ℕ))) (o : Option Said)
    → ◌≡◌ {A = Result Heard Cause} (elim names [ Some ts ↦ after_threads h (threads_in ts) | None ↦ after_said h o ]) (Ok m) → Grows h m
grows_text h m (Some ts) o e = grows_threads h m (threads_in ts) e
grows_text h m None o e = grows_said h m o e

-- a line that isn't too long
short : (x : Bool) (c : Cause) (m : Heard) (r : Result Heard Cause) → ◌≡◌ {A = Result Heard Cause} (cond x (Err c) r) (Ok m) → r ≡ Ok m
short true c m r e = absurd (err_is_not_ok e)
short false c m r e = e

alike_short : (front : List Line) (numbers : List ℕ) (named : Option Bounds) (h m : Heard) (x : Bool) (c : Cause) (r s : Result Heard Cause)
    → ◌≡◌ {A = Result Heard Cause} (cond x (Err c) r) (Ok m) → (r ≡ Ok m → GoesAlike front numbers named h m s)
    → GoesAlike front numbers named h m (cond x (Err c) s)
alike_short front numbers named h m true c r s e f = absurd (err_is_not_ok e)
alike_short front numbers named h m false c r s e f = f e

grows : (h m : Heard) (bytes : List ℕ) → after_line h bytes ≡ Ok m → Grows h m
unfolding after_line after_text
grows h m bytes e = grows_text h m _ _ (short _ _ m _ e)

alike : (front : List Line) (numbers : List ℕ) (named : Option Bounds) (h : Heard) (b : Bounds) → h.named ≡ Some b → (m : Heard) (bytes : List ℕ)
    → (length m.shown ≡ length h.shown → allows (said_in (text_of_line (next_number h) bytes)) ≡ false)
    → after_line h bytes ≡ Ok m → GoesAlike front numbers named h m (after_line (behind front numbers named h) bytes)
unfolding after_line after_text
alike front numbers named h b has m bytes a e =
    alike_short front numbers named h m (is_long (next_number h) bytes) _ _ _ e
    (λ r. alike_text front numbers named h b has (several_in (words (text_of_line (next_number h) bytes)))
    (said_in (text_of_line (next_number h) bytes)) m a r)

-- ONE MORE LINE

at_front : (h m : Heard) (bytes : List ℕ) → after_line h bytes ≡ Ok m → Grows h m → HearsNext [] [] h.named h bytes m
at_front h m bytes e g = record {
  now_named = m.named;
  whole = e;
  stays_behind = inl (refl, refl, refl);
  limits = inl refl;
  more = g.more;
  grows = g.is;
}

pub hears_next : (front : List Line) (numbers : List ℕ) (named : Option Bounds) (h m : Heard) (bytes : List ℕ)
    → IsFrontOf front numbers named h
    → (length m.shown ≡ length h.shown → allows (said_in (text_of_line (next_number h) bytes)) ≡ false)
    → after_line h bytes ≡ Ok m → HearsNext front numbers named h bytes m
hears_next front numbers named h m bytes (inl none) a e =
    subst (λ f. HearsNext f numbers named h bytes m) (sym none.0)
    (subst (λ ns. HearsNext [] ns named h bytes m) (sym none.1)
    (subst (λ o. HearsNext [] [] o h bytes m) (sym none.2) (at_front h m bytes e (grows h m bytes e))))
hears_next front numbers named h m bytes (inr some) a e =
    let x = alike front numbers named h some.0 some.1 m bytes a e in
    let g = grows h m bytes e in
    record {
      now_named = named;
      whole = x.is;
      stays_behind = inr (some.0, x.same ∙ some.1, some.2);
      limits = inr (ap limits_named x.same);
      more = g.more;
      grows = g.is;
    }
