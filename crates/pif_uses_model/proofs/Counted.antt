-- A step of a state is followed from one that is the same but for uses, as far as no variable is used up. How often a
-- variable was used, with all uses to come, rises only where a signal or a broadcast begins.
use Rattle.std.proofs.Common.{ℕ, zero, suc, ◌≡◌, ◌≤◌, ◌+◌, ◌∙◌, false, List, [], ◌∷◌, ◌++◌, map, refl, sym, subst, ap, arith}
use Rattle.std.proofs.lemmas.Bool.{true≢false}
use Rattle.std.proofs.lemmas.List.{map-append}
use Rattle.std.proofs.lemmas.List.Sums.{sum_by_push}
use Rattle.pif_types.specs.Bounds.{Bounds}
use Rattle.pif_types.specs.declared.requests.Request.{Request}
use Rattle.pif_model.specs.declared.events.Event.TheVariants.{Begin, Go, End, Tick}
use Rattle.pif_model.specs.declared.events.Seen.TheVariants.{Begun, Answered, Ended, Ticked}
use Rattle.pif_model.specs.declared.events.Entry.{Entry}
use Rattle.pif_model.specs.declared.events.Entry.TheVariants.{Step as Happened}
use Rattle.pif_model.specs.Deadlines.{plain}
use Rattle.pif_model.specs.World.Progress.{Fresh, Used}
use Rattle.pif_model.specs.Posix.{World, Variable, with_progress, used, variable_of, new_thread, new_variable, IsNotUsedUp, Step}
use Rattle.pif_model.specs.Posix.Uses.{counts as use_counts}
use Rattle.pif_model.specs.Posix.Effect.{use_variable}
use Rattle.pif_model.specs.Posix.Step.{thread_added, mutex_added, cond_added, refused, begun, went, waits, answered, ended, ticked}
use Rattle.pif_posix_steps.specs.Once.{MovesOnce, Acts, Enters, is_go, is_refused}
use Rattle.pif_posix_steps.specs.Once.Acts.{effect}
use Rattle.pif_posix_steps.specs.Once.Enters.{answered as by_answer, other as other_entry}
use Rattle.pif_uses_model.specs.Uses.{AreButForUses, NoneIsUsedUp, unused, without_uses, uses_in, uses_to_come, to_come_at}
use Rattle.pif_uses_model.proofs.Variables.{used_in, same_length, same_used, used_rises}
use Rattle.pif_uses_model.proofs.Moves.{other, Keeps, Turns, turns}
use Rattle.pif_uses_model.proofs.Moves.Turns.{quiet, refused as use_refused, uses}
use Rattle.pif_uses_model.proofs.Entries.{EntersBy, keeps_begin, keeps_tick, keeps_answer, keeps_end}
use Rattle.pif_uses_model.proofs.ToCome.{to_come, lowered_by_move, use_lowers_by_one, lowered_by_answer, lowered_by_end, raised_by_begin}

-- a step from w to v, by which at most n calls begin that use a variable, is followed with the variables xs
pub record IsFollowed (P : World → World → Type 0) (w : World) (xs : List Variable) (v : World) (n : ℕ) : Type 0 where
  pub variables : List Variable
  pub step : P (other xs w) (other variables v)
  pub same : AreButForUses v.variables variables
  pub here : (c : ℕ) → uses_in v.variables c + uses_to_come v ≤ uses_in w.variables c + uses_to_come w + n
  pub there : (c : ℕ) → uses_in variables c + uses_to_come v ≤ uses_in xs c + uses_to_come w + n
  pub signals : v.signals ≡ w.signals

-- one that leaves variables is
pub followed_kept : (P : World → World → Type 0) (w : World) (xs : List Variable) (v : World) (n : ℕ) → AreButForUses w.variables xs
    → Keeps P w xs v → uses_to_come v ≤ uses_to_come w + n → IsFollowed P w xs v n
followed_kept P w xs v n a k less = record {
  variables = xs;
  step = k.step;
  same = ap (map unused) k.variables ∙ a;
  here = λ c.
      let kept : uses_in v.variables c ≡ uses_in w.variables c = ap (λ (l : List Variable). uses_in l c) k.variables in
      omega (arith, less, kept);
  there = λ c. omega (arith, less);
  signals = k.signals;
}

-- MOVES

pub followed_move : (t : ℕ) (w : World) (xs : List Variable) (v : World) → AreButForUses w.variables xs → NoneIsUsedUp w
    → NoneIsUsedUp (other xs w) → MovesOnce t w v → IsFollowed (MovesOnce t) w xs v 0
followed_move t w xs v a spare room x = by_turn (turns w xs a t v x.acts)
  where
    by_turn : Turns (Acts t) t w xs v → IsFollowed (MovesOnce t) w xs v 0
    by_turn (quiet k) =
        let less = lowered_by_move t w v x in
        followed_kept (MovesOnce t) w xs v 0 a
        (record { step = record { allowed = x.allowed; acts = k.step }; variables = k.variables; signals = k.signals })
        (omega (arith, less.less))
    by_turn (use_refused c full e f) = let below = spare c in absurd (omega (arith, full, below))
    by_turn (uses q calls is e) =
        let d : ℕ = variable_of q in
        let zs : List Variable = used_in d xs in
        let free : IsNotUsedUp (other xs w) d = λ full. let below = room d in omega (arith, full, below) in
        let fewer = use_lowers_by_one w t d q calls is in
        let come : uses_to_come v ≡ uses_to_come (with_progress t Used (used d w)) = ap uses_to_come e in
        record {
          variables = zs;
          step = record { allowed = x.allowed; acts = effect (use_variable q calls is (use_counts free (ap (other zs) e))) };
          same = ap (λ (z : World). map unused z.variables) e ∙ same_used w.variables xs a d;
          here = λ c.
              let more = used_rises w.variables d c in
              let after : uses_in v.variables c ≡ uses_in (used_in d w.variables) c = ap (λ (z : World). uses_in z.variables c) e in
              omega (arith, fewer, come, more, after);
          there = λ c. let more = used_rises xs d c in omega (arith, fewer, come, more);
          signals = ap (λ (z : World). z.signals) e;
        }

-- ENTRIES

-- a new variable was not used
new_uses : (xs : List Variable) (m c : ℕ) → uses_in (xs ++ new_variable m ∷ []) c ≤ uses_in xs c
new_uses [] m zero = omega arith
new_uses [] m (suc c) = omega arith
new_uses (x ∷ xs) m zero = omega arith
new_uses (x ∷ xs) m (suc c) = new_uses xs m c

-- at most n uses begin with an entry
abbrev pub BeginsAtMost : ℕ → Entry → Type 0
BeginsAtMost n e = (t : ℕ) (q : Request) → e ≡ Happened (Begin t q) Begun → to_come_at (plain q) Fresh ≤ n

module _ (l : Bounds) (w : World) (xs : List Variable) (a : AreButForUses w.variables xs) (n : ℕ) (e : Entry) where
  -- for an entry that is this one
  of_entry : (v : World) (i : Entry) → e ≡ i → IsFollowed (EntersBy l i) w xs v n → IsFollowed (EntersBy l e) w xs v n
  of_entry v i is f = subst (λ (k : Entry). IsFollowed (EntersBy l k) w xs v n) (sym is) f

  followed_step : (v : World) → BeginsAtMost n e → is_go e ≡ false → is_refused e ≡ false → Step l w e v
      → IsFollowed (EntersBy l e) w xs v n
  followed_step v most g r (thread_added t p is next room low high after) =
      let come : uses_to_come v ≡ uses_to_come (record w { threads = w.threads ++ new_thread p ∷ [] }) = ap uses_to_come after in
      let more = sum_by_push to_come w.threads (new_thread p) in
      followed_kept (EntersBy l e) w xs v n a
      (record {
        step = other_entry g r (thread_added t p is next room low high (ap (other xs) after));
        variables = ap (λ (z : World). z.variables) after;
        signals = ap (λ (z : World). z.signals) after;
      })
      (omega (arith, come, more))
  followed_step v most g r (mutex_added m k b is next room after) =
      let come : uses_to_come v ≡ uses_to_come w = ap uses_to_come after in
      followed_kept (EntersBy l e) w xs v n a
      (record {
        step = other_entry g r (mutex_added m k b is next room (ap (other xs) after));
        variables = ap (λ (z : World). z.variables) after;
        signals = ap (λ (z : World). z.signals) after;
      })
      (omega (arith, come))
  followed_step v most g r (cond_added c m is known next room after) =
      let come : uses_to_come v ≡ uses_to_come w = ap uses_to_come after in
      let zs : List Variable = xs ++ new_variable m ∷ [] in
      record {
        variables = zs;
        step = other_entry g r (cond_added c m is known (next ∙ same_length w.variables xs a) room (ap (other zs) after));
        same = ap (λ (z : World). map unused z.variables) after ∙ map-append unused w.variables (new_variable m ∷ [])
            ∙ ap (λ (ys : List Variable). ys ++ unused (new_variable m) ∷ []) a ∙ sym (map-append unused xs (new_variable m ∷ []));
        here = λ d.
            let more = new_uses w.variables m d in
            let is_so : uses_in v.variables d ≡ uses_in (w.variables ++ new_variable m ∷ []) d = ap (λ (z : World). uses_in z.variables d) after in
            omega (arith, come, more, is_so);
        there = λ d. let more = new_uses xs m d in omega (arith, come, more);
        signals = ap (λ (z : World). z.signals) after;
      }
  followed_step v most g r (refused x why is not_so after) = absurd (true≢false (sym (ap is_refused is) ∙ r))
  followed_step v most g r (begun t q is allowed after) =
      let come = ap uses_to_come after in
      let more = raised_by_begin t q w in
      let one = most t q is in
      of_entry v (Happened (Begin t q) Begun) is
      (followed_kept (EntersBy l (Happened (Begin t q) Begun)) w xs v n a
      (keeps_begin l w xs a t q v (other_entry refl refl (begun t q refl allowed after))) (omega (arith, come, more, one)))
  followed_step v most g r (went t is goes runs) = absurd (true≢false (sym (ap is_go is) ∙ g))
  followed_step v most g r (waits t u is goes after resting) = absurd (true≢false (sym (ap is_go is) ∙ g))
  followed_step v most g r (answered t b q u is goes come after runs) = absurd (true≢false (sym (ap is_go is) ∙ g))
  followed_step v most g r (ended t is gone) =
      let less = lowered_by_end t w v gone in
      of_entry v (Happened (End t) Ended) is
      (followed_kept (EntersBy l (Happened (End t) Ended)) w xs v n a
      (keeps_end l w xs a t v (other_entry refl refl (ended t refl gone))) (omega (arith, less.less)))
  followed_step v most g r (ticked k is allowed after) =
      let come : uses_to_come v ≡ uses_to_come w = ap uses_to_come after in
      of_entry v (Happened (Tick k) Ticked) is
      (followed_kept (EntersBy l (Happened (Tick k) Ticked)) w xs v n a
      (keeps_tick l w xs a k v (other_entry refl refl (ticked k refl allowed after))) (omega (arith, come)))

  pub followed_entry : (v : World) → BeginsAtMost n e → Enters l w e v → IsFollowed (EntersBy l e) w xs v n
  followed_entry v most (by_answer t b is x) =
      let come = ap uses_to_come x.closes in
      let less = lowered_by_answer w t in
      of_entry v (Happened (Go t) (Answered b)) is
      (followed_kept (EntersBy l (Happened (Go t) (Answered b))) w xs v n a
      (keeps_answer l w xs a t b v (by_answer t b refl x)) (omega (arith, come, less.less)))
  followed_entry v most (other_entry g r x) = followed_step v most g r x

-- THE LAW

pub follows_without_uses : (t : ℕ) (w o v : World) → without_uses w ≡ without_uses o → NoneIsUsedUp w → NoneIsUsedUp o → MovesOnce t w v
    → (z : World) × (without_uses v ≡ without_uses z) × MovesOnce t o z
follows_without_uses t w o v e spare room x =
    let is : other o.variables w ≡ o = ap (other o.variables) e in
    let f = followed_move t w o.variables v (ap (λ (z : World). z.variables) e) spare (subst NoneIsUsedUp (sym is) room) x in (
      other f.variables v,
      ap (λ (l : List Variable). other l v) f.same,
      subst (λ (z : World). MovesOnce t z (other f.variables v)) is f.step,
    )
