-- Begins of calls, answers, ticks and ends of threads leave uses, and are possible with others.
use Rattle.std.proofs.Common.{ℕ, zero, suc, ◌≡◌, ◌==◌, ◌∙◌, false, List, nat_lt, Some, is_some, ◌∷◌, refl, sym, subst, ap, if◌then◌else◌}
use Rattle.pif_types.specs.Bounds.{Bounds}
use Rattle.pif_types.specs.declared.requests.Request.{Request}
use Rattle.pif_types.specs.Shapes.{shape_of}
use Rattle.pif_model.specs.declared.events.Event.TheVariants.{Begin, Go, End, Tick}
use Rattle.pif_model.specs.declared.events.Seen.TheVariants.{Begun, Answered, Ended, Ticked}
use Rattle.pif_model.specs.declared.events.Entry.{Entry}
use Rattle.pif_model.specs.declared.events.Entry.TheVariants.{Step as Happened}
use Rattle.pif_model.specs.Deadlines.{plain, timer_of}
use Rattle.pif_model.specs.Refusals.{begin_refused}
use Rattle.pif_model.specs.World.Progress.{Fresh}
use Rattle.pif_model.specs.Posix.{World, Variable, thread_at, with_thread, begun_thread, blocked_below, is_blocked_on, is_thread, is_living, is_mutex, names_known, IsAllowed, Releases, Ends, after_end, after_owner_death}
use Rattle.pif_model.specs.Posix.Releases.{none_left, one_more}
use Rattle.pif_posix_steps.specs.Once.{Enters, Answers}
use Rattle.pif_posix_steps.specs.Once.Enters.{answered, other as other_entry}
use Rattle.pif_posix_steps.specs.Doing.{begun, ticked}
use Rattle.pif_posix_steps.proofs.Remembering.{memory_same}
use Rattle.pif_posix_steps.proofs.DoingLists.{in_option, in_option_from}
use Rattle.pif_posix_steps.proofs.DoingEnds.{ended_from, ended_to}
use Rattle.pif_posix_steps.proofs.DoingEntries.{begun_from, begun_to, ticked_from, ticked_to, entered_from, entered_to}
use Rattle.pif_uses_model.specs.Uses.{AreButForUses}
use Rattle.pif_uses_model.proofs.Variables.{same_length}
use Rattle.pif_uses_model.proofs.Moves.{other, Keeps, keeps, keeps_Passes}

-- THE BEGIN OF A CALL

same_blocked_below : (w : World) (xs : List Variable) (c n : ℕ) → blocked_below (other xs w) c n ≡ blocked_below w c n
unfolding blocked_below
same_blocked_below w xs c zero = refl
same_blocked_below w xs c (suc n) =
    ap (λ r. if is_blocked_on w c n then (n, (thread_at w n).memory.waits) ∷ r else r) (same_blocked_below w xs c n)

-- THE END OF A THREAD

keeps_Releases : (t : ℕ) (w : World) (xs : List Variable) (v : World) → Releases t w v → Keeps (Releases t) w xs v
keeps_Releases t w xs v (none_left o e) = keeps w xs (Releases t) w v refl refl e (none_left o (ap (other xs) e))
keeps_Releases t w xs v (one_more {u = u} m o n p more) =
    let k = keeps_Passes (after_owner_death m w) xs m u p in
    let r = keeps_Releases t u xs v more in
    record {
      step = one_more m o n k.step r.step;
      variables = r.variables ∙ k.variables;
      signals = r.signals ∙ k.signals;
    }

-- ENTRIES

-- an entry from one state to another
abbrev pub EntersBy : Bounds → Entry → World → World → Type 0
EntersBy l e w v = Enters l w e v

module _ (l : Bounds) (w : World) (xs : List Variable) (a : AreButForUses w.variables xs) where
  pub keeps_begin : (t : ℕ) (q : Request) (v : World) → Enters l w (Happened (Begin t q) Begun) v
      → Keeps (EntersBy l (Happened (Begin t q) Begun)) w xs v
  keeps_begin t q v x =
      let b = begun_to w t q v (in_option (begun t q w) v (entered_from l w (Happened (Begin t q) Begun) v x)) in
      let allowed : IsAllowed (other xs w) (Begin t q) =
      ap (λ n. begin_refused (is_thread w t) (is_living w t) (is_some (thread_at w t).call) (names_known (is_mutex w) (λ c. if c == 0 then false else nat_lt c n) q))
      (sym (same_length w.variables xs a)) ∙ b.0 in
      let is : other xs v ≡ with_thread t (begun_thread (other xs w) q (thread_at w t)) (other xs w) =
      ap (other xs) b.1
      ∙ ap (λ m. with_thread t (record (thread_at w t) { call = Some (record { request = plain q; progress = Fresh }); timer = timer_of q; memory = m }) (other xs w))
      (sym (memory_same (other xs w) w (λ c. same_blocked_below w xs c _) (shape_of (plain q)) (thread_at w t).memory)) in
      keeps w xs (EntersBy l (Happened (Begin t q) Begun)) _ v refl refl b.1
      (entered_to l (other xs w) (Happened (Begin t q) Begun) (other xs v)
      (in_option_from (begun t q (other xs w)) (other xs v) (begun_from (other xs w) t q (other xs v) allowed is)))

  pub keeps_tick : (n : ℕ) (v : World) → Enters l w (Happened (Tick n) Ticked) v → Keeps (EntersBy l (Happened (Tick n) Ticked)) w xs v
  keeps_tick n v x =
      let b = ticked_to w n v (in_option (ticked n w) v (entered_from l w (Happened (Tick n) Ticked) v x)) in
      keeps w xs (EntersBy l (Happened (Tick n) Ticked)) _ v refl refl b.1
      (entered_to l (other xs w) (Happened (Tick n) Ticked) (other xs v)
      (in_option_from (ticked n (other xs w)) (other xs v) (ticked_from (other xs w) n (other xs v) b.0 (ap (other xs) b.1))))

  keeps_Answers : (t r : ℕ) (v : World) → Answers t r w v → Keeps (Answers t r) w xs v
  keeps_Answers t r v x =
      keeps w xs (Answers t r) _ v refl refl x.closes (record {
        request = x.request;
        result = x.result;
        call = x.call;
        told = x.told;
        allowed = x.allowed;
        goes_on = x.goes_on;
        closes = ap (other xs) x.closes;
      })

  pub keeps_answer : (t r : ℕ) (v : World) → Enters l w (Happened (Go t) (Answered r)) v
      → Keeps (EntersBy l (Happened (Go t) (Answered r))) w xs v
  keeps_answer t r v (answered u b e x) =
      let same_thread : u ≡ t = cc in
      let same_answer : b ≡ r = cc in
      let k = keeps_Answers t r v (subst (λ j. Answers j r w v) same_thread (subst (λ j. Answers u j w v) same_answer x)) in
      record { step = answered t r refl k.step; variables = k.variables; signals = k.signals }
  keeps_answer t r v (other_entry go refused x) = absurd (cc)

  pub keeps_end : (t : ℕ) (v : World) → Enters l w (Happened (End t) Ended) v → Keeps (EntersBy l (Happened (End t) Ended)) w xs v
  keeps_end t v x =
      let y : Ends t w v = ended_to t w v (entered_from l w (Happened (End t) Ended) v x) in
      let k = keeps_Releases t (after_end t w) xs v y.releases in
      record {
        step = entered_to l (other xs w) (Happened (End t) Ended) (other xs v)
            (ended_from t (other xs w) (other xs v) (record { allowed = y.allowed; releases = k.step }));
        variables = k.variables;
        signals = k.signals;
      }
