-- A line of no thread, an addition or a tick, leads from each state to one state alone.
use Rattle.std.proofs.Common.{ℕ, ◌≡◌, ◌∙◌, List, [], ◌∷◌, ◌++◌, Some, None, false, refl, sym, ap, true≢false}
use Rattle.pif_types.specs.Bounds.{Bounds}
use Rattle.pif_model.specs.declared.events.Entry.{Entry}
use Rattle.pif_model.specs.Posix.{World, new_thread, new_mutex, new_variable, Step}
use Rattle.pif_model.specs.Posix.Step.{thread_added, mutex_added, cond_added, refused, begun, went, waits, answered, ended, ticked}
use Rattle.pif_posix_steps.specs.Once.{Enters, is_go, is_refused}
use Rattle.pif_posix_steps.specs.Once.Enters.{answered as by_answer, other}
use Rattle.pif_history_model.specs.declared.lines.Protocol.TheVariants.{PrioInherit}
use Rattle.pif_history_model.specs.declared.lines.Line.{Line}
use Rattle.pif_history_model.specs.declared.lines.Line.TheVariants.{Thread, Mutex, Cond, Begin, Answer, Dying, End, Tick}
use Rattle.pif_history_model.specs.declared.labels.Label.TheVariants.{Shown}
use Rattle.pif_history_model.specs.Lines.{line_of, thread_of, dying_after}
use Rattle.pif_history_model.specs.Plain.{PlainConfiguration, PlainAdvances}
use Rattle.pif_history_model.specs.Plain.PlainAdvances.{moves, ends, enters, sees, has_ended}
use Rattle.pif_history_model.specs.Shown.{IsSeen}
use Rattle.pif_history_model.specs.Shown.IsSeen.{rests as sees_rest, prio as sees_prio, dying as sees_dying}

-- the state behind such a line
abbrev pub behind_lone : Line → World → World
behind_lone (Thread p) w = record w { threads = w.threads ++ new_thread p ∷ [] }
behind_lone (Mutex k r x) w = record w { mutexes = w.mutexes ++ new_mutex k r ∷ [] }
behind_lone (Cond m) w = record w { variables = w.variables ++ new_variable m ∷ [] }
behind_lone (Tick n) w = record w { time = n }
behind_lone _ w = w

-- a line that has a thread is none of these
has_none : (k : Line) (t : ℕ) → thread_of k ≡ None → thread_of k ≡ Some t → ⊥
has_none k t e f = (let both : None ≡ Some t = sym e ∙ f in cc)

-- the line that shows an entry is this one
shown_is : (e d : Entry) (k j : Line) → e ≡ d → line_of d ≡ Some j → line_of e ≡ Some k → j ≡ k
shown_is e d k j is of shows = (let both : Some j ≡ Some k = sym of ∙ ap line_of (sym is) ∙ shows in cc)

module _ (l : Bounds) (w v : World) (e : Entry) (k : Line) (shows : line_of e ≡ Some k) (none : thread_of k ≡ None) where
  -- the line of this entry has no thread
  lone : (d : Entry) (j : Line) (t : ℕ) → e ≡ d → line_of d ≡ Some j → thread_of j ≡ Some t → ⊥
  lone d j t is of whose = has_none k t none (ap thread_of (sym (shown_is e d k j is of shows)) ∙ whose)

  after : (d : Entry) (j : Line) → e ≡ d → line_of d ≡ Some j → v ≡ behind_lone j w → v ≡ behind_lone k w
  after d j is of leads = leads ∙ ap (λ (z : Line). behind_lone z w) (shown_is e d k j is of shows)

  lone_step : is_go e ≡ false → is_refused e ≡ false → Step l w e v → v ≡ behind_lone k w
  lone_step g r (thread_added t p is next room low high leads) = after _ (Thread p) is refl leads
  lone_step g r (mutex_added m q i is next room leads) = after _ (Mutex q i PrioInherit) is refl leads
  lone_step g r (cond_added c m is known next room leads) = after _ (Cond m) is refl leads
  lone_step g r (refused y i is why leads) = absurd (true≢false (sym (ap is_refused is) ∙ r))
  lone_step g r (begun t q is allowed leads) = absurd (lone _ (Begin t q) t is refl refl)
  lone_step g r (went t is goes runs) = absurd (true≢false (sym (ap is_go is) ∙ g))
  lone_step g r (waits t z is goes leads resting) = absurd (true≢false (sym (ap is_go is) ∙ g))
  lone_step g r (answered t c q z is goes come leads runs) = absurd (true≢false (sym (ap is_go is) ∙ g))
  lone_step g r (ended t is y) = absurd (lone _ (End t) t is refl refl)
  lone_step g r (ticked n is allowed leads) = after _ (Tick n) is refl leads

  lone_enters : Enters l w e v → v ≡ behind_lone k w
  lone_enters (by_answer t a is y) = absurd (lone _ (Answer t a) t is refl refl)
  lone_enters (other g r step) = lone_step g r step

-- nobody begins to die, or ends
same_dying : (k : Line) → thread_of k ≡ None → (us : List ℕ) → dying_after k us ≡ us
same_dying (Dying t) e us = absurd (cc)
same_dying (End t) e us = absurd (cc)
same_dying _ e us = refl

module _ (l : Bounds) (s n : PlainConfiguration) (k : Line) (none : thread_of k ≡ None) where
  pub behind : PlainAdvances l s (Shown k) n → n ≡ record { world = behind_lone k s.world; dying = s.dying }
  behind (moves t v is move e) = absurd (cc)
  behind (ends t v is among end e) = absurd (cc)
  behind (enters j e v is of apart step same) =
      let this : j ≡ k = cc in
      let where_to : v ≡ behind_lone k s.world = lone_enters l s.world v e k (of ∙ ap (λ z. Some z) this) none step in
      let who : dying_after j s.dying ≡ s.dying = ap (λ z. dying_after z s.dying) this ∙ same_dying k none s.dying in
      same ∙ (λ i. record { world = where_to i; dying = who i })
  behind (sees j is apart look same) = absurd (unseen j look (cc))
    where
      unseen : (j : Line) → IsSeen j s.world → k ≡ j → ⊥
      unseen j (sees_rest t e lives rest) f = has_none k t none (ap thread_of (f ∙ e))
      unseen j (sees_prio t p e lives num) f = has_none k t none (ap thread_of (f ∙ e))
      unseen j (sees_dying t e lives) f = has_none k t none (ap thread_of (f ∙ e))
  behind (has_ended t is among dead same) = absurd (has_none k t none (ap thread_of (let this : k ≡ End t = cc in this)))
