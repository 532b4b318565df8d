-- Behind an entry that a line shows an open call may be answered no more than before it, unless it is over then. What
-- the line says that it is answered, it may be answered.
use Rattle.std.proofs.Common.{ℕ, ◌≡◌, ◌≢◌, ◌∙◌, true, false, [], ◌∷◌, ◌++◌, length, Some, None, refl, sym, ap, subst, arith}
use Rattle.std.proofs.lemmas.Bool.{eq-eqb, true≢false}
use Rattle.std.proofs.lemmas.List.{get_or-set_other, get_or_past}
use Rattle.pif_types.specs.Bounds.{Bounds}
use Rattle.pif_types.specs.declared.requests.Request.{Request}
use Rattle.pif_model.specs.declared.events.Event.TheVariants as event
use Rattle.pif_model.specs.declared.events.Seen.TheVariants as seen
use Rattle.pif_model.specs.declared.events.Entry.{Entry}
use Rattle.pif_model.specs.declared.events.Entry.TheVariants as entry
use Rattle.pif_model.specs.Deadlines.{reported_result}
use Rattle.pif_model.specs.Posix.{World, Thread, Progress, Step, nobody, thread_at, with_thread, after_end, new_thread, HasCome, Ends, Releases}
use Rattle.pif_model.specs.Posix.Releases.{none_left, one_more}
use Rattle.pif_model.specs.Posix.Step.{thread_added, mutex_added, cond_added, refused, begun, went, waits, answered, ended, ticked}
use Rattle.pif_model_lemmas.proofs.Among.{is_among-without}
use Rattle.pif_model_simulation.proofs.runs.Worlds.{call_of, call-with_thread_other, push_other, begin_allowed}
use Rattle.pif_model_simulation.proofs.runs.Holding.{same_progress, same_request}
use Rattle.pif_posix_steps.specs.Once as once
use Rattle.pif_posix_steps.specs.Once.{MovesOnce, Acts, Enters, Answers}
use Rattle.pif_posix_steps.specs.Once.Acts.{effect, expires, notes}
use Rattle.pif_posix_steps.specs.Once.Enters.{answered as enters_answered, other}
use Rattle.pif_history_model.specs.declared.lines.Line.{Line}
use Rattle.pif_history_model.specs.declared.lines.Line.TheVariants as line
use Rattle.pif_history_model.specs.Lines.{line_of}
use Rattle.pif_history_model.specs.Known.{is_over, may_be_answered}
use Rattle.pif_history_model.proofs.Leading.{AreWaiting, Follows, Leads, follows_mutex, follows_then, leads_kept, leads_then}
use Rattle.pif_history_model.proofs.KnownMoving.{follows_Passes}

follows_Releases : {t : ℕ} {w v : World} → AreWaiting w → Releases t w v → Follows w v
follows_Releases {w = w} ok (none_left o e) =
    subst (λ (z : World). Follows w z) (sym e) (record { waiting = ok; leads = λ u. leads_kept u w w refl refl })
follows_Releases {t} {w} ok (one_more m o i e more) =
    follows_then (follows_mutex w m _ ok) (λ k. follows_then (follows_Passes k e) (λ j. follows_Releases j more))

module _ (u : ℕ) where
  -- another thread is written
  leads_other : (w : World) (t : ℕ) (y : Thread) → t ≢ u → Leads u w (with_thread t y w)
  leads_other w t y d =
      leads_kept u w (with_thread t y w) (call-with_thread_other w t y u (λ e. d (sym e)))
      (ap (λ (z : Thread). z.timer) (get_or-set_other w.threads t u y nobody (λ e. d (sym e))))

  -- another thread ends
  leads_ends : {t : ℕ} {w v : World} → t ≢ u → AreWaiting w → Ends t w v → Leads u w v
  leads_ends {t} {w} {v} d ok e =
      leads_then u w (after_end t w) v
      (leads_kept u w (after_end t w) (call-with_thread_other w t _ u (λ i. d (sym i)))
      (ap (λ (z : Thread). z.timer) (get_or-set_other w.threads t u _ nobody (λ i. d (sym i)))))
      ((follows_Releases left e.releases).leads u)
    where
      left : AreWaiting (after_end t w)
      left n m among =
          let before = is_among-without w.waiters t n m among in
          let o = ok n m before.0 in
          (o.0, call-with_thread_other w t _ n before.1 ∙ o.1)

  -- a thread is added: it has no call open
  leads_added : (w : World) (p : ℕ) → Leads u w (record w { threads = w.threads ++ new_thread p ∷ [] })
  leads_added w p q o c =
      let same : thread_at (record w { threads = w.threads ++ new_thread p ∷ [] }) u ≡ thread_at w u =
      push_other w.threads (new_thread p) nobody u old in
      leads_kept u w (record w { threads = w.threads ++ new_thread p ∷ [] }) (ap (λ (y : Thread). y.call) same)
      (ap (λ (y : Thread). y.timer) same) q o c
    where
      old : u ≢ length w.threads
      old e =
          let none : call_of w u ≡ None =
          ap (call_of w) e ∙ ap (λ (y : Thread). y.call) (get_or_past w.threads (length w.threads) nobody (omega arith)) in
          let some : call_of w u ≡ Some (record { request = q; progress = o }) = c in
          absurd (cc)

  -- a thread whose call is closed is another than one whose call is open
  leads_begun : (w : World) (t : ℕ) (y : Thread) → call_of w t ≡ None → Leads u w (with_thread t y w)
  leads_begun w t y none q o c =
      leads_other w t y
      (λ i. (let some : call_of w t ≡ Some (record { request = q; progress = o }) = ap (call_of w) i ∙ c in absurd (cc))) q o c

  -- behind an entry that a line shows u's call may be answered no more than before it, unless it is over by the line
  pub leads_entry : (l : Bounds) (w v : World) (e : Entry) (k : Line) → AreWaiting w → line_of e ≡ Some k → is_over u k ≡ false
      → Enters l w e v → Leads u w v
  leads_entry l w v e k ok of open_still (enters_answered t b same answer) =
      let is : line.Answer t b ≡ k = (let here : Some (line.Answer t b) ≡ Some k = sym (ap line_of same) ∙ of in cc) in
      let d : t ≢ u = λ i. true≢false (sym (eq-eqb t u i) ∙ ap (is_over u) is ∙ open_still) in
      subst (λ (z : World). Leads u w z) (sym answer.closes) (leads_other w t _ d)
  leads_entry l w v e k ok of open_still (other no_go no_refusal step) = by_step step
    where
      by_step : Step l w e v → Leads u w v
      by_step (thread_added t p same next room low high after) =
          subst (λ (z : World). Leads u w z) (sym after) (leads_added w p)
      by_step (mutex_added m i r same next room after) =
          leads_kept u w v (ap (λ (z : World). call_of z u) after) (ap (λ (z : World). (thread_at z u).timer) after)
      by_step (cond_added i m same there next room after) =
          leads_kept u w v (ap (λ (z : World). call_of z u) after) (ap (λ (z : World). (thread_at z u).timer) after)
      by_step (refused z r same why after) =
          leads_kept u w v (ap (λ (z : World). call_of z u) after) (ap (λ (z : World). (thread_at z u).timer) after)
      by_step (begun t q same allowed after) =
          subst (λ (z : World). Leads u w z) (sym after) (leads_begun w t _ (begin_allowed w t q allowed).2)
      by_step (went t same goes runs) = absurd (true≢false (sym (ap once.is_go same) ∙ no_go))
      by_step (waits t z same goes after resting) = absurd (true≢false (sym (ap once.is_go same) ∙ no_go))
      by_step (answered t b q z same goes before after runs) = absurd (true≢false (sym (ap once.is_go same) ∙ no_go))
      by_step (ended t same e) =
          let is : line.End t ≡ k = (let here : Some (line.End t) ≡ Some k = sym (ap line_of same) ∙ of in cc) in
          leads_ends (λ i. true≢false (sym (eq-eqb t u i) ∙ ap (is_over u) is ∙ open_still)) ok e
      by_step (ticked n same allowed after) =
          leads_kept u w v (ap (λ (z : World). call_of z u) after) (ap (λ (z : World). (thread_at z u).timer) after)

  -- an entry that a line shows as u's answer is that answer
  pub answer-from_entry : (l : Bounds) (w v : World) (e : Entry) (b : ℕ) → line_of e ≡ Some (line.Answer u b)
      → Enters l w e v → Answers u b w v
  answer-from_entry l w v e b of (enters_answered t i same answer) =
      let here : Some (line.Answer t i) ≡ Some (line.Answer u b) = sym (ap line_of same) ∙ of in
      let whose : t ≡ u = cc in
      let what : i ≡ b = cc in
      subst (λ j. Answers u j w v) what (subst (λ j. Answers j i w v) whose answer)
  answer-from_entry l w v e b of (other no_go no_refusal step) = absurd (go_shown e of no_go)
    where
      go_shown : (e : Entry) → line_of e ≡ Some (line.Answer u b) → once.is_go e ≡ false → ⊥
      go_shown (entry.Step (event.Go t) i) of isnt = true≢false isnt
      go_shown (entry.Step (event.Begin t q) seen.Begun) of isnt = cc
      go_shown (entry.Step (event.End t) seen.Ended) of isnt = cc
      go_shown (entry.Step (event.Tick n) seen.Ticked) of isnt = cc
      go_shown _ of isnt = cc

  -- and what it shows that it is answered, it may be answered
  pub may_be_answered-from_entry : (l : Bounds) (w v : World) (e : Entry) (b : ℕ) (q : Request) (p : Progress)
      → line_of e ≡ Some (line.Answer u b) → Enters l w e v → HasCome w u q p
      → may_be_answered q p (thread_at w u).timer.expired b ≡ true
  may_be_answered-from_entry l w v e b q p of enters c =
      let y = answer-from_entry l w v e b of enters in
      let x = (thread_at w u).timer.expired in
      subst (λ k. may_be_answered k p x b ≡ true) (same_request y.call c)
      (subst (λ (k : Progress). may_be_answered y.request k x b ≡ true) (same_progress y.call c)
      (eq-eqb b (reported_result y.request x y.result) y.told))
