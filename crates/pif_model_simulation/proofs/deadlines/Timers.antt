-- Timers and the time alone change: the table stays sound, and the POSIX machine sees it of one thread, or of the time.
use Rattle.std.proofs.Common.{◌≡◌, ◌≢◌, ◌⊎◌, inl, inr, ◌<◌, ℕ, List, length, set, get_or, refl, sym, ◌∙◌, subst}
use Rattle.std.proofs.lemmas.Bool.{cases_eq}
use Rattle.std.proofs.lemmas.List.{length-set, get_or-set_same, get_or-set_other}
use Rattle.pif_model.specs.declared.lines.Timer.{Timer}
use Rattle.pif_model.specs.Deadlines.{no_timer}
use Rattle.pif_model.specs.Posix.{Thread, nobody, thread_at, with_thread}
use Rattle.pif_model.specs.PiKernel.{is_living}
use Rattle.pif_model.specs.Table.{Table, cell_at, with_timer}
use Rattle.pif_model.specs.Projection.{HistoryVariables, thread_shown, world_of}
use Rattle.pif_model.specs.Soundness.{IsShaped, IsSound}
use Rattle.pif_model_simulation.proofs.Kept.{unused, unwritten}
use Rattle.pif_model_simulation.proofs.WeakenedInvariant.{Changes, change_kept}
use Rattle.pif_model_simulation.proofs.Shown.{threads_shown, thread_seen, same_world}
use Rattle.pif_model_simulation.proofs.Agreement.{Frames, frames_alike}

module _ (s : Table) (ts : List Timer) (n : ℕ) (long : length ts ≡ length s.timers) where
  -- the table with these timers and this time
  abbrev v : Table
  v = record s { timers = ts; time = n }

  -- who was found blocked stays so
  pub retimed_frames : Frames s v
  retimed_frames = frames_alike s v refl (λ u. refl) (λ u. refl) (λ u. refl)

  module _ (h : IsSound s) where
    -- the parts still fit together
    shape : IsShaped v
    shape =
        let b = h.all.shape in
        record {
          limits = b.limits;
          within = b.within;
          lines = b.lines;
          timers = long ∙ b.timers;
          nobody = b.nobody;
          lists = b.lists;
          some_mutex = b.some_mutex;
          few_mutexes = b.few_mutexes;
          no_mutex = b.no_mutex;
          words = b.words;
          healths = b.healths;
          no_word = b.no_word;
          no_health = b.no_health;
          unmade = b.unmade;
          some_cond = b.some_cond;
          few_conds = b.few_conds;
          no_cond = b.no_cond;
          cond_words = b.cond_words;
          no_cond_word = b.no_cond_word;
          unmade_conds = b.unmade_conds;
        }

    -- nothing else changes
    change : Changes (λ u. ⊥) s v 0
    change = record {
      shape = shape;
      threads = λ u. refl;
      mutexes = λ j. refl;
      robust = λ j. refl;
      cells = λ j d. refl;
      waited = λ j d. refl;
      cell = λ e. h.all.mutexes 0 e;
      alive = λ e r z out. h.all.alive 0 e r z out;
      living = λ u out. refl;
      status = λ u out. refl;
      line = λ u out. refl;
      list = λ u out. refl;
      spares = λ u z out. unwritten (is_living s.kernel) u (cell_at s 0) (cell_at v 0) refl;
      ended = λ u e l. l;
      conds = refl;
      used = unused s v refl refl refl;
      few_uses = λ i e. e;
      targets = λ i j e. inl e;
    }

    -- the table is sound
    pub retimed_sound : IsSound v
    retimed_sound = record { all = change_kept h.all change; kernel = h.kernel }

-- ONE THREAD

module _ (s : Table) (t : ℕ) (x : Timer) (h : IsSound s) where
  -- it stays sound if t has another timer
  pub timer_sound : IsSound (with_timer t x s)
  timer_sound = retimed_sound s (set s.timers t x) s.time (length-set s.timers t x) h

  -- who was found blocked stays so
  pub timer_frames : Frames s (with_timer t x s)
  timer_frames = retimed_frames s (set s.timers t x) s.time (length-set s.timers t x)

  -- and the world shows it
  pub timer_shown : (y : HistoryVariables) → t < length s.lines
      → world_of (with_timer t x s) y ≡ with_thread t (record (thread_at (world_of s y) t) { timer = x }) (world_of s y)
  timer_shown y tl = same_world (world_of v y) (with_thread t z (world_of s y))
      (threads_shown timer_sound.all.shape y ∙ sym (length-set (world_of s y).threads t z ∙ threads_shown h.all.shape y))
      (λ u i. let e : u < length s.lines = subst (λ j. u < j) (threads_shown timer_sound.all.shape y) i in
      thread_seen timer_sound.all.shape y u e ∙ each u e (cases_eq u t))
      refl (λ j. refl) refl refl refl refl
    where
      v : Table
      v = with_timer t x s

      z : Thread
      z = record (thread_at (world_of s y) t) { timer = x }

      here : thread_shown v y t ≡ get_or (set (world_of s y).threads t z) t nobody
      here = (λ i. record (thread_shown s y t) {
        timer = get_or-set_same s.timers t x no_timer (subst (λ j. t < j) (sym h.all.shape.timers) tl) i;
      })
          ∙ sym (get_or-set_same (world_of s y).threads t z nobody (subst (λ j. t < j) (sym (threads_shown h.all.shape y)) tl)
          ∙ (λ i. record (thread_seen h.all.shape y t tl i) { timer = x }))

      each : (u : ℕ) → u < length s.lines → (u ≡ t) ⊎ (u ≢ t)
          → thread_shown v y u ≡ get_or (set (world_of s y).threads t z) u nobody
      each u f (inl e) = subst (λ j. thread_shown v y j ≡ get_or (set (world_of s y).threads t z) j nobody) (sym e) here
      each u f (inr d) = (λ i. record (thread_shown s y u) { timer = get_or-set_other s.timers t u x no_timer d i })
          ∙ sym (get_or-set_other (world_of s y).threads t u z nobody d ∙ thread_seen h.all.shape y u f)
