-- A core stands after each step: what the table shows is the last state of a run that gives the history.
use Rattle.std.specs.List.{list_any}
use Rattle.std.proofs.lemmas.Bool.{true≢false}
use Rattle.std.proofs.Common.{◌≡◌, ℕ, zero, suc, ◌==◌, ◌∙◌, if◌then◌else◌, Bool, true, false, List, [], ◌∷◌, length, refl, sym, subst}
use Rattle.pif_types.specs.Bounds.{Bounds, IsWithin}
use Rattle.pif_types.specs.declared.requests.Kind.{Kind}
use Rattle.pif_model.specs.declared.events.Event.{Event}
use Rattle.pif_model.specs.declared.events.Entry.{Entry}
use Rattle.pif_model.specs.declared.events.Entry.TheVariants.{Thread as AddThread, Mutex as AddMutex, Cond as AddCond, Step as Happened}
use Rattle.pif_model.specs.Graph.{is_priority}
use Rattle.pif_model.specs.Posix.{World, Step, IsRun, empty_world}
use Rattle.pif_model.specs.Posix.IsRun.{start, next}
use Rattle.pif_model.specs.Table.{Table, new_table, has_thread_room, has_mutex_room, has_cond_room, has_mutex, thread_added, mutex_added, cond_added}
use Rattle.pif_model.specs.Lines.{event_outcome}
use Rattle.pif_model.specs.Projection.{Agrees, no_history_variables, memory_at, world_of}
use Rattle.pif_model.specs.Standing.{Stands}
use Rattle.pif_model_simulation.proofs.additions.Additions.{new_sound, new_seen}
use Rattle.pif_model_simulation.proofs.additions.ThreadAdded.{thread_added_kept}
use Rattle.pif_model_simulation.proofs.additions.MutexAdded.{mutex_added_kept}
use Rattle.pif_model_simulation.proofs.additions.CondAdded.{cond_added_kept}
use Rattle.pif_model_simulation.proofs.Simulation.{event_kept}
use Rattle.pif_model_simulation.proofs.Steps.{Keeps}

-- nothing is remembered then, and nothing is to be
new_agrees : (l : Bounds) → Agrees (new_table l) no_history_variables
new_agrees l = record {
  all = refl;
  past = λ t u n e. absurd (true≢false (sym e ∙ nothing t u n));
  joined = λ t u e. absurd (true≢false (sym e ∙ nothing t u (memory_at no_history_variables u).waits));
  parked = λ t u c chosen z e. absurd (true≢false (sym e ∙ nothing t u (memory_at no_history_variables u).waits));
}
  where
    nothing : (t u n : ℕ) → list_any (λ (p : ℕ × ℕ). if p.0 == u then p.1 == n else false) (memory_at no_history_variables t).found
        ≡ false
    nothing zero u n = refl
    nothing (suc t) u n = refl

-- a core to which nothing was added stands after the empty history
pub new_stands : (l : Bounds) → IsWithin l → Stands (new_table l) [] [] (empty_world l.signals)
new_stands l within = record {
  history_variables = no_history_variables;
  agrees = new_agrees l;
  shows = sym (new_seen l within);
  run = start refl;
  sound = new_sound l within;
}

-- a core that stands stands after an entry by which its table changes so
after_entry : {s v : Table} {e : Entry} {h : List Entry} {r : List World} {w : World} → Stands s h r w → Keeps s e v
    → (u : World) × Stands v (e ∷ h) (w ∷ r) u
after_entry {s} {v} {e} {h} {r} {w} k p =
    let y = p.shows k.history_variables k.agrees in (
      world_of v y.0,
      record {
        history_variables = y.0;
        agrees = y.1;
        shows = refl;
        run = subst (λ l. IsRun l (e ∷ h) (w ∷ r) (world_of v y.0)) (sym p.limits)
            (next k.run (subst (λ a. Step s.limits a e (world_of v y.0)) (sym k.shows) y.2));
        sound = p.sound;
      },
    )

-- a core that stands stands after each event
pub event_stands : (s : Table) (e : Event) (h : List Entry) (r : List World) (w : World) → Stands s h r w
    → (v : World) × Stands (event_outcome e s).after (Happened e (event_outcome e s).seen ∷ h) (w ∷ r) v
event_stands s e h r w k = after_entry k (event_kept s e k.sound)

-- a core that stands stands after a thread was added
pub thread_added_stands : (s : Table) (p : ℕ) (h : List Entry) (r : List World) (w : World) → Stands s h r w
    → has_thread_room s ≡ true → is_priority p ≡ true
    → (v : World) × Stands (thread_added p s) (AddThread (length s.lines) p ∷ h) (w ∷ r) v
thread_added_stands s p h r w k room prio = after_entry k (thread_added_kept s p k.sound room prio)

-- a core that stands stands after a mutex was added
pub mutex_added_stands : (s : Table) (k : Kind) (b : Bool) (h : List Entry) (r : List World) (w : World)
    → Stands s h r w → has_mutex_room s ≡ true
    → (v : World) × Stands (mutex_added k b s) (AddMutex (length s.mutexes) k b ∷ h) (w ∷ r) v
mutex_added_stands s k b h r w st room = after_entry st (mutex_added_kept s k b st.sound room)

-- a core that stands stands after a condition variable was added
pub cond_added_stands : (s : Table) (m : ℕ) (h : List Entry) (r : List World) (w : World)
    → Stands s h r w → has_mutex s m ≡ true → has_cond_room s ≡ true
    → (v : World) × Stands (cond_added m s) (AddCond (length s.conds) m ∷ h) (w ∷ r) v
cond_added_stands s m h r w st named room = after_entry st (cond_added_kept s m st.sound named room)
