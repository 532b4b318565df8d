-- Lists of what rests tell the state in which a history rests behind its lines.
use Rattle.std.proofs.Common.{ℕ, ◌≡◌, ◌∙◌, ◌+◌, ◌==◌, true, false, List, [], ◌∷◌, map, get_or, set, Option, Some, None, refl, sym, ap, if◌then◌else◌}
use Rattle.std.proofs.lemmas.List.{map-set, map-append}
use Rattle.pif_types.specs.Bounds.{Bounds}
use Rattle.pif_types.specs.declared.requests.Request.{Request}
use Rattle.pif_types.specs.declared.requests.Request.TheVariants.{Signal, Broadcast, SetPrio}
use Rattle.pif_model.specs.Posix.{World, Thread, Mutex, Variable}
use Rattle.pif_model_lemmas.proofs.Places.{mapped_at}
use Rattle.pif_model_lemmas.proofs.Waiting.{by_test}
use Rattle.pif_history_model.specs.declared.lines.Line.{Line}
use Rattle.pif_history_model.specs.declared.lines.Line.TheVariants.{Thread as AThread, Mutex as AMutex, Cond, Answer, End, Tick}
use Rattle.pif_parts_model.specs.Quiet.{call_by}
use Rattle.pif_parts_model.specs.Resting.{world_by, after_line, after_success, after_answer}
use Rattle.pif_parts.specs.declared.resting.RestingThread.{RestingThread}
use Rattle.pif_parts.specs.declared.resting.RestingMutex.{RestingMutex}
use Rattle.pif_parts.specs.declared.resting.RestingCond.{RestingCond}
use Rattle.pif_parts.specs.declared.resting.Rest.{Rest}
use Rattle.pif_parts.specs.declared.watch.Watch.{Watch}
use Rattle.pif_parts.specs.Watching.{HasHeard, call_answered}
use Rattle.pif_parts.specs.Resting.{IsRest, Changes, AreSame, nobody, no_cond, thread_of, mutex_of, variable_of, returned, threads_behind, conds_behind, threads_returned, conds_returned, threads_after, mutexes_after, conds_after, time_after}

-- a state by its lists
abbrev pub made : Bounds → List RestingThread → List RestingMutex → List RestingCond → ℕ → World
made l ts ms cs k = record {
  threads = map thread_of ts;
  mutexes = map mutex_of ms;
  variables = map variable_of cs;
  waiters = [];
  signals = l.signals;
  time = k;
}

-- ONE CHANGE

-- a thread is written
thread_written : (ts : List RestingThread) (u : ℕ) (f : Thread → Thread) (g : RestingThread → RestingThread)
    → ((x : RestingThread) → f (thread_of x) ≡ thread_of (g x))
    → set (map thread_of ts) u (f (get_or (map thread_of ts) u (thread_of nobody))) ≡ map thread_of (set ts u (g (get_or ts u nobody)))
thread_written ts u f g same =
    ap (λ x. set (map thread_of ts) u x) (ap f (mapped_at thread_of ts u nobody) ∙ same (get_or ts u nobody))
    ∙ sym (map-set thread_of ts u (g (get_or ts u nobody)))

variable_written : (cs : List RestingCond) (c : ℕ) (f : Variable → Variable) (g : RestingCond → RestingCond)
    → ((x : RestingCond) → f (variable_of x) ≡ variable_of (g x))
    → set (map variable_of cs) c (f (get_or (map variable_of cs) c (variable_of no_cond))) ≡ map variable_of (set cs c (g (get_or cs c no_cond)))
variable_written cs c f g same =
    ap (λ x. set (map variable_of cs) c x) (ap f (mapped_at variable_of cs c no_cond) ∙ same (get_or cs c no_cond))
    ∙ sym (map-set variable_of cs c (g (get_or cs c no_cond)))

module _ (l : Bounds) (ts : List RestingThread) (ms : List RestingMutex) (cs : List RestingCond) (k : ℕ) where
  -- a call of this request returned 0
  succeeded : (q : Request) → after_success q (made l ts ms cs k) ≡ made l (threads_behind q ts) ms (conds_behind q cs) k
  succeeded (SetPrio u p) =
      ap (λ (xs : List Thread). record (made l ts ms cs k) { threads = xs })
      (thread_written ts u (λ x. record x { base = p }) (λ x. record x { base = p }) (λ x. refl))
  succeeded (Signal c) =
      ap (λ (xs : List Variable). record (made l ts ms cs k) { variables = xs })
      (variable_written cs c (λ x. record x { uses = x.uses + 1 }) (λ x. record x { uses = x.uses + 1 }) (λ x. refl))
  succeeded (Broadcast c) =
      ap (λ (xs : List Variable). record (made l ts ms cs k) { variables = xs })
      (variable_written cs c (λ x. record x { uses = x.uses + 1 }) (λ x. record x { uses = x.uses + 1 }) (λ x. refl))
  succeeded _ = refl

  -- a call was answered
  replied : (a : ℕ) (o : Option Request) → after_answer a o (made l ts ms cs k)
      ≡ made l (threads_returned (returned a o) ts) ms (conds_returned (returned a o) cs) k
  replied a None =
      by_test (λ b. made l ts ms cs k ≡ made l (threads_returned (if b then None else None) ts) ms (conds_returned (if b then None else None) cs) k)
      (a == 0) (λ _. refl) (λ _. refl)
  replied a (Some q) =
      by_test (λ b. (if b then after_success q (made l ts ms cs k) else made l ts ms cs k)
      ≡ made l (threads_returned (if b then Some q else None) ts) ms (conds_returned (if b then Some q else None) cs) k)
      (a == 0) (λ _. succeeded q) (λ _. refl)

-- the call that a line answers, by the lines before it
abbrev answered_by : List Line → Line → Option Request
answered_by lines (Answer t a) = call_by lines t
answered_by lines line = None

-- a line
changed : (l : Bounds) (lines : List Line) (line : Line) (ts : List RestingThread) (ms : List RestingMutex) (cs : List RestingCond) (k : ℕ)
    → after_line lines line (made l ts ms cs k)
    ≡ made l (threads_after line (answered_by lines line) ts) (mutexes_after line ms) (conds_after line (answered_by lines line) cs) (time_after line k)
changed l lines (AThread p) ts ms cs k =
    ap (λ (xs : List Thread). record (made l ts ms cs k) { threads = xs })
    (sym (map-append thread_of ts (record { base = p; living = true } ∷ [])))
changed l lines (AMutex i r x) ts ms cs k =
    ap (λ (xs : List Mutex). record (made l ts ms cs k) { mutexes = xs })
    (sym (map-append mutex_of ms (record { kind = i; robust = r } ∷ [])))
changed l lines (Cond m) ts ms cs k =
    ap (λ (xs : List Variable). record (made l ts ms cs k) { variables = xs })
    (sym (map-append variable_of cs (record { mutex = m; uses = 0 } ∷ [])))
changed l lines (Answer t a) ts ms cs k = replied l ts ms cs k a (call_by lines t)
changed l lines (End t) ts ms cs k =
    ap (λ (xs : List Thread). record (made l ts ms cs k) { threads = xs })
    (thread_written ts t (λ x. record x { living = false }) (λ x. record x { living = false }) (λ x. refl))
changed l lines (Tick n) ts ms cs k = refl
changed l lines _ ts ms cs k = refl

-- the watch knows the call that a line answers
answered_heard : (lines : List Line) (w : Watch) → HasHeard lines w → (line : Line) → call_answered w line ≡ answered_by lines line
answered_heard lines w h (Answer t a) = h.calls t
answered_heard lines w h _ = refl

pub rested : (lines : List Line) (w : Watch) → HasHeard lines w → (line : Line) (r z : Rest) → IsRest lines r
    → Changes line (call_answered w line) r z → IsRest (line ∷ lines) z
rested lines w h line r z is x = λ l.
    ap (after_line lines line) (is l)
    ∙ changed l lines line r.threads.items r.mutexes.items r.conds.items r.time
    ∙ (λ i. made l ((ap (λ o. threads_after line o r.threads.items) (sym (answered_heard lines w h line)) ∙ sym x.threads) i)
    (sym x.mutexes i)
    ((ap (λ o. conds_after line o r.conds.items) (sym (answered_heard lines w h line)) ∙ sym x.conds) i)
    (sym x.time i))

-- one state
pub same_rest : (lines others : List Line) (r z : Rest) → IsRest lines r → IsRest others z → AreSame r z
    → (l : Bounds) → world_by l others ≡ world_by l lines
same_rest lines others r z is other same = λ l.
    other l ∙ (λ i. made l (sym same.threads i) (sym same.mutexes i) (sym same.conds i) (sym same.time i)) ∙ sym (is l)
