-- Where lines rest no deadline is left, so that only the time tells the state from that at a later time.
use Rattle.std.proofs.Common.{ℕ, zero, suc, ◌≡◌, ◌∙◌, ◌==◌, ◌+◌, false, List, [], ◌∷◌, map, Option, Some, None, refl, sym, ap, subst, if◌then◌else◌}
use Rattle.pif_types.specs.Bounds.{Bounds}
use Rattle.pif_types.specs.declared.requests.Request.{Request}
use Rattle.pif_types.specs.declared.requests.Request.TheVariants.{Signal, Broadcast, SetPrio}
use Rattle.pif_model.specs.declared.lines.Timer.{Timer}
use Rattle.pif_model.specs.Deadlines.{no_timer}
use Rattle.pif_model.specs.Posix.{World, Thread, nobody, thread_at, new_thread}
use Rattle.pif_model_lemmas.proofs.Places.{kept_at}
use Rattle.pif_model_lemmas.proofs.Waiting.{by_test}
use Rattle.pif_model_simulation.proofs.runs.Worlds.{push_same}
use Rattle.pif_history_model.specs.declared.lines.Line.{Line}
use Rattle.pif_history_model.specs.declared.lines.Line.TheVariants.{Thread as AThread, Mutex as AMutex, Cond, Answer, End, Tick}
use Rattle.pif_history_model.specs.Plain.{PlainConfiguration}
use Rattle.pif_parts_model.specs.Quiet.{call_by}
use Rattle.pif_parts_model.specs.Resting.{after_success, after_answer, world_by, rest_by}
use Rattle.pif_parts_model.specs.Later.{later_deadline, later_line, later_thread, later, with_time}
use Rattle.pif_parts_model.specs.Parts.{IsShownFrom}
use Rattle.pif_parts_model.proofs.Resting.{map_same}
use Rattle.pif_parts_model.proofs.LaterRuns.{shown_at_a_later_time, shown_before_that}

-- no call has a deadline there
success_timers : (q : Request) (w : World) (t : ℕ) → (thread_at (after_success q w) t).timer ≡ (thread_at w t).timer
success_timers (SetPrio u p) w t =
    kept_at (λ (x : Thread). x.timer) w.threads u (record (thread_at w u) { base = p }) nobody refl t
success_timers (Signal c) w t = refl
success_timers (Broadcast c) w t = refl
success_timers _ w t = refl

answer_timers : (a : ℕ) (o : Option Request) (w : World) (t : ℕ) → (thread_at (after_answer a o w) t).timer ≡ (thread_at w t).timer
answer_timers a None w t = refl
answer_timers a (Some q) w t =
    by_test (λ b. (thread_at (if b then after_success q w else w) t).timer ≡ (thread_at w t).timer) (a == 0)
    (λ _. success_timers q w t) (λ _. refl)

rest_timers : (l : Bounds) (lines : List Line) (t : ℕ) → (thread_at (world_by l lines) t).timer ≡ no_timer
rest_timers l [] zero = refl
rest_timers l [] (suc t) = refl
rest_timers l (AThread p ∷ xs) t =
    push_same (λ (x : Thread). x.timer) (world_by l xs).threads (new_thread p) nobody t refl ∙ rest_timers l xs t
rest_timers l (AMutex k r y ∷ xs) t = rest_timers l xs t
rest_timers l (Cond m ∷ xs) t = rest_timers l xs t
rest_timers l (Answer u a ∷ xs) t = answer_timers a (call_by xs u) (world_by l xs) t ∙ rest_timers l xs t
rest_timers l (End u ∷ xs) t =
    kept_at (λ (x : Thread). x.timer) (world_by l xs).threads u (record (thread_at (world_by l xs) u) { living = false }) nobody refl t
    ∙ rest_timers l xs t
rest_timers l (Tick n ∷ xs) t = rest_timers l xs t
rest_timers l (_ ∷ xs) t = rest_timers l xs t

-- a thread with no deadline is the same at any time
same_thread : (n : ℕ) (x : Thread) → x.timer ≡ no_timer → later_thread n x ≡ x
same_thread n x e = λ j. record {
  base = x.base;
  living = x.living;
  call = x.call;
  timer = (ap (λ (i : Timer). record { deadline = later_deadline n i.deadline; expired = i.expired }) e ∙ sym e) j;
  memory = x.memory;
}

rests_later_on : (l : Bounds) (before : List Line) (time more : ℕ) → (world_by l before).time ≡ time + more
    → later more (with_time time (rest_by l before)) ≡ rest_by l before
rests_later_on l before time more e = λ j. record {
  world = record (world_by l before) {
    threads =
        map_same (later_thread more) (world_by l before).threads nobody
        (λ t. same_thread more (thread_at (world_by l before) t) (rest_timers l before t)) j;
    time = sym e j;
  };
  dying = [];
}

module _ (l : Bounds) (before : List Line) (time more : ℕ) (lines : List Line) (e : (world_by l before).time ≡ time + more) where
  pub part_later : IsShownFrom l (with_time time (rest_by l before)) lines → IsShownFrom l (rest_by l before) (map (later_line more) lines)
  part_later x =
      subst (λ (s : PlainConfiguration). IsShownFrom l s (map (later_line more) lines)) (rests_later_on l before time more e)
      (shown_at_a_later_time l more (with_time time (rest_by l before)) lines x)

  pub part_before : IsShownFrom l (rest_by l before) (map (later_line more) lines) → IsShownFrom l (with_time time (rest_by l before)) lines
  part_before x =
      shown_before_that l more (with_time time (rest_by l before)) lines
      (subst (λ (s : PlainConfiguration). IsShownFrom l s (map (later_line more) lines)) (sym (rests_later_on l before time more e)) x)
