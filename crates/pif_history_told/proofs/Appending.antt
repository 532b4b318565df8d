-- What is appended piece by piece.
use Rattle.std.proofs.Common.{◌≡◌, ◌∙◌, ◌-◌, ℕ, Bool, List, ◌++◌, length, ap, sym, append_assoc, Result, Ok, Err, OnOk, is_ok, if◌then◌else◌}
use Rattle.pif_model.specs.World.{World, effective_of, is_living, rests, thread_at}
use Rattle.pif_rules_model.specs.Rules.{Wide}
use Rattle.pif_history_model.specs.declared.lines.Line.{Line}
use Rattle.pif_history_text.specs.Texts.{line_text}
use Rattle.pif_history_told.specs.StateObjects.{call_members, change_lists, change_members, seen_of, thread_object, thread_text}
use Rattle.pif_history_told.specs.Pages.{IsPageOf}
use Rattle.pif_history_told.specs.Runs.{line_members, line_object}

-- Bytes that grew by these.
pub record Grown (old xs new : List ℕ) : Type 0 where
  pub is : new ≡ old ++ xs

-- By a first piece, and by one piece more.
pub grown_first : (old xs new : List ℕ) → new ≡ old ++ xs → Grown old xs new
grown_first old xs new e = record { is = e }

pub grown_more : (old xs done ys new : List ℕ) → Grown old xs done → new ≡ done ++ ys → Grown old (xs ++ ys) new
grown_more old xs done ys new d e = record { is = e ∙ ap (λ l. l ++ ys) d.is ∙ append_assoc old xs ys }

-- By the same bytes, put together otherwise.
pub grown_same : (old xs ys new : List ℕ) → Grown old xs new → xs ≡ ys → new ≡ old ++ ys
grown_same old xs ys new g e = g.is ∙ ap (λ l. old ++ l) e

-- The same by a call whose `Result` is returned as it is.
pub on_ok_grown : {T E : Type 0} (r : Result T E) (grown old new : List ℕ) → new ≡ (if is_ok r then grown else old)
    → OnOk r (new ≡ grown)
on_ok_grown (Ok x) grown old new e = e
on_ok_grown (Err x) grown old new e = tt

-- A thread, by what its state answered.
pub thread_appended : (w : World) (t : ℕ) (old new : List ℕ) (name at : ℕ) (living : Bool) (priority : ℕ) (resting : Bool)
    (call : List ℕ) → name ≡ t → at ≡ t → living ≡ is_living w at → priority ≡ effective_of w at → resting ≡ rests w at
    → call ≡ call_members t (thread_at w at).call → new ≡ old ++ thread_text name living priority resting call
    → new ≡ old ++ thread_object w t
unfolding thread_object
thread_appended w t old new name at living priority resting call named there lives p rest called all =
    all ∙ ap (λ n. old ++ thread_text n living priority resting call) named
    ∙ ap (λ b. old ++ thread_text t b priority resting call) (lives ∙ ap (is_living w) there)
    ∙ ap (λ n. old ++ thread_text t (is_living w t) n resting call) (p ∙ ap (effective_of w) there)
    ∙ ap (λ b. old ++ thread_text t (is_living w t) (effective_of w t) b call) (rest ∙ ap (rests w) there)
    ∙ ap (λ l. old ++ thread_text t (is_living w t) (effective_of w t) (rests w t) l)
    (called ∙ ap (λ u. call_members t (thread_at w u).call) there)

-- What a step changes, by the states that are told and the numbers of the last things.
pub changes_appended : (whole : Bool) (s n : Wide) (a b w v : World) (old new : List ℕ) (threads mutexes conds : ℕ)
    → a ≡ seen_of s → b ≡ seen_of n → w ≡ s.world → v ≡ n.world
    → threads ≡ length v.threads - 1 → mutexes ≡ length v.mutexes - 1 → conds ≡ length v.variables - 1
    → new ≡ old ++ change_lists whole a b w v threads mutexes conds → new ≡ old ++ change_members whole s n
unfolding change_members
changes_appended whole s n a b w v old new threads mutexes conds before behind from to ts ms cs all =
    all ∙ ap (λ (k : ℕ). old ++ change_lists whole a b w v k mutexes conds) ts
    ∙ ap (λ (k : ℕ). old ++ change_lists whole a b w v (length v.threads - 1) k conds) ms
    ∙ ap (λ (k : ℕ). old ++ change_lists whole a b w v (length v.threads - 1) (length v.mutexes - 1) k) cs
    ∙ ap (λ (u : World). old ++ change_lists whole a b w u (length u.threads - 1) (length u.mutexes - 1) (length u.variables - 1)) to
    ∙ ap (λ (u : World). old ++ change_lists whole u b w n.world (length n.world.threads - 1) (length n.world.mutexes - 1) (length n.world.variables - 1)) before
    ∙ ap (λ (u : World). old ++ change_lists whole (seen_of s) u w n.world (length n.world.threads - 1) (length n.world.mutexes - 1) (length n.world.variables - 1)) behind
    ∙ ap (λ (u : World). old ++ change_lists whole (seen_of s) (seen_of n) u n.world (length n.world.threads - 1) (length n.world.mutexes - 1) (length n.world.variables - 1)) from

-- A line, by its number and its text.
pub line_appended : (whole : Bool) (number : ℕ) (line : Line) (moves names : List ℕ) (w v : Wide)
    (old new : List ℕ) (n : ℕ) (text : List ℕ) → n ≡ number → text ≡ line_text line
    → new ≡ old ++ line_members whole n text moves names w v → new ≡ old ++ line_object whole number line moves names w v
unfolding line_object
line_appended whole number line moves names w v old new n text counted read all =
    all ∙ ap (λ k. old ++ line_members whole k text moves names w v) counted
    ∙ ap (λ l. old ++ line_members whole number l moves names w v) read

-- By a page: by its front, by the lines and what stands beside them, and then by its end.
pub page_grown : (old before lines beside behind one two new : List ℕ) → one ≡ old ++ before → two ≡ one ++ (lines ++ beside)
    → new ≡ two ++ behind → IsPageOf lines old new
page_grown old before lines beside behind one two new first second third = (
  before,
  beside ++ behind,
  third
      ∙ (ap (λ (l : List ℕ). l ++ behind) (second ∙ ap (λ (l : List ℕ). l ++ (lines ++ beside)) first)
      ∙ (ap (λ (l : List ℕ). l ++ behind) (append_assoc old before (lines ++ beside))
      ∙ (append_assoc old (before ++ (lines ++ beside)) behind
      ∙ ap (λ (l : List ℕ). old ++ l)
      (append_assoc before (lines ++ beside) behind ∙ ap (λ (l : List ℕ). before ++ l) (append_assoc lines beside behind)
      ∙ sym (append_assoc before lines (beside ++ behind)))))),
)
