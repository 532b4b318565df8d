-- What the clients of a drive do.
use Rattle.std.specs.Prelude.{ℕ, zero, suc, ◌≡◌, ◌*◌, true, List, [], ◌∷◌, map, count_by}
use Rattle.std.specs.List.{list_any}
use Rattle.pif_types.specs.declared.requests.Request.{Request}
use Rattle.pif_types.specs.declared.requests.Request.TheVariants.{Lock, Unlock}
use Rattle.pif_model.specs.declared.events.Entry.{Entry}
use Rattle.pif_desk.specs.declared.log.Call.{Call}
use Rattle.pif_desk.specs.Logs.{Log, calls_of}
use Rattle.pif_desk.specs.Rooms.{history_of}
use Rattle.pif_desk.specs.Settling.{adds_thread, adds, answered_calls}

-- what the calls of a log ask, the newest first
abbrev pub requests_of : Log → List Request
requests_of l = map (λ (c : Call). c.request) l.calls

-- so many locks of a mutex, each with an unlock of it behind, the newest first
abbrev pub pairs : ℕ → ℕ → List Request
pairs zero m = []
pairs (suc n) m = Unlock m ∷ Lock m ∷ pairs n m

-- the log of a client that 100 times locked the mutex m and unlocked it, and called nothing else, and was answered each
-- time
pub record IsServed (m : ℕ) (l : Log) : Type 0 where
  pub answered : answered_calls l ≡ 200
  pub requests : requests_of l ≡ pairs 100 m

-- a drive of so many clients has this journal and so many answers: each thread that was added made such calls of one
-- mutex
pub record IsDriven (clients : ℕ) (journal : List Entry) (answers : ℕ) : Type 0 where
  pub count : answers ≡ 200 * clients
  pub threads : count_by adds_thread journal ≡ clients
  pub served : (t : ℕ) → list_any (adds t) journal ≡ true → (m : ℕ) × IsServed m (calls_of t (history_of journal))
