-- Both machines have the same calls due.
use Rattle.std.proofs.Common.{◌≡◌, ℕ, Bool, true, false, ◌==◌, refl, sym, ap, ◌∙◌, if◌then◌else◌}
use Rattle.std.proofs.lemmas.Bool.{true≢false}
use Rattle.pif_types.specs.declared.requests.Request.{Request}
use Rattle.pif_types.specs.declared.requests.Request.TheVariants.{Lock, Wait}
use Rattle.pif_model.specs.declared.lines.Line.{Line}
use Rattle.pif_model.specs.declared.lines.Line.TheVariants.{Idle, At}
use Rattle.pif_model.specs.declared.lines.Place.{Place}
use Rattle.pif_model.specs.declared.lines.Place.TheVariants.{StayQueued, Take, Give, Park, StayParked, Wake}
use Rattle.pif_model.specs.declared.lines.TakeStep.{TakeStep}
use Rattle.pif_model.specs.declared.lines.TakeStep.TheVariants.{LoadWord, LoadHealth, StoreInconsistent, ClearDied}
use Rattle.pif_model.specs.declared.lines.Purpose.{Purpose}
use Rattle.pif_model.specs.declared.lines.Purpose.TheVariants.{ToUnlock, ToPark, ToLeave}
use Rattle.pif_model.specs.declared.lines.Status.{Status}
use Rattle.pif_model.specs.declared.lines.Status.TheVariants.{Ready, Queued, Parked, Stopped, Ended}
use Rattle.pif_model.specs.declared.lines.Woken.TheVariants.{Fresh as WokenFresh, Owns as WokenOwns, Again as WokenAgain, Expired as WokenExpired}
use Rattle.pif_model.specs.Deadlines.{is_reached}
use Rattle.pif_model.specs.Posix.{Health, counts_now, is_counting, is_due, on_taking, on_release}
use Rattle.pif_model.specs.PiKernel.{is_living}
use Rattle.pif_model.specs.Table.{Table, uses_of, status_at, line_at, timer_at}
use Rattle.pif_model.specs.Lines.{counts_at, is_line_due, is_due_in}
use Rattle.pif_model.specs.Projection.{HistoryVariables, call_at, health_at, progress_taking, progress_giving, progress_at, world_of}
use Rattle.pif_model.specs.Soundness.{belongs, LineIsSound, IsSound}
use Rattle.pif_model_simulation.proofs.WeakenedInvariant.{each_thread}
use Rattle.pif_model_simulation.proofs.Shown.{timer_seen, call_seen_of, either}

-- the deadline of a call that takes its mutex counts no more
taking_uncounted : (q : Request) (h : Health) → counts_now q (on_taking h) ≡ false
taking_uncounted (Lock m) Health.Fine = refl
taking_uncounted (Lock m) Health.Inconsistent = refl
taking_uncounted (Lock m) Health.Unusable = refl
taking_uncounted (Wait c m) Health.Fine = refl
taking_uncounted (Wait c m) Health.Inconsistent = refl
taking_uncounted (Wait c m) Health.Unusable = refl
taking_uncounted _ h = refl

-- nor of one that takes over
step_uncounted : (q : Request) (y : TakeStep) (h : Health) → counts_now q (progress_taking y h) ≡ false
step_uncounted q LoadWord h = taking_uncounted q h
step_uncounted q (LoadHealth d) h = taking_uncounted q h
step_uncounted (Wait c m) StoreInconsistent h = refl
step_uncounted (Wait c m) ClearDied h = refl
step_uncounted q StoreInconsistent h = refl
step_uncounted q ClearDied h = refl

-- nor of one that gives a mutex up
giving_uncounted : (q : Request) (z : Purpose) (n : ℕ) → counts_now q (progress_giving z n) ≡ false
giving_uncounted (Lock m) ToUnlock n = refl
giving_uncounted (Lock m) (ToPark v) n = refl
giving_uncounted (Lock m) ToLeave n = refl
giving_uncounted (Wait c m) ToUnlock n = refl
giving_uncounted (Wait c m) (ToPark v) n = refl
giving_uncounted (Wait c m) ToLeave n = refl
giving_uncounted _ y n = refl

-- nor that of a wait which is not parked yet
released_uncounted : (c m : ℕ) (b : Bool) → counts_now (Wait c m) (on_release b) ≡ false
released_uncounted c m true = refl
released_uncounted c m false = refl

-- a deadline counts in the POSIX machine if it counts at the call's place
counts_seen : (q : Request) (p : Place) (x : Status) (h : Health) (n : ℕ) → belongs q p ≡ true
    → counts_now q (progress_at q p x h n) ≡ counts_at q p x
counts_seen (Lock m) StayQueued (Ready w) h n b = taking_uncounted (Lock m) h
counts_seen (Lock m) StayQueued (Queued i) h n b = refl
counts_seen (Lock m) StayQueued (Parked i) h n b = refl
counts_seen (Lock m) StayQueued Stopped h n b = refl
counts_seen (Lock m) StayQueued Ended h n b = refl
counts_seen (Lock m) (Take y) x h n b = step_uncounted (Lock m) y h
counts_seen (Lock m) (Give y z) x h n b = giving_uncounted (Lock m) z n
counts_seen (Lock m) (Park v) x h n b = absurd (true≢false (sym b))
counts_seen (Lock m) StayParked x h n b = absurd (true≢false (sym b))
counts_seen (Lock m) (Wake y) x h n b = absurd (true≢false (sym b))
counts_seen (Lock m) _ x h n b = refl
counts_seen (Wait c m) StayQueued (Ready w) h n b = taking_uncounted (Wait c m) h
counts_seen (Wait c m) StayQueued (Queued i) h n b = refl
counts_seen (Wait c m) StayQueued (Parked i) h n b = refl
counts_seen (Wait c m) StayQueued Stopped h n b = refl
counts_seen (Wait c m) StayQueued Ended h n b = refl
counts_seen (Wait c m) (Take y) x h n b = step_uncounted (Wait c m) y h
counts_seen (Wait c m) (Give y z) x h n b = giving_uncounted (Wait c m) z n
counts_seen (Wait c m) (Park v) x h n b = released_uncounted c m (v == n)
counts_seen (Wait c m) StayParked (Ready WokenFresh) h n b = taking_uncounted (Wait c m) h
counts_seen (Wait c m) StayParked (Ready WokenOwns) h n b = taking_uncounted (Wait c m) h
counts_seen (Wait c m) StayParked (Ready WokenAgain) h n b = refl
counts_seen (Wait c m) StayParked (Ready WokenExpired) h n b = taking_uncounted (Wait c m) h
counts_seen (Wait c m) StayParked (Queued i) h n b = refl
counts_seen (Wait c m) StayParked (Parked i) h n b = refl
counts_seen (Wait c m) StayParked Stopped h n b = refl
counts_seen (Wait c m) StayParked Ended h n b = refl
counts_seen (Wait c m) (Wake y) x h n b = absurd (true≢false (sym b))
counts_seen (Wait c m) _ x h n b = refl
counts_seen _ p x h n b = refl

-- a living thread's call is due in the POSIX machine if it is due at its line
pub due_seen : {s : Table} (h : IsSound s) (x : HistoryVariables) (t : ℕ) → is_living s.kernel t ≡ true
    → is_due (world_of s x) t ≡ is_due_in s t
due_seen {s} h x t k =
    (λ i. if is_reached (timer_seen h.all.shape x t i).deadline s.time
    then is_counting (call_seen_of h.all.shape x t i) else false)
    ∙ at_line (line_at s t) (each_thread h t k).line
  where
    at_line : (l : Line) → LineIsSound s t l
        → (if is_reached (timer_at s t).deadline s.time
        then is_counting (call_at (health_at s) (uses_of s) l (status_at s t)) else false) ≡ is_line_due l t s
    at_line Idle sound = either (is_reached (timer_at s t).deadline s.time)
    at_line (At q p) sound = ap (λ b. if is_reached (timer_at s t).deadline s.time then b else false)
        (counts_seen q p (status_at s t) _ _ sound.belongs)
