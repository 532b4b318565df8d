-- Who may run, is parked, or neither runs nor waits: what else is so of its status.
use Rattle.std.proofs.Common.{◌≡◌, ℕ, true, false, refl, sym, ap, ◌∙◌, true≢false}
use Rattle.pif_model.specs.declared.lines.Status.{Status}
use Rattle.pif_model.specs.declared.lines.Status.TheVariants.{Ready, Queued, Parked, Stopped, Ended}
use Rattle.pif_model.specs.PiKernel.{is_ready, is_parked, is_out, queued_on}

-- who may run is queued on nothing
pub ready-queued_on_nothing : (x : Status) → is_ready x ≡ true → queued_on x ≡ 0
ready-queued_on_nothing (Ready w) h = refl
ready-queued_on_nothing (Queued m) h = cc
ready-queued_on_nothing (Parked c) h = cc
ready-queued_on_nothing Stopped h = refl
ready-queued_on_nothing Ended h = refl

-- who may run is not parked
pub ready-unparked : (x : Status) → is_ready x ≡ true → is_parked x ≡ false
ready-unparked (Ready w) h = refl
ready-unparked (Queued m) h = refl
ready-unparked (Parked c) h = absurd (true≢false (sym h))
ready-unparked Stopped h = refl
ready-unparked Ended h = refl

-- who neither runs nor waits may not run
pub out-unready : (x : Status) → is_out x ≡ true → is_ready x ≡ false
out-unready (Ready w) h = absurd (true≢false (sym h))
out-unready (Queued m) h = refl
out-unready (Parked c) h = refl
out-unready Stopped h = refl
out-unready Ended h = refl

-- is not parked
pub out-unparked : (x : Status) → is_out x ≡ true → is_parked x ≡ false
out-unparked (Ready w) h = refl
out-unparked (Queued m) h = refl
out-unparked (Parked c) h = absurd (true≢false (sym h))
out-unparked Stopped h = refl
out-unparked Ended h = refl

-- and is queued on nothing
pub out-queued_on_nothing : (x : Status) → is_out x ≡ true → queued_on x ≡ 0
out-queued_on_nothing (Ready w) h = refl
out-queued_on_nothing (Queued m) h = absurd (true≢false (sym h))
out-queued_on_nothing (Parked c) h = refl
out-queued_on_nothing Stopped h = refl
out-queued_on_nothing Ended h = refl

-- who is not parked is parked on no variable
pub not_parked : (x : Status) (c : ℕ) → is_parked x ≡ false → x ≡ Parked c → ⊥
not_parked x c h e = true≢false (sym (ap is_parked e) ∙ h)

-- the variable on which a thread of this status is parked; 0 if it is on none
abbrev pub parked_on : Status → ℕ
parked_on (Ready w) = 0
parked_on (Queued m) = 0
parked_on (Parked c) = c
parked_on Stopped = 0
parked_on Ended = 0
