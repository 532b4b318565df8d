-- What one step of an open call rests on.
use Rattle.std.specs.Prelude.{ℕ, ◌≡◌, Bool, true, false}
use Rattle.pif_types.specs.declared.requests.Request.{Request}
use Rattle.pif_model.specs.declared.lines.Place.{Place}
use Rattle.pif_model.specs.declared.lines.Place.TheVariants.{StayQueued, StayStopped, Link, Give, StayParked}
use Rattle.pif_model.specs.declared.lines.LinkStep.TheVariants.{WriteNext}
use Rattle.pif_model.specs.declared.lines.GiveStep.{GiveStep}
use Rattle.pif_model.specs.declared.lines.GiveStep.TheVariants.{Unlink}
use Rattle.pif_model.specs.PiKernel.{is_ready}
use Rattle.pif_model.specs.Posix.{named_by, names_known}
use Rattle.pif_model.specs.RobustList.{robust_at, is_listed, IsUnlisted, IsHalfLinkedByNoOther}
use Rattle.pif_model.specs.Lines.{counts_at}
use Rattle.pif_model.specs.Soundness.{is_half_linked}
use Rattle.pif_model.specs.Table.{Table, has_mutex, has_cond, status_at}

-- whether the thread of a call may wait at this place: queued, parked, or stopped for good
abbrev pub may_wait_at : Place → Bool
may_wait_at StayQueued = true
may_wait_at StayStopped = true
may_wait_at StayParked = true
may_wait_at _ = false

-- whether the link of the call's mutex to the head of the list is written at this place
abbrev pub is_link_next : Place → Bool
is_link_next (Link WriteNext a) = true
is_link_next _ = false

-- whether a mutex that is given up is taken off the list at this step, and the call's mutex at this place
abbrev pub is_unlink_step : GiveStep → Bool
is_unlink_step Unlink = true
is_unlink_step _ = false

abbrev pub is_unlink : Place → Bool
is_unlink (Give x y) = is_unlink_step x
is_unlink _ = false

-- what a step of a call of t at a place rests on
pub record CallMayStep (s : Table) (t : ℕ) (q : Request) (p : Place) : Type 0 where
  -- the mutex and the variable that it names were added
  pub named : names_known (has_mutex s) (has_cond s) q ≡ true
  -- its thread may run, save when it may wait, and may not when its deadline counts
  pub ready : may_wait_at p ≡ false → is_ready (status_at s t) ≡ true
  pub unready : counts_at q p (status_at s t) ≡ true → is_ready (status_at s t) ≡ false
  -- a mutex that is linked is on no list, and half-linked by no other thread
  pub unlisted : is_link_next p ≡ true → IsUnlisted s.lists (named_by q)
  pub half : is_link_next p ≡ true → IsHalfLinkedByNoOther s.lists t (named_by q)
  -- one that becomes the head is half-linked by its thread
  pub linked : is_half_linked p ≡ true → (robust_at s.lists t).half_linked ≡ named_by q
  -- and one that is taken off the list is on it
  pub listed : is_unlink p ≡ true → is_listed s.lists t (named_by q) ≡ true
