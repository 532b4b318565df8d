-- The threads of an order, as a core's reader answers them one by one.
use Rattle.std.proofs.Common.{◌≡◌, ℕ, refl}
use Rattle.std.specs.List.{slice_get}
use Rattle.pif_model.specs.declared.events.Order.{Order}
use Rattle.pif_model.specs.declared.events.Order.TheVariants.{Parked, Ready, Waiters}
use Rattle.pif_model.specs.Table.{Table}
use Rattle.pif_model.specs.Calls.{order_answer}
use Rattle.pif_text_core.specs.Waiting.{all_in}

-- the reader answers the one that stands there
pub in_order : (o : Order) (place : ℕ) (s : Table) → order_answer o place s ≡ slice_get (all_in o s) place
in_order (Waiters m) place s = refl
in_order (Parked c) place s = refl
in_order Ready place s = refl
