-- What an open call asks: a request without a deadline.
use Rattle.std.specs.Prelude.{◌≡◌}
use Rattle.std.proofs.Common.{refl}
use Rattle.pif_types.specs.declared.requests.Request.{Request}
use Rattle.pif_types.specs.declared.requests.Request.TheVariants as request
use Rattle.pif_model.specs.declared.plain.Plain.{Plain}
use Rattle.pif_model.specs.declared.plain.Plain.TheVariants.{Lock, TryLock, Unlock, Consistent, Wait, Signal, Broadcast, SetPrio}

-- the request by which it is asked
abbrev pub request_of : Plain → Request
request_of (Lock m) = request.Lock m
request_of (TryLock m) = request.TryLock m
request_of (Unlock m) = request.Unlock m
request_of (Consistent m) = request.Consistent m
request_of (Wait c m) = request.Wait c m
request_of (Signal c) = request.Signal c
request_of (Broadcast c) = request.Broadcast c
request_of (SetPrio t p) = request.SetPrio t p

-- what a request asks, whatever its deadline is
abbrev pub asked_by : Request → Plain
asked_by (request.Lock m) = Lock m
asked_by (request.TimedLock m d) = Lock m
asked_by (request.TryLock m) = TryLock m
asked_by (request.Unlock m) = Unlock m
asked_by (request.Consistent m) = Consistent m
asked_by (request.Wait c m) = Wait c m
asked_by (request.TimedWait c m d) = Wait c m
asked_by (request.Signal c) = Signal c
asked_by (request.Broadcast c) = Broadcast c
asked_by (request.SetPrio t p) = SetPrio t p

-- by its request it asks the same
pub asked_again : (x : Plain) → asked_by (request_of x) ≡ x
asked_again (Wait c m) = refl
asked_again _ = refl
