-- What a function gives that says whether it did something.
use Rattle.std.proofs.Common.{◌≡◌, ap, Bool, Option}
use Rattle.std.specs.Prelude.{option_to_list}
use Rattle.pif_model.specs.Posix.{World}
use Rattle.pif_posix_steps.specs.Doing.{Does}
use Rattle.pif_posix_steps.specs.Doing.Does.{did, did_not}
use Rattle.pif_posix.specs.Results.{if_done}

-- by a rule with one result at most
pub done_by_rule : {old new : World} {o : Option World} {b : Bool} → Does old o b new → option_to_list o ≡ if_done b new
done_by_rule (did e) = ap option_to_list e
done_by_rule (did_not e f) = ap option_to_list e
