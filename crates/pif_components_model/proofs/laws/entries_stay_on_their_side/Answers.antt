use Rattle.pif_components_model.proofs.Entering.{split_entry, frame_entry}
use Rattle.pif_components_model.proofs.laws.entries_stay_on_their_side.Goals as goal

pub returns-clause-split : goal.returns-clause-split
returns-clause-split c = λ x l w u e s b y. split_entry x l w u e s b y

pub returns-clause-frame : goal.returns-clause-frame
returns-clause-frame c = λ x l w u e s b off y. frame_entry x l w u e s b off y
