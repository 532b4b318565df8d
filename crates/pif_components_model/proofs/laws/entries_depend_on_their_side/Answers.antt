use Rattle.pif_components_model.proofs.Entering.{echo_entry}
use Rattle.pif_components_model.proofs.laws.entries_depend_on_their_side.Goals as goal

pub returns : goal.returns
returns c = λ x l w v u e s r a b on y. (let f = echo_entry x l w v u s r a e b on y in (f.after, f.step, f.agrees))
