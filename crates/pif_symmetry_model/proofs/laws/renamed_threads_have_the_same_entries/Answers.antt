use Rattle.pif_symmetry_model.proofs.Entries.{too_entry}
use Rattle.pif_symmetry_model.proofs.laws.renamed_threads_have_the_same_entries.Goals as goal

pub returns : goal.returns
returns c = λ f l w v u e a b x. let m = too_entry f l w v u a e b x in (m.after, m.step, m.mirrors)
