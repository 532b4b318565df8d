use Rattle.pif_symmetry_model.proofs.Moves.{too_move}
use Rattle.pif_symmetry_model.proofs.laws.renamed_threads_have_the_same_moves.Goals as goal

pub returns : goal.returns
returns c = λ f w v u t a x. let m = too_move f w v a t x in (m.after, m.step, m.mirrors)
