use Rattle.pif_symmetry_model.proofs.Lending.{too_wide_move}
use Rattle.pif_symmetry_model.proofs.laws.renamed_threads_have_the_same_moves_as_lending_sees_them.Goals as goal

pub returns : goal.returns
returns c = λ f t s n k a x. too_wide_move f t s n a x
