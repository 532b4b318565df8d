-- There are so few threads that a word has room for each number.
use Rattle.std.proofs.Common.{◌≡◌, true, arith, subst, sym}
use Rattle.pif_model.specs.Table.{Table, has_thread}
use Rattle.pif_mutex.proofs.Assembly.{added_is_few}
use Rattle.pif_mutex.proofs.state.State.number_of.Goals as goal

pub returns-clause-bare : goal.returns-clause-bare
returns-clause-bare g c =
    let known = subst (λ (s : Table). has_thread s c.args.t ≡ true) (sym c.self.view_is) c.requires in
    omega (arith, c.get.ensures.value, added_is_few c.self.invariant.assembled c.args.t known)
