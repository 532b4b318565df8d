-- The robust lists are those of the table.
use Rattle.std.proofs.Common.{subst, sym}
use Rattle.pif_model.specs.RobustList.{IsUnlisted, IsHalfLinkedByNoOther}
use Rattle.pif_model.specs.Table.{Table}
use Rattle.pif_mutex.proofs.state.State.half_link.Goals as goal

pub link_next-requires-clause-unlisted : goal.link_next-requires-clause-unlisted
link_next-requires-clause-unlisted g c =
    subst (λ (s : Table). IsUnlisted s.lists c.args.m) (sym c.self.view_is) c.requires.unlisted

pub link_next-requires-clause-half_linked : goal.link_next-requires-clause-half_linked
link_next-requires-clause-half_linked g c =
    subst (λ (s : Table). IsHalfLinkedByNoOther s.lists c.args.t c.args.m) (sym c.self.view_is) c.requires.half
