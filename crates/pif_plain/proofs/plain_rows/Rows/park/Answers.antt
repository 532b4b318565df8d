use Rattle.std.proofs.Common.{◌≡◌, ◌≤◌, false, subst, sym, arith, rules}
use Rattle.pif_model.specs.PiKernel.{parked_pairs}
use Rattle.pif_plain.specs.Rows.{PlainRows}
use Rattle.pif_kernel_model.specs.Tickets.{is_named}
use Rattle.pif_plain.proofs.RowLemmas.{room_behind, parked_behind}
use Rattle.pif_plain.proofs.plain_rows.Rows.park.Goals as goal

pub push_within-requires : goal.push_within-requires
push_within-requires c =
    omega (
      arith,
      room_behind _ _ c.self.invariant c.args.t (search rules)
          (subst (λ (x : PlainRows). c.args.t ≤ x.room) (sym c.self.view_is) c.requires.room)
          (subst (λ (x : PlainRows). is_named c.args.t (parked_pairs x.parked) ≡ false) (sym c.self.view_is) c.requires.unparked),
    )

pub invariant_of-self : goal.invariant_of-self
invariant_of-self c =
    rw c.push_within.ensures.items
    (parked_behind _ _ c.self.invariant _ _ (search rules)
    (subst (λ (x : PlainRows). c.args.t ≤ x.room) (sym c.self.view_is) c.requires.room) (omega (arith, c.push_within.ensures.room))
    (subst (λ (x : PlainRows). is_named c.args.t (parked_pairs x.parked) ≡ false) (sym c.self.view_is) c.requires.unparked))
