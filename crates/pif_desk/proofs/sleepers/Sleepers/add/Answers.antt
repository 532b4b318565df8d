-- There is a place for a thread that does not stand among them.
use Rattle.std.proofs.Common.{◌∙◌, List, ℕ, length, sym, ap, subst, arith, rules}
use Rattle.pif_model.specs.PiKernel.{is_among}
use Rattle.pif_desk.specs.Sleeping.{AreSleepers}
use Rattle.pif_desk.proofs.Sleeping.{has_place, sleepers_more}
use Rattle.pif_desk.proofs.sleepers.Sleepers.add.Goals as goal

pub push_within-requires : goal.push_within-requires
push_within-requires c =
    let new = ap (λ (ts : List ℕ). is_among ts c.args.t) (sym c.as_slice.ensures.value)
    ∙ sym c.is_among.ensures ∙ c.if-not-is_among.true in
    let place = has_place c.self.inside.threads.items c.args.t c.self.invariant.0 (search rules) c.requires new in
    let len = ap (λ (ts : List ℕ). length ts) (sym c.as_slice.ensures.value) ∙ c.as_slice.ensures.len in
    omega (arith, place, len, c.self.invariant.1)

pub invariant_of-self : goal.invariant_of-self
invariant_of-self c =
    let new = ap (λ (ts : List ℕ). is_among ts c.args.t) (sym c.as_slice.ensures.value)
    ∙ sym c.is_among.ensures ∙ c.if-not-is_among.true in (
      subst AreSleepers (sym c.push_within.ensures.items)
          (sleepers_more c.self.inside.threads.items c.args.t c.self.invariant.0 (search rules) c.requires new),
      omega (arith, c.self.invariant.1, c.push_within.ensures.room),
    )
