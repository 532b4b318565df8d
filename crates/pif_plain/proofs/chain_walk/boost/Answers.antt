use Rattle.std.proofs.Common.{◌≡◌, None, sym, ap, ◌∙◌}
use Rattle.pif_kernel_model.specs.Owners.{Owners, waits_on, with_prio, with_local}
use Rattle.pif_kernel_model.proofs.Repairs.{boosted-waiting, boosted-free}
use Rattle.pif_plain.proofs.chain_walk.boost.Goals as goal

pub returns-in-Some : goal.returns-in-Some
returns-in-Some c =
    c.rekey.ensures.changed ∙ ap (λ (v : Owners). with_prio c.args.t c.args.prio v) c.set_local.ensures.changed
    ∙ boosted-waiting c.args.owners.now c.args.t c.args.prio c.requires

pub returns-in_default : goal.returns-in_default
returns-in_default c =
    let free : waits_on (with_local c.args.t c.args.prio c.args.owners.now) c.args.t ≡ None =
    ap (λ (v : Owners). waits_on v c.args.t) (sym c.set_local.ensures.changed) ∙ sym c.waits_on.ensures.value ∙ c.in_default.is in
    c.set_local.ensures.changed ∙ boosted-free c.args.owners.now c.args.t c.args.prio c.requires free
