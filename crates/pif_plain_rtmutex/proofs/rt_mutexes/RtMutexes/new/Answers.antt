use Rattle.std.proofs.Common.{arith, sym, subst, ap, rules, ◌≡◌, ◌+◌, ◌≤◌, [], length, replicate}
use Rattle.std.proofs.lemmas.List.{length-replicate}
use Rattle.pif_kernel_model.specs.Owners.{AreSoundOwners, no_owners, no_task}
use Rattle.pif_plain_rtmutex.specs.StateFields.{owners_from}
use Rattle.pif_kernel_model.proofs.MapLemmas.{owners_of-empty}
use Rattle.pif_kernel_model.proofs.OwnersLemmas.{sound-no_owners}
use Rattle.pif_plain_rtmutex.proofs.rt_mutexes.RtMutexes.new.Goals as goal

pub invariant_of-result : goal.invariant_of-result
invariant_of-result c =
    let rows : c.in_ok-rows.rows.items ≡ replicate (c.args.threads + 1) no_task = search rules in
    let slots : c.in_ok-owners.owners.slots ≡ [] = search rules in
    let room : c.args.threads ≤ c.in_ok-owners.owners.capacity = search rules in
    let made : owners_from c.in_ok-rows.rows.items c.in_ok-owners.owners ≡ no_owners c.args.threads =
    λ i. record { seats = rows i; owners = owners_of-empty c.in_ok-owners.owners slots i } in
    record {
      room = omega (arith, ap length rows, length-replicate (c.args.threads + 1) no_task, room);
      sound = subst AreSoundOwners (sym made) (sound-no_owners c.args.threads c.requires);
    }
