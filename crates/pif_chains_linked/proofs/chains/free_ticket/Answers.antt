use Rattle.std.proofs.Common.{ap, ◌∙◌}
use Rattle.pif_kernel_model.specs.Parked.{parked_at}
use Rattle.pif_kernel_model.specs.Buckets.{Buckets}
use Rattle.pif_chains_linked.specs.Parkings.{parkings_by}
use Rattle.pif_chains_linked.proofs.ParkingKeys.{are_parked-renumber, renumber_parkings}
use Rattle.pif_chains_linked.proofs.chains.free_ticket.Goals as goal

pub renumber-requires-clause-tickets : goal.renumber-requires-clause-tickets
renumber-requires-clause-tickets c = record { least = c.requires.numbered.least; once = c.requires.numbered.once }

pub returns-then-next-eq18446744073709551615-clause-numbered : goal.returns-then-next-eq18446744073709551615-clause-numbered
returns-then-next-eq18446744073709551615-clause-numbered c =
    are_parked-renumber (parked_at c.args.buckets.now.parked c.args.table.now) (parked_at c.renumber.new.self.parked c.renumber.new.table)
    c.args.buckets.now.parked.threads c.args.next c.renumber.result c.requires.numbered c.renumber.ensures.numbered

pub returns-then-next-eq18446744073709551615-clause-order : goal.returns-then-next-eq18446744073709551615-clause-order
returns-then-next-eq18446744073709551615-clause-order c =
    ap (λ n. parkings_by (parked_at c.renumber.new.self.parked c.renumber.new.table) n)
    (ap (λ (x : Buckets). x.parked.threads) c.renumber.ensures.place)
    ∙ renumber_parkings (parked_at c.args.buckets.now.parked c.args.table.now) (parked_at c.renumber.new.self.parked c.renumber.new.table)
    c.args.buckets.now.parked.threads c.args.next c.renumber.result c.requires.numbered c.renumber.ensures.numbered
