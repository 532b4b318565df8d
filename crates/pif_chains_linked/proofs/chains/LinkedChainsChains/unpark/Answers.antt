use Rattle.std.proofs.Common.{◌≡◌, false, Option, Some, None, is_some, option_map, true≢false, refl, subst, sym, ap, ◌∙◌}
use Rattle.pif_model.specs.PiKernel.{parkings_without}
use Rattle.pif_kernel_model.specs.States.{owners_in}
use Rattle.pif_kernel_model.specs.Parked.{Parked, parked_at}
use Rattle.pif_kernel_model.specs.Chained.{Chained, KeepsLevels}
use Rattle.pif_chains_linked.specs.Parkings.{parkings_by, parkings_in}
use Rattle.pif_chains_linked.proofs.ParkingLemmas.{unpark_parkings, unpark_nobody}
use Rattle.pif_chains_linked.proofs.Parks.{parked_threads, parked_owners, linked_parked, parked_kept, fits_unpark}
use Rattle.pif_chains_linked.proofs.Standing.{linked}
use Rattle.pif_chains_linked.proofs.chains.LinkedChainsChains.unpark.Goals as goal

pub invariant_of-self : goal.invariant_of-self
invariant_of-self c =
    linked_parked c.self.inside.owners c.self.inside.queue c.self.inside.buckets c.self.inside.table c.self.invariant.stand
    c.unpark.new.self c.unpark.new.table c.unpark.ensures.place c.unpark.ensures.words c.unpark.ensures.outside c.unpark.ensures.holds c.self.inside.next c.self.invariant.words
    (fits_unpark (owners_in c.self.inside.owners c.self.inside.table) (parked_at c.self.inside.buckets.parked c.self.inside.table)
    (parked_at c.unpark.new.self.parked c.unpark.new.table) c.self.inside.buckets.parked.threads c.self.inside.next c.args.t
    c.self.invariant.parked c.unpark.ensures.freed)

pub returns-then-is_some-clause-owners : goal.returns-then-is_some-clause-owners
returns-then-is_some-clause-owners c = parked_owners c.self.inside.owners c.self.inside.queue c.self.inside.buckets c.self.inside.table c.self.invariant.stand
    c.unpark.new.self c.unpark.new.table c.unpark.ensures.place c.unpark.ensures.words c.unpark.ensures.outside c.unpark.ensures.holds ∙ ap (λ (x : Chained). x.owners) c.self.view_is

pub returns-then-is_some-clause-kept : goal.returns-then-is_some-clause-kept
returns-then-is_some-clause-kept c =
    subst (λ (x : Chained). KeepsLevels (record x { parked = parkings_without x.parked c.args.t })
    (linked c.self.inside.owners c.self.inside.queue c.unpark.new.self c.unpark.new.table)) c.self.view_is
    (parked_kept c.self.inside.owners c.self.inside.queue c.self.inside.buckets c.self.inside.table c.self.invariant.stand
    c.unpark.new.self c.unpark.new.table c.unpark.ensures.place c.unpark.ensures.words c.unpark.ensures.outside c.unpark.ensures.holds (parkings_without (parkings_in c.self.inside.buckets.parked c.self.inside.table) c.args.t)
    (ap (λ n. parkings_by (parked_at c.unpark.new.self.parked c.unpark.new.table) n) (parked_threads c.self.inside.owners c.self.inside.queue c.self.inside.buckets c.self.inside.table c.self.invariant.stand
    c.unpark.new.self c.unpark.new.table c.unpark.ensures.place c.unpark.ensures.words c.unpark.ensures.outside c.unpark.ensures.holds)
    ∙ unpark_parkings (parked_at c.self.inside.buckets.parked c.self.inside.table) (parked_at c.unpark.new.self.parked c.unpark.new.table)
    c.self.inside.buckets.parked.threads c.self.inside.next c.args.t c.self.invariant.parked.parked c.unpark.ensures.freed))

-- who has no ticket is not parked
unticketed : (o : Option Parked) → is_some (option_map (λ (x : Parked). x.rank.ticket) o) ≡ false → o ≡ None
unticketed None e = refl
unticketed (Some x) e = absurd (true≢false e)

pub returns-else-is_some-clause-kept : goal.returns-else-is_some-clause-kept
returns-else-is_some-clause-kept c =
    let none : parked_at c.self.inside.buckets.parked c.self.inside.table c.args.t ≡ None
    = unticketed (parked_at c.self.inside.buckets.parked c.self.inside.table c.args.t) (ap is_some (sym c.ticket.ensures) ∙ sym c.is_some.ensures ∙ c.if-is_some.false) in
    subst (λ (x : Chained). KeepsLevels (record x { parked = parkings_without x.parked c.args.t }) x) c.self.view_is
    (record {
      levels = λ p lp. refl;
      queue = refl;
      holds = c.self.invariant.stand.queue;
      keys = refl;
      parked =
          sym (unpark_nobody (parked_at c.self.inside.buckets.parked c.self.inside.table) c.self.inside.buckets.parked.threads c.self.inside.next c.args.t
          c.self.invariant.parked.parked none);
    })
