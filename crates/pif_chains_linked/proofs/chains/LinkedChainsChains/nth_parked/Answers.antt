use Rattle.std.proofs.Common.{◌≡◌, ◌⊎◌, ◌<◌, ◌≤◌, ℕ, List, sym, ap, ◌∙◌, inl, inr, rules}
use Rattle.std.proofs.lemmas.Bool.{cases_lt}
use Rattle.std.specs.List.{slice_get}
use Rattle.pif_model.specs.Graph.{waiting_order}
use Rattle.pif_model.specs.PiKernel.{parked_pairs}
use Rattle.pif_kernel_model.specs.States.{owners_in}
use Rattle.pif_kernel_model.specs.Boosts.{local_of}
use Rattle.pif_kernel_model.specs.Parked.{IsCond}
use Rattle.pif_kernel_model.specs.Chained.{Chained}
use Rattle.pif_chains_linked.specs.Parkings.{parkings_in}
use Rattle.pif_chains_linked.proofs.ParkingLists.{order_seen, order_past}
use Rattle.pif_chains_linked.proofs.chains.LinkedChainsChains.nth_parked.Goals as goal

pub returns : goal.returns
returns c =
    by_cond (cases_lt c.self.inside.buckets.parked.conds c.args.c)
    ∙ ap (λ (x : Chained). slice_get (waiting_order (local_of x.owners) (parked_pairs x.parked) c.args.c) c.args.place) c.self.view_is
  where
    by_cond : ((c.self.inside.buckets.parked.conds < c.args.c) ⊎ (c.args.c ≤ c.self.inside.buckets.parked.conds))
        → c.nth_parked.result ≡ slice_get (waiting_order (local_of (owners_in c.self.inside.owners c.self.inside.table))
        (parked_pairs (parkings_in c.self.inside.buckets.parked c.self.inside.table)) c.args.c) c.args.place
    by_cond (inl past) =
        c.nth_parked.ensures.past past
        ∙ ap (λ (xs : List ℕ). slice_get xs c.args.place) (sym (order_past c.self.inside.buckets.parked c.self.inside.table c.self.inside.next c.self.invariant.stand.buckets.parked.stand c.self.invariant.parked.parked
        (local_of (owners_in c.self.inside.owners c.self.inside.table)) c.self.invariant.parked.ranked c.args.c past))
    by_cond (inr few) =
        let is : IsCond c.self.inside.buckets.parked c.args.c
        = (search rules, few) in
        c.nth_parked.ensures.on is
        ∙ ap (λ (xs : List ℕ). slice_get xs c.args.place) (order_seen c.self.inside.buckets.parked c.self.inside.table c.self.inside.next c.self.invariant.stand.buckets.parked.stand c.self.invariant.parked.parked
        (local_of (owners_in c.self.inside.owners c.self.inside.table)) c.self.invariant.parked.ranked c.args.c is)
