use Rattle.std.proofs.Common.{◌≡◌, ◌∙◌, length, ap, sym, subst, rules}
use Rattle.pif_kernel_model.specs.Entries.{Entries}
use Rattle.pif_kernel_model.specs.Parked.{parked_at}
use Rattle.pif_kernel_model.specs.Buckets.{Buckets, HoldsBuckets}
use Rattle.pif_queue.proofs.BucketFrames.{parked-same, words-changed}
use Rattle.pif_queue.proofs.buckets.Buckets.put.Goals as goal

pub returns-clause-parked : goal.returns-clause-parked
returns-clause-parked c = λ u.
    let b : Buckets = record { entries = c.self.inside.entries; parked = c.self.inside.parked } in
    let e : Entries = c.put.new.self in
    let list : e.first_list ≡ b.entries.first_list = search rules in
    let node : e.first_node ≡ b.entries.first_node = search rules in
    let rows : length e.items ≡ length b.entries.items = search rules in
    let holds : HoldsBuckets b c.args.table.now =
    subst (λ (x : Buckets). HoldsBuckets x c.args.table.now) (sym c.self.view_is) c.requires.holds in
    parked-same b e c.args.table.now c.put.new.table holds c.put.ensures.outside list node rows c.put.ensures.holds u
    ∙ ap (λ (x : Buckets). parked_at x.parked c.args.table.now u) c.self.view_is

pub returns-clause-holds : goal.returns-clause-holds
returns-clause-holds c =
    let b : Buckets = record { entries = c.self.inside.entries; parked = c.self.inside.parked } in
    let e : Entries = c.put.new.self in
    let list : e.first_list ≡ b.entries.first_list = search rules in
    let node : e.first_node ≡ b.entries.first_node = search rules in
    let rows : length e.items ≡ length b.entries.items = search rules in
    let holds : HoldsBuckets b c.args.table.now =
    subst (λ (x : Buckets). HoldsBuckets x c.args.table.now) (sym c.self.view_is) c.requires.holds in
    words-changed b e c.args.table.now c.put.new.table holds c.put.ensures.outside list node rows c.put.ensures.holds
