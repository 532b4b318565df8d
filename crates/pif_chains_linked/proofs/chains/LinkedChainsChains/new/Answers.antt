use Rattle.std.proofs.Common.{ap, arith}
use Rattle.pif_nodes_model.specs.Levels.{Queue}
use Rattle.pif_chains_linked.proofs.First.{linked_first, levels_first, keys_first, parked_first}
use Rattle.pif_chains_linked.proofs.chains.LinkedChainsChains.new.Goals as goal

pub invariant_of-result : goal.invariant_of-result
invariant_of-result c =
    linked_first c.args.threads _ c.args.first_ticket _ _ _ _ (omega arith) c.requires.ticket
    c.in_ok-owners.ensures.place c.new-queue.ensures.made
    c.in_ok-buckets.ensures.made c.in_ok-table.ensures.made c.in_ok-table.ensures.apart c.in_ok-owners.ensures.holds
    c.new-queue.ensures.holds c.in_ok-buckets.ensures.holds c.in_ok-buckets.ensures.no_word c.in_ok-buckets.ensures.nobody

pub returns : goal.returns
returns c =
    let h = linked_first c.args.threads _ c.args.first_ticket _ _ _ _ (omega arith) c.requires.ticket
    c.in_ok-owners.ensures.place c.new-queue.ensures.made
    c.in_ok-buckets.ensures.made c.in_ok-table.ensures.made c.in_ok-table.ensures.apart c.in_ok-owners.ensures.holds
    c.new-queue.ensures.holds c.in_ok-buckets.ensures.holds c.in_ok-buckets.ensures.no_word c.in_ok-buckets.ensures.nobody in
    record {
      owners = c.in_ok-owners.ensures.made c.in_ok-table.table;
      threads = ap (λ (x : Queue). x.threads) c.new-queue.ensures.made;
      levels = λ p lp. levels_first c.args.threads _ c.args.first_ticket _ _ _ _ (omega arith) c.requires.ticket
          c.in_ok-owners.ensures.place c.new-queue.ensures.made
          c.in_ok-buckets.ensures.made c.in_ok-table.ensures.made c.in_ok-table.ensures.apart c.in_ok-owners.ensures.holds
          c.new-queue.ensures.holds c.in_ok-buckets.ensures.holds c.in_ok-buckets.ensures.no_word c.in_ok-buckets.ensures.nobody p;
      holds = h.stand.queue;
      keys = keys_first c.args.threads _ c.args.first_ticket _ _ _ _ (omega arith) c.requires.ticket
          c.in_ok-owners.ensures.place c.new-queue.ensures.made
          c.in_ok-buckets.ensures.made c.in_ok-table.ensures.made c.in_ok-table.ensures.apart c.in_ok-owners.ensures.holds
          c.new-queue.ensures.holds c.in_ok-buckets.ensures.holds c.in_ok-buckets.ensures.no_word c.in_ok-buckets.ensures.nobody;
      parked = parked_first c.args.threads _ c.args.first_ticket _ _ _ _ (omega arith) c.requires.ticket
          c.in_ok-owners.ensures.place c.new-queue.ensures.made
          c.in_ok-buckets.ensures.made c.in_ok-table.ensures.made c.in_ok-table.ensures.apart c.in_ok-owners.ensures.holds
          c.new-queue.ensures.holds c.in_ok-buckets.ensures.holds c.in_ok-buckets.ensures.no_word c.in_ok-buckets.ensures.nobody;
    }
