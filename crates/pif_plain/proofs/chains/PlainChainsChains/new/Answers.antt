use Rattle.std.proofs.Common.{◌≡◌, ℕ, ◌+◌, [], length, subst, sym, ap, ◌∙◌, arith}
use Rattle.std.proofs.lemmas.List.{length-replicate}
use Rattle.pif_nodes_model.specs.Table.{NodeLists, IsApart}
use Rattle.pif_nodes_model.specs.Levels.{Queue, HasRoom, level_of}
use Rattle.pif_kernel_model.specs.Owners.{Owners, no_task}
use Rattle.pif_nodes_model.proofs.EmptyTables.{empty_table, queue_room, empty_level}
use Rattle.pif_plain.proofs.chains.PlainChainsChains.new.Goals as goal

room : (threads : ℕ) (q : Queue) (t : NodeLists)
    → q ≡ record { first_list = 0; first_node = 0; threads = threads; mask = 0 } → t ≡ empty_table 99 threads → IsApart t
    → HasRoom q t × ((p : ℕ) → level_of q t p ≡ [])
room threads q t is made apart = (
  subst (λ (x : Queue). HasRoom x t) (sym is)
      (subst (λ (y : NodeLists). HasRoom (record { first_list = 0; first_node = 0; threads = threads; mask = 0 }) y) (sym made)
      (queue_room (record { first_list = 0; first_node = 0; threads = threads; mask = 0 }) 99 threads (omega arith) (omega arith)
      (subst IsApart made apart))),
  λ p. ap (λ (y : NodeLists). level_of q y p) made ∙ empty_level q 99 threads p,
)

pub invariant_of-result : goal.invariant_of-result
invariant_of-result c = record {
  holds = c.new-queue.ensures.holds c.in_ok-table.table
      (room c.args.threads _ _ c.new-queue.ensures.made c.in_ok-table.ensures.made c.in_ok-table.ensures.apart).0;
  room =
      omega (
        arith,
        ap (λ (v : Owners). length v.seats) c.in_ok-owners.ensures.made,
        length-replicate (c.args.threads + 1) no_task,
        c.in_ok-rows.ensures.room,
      );
}

pub returns : goal.returns
returns c =
    let r = room c.args.threads _ _ c.new-queue.ensures.made c.in_ok-table.ensures.made c.in_ok-table.ensures.apart in
    record {
      owners = c.in_ok-owners.ensures.made;
      threads = ap (λ (x : Queue). x.threads) c.new-queue.ensures.made;
      levels = λ p lp. r.1 p;
      holds = c.new-queue.ensures.holds c.in_ok-table.table r.0;
      keys = c.in_ok-rows.ensures.keys;
      parked = c.in_ok-rows.ensures.parked;
    }
