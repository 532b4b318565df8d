-- A new table of 6 nodes and 66 lists has room for new buckets of three threads and two variables.
use Rattle.std.proofs.Common.{◌≡◌, ◌≤◌, [], replicate, sym, subst, inl, arith}
use Rattle.pif_nodes_model.specs.Table.{NodeLists, IsApart, no_key}
use Rattle.pif_kernel_model.specs.Buckets.{Buckets, HasRoomForBuckets}
use Rattle.pif_kernel_model.proofs.Rooms.{no_buckets, room-made}
use Rattle.pif_test_core.proofs.foundation.buckets.word_has_its_state_until_that_is_forgotten.Goals as goal

has_room : (b : Buckets) (t : NodeLists) → b ≡ no_buckets 0 3 0 3 2
    → t ≡ record { lists = replicate 66 []; keys = replicate 6 no_key } → IsApart t → HasRoomForBuckets b t
has_room b t empty new apart =
    subst (λ (x : Buckets). HasRoomForBuckets x t) (sym empty)
    (room-made 0 3 0 3 2 66 6 t new apart (omega arith) (omega arith) (omega arith) (inl (omega arith)))

pub one_word-requires-clause-holds : goal.one_word-requires-clause-holds
one_word-requires-clause-holds g c =
    c.in_ok-buckets.ensures.holds c.in_ok-table.table
    (has_room _ c.in_ok-table.table c.in_ok-buckets.ensures.made c.in_ok-table.ensures.made c.in_ok-table.ensures.apart)

pub one_word-requires-clause-empty : goal.one_word-requires-clause-empty
one_word-requires-clause-empty g c =
    c.in_ok-buckets.ensures.no_word c.in_ok-table.table
    (has_room _ c.in_ok-table.table c.in_ok-buckets.ensures.made c.in_ok-table.ensures.made c.in_ok-table.ensures.apart)
