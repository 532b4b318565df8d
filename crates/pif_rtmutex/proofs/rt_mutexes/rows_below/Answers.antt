use Rattle.std.proofs.Common.{◌∙◌, ◌∷◌, ◌++◌, [], ap, sym, zero-add, ℕ, List, length, arith}
use Rattle.std.specs.List.{range_with_len}
use Rattle.std.proofs.lemmas.List.FromFn.{length-range_with_len}
use Rattle.pif_rtmutex.proofs.StateLemmas.{range-more}
use Rattle.pif_rtmutex.proofs.rt_mutexes.rows_below.Goals as goal

pub push_reserved-requires : goal.push_reserved-requires
push_reserved-requires c =
    omega (
      arith,
      c.loop-row.invariant.room,
      ap (λ xs. length xs) c.loop-row.invariant.items,
      length-range_with_len 0
          c.loop-row.row,
      c.loop-row.free.ok,
    )

pub loop-row-preserved : goal.loop-row-preserved
loop-row-preserved c = record {
  items = c.push_reserved.ensures.items ∙ ap (λ (xs : List ℕ). xs ++ c.loop-row.row ∷ []) c.loop-row.invariant.items
      ∙ ap (λ (x : ℕ). range_with_len 0 c.loop-row.row ++ x ∷ []) (sym (zero-add c.loop-row.row))
      ∙ range-more 0 c.loop-row.row;
  room = omega (arith, c.loop-row.invariant.room, c.push_reserved.ensures.capacity);
}
