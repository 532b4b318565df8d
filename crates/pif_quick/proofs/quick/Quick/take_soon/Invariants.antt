use Rattle.std.proofs.Common.{◌≡◌}
use Rattle.pif_quick.specs.Places.{record_of, IsPlaceOf}
use Rattle.pif_quick.proofs.quick.Quick.take_soon.Given as goal

abbrev pub invariant-loop-tries : goal.invariant-loop-tries
invariant-loop-tries g l = record {
  place : IsPlaceOf l.self.board.shared.table_id l.word l.pass l.place;
  kept : record_of l.place ≡ record_of l.fn.place;
}
