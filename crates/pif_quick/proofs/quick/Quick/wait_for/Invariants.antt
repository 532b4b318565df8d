use Rattle.std.proofs.Common.{◌≡◌, None}
use Rattle.pif_quick.specs.Places.{record_of, IsPlaceOf}
use Rattle.pif_quick.proofs.quick.Quick.wait_for.Given as goal

abbrev pub invariant-loop : goal.invariant-loop
invariant-loop g l = record {
  place : IsPlaceOf l.self.board.shared.table_id l.word l.pass l.place;
  kept : record_of l.place ≡ record_of l.fn.place;
  quiet : (record_of l.place).found ≡ None;
}
