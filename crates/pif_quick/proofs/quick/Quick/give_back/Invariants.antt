use Rattle.std.proofs.Common.{◌≡◌}
use Rattle.pif_quick.specs.Turns.{IsOpen}
use Rattle.pif_quick.specs.Places.{record_of, IsPlaceOf}
use Rattle.pif_quick.proofs.quick.Quick.give_back.Given as goal

abbrev pub invariant-loop : goal.invariant-loop
invariant-loop g l = record {
  place : IsPlaceOf l.self.board.shared.table_id l.word l.pass l.place;
  kept : record_of l.place ≡ record_of l.fn.place;
  open_turn : IsOpen (record_of l.place);
  value : l.value ≡ l.fn.value;
}
