use Rattle.std.proofs.Common.{◌∙◌, ap, arith}
use Rattle.pif_quick.proofs.PlaceSteps.{note_allowed, show_allowed, shown_place, compare_allowed}
use Rattle.pif_quick.proofs.place.compare.Goals as goal

pub split_seat-note-requires : goal.split_seat-note-requires
split_seat-note-requires g c =
    let h = c.requires.other in
    (h.table, omega (arith, h.inside.0), note_allowed _ _ _ _ h _)

pub join_seat-requires : goal.join_seat-requires
join_seat-requires g c =
    let h = c.requires.place in
    let k = c.requires.other in
    let note = c.split_seat-note.ensures in (
      h.table,
      note.3 ∙ k.table,
      ap (λ m. m.1) note.4,
      omega (arith, h.inside.0),
      show_allowed _ _ _ _ h c.args.other.now.me.0 c.split_seat-note.result k.word_is note.4 _,
    )

pub load-requires : goal.load-requires
load-requires g c =
    let h = c.requires.place in
    let q = shown_place _ _ _ _ h _ c.join_seat.new.seat (c.join_seat.ensures.0 ∙ h.table) c.join_seat.ensures.2 in
    (q.table, q.inside.0, compare_allowed _ _ _ _ q _)
