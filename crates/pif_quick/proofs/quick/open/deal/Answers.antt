use Rattle.std.proofs.Common.{◌≡◌, ℕ, ◌*◌, ◌+◌, ◌<◌, [], arith, ap, ◌∙◌, sym, subst, length, slice_get}
use Rattle.pif_quick.specs.Rule.{dealer_after, seat_from}
use Rattle.pif_quick.specs.Places.{dealer_at, IsFreshPlace}
use Rattle.pif_quick.proofs.Steps.{Known}
use Rattle.pif_quick.proofs.Opening.{deal_allowed, fresh_place, each_got}
use Rattle.pif_quick.proofs.quick.open.deal.Goals as goal

pub split_seat-requires : goal.split_seat-requires
split_seat-requires g c = (
  c.loop.invariant.table,
  omega (arith, c.requires.sized.0),
  deal_allowed _ _ _ _ c.loop.dealer c.loop.invariant.dealer (c.requires.numbered, omega arith),
)

pub loop-preserved : goal.loop-preserved
loop-preserved g c =
    let h = c.loop.invariant in
    let cut = c.split_seat.ensures in
    let starts = c.args.shelf.now.key.value.items in
    let at : c.loop.counter < c.args.count = omega arith in
    let next : 8 * c.loop.counter + 8 ≡ 8 * (c.loop.counter + 1) = omega arith in
    let last : length c.loop.places.items ≡ c.loop.counter = sym c.loop.places.ok.0 ∙ h.counted in
    let inside = c.requires.sized in
    let seat : IsFreshPlace starts c.args.shelf.now.table_id (8 * c.loop.counter) c.args.number c.split_seat.result =
    fresh_place starts c.args.shelf.now.table_id (8 * c.loop.counter) c.args.number c.split_seat.result (cut.3
    ∙ h.table)
    (cut.4 ∙ ap (λ (m : Known g.row.T.Denot). (seat_from m.0, [])) h.dealer)
    (omega (arith, inside.0), omega (arith, inside.1))
    (c.requires.numbered, omega arith) (c.requires.opened c.loop.counter at) in record {
      table = cut.0 ∙ h.table;
      dealer = cut.2 ∙ ap (λ (m : Known g.row.T.Denot). (dealer_after m.0, m.1)) h.dealer
          ∙ ap (λ (w : ℕ). (dealer_at starts w c.args.number, [])) next;
      counted = c.push_within.ensures.len ∙ ap (λ (n : ℕ). n + 1) h.counted;
      room = omega arith;
      places = λ m s e. each_got (λ j x. IsFreshPlace starts c.args.shelf.now.table_id (8 * j) c.args.number x)
          c.loop.places.items c.split_seat.result h.places
          (subst (λ (j : ℕ). IsFreshPlace starts c.args.shelf.now.table_id (8 * j) c.args.number c.split_seat.result)
          (sym last) seat)
          m s (ap (λ l. slice_get l m) (sym c.push_within.ensures.items) ∙ e);
    }
