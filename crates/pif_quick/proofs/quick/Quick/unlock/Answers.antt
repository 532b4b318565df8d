use Rattle.std.proofs.Common.{◌≡◌, arith}
use Rattle.pif_quick.specs.Turns.{closed}
use Rattle.pif_quick.proofs.PassSteps.{held_inside, seat_of, seat_open, pass_after, sound_of, changes}
use Rattle.pif_quick.proofs.quick.Quick.unlock.Goals as goal

pub overflow_mul-word : goal.overflow_mul-word
overflow_mul-word g c = omega (
  arith,
  c.args.self.now.sized.2,
  held_inside _ _ c.requires.own c.args.held c.requires.turn,
)

pub give_back-requires-clause-place : goal.give_back-requires-clause-place
give_back-requires-clause-place g c = seat_of _ _ c.requires.own _
    (held_inside _ _ c.requires.own c.args.held c.requires.turn) _ c.index_mut-place.ensures.value

pub give_back-requires-clause-open_turn : goal.give_back-requires-clause-open_turn
give_back-requires-clause-open_turn g c = seat_open _ _ c.requires.own _
    (held_inside _ _ c.requires.own c.args.held c.requires.turn) _ c.index_mut-place.ensures.value c.requires.turn.2

pub returns-clause-own : goal.returns-clause-own
returns-clause-own g c = pass_after _ _ c.requires.own _
    (held_inside _ _ c.requires.own c.args.held c.requires.turn) _ c.index_mut-place.ensures.value
    c.give_back.new.place c.give_back.ensures.place

pub returns-clause-sound : goal.returns-clause-sound
returns-clause-sound g c =
    sound_of _ _ (pass_after _ _ c.requires.own _
    (held_inside _ _ c.requires.own c.args.held c.requires.turn) _ c.index_mut-place.ensures.value
    c.give_back.new.place c.give_back.ensures.place)

pub returns-clause-unlocked : goal.returns-clause-unlocked
returns-clause-unlocked g c = changes _ _ c.requires.own _
    (held_inside _ _ c.requires.own c.args.held c.requires.turn) _ c.index_mut-place.ensures.value
    c.give_back.new.place (λ r r'. r' ≡ closed c.args.pass.now.number c.args.held.value r) c.give_back.ensures.given
