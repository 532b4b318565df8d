use Rattle.std.proofs.Common.{◌≡◌, arith, ap}
use Rattle.pif_quick.specs.Turns.{closed}
use Rattle.pif_quick.proofs.PassSteps.{held_inside, seat_of, seat_open, pass_after, sound_of, changes, unchanged}
use Rattle.pif_quick.proofs.quick.Quick.unlock_quiet.Goals as goal

pub overflow_mul-word : goal.overflow_mul-word
overflow_mul-word g c = omega (
  arith,
  c.args.self.now.sized.2,
  held_inside _ _ c.requires.own c.args.held c.requires.turn,
)

pub release-requires-clause-place : goal.release-requires-clause-place
release-requires-clause-place g c = seat_of _ _ c.requires.own _
    (held_inside _ _ c.requires.own c.args.held c.requires.turn) _ c.index_mut-place.ensures.value

pub release-requires-clause-open_turn : goal.release-requires-clause-open_turn
release-requires-clause-open_turn g c = seat_open _ _ c.requires.own _
    (held_inside _ _ c.requires.own c.args.held c.requires.turn) _ c.index_mut-place.ensures.value c.requires.turn.2

pub returns-in-Ok-clause-own : goal.returns-in-Ok-clause-own
returns-in-Ok-clause-own g c = pass_after _ _ c.requires.own _
    (held_inside _ _ c.requires.own c.args.held c.requires.turn) _ c.index_mut-place.ensures.value
    c.release.new.place c.in-Ok.ensures.place

pub returns-in-Ok-clause-sound : goal.returns-in-Ok-clause-sound
returns-in-Ok-clause-sound g c = sound_of _ _
    (pass_after _ _ c.requires.own _ (held_inside _ _ c.requires.own c.args.held c.requires.turn) _
    c.index_mut-place.ensures.value c.release.new.place c.in-Ok.ensures.place)

pub returns-in-Err-clause-own : goal.returns-in-Err-clause-own
returns-in-Err-clause-own g c = pass_after _ _ c.requires.own _
    (held_inside _ _ c.requires.own c.args.held c.requires.turn) _ c.index_mut-place.ensures.value
    c.release.new.place c.in-Err.ensures.place

pub returns-in-Err-clause-sound : goal.returns-in-Err-clause-sound
returns-in-Err-clause-sound g c = sound_of _ _
    (pass_after _ _ c.requires.own _ (held_inside _ _ c.requires.own c.args.held c.requires.turn) _
    c.index_mut-place.ensures.value c.release.new.place c.in-Err.ensures.place)

pub returns-in-Ok-clause-told : goal.returns-in-Ok-clause-told
returns-in-Ok-clause-told g c = changes _ _ c.requires.own _
    (held_inside _ _ c.requires.own c.args.held c.requires.turn) _ c.index_mut-place.ensures.value
    c.release.new.place (λ r r'. r' ≡ closed c.args.pass.now.number c.args.held.value r) c.in-Ok.ensures.told

pub returns-in-Err-clause-told : goal.returns-in-Err-clause-told
returns-in-Err-clause-told g c = (
  ap (λ v. record c.args.held { value = v }) c.in-Err.ensures.told.0,
  unchanged _ _ c.requires.own _ (held_inside _ _ c.requires.own c.args.held c.requires.turn) _
      c.index_mut-place.ensures.value c.release.new.place c.in-Err.ensures.told.1,
)
