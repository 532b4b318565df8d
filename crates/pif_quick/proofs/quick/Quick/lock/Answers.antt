use Rattle.std.proofs.Common.{arith, refl}
use Rattle.pif_quick.proofs.PassSteps.{seat_of, pass_after, sound_of, locks}
use Rattle.pif_quick.proofs.quick.Quick.lock.Goals as goal

pub overflow_mul-m : goal.overflow_mul-m
overflow_mul-m g c = omega (arith, c.args.self.now.sized.2, c.requires.word)

pub wait_for-value-requires-clause-place : goal.wait_for-value-requires-clause-place
wait_for-value-requires-clause-place g c = seat_of _ _ c.requires.own _ c.requires.word _ c.index_mut-place.ensures.value

pub returns-clause-own : goal.returns-clause-own
returns-clause-own g c =
    pass_after _ _ c.requires.own _ c.requires.word _ c.index_mut-place.ensures.value c.wait_for-value.new.place
    c.wait_for-value.ensures.place

pub returns-clause-sound : goal.returns-clause-sound
returns-clause-sound g c =
    sound_of _ _ (pass_after _ _ c.requires.own _ c.requires.word _ c.index_mut-place.ensures.value
    c.wait_for-value.new.place c.wait_for-value.ensures.place)

pub returns-clause-locked : goal.returns-clause-locked
returns-clause-locked g c =
    locks _ _ c.requires.own _ c.requires.word _ c.index_mut-place.ensures.value c.wait_for-value.new.place _
    c.of.ensures refl refl c.wait_for-value.ensures.taken
