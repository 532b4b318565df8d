use Rattle.std.proofs.Common.{arith, refl}
use Rattle.pif_quick.proofs.PassSteps.{seat_of, pass_after, sound_of, unchanged, locks}
use Rattle.pif_quick.proofs.quick.Quick.try_lock.Goals as goal

pub overflow_mul-m : goal.overflow_mul-m
overflow_mul-m g c = omega (arith, c.args.self.now.sized.2, c.requires.word)

pub take-requires : goal.take-requires
take-requires g c = seat_of _ _ c.requires.own _ c.requires.word _ c.index_mut-place.ensures.value

pub returns-in-Ok-clause-own : goal.returns-in-Ok-clause-own
returns-in-Ok-clause-own g c =
    pass_after _ _ c.requires.own _ c.requires.word _ c.index_mut-place.ensures.value c.take.new.place
    c.in-Ok.ensures.place

pub returns-in-Ok-clause-sound : goal.returns-in-Ok-clause-sound
returns-in-Ok-clause-sound g c = sound_of _ _
    (pass_after _ _ c.requires.own _ c.requires.word _ c.index_mut-place.ensures.value c.take.new.place
    c.in-Ok.ensures.place)

pub returns-in-Err-clause-own : goal.returns-in-Err-clause-own
returns-in-Err-clause-own g c =
    pass_after _ _ c.requires.own _ c.requires.word _ c.index_mut-place.ensures.value c.take.new.place
    c.in-Err.ensures.place

pub returns-in-Err-clause-sound : goal.returns-in-Err-clause-sound
returns-in-Err-clause-sound g c = sound_of _ _
    (pass_after _ _ c.requires.own _ c.requires.word _ c.index_mut-place.ensures.value c.take.new.place
    c.in-Err.ensures.place)

pub returns-in-Ok-clause-locked : goal.returns-in-Ok-clause-locked
returns-in-Ok-clause-locked g c =
    locks _ _ c.requires.own _ c.requires.word _ c.index_mut-place.ensures.value c.take.new.place _
    c.of.ensures refl refl c.in-Ok.ensures.taken

pub returns-in-Err-clause-busy : goal.returns-in-Err-clause-busy
returns-in-Err-clause-busy g c =
    unchanged _ _ c.requires.own _ c.requires.word _ c.index_mut-place.ensures.value c.take.new.place
    c.in-Err.ensures.kept
