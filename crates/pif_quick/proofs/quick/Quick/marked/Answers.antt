use Rattle.std.proofs.Common.{arith, ap}
use Rattle.pif_quick.proofs.PassSteps.{seat_own, looked_place, pass_after, sound_of, unchanged}
use Rattle.pif_quick.proofs.quick.Quick.marked.Goals as goal

pub overflow_mul-m : goal.overflow_mul-m
overflow_mul-m g c = omega (arith, c.args.self.now.sized.2, c.requires.word)

pub look-requires : goal.look-requires
look-requires g c = seat_own _ _ c.requires.own _ c.requires.word _ c.index_mut-place.ensures.value

pub returns-clause-own : goal.returns-clause-own
returns-clause-own g c =
    pass_after _ _ c.requires.own _ c.requires.word _ c.index_mut-place.ensures.value c.look.new.place
    (looked_place _ _ c.requires.own _ c.requires.word _ c.index_mut-place.ensures.value c.look.new.place
    c.look.ensures.0 c.look.ensures.2)

pub returns-clause-sound : goal.returns-clause-sound
returns-clause-sound g c =
    sound_of _ _ (pass_after _ _ c.requires.own _ c.requires.word _ c.index_mut-place.ensures.value c.look.new.place
    (looked_place _ _ c.requires.own _ c.requires.word _ c.index_mut-place.ensures.value c.look.new.place
    c.look.ensures.0 c.look.ensures.2))

pub returns-clause-kept : goal.returns-clause-kept
returns-clause-kept g c =
    unchanged _ _ c.requires.own _ c.requires.word _ c.index_mut-place.ensures.value c.look.new.place
    (ap (λ m. m.0.known) c.look.ensures.2)
