use Rattle.std.proofs.Common.{◌<◌, arith, ⊎_elim, inl, inr}
use Rattle.pif_quick.proofs.PassSteps.{seat_own, seat_idle, place_named, pass_after, sound_of, unchanged_since, meets_on}
use Rattle.pif_quick.proofs.quick.Quick.meet.Goals as goal

pub meet-requires-clause-place : goal.meet-requires-clause-place
meet-requires-clause-place g c = seat_own _ _ c.loop-m.invariant.own c.loop-m.m
    (omega arith) _ c.index_mut-place.ensures.value

pub meet-requires-clause-other : goal.meet-requires-clause-other
meet-requires-clause-other g c = seat_own _ _ c.loop-m.invariant.other_own c.loop-m.m
    (omega arith) _ c.index_mut.ensures.value

pub meet-requires-clause-one_open : goal.meet-requires-clause-one_open
meet-requires-clause-one_open g c =
    ⊎_elim (λ h. inl (seat_idle _ _ c.loop-m.invariant.own c.loop-m.m
    (omega arith) _ c.index_mut-place.ensures.value c.args.one.now c.loop-m.invariant.kept h))
    (λ h. inr (seat_idle _ _ c.loop-m.invariant.other_own c.loop-m.m
    (omega arith) _ c.index_mut.ensures.value c.args.other.now c.loop-m.invariant.other_kept h)) c.requires.idle

pub loop-m-preserved : goal.loop-m-preserved
loop-m-preserved g c =
    let lt : c.loop-m.m < c.args.self.now.count = omega arith in
    let p = c.loop-m.invariant in
    let e = c.index_mut-place.ensures.value in
    let f = c.index_mut.ensures.value in
    let met = c.meet.ensures in record {
      own = pass_after _ _ p.own _ lt _ e c.meet.new.place
          (place_named _ _ p.own _ lt _ e c.meet.new.place met.place met.passes.0);
      other_own = pass_after _ _ p.other_own _ lt _ f c.meet.new.other
          (place_named _ _ p.other_own _ lt _ f c.meet.new.other met.other met.passes.1);
      kept = unchanged_since _ _ p.own _ lt _ e c.meet.new.place c.args.one.now p.kept met.kept.0;
      other_kept = unchanged_since _ _ p.other_own _ lt _ f c.meet.new.other c.args.other.now p.other_kept met.kept.1;
      agree = meets_on _ _ _ p.own p.other_own _ lt _ _ e f c.meet.new.place c.meet.new.other met.kept.0 met.kept.1
          met.agree p.agree;
    }

pub returns-clause-sound : goal.returns-clause-sound
returns-clause-sound g c = (sound_of _ _ c.loop-m.invariant.own, sound_of _ _ c.loop-m.invariant.other_own)
