use Rattle.std.proofs.Common.{◌<◌, arith, length, sym, subst}
use Rattle.std.proofs.lemmas.List.Elements.{All-set}
use Rattle.pif_quick.specs.Quick.{IsPassOf, IsIdle}
use Rattle.pif_test_core.proofs.Passes.{unchanged_idle}
use Rattle.pif_test_core.proofs.quick.stress.meet_all.Goals as goal

pub loop-k-preserved : goal.loop-k-preserved
loop-k-preserved c =
    let h = c.loop-k.invariant in
    let met = c.meet.ensures in
    let o = c.loop-k.others.ok.0 in
    let lt : c.loop-k.k < length c.loop-k.others.items = omega (arith, o, h.counted) in
    let idle : IsIdle c.index_mut.result.now = subst (λ p. IsIdle p) (sym c.index_mut.ensures.value)
    (h.others c.loop-k.k c.index_mut.result.now lt).1 in record {
      counted = h.counted;
      own = (met.own.0, unchanged_idle c.loop-k.one c.meet.new.one met.kept.0 h.own.1);
      others = All-set (λ p. IsPassOf c.args.quick.now p × IsIdle p) c.loop-k.others.items c.loop-k.k c.meet.new.other
          (met.own.1, unchanged_idle c.index_mut.result.now c.meet.new.other met.kept.1 idle) h.others;
    }
