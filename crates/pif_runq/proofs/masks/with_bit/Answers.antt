use Rattle.std.proofs.lemmas.Nat.Bits.{bit_at_set_same, bit_at_set_other}
use Rattle.std.specs.Int.{w128}
use Rattle.pif_runq.proofs.masks.with_bit.Goals as goal

pub returns : goal.returns
returns c =
    record {
      changed = bit_at_set_same w128 c.args.mask c.args.i c.requires;
      others = λ j other. bit_at_set_other w128 c.args.mask c.args.i c.requires j other;
    }
