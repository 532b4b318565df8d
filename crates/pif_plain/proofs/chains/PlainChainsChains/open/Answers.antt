use Rattle.std.proofs.Common.{◌+◌, ◌<◌, length, subst, sym}
use Rattle.pif_kernel_model.specs.Owners.{count}
use Rattle.pif_kernel_model.specs.Chained.{Chained}
use Rattle.pif_plain.proofs.chains.PlainChainsChains.open.Goals as goal

pub make-key-requires : goal.make-key-requires
make-key-requires c = record {
  room = subst (λ (x : Chained). count x.owners + 1 < length x.owners.seats) (sym c.self.view_is) c.requires.room;
}
