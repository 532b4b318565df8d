use Rattle.std.proofs.Common.{ap, ◌∙◌}
use Rattle.pif_kernel_model.specs.Owners.{with_base}
use Rattle.pif_kernel_model.specs.Chained.{Chained}
use Rattle.pif_plain.proofs.chains.PlainChainsChains.set_base.Goals as goal

pub returns : goal.returns
returns c =
    (λ i. record {
      owners = c.set_base.ensures.changed i;
      queue = c.self.inside.queue;
      table = c.self.inside.table;
      keys = c.self.inside.rows.keys;
      parked = c.self.inside.rows.parked;
    })
    ∙ ap (λ (x : Chained). record x { owners = with_base c.args.t c.args.prio x.owners }) c.self.view_is
