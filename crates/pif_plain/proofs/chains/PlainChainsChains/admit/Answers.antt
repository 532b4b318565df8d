use Rattle.std.proofs.Common.{◌≡◌, ◌<◌, None, length, subst, sym, ap, ◌∙◌}
use Rattle.pif_kernel_model.specs.Owners.{waits_on, with_task}
use Rattle.pif_kernel_model.specs.Chained.{Chained}
use Rattle.pif_plain.proofs.chains.PlainChainsChains.admit.Goals as goal

pub admit-requires-clause-row : goal.admit-requires-clause-row
admit-requires-clause-row c = subst (λ (x : Chained). c.args.t < length x.owners.seats) (sym c.self.view_is) c.requires.row

pub admit-requires-clause-free : goal.admit-requires-clause-free
admit-requires-clause-free c = subst (λ (x : Chained). waits_on x.owners c.args.t ≡ None) (sym c.self.view_is) c.requires.free

pub returns : goal.returns
returns c =
    (λ i. record {
      owners = c.admit.ensures.admitted i;
      queue = c.self.inside.queue;
      table = c.self.inside.table;
      keys = c.self.inside.rows.keys;
      parked = c.self.inside.rows.parked;
    })
    ∙ ap (λ (x : Chained). record x {
      owners = with_task c.args.t (record { base = c.args.prio; local = c.args.prio; wait = None }) x.owners;
    }) c.self.view_is
