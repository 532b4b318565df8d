use Rattle.std.proofs.Common.{None, get_or, sym, ap, ◌∙◌}
use Rattle.pif_kernel_model.specs.Entries.{found_in}
use Rattle.pif_kernel_model.specs.Chained.{Chained}
use Rattle.pif_chains_linked.specs.Linked.{key_of}
use Rattle.pif_chains_linked.proofs.Keys.{keys_found}
use Rattle.pif_chains_linked.proofs.chains.LinkedChainsChains.find.Goals as goal

pub returns : goal.returns
returns c =
    c.find.ensures
    ∙ ap (λ w. key_of (found_in c.self.inside.buckets.entries c.self.inside.table w)) c.get.ensures.value
    ∙ sym (keys_found c.self.inside.buckets.entries c.self.inside.table c.args.m (λ f is. (c.self.invariant.words c.args.m f is).mutex))
    ∙ ap (λ (x : Chained). get_or x.keys c.args.m None) c.self.view_is
