use Rattle.std.proofs.Common.{◌+◌, ◌<◌, length, refl, subst, sym, ap, ◌∙◌}
use Rattle.pif_kernel_model.specs.Owners.{count}
use Rattle.pif_kernel_model.specs.Inside.{Inside, state_key_at}
use Rattle.pif_kernel_model.specs.Opened.IsOpened.{found}
use Rattle.pif_kernel_model.proofs.QueueingSound.{opened_made}
use Rattle.pif_kernel.proofs.parts.Parts.state_of.Goals as goal

pub returns-in-Some : goal.returns-in-Some
returns-in-Some g c = found (sym c.requires.key ∙ c.in-Some.is) refl

pub open-requires : goal.open-requires
open-requires g c = record {
  mutex = subst (λ (x : Inside). c.args.m < length x.keys) (sym c.self.view_is) c.requires.mutex;
  none = ap (λ (x : Inside). state_key_at x c.args.m) c.self.view_is ∙ sym c.requires.key ∙ c.in-None.is;
  owner = subst (λ (x : Inside). c.args.owner < length x.owners.seats) (sym c.self.view_is) c.requires.owner;
  room =
      subst (λ (x : Inside). count x.owners + 1 < length x.owners.seats) (sym c.self.view_is)
      (c.requires.room (sym c.requires.key ∙ c.in-None.is));
}

pub returns-in-None : goal.returns-in-None
returns-in-None g c =
    opened_made c.args.self.now c.self.inside.limits c.self.inside.statuses.items
    (g.C.Chains.seen c.self.inside.chains) (g.C.Chains.seen c.open.new.self) c.self.inside.next c.args.m c.args.owner
    c.open.result c.self.view_is (sym c.requires.key ∙ c.in-None.is) c.open.ensures.fresh c.open.ensures.made
    c.open.ensures.kept c.open.ensures.count
