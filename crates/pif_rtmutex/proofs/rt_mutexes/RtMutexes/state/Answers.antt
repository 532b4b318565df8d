use Rattle.std.proofs.Common.{ap, Some}
use Rattle.pif_rtmutex.specs.Fields.{State}
use Rattle.pif_kernel_model.specs.States.{States}
use Rattle.pif_rtmutex.proofs.FieldLemmas.{state-value, state-contains}
use Rattle.pif_rtmutex.proofs.rt_mutexes.RtMutexes.state.Goals as goal

pub index-requires : goal.index-requires
index-requires c =
    state-contains (λ (x : State). x.owner) c.self.inside.states c.args.self.now.owners c.get.result c.args.key
    (ap (λ (m : States). m.owners) c.self.view_is) c.get.ensures c.requires

pub returns : goal.returns
returns c = record {
  owner = state-value (λ (x : State). x.owner) c.self.inside.states c.args.self.now.owners c.get.result c.args.key
      (Some c.index.result.now)
      (ap (λ (m : States). m.owners) c.self.view_is) c.get.ensures c.index.ensures;
  row = state-value (λ (x : State). x.row) c.self.inside.states c.args.self.now.places c.get.result c.args.key
      (Some c.index.result.now)
      (ap (λ (m : States). m.places) c.self.view_is) c.get.ensures c.index.ensures;
}
