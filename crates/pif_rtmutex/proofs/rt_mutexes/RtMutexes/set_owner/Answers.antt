use Rattle.std.proofs.Common.{◌≡◌, ◌∙◌, ap, sym, refl, subst, Some, IsSome, arith}
use Rattle.std.specs.FinMap.{get}
use Rattle.pif_rtmutex.specs.Fields.{State}
use Rattle.pif_kernel_model.specs.States.{States}
use Rattle.pif_kernel_model.specs.States.{with_owner_of}
use Rattle.pif_rtmutex.specs.Fields.{slab_with}
use Rattle.slab.specs.Slab.{Slab, with_value}
use Rattle.slab.specs.Slab.{get as value_at}
use Rattle.slab.proofs.SlabLemmas.{Updates-with_value}
use Rattle.pif_kernel_model.specs.OwnerMaps.{owners_of}
use Rattle.std.specs.FinMap.{insert}
use Rattle.pif_rtmutex.proofs.FieldLemmas.{state-contains, state-in_row, states-put, states-rewritten, len-rewritten}
use Rattle.pif_rtmutex.proofs.rt_mutexes.RtMutexes.set_owner.Goals as goal

pub index_mut-requires : goal.index_mut-requires
index_mut-requires c =
    state-contains (λ (x : State). x.row) c.self.inside.states c.args.self.now.places c.get.result c.args.key
    (ap (λ (m : States). m.places) c.self.view_is) c.get.ensures (subst IsSome (sym c.requires) refl)

pub invariant_of-self : goal.invariant_of-self
invariant_of-self c =
    let s : Slab State = c.self.inside.states in
    let x : State = record { owner = c.args.owner; row = c.state.inside.row } in
    let had : (y : State) × (value_at s c.get.result ≡ Some y) × (y.row ≡ c.state.inside.row) =
    state-in_row s c.args.self.now.places c.get.result c.args.key c.state.inside.row
    (ap (λ (m : States). m.places) c.self.view_is) c.get.ensures
    (c.requires ∙ ap (λ (x : State). Some x.row) (sym c.state.view_is)) in
    let y : State = had.0 in
    let at : value_at s c.get.result ≡ Some y = had.1 in
    let places : owners_of (slab_with (λ (x : State). x.row) (with_value s c.get.result x)) ≡ owners_of
    (slab_with (λ (x : State). x.row) s) =
    states-rewritten (λ (x : State). x.row) s c.get.result x y at (sym had.2) in
    record {
      most = c.self.invariant.most;
      lists = c.self.invariant.lists;
      nodes = c.self.invariant.nodes;
      rows = c.self.invariant.rows;
      room = c.self.invariant.room;
      stack = c.self.invariant.stack;
      spare = record {
        count = omega
            (arith, c.self.invariant.spare.count, len-rewritten (λ (x : State). x.owner) s c.get.result x y at);
        below = c.self.invariant.spare.below;
        once = c.self.invariant.spare.once;
        apart = λ k r e. c.self.invariant.spare.apart k r (ap (λ q. get q k) (sym places) ∙ e);
      };
    }

pub returns : goal.returns
returns c =
    let s : Slab State = c.self.inside.states in
    let x : State = record { owner = c.args.owner; row = c.state.inside.row } in
    let had : (y : State) × (value_at s c.get.result ≡ Some y) × (y.row ≡ c.state.inside.row) =
    state-in_row s c.args.self.now.places c.get.result c.args.key c.state.inside.row
    (ap (λ (m : States). m.places) c.self.view_is) c.get.ensures
    (c.requires ∙ ap (λ (x : State). Some x.row) (sym c.state.view_is)) in
    let y : State = had.0 in
    let at : value_at s c.get.result ≡ Some y = had.1 in
    let places : owners_of (slab_with (λ (x : State). x.row) (with_value s c.get.result x)) ≡ owners_of
    (slab_with (λ (x : State). x.row) s) =
    states-rewritten (λ (x : State). x.row) s c.get.result x y at (sym had.2) in
    let owners : owners_of (slab_with (λ (x : State). x.owner) (with_value s c.get.result x))
    ≡ insert (owners_of (slab_with (λ (x : State). x.owner) s)) c.get.result c.args.owner =
    states-put (λ (x : State). x.owner) s (with_value s c.get.result x) c.get.result x
    (Updates-with_value s c.get.result x (subst IsSome (sym at) refl)) in
    (λ i. record {
      first_list = c.self.inside.first_list;
      first_node = c.self.inside.first_node;
      threads = c.self.inside.threads;
      rows = c.self.inside.rows.items;
      free = c.self.inside.free.items;
      owners = owners i;
      places = places i;
    })
    ∙ (λ i. with_owner_of (c.get.ensures i) c.args.owner (c.self.view_is i))
