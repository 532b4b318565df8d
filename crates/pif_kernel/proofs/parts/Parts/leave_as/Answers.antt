use Rattle.std.proofs.Common.{set, arith, ap, ◌∙◌, ◌≡◌, length}
use Rattle.pif_model.specs.Graph.{without}
use Rattle.pif_model.specs.PiKernel.{kernel_left_as}
use Rattle.pif_model_lemmas.proofs.kernel.Facts.{living-added}
use Rattle.pif_kernel_model.specs.Inside.{Inside, kernel_of}
use Rattle.pif_kernel.specs.declared.parts.Parts.TheView.{view}
use Rattle.pif_kernel_model.proofs.Found.{found_so}
use Rattle.pif_kernel_model.proofs.Seats.{added_seen}
use Rattle.pif_kernel_model.proofs.Standing.{fits}
use Rattle.pif_kernel_model.proofs.WalkSound.{IsWalkable, on_levels, on_running, on_local, ended}
use Rattle.pif_kernel_model.proofs.LeavingSound.{before_walk}
use Rattle.pif_kernel.proofs.parts.Parts.leave_as.Goals.{After-get}
use Rattle.pif_kernel.proofs.parts.Parts.leave_as.Goals as goal

-- what is kept before the walk
left : (g : _) (c : After-get g)
    → IsWalkable (record (view _ g.C.Chains c.self.inside) {
      statuses = set c.self.inside.statuses.items c.get.result c.args.status;
      arrivals = without c.args.self.now.arrivals c.args.t;
    }) c.take_off-start.result (kernel_left_as c.args.status c.args.t (kernel_of c.args.self.now))
left g c =
    before_walk c.args.self.now c.take_off-start.new.self (view _ g.C.Chains c.self.inside) c.args.status c.args.t
    c.take_off-start.result c.get.result c.requires.sound c.requires.living c.requires.out c.take_off-start.ensures c.self.view_is c.get.ensures.value

pub index_mut-requires : goal.index_mut-requires
index_mut-requires g c =
    let same : length c.self.inside.statuses.items ≡ length c.args.self.now.statuses
    = ap (λ (x : Inside). length x.statuses) (c.self.view_is ∙ c.take_off-start.ensures.frame) in
    omega (
      arith,
      (added_seen c.args.self.now (fits c.args.self.now c.requires.sound) c.args.t
          (living-added (kernel_of c.args.self.now) c.args.t c.requires.living)).1,
      c.get.ensures.value,
      same,
    )

pub walk-requires : goal.walk-requires
walk-requires g c =
    let w = left g (goal.at.walk-requires g c).After-get in
    record {
      admitted = w.admitted;
      repaired = w.repaired;
      ready = on_levels _ _ _ w;
      running =
          on_running _ _ _ w;
      level = on_local _ _ _ w;
    }

pub returns : goal.returns
returns g c =
    let e
    = ended _ _ _ (left g (goal.at.returns g c).After-get) (g.C.Chains.seen c.walk.new.self).owners (g.C.Chains.seen c.walk.new.self).queue (g.C.Chains.seen c.walk.new.self).table
    c.walk.ensures.repaired c.walk.ensures.levels c.walk.ensures.place c.walk.ensures.holds
    in
    let f = found_so _ _ e in
    record {
      after = rw (c.walk.ensures.keys, c.walk.ensures.parked) f.0;
      sound = rw (c.walk.ensures.keys, c.walk.ensures.parked) f.1;
    }
