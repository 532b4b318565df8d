use Rattle.std.proofs.Common.{◌≡◌, ◌≤◌, true, Ok, subst, sym, ap, ◌∙◌, rules}
use Rattle.pif_model.specs.PiKernel.{is_living, kernel_after_set_prio}
use Rattle.pif_kernel_model.specs.Chained.{Chained}
use Rattle.pif_kernel_model.specs.Inside.{Inside, IsSoundInside, kernel_of}
use Rattle.pif_kernel.specs.declared.parts.Parts.TheView.{view}
use Rattle.pif_kernel_model.proofs.Found.{found_so}
use Rattle.pif_kernel_model.proofs.WalkSound.{IsWalkable, on_levels, on_running, on_local, ended}
use Rattle.pif_kernel_model.proofs.BaseSound.{walkable}
use Rattle.pif_kernel.proofs.parts.Parts.set_base.Goals.{After-set_base}
use Rattle.pif_kernel.proofs.parts.Parts.set_base.Goals as goal

-- what is kept before the walk
before_walk : (g : _) (c : After-set_base g)
    → IsWalkable (record (view _ g.C.Chains c.self.inside) {
      owners = (g.C.Chains.seen c.set_base.new.self).owners;
      queue = (g.C.Chains.seen c.set_base.new.self).queue;
      table = (g.C.Chains.seen c.set_base.new.self).table;
    }) c.args.t
    (kernel_after_set_prio c.args.t c.args.prio (Ok (record {})) (kernel_of c.args.self.now))
before_walk g c =
    let p : Inside = view _ g.C.Chains c.self.inside in
    let h : IsSoundInside p = subst IsSoundInside (sym c.self.view_is) c.requires.sound in
    let lives : is_living (kernel_of p) c.args.t ≡ true
    = subst (λ (x : Inside). is_living (kernel_of x) c.args.t ≡ true) (sym c.self.view_is) c.requires.living in
    let some : 1 ≤ c.args.prio = search rules in
    let few : c.args.prio ≤ 99 = search rules in
    rw (c.set_base.ensures, ← c.self.view_is) (walkable p c.args.t c.args.prio h lives some few)

pub walk-requires : goal.walk-requires
walk-requires g c =
    let w = before_walk g (goal.at.walk-requires g c).After-set_base in
    record {
      admitted = w.admitted;
      repaired = w.repaired;
      ready = on_levels _ _ _ w;
      running =
          on_running _ _ _ w;
      level = on_local _ _ _ w;
    }

pub returns : goal.returns
returns g c =
    let e
    = ended _ _ _ (before_walk g (goal.at.returns g c).After-set_base) (g.C.Chains.seen c.walk.new.self).owners (g.C.Chains.seen c.walk.new.self).queue (g.C.Chains.seen c.walk.new.self).table
    c.walk.ensures.repaired c.walk.ensures.levels c.walk.ensures.place c.walk.ensures.holds
    in
    let f = found_so _ _ e in
    let keys = c.walk.ensures.keys ∙ ap (λ (x : Chained). x.keys) c.set_base.ensures in
    let parked = c.walk.ensures.parked ∙ ap (λ (x : Chained). x.parked) c.set_base.ensures in
    record { after = rw (keys, parked) f.0; sound = rw (keys, parked) f.1 }
