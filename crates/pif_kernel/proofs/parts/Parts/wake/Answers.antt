use Rattle.std.proofs.Common.{◌≡◌, false, set, true, refl, subst, sym, ◌∙◌, ap, arith}
use Rattle.pif_nodes_model.specs.Lists.{has}
use Rattle.pif_model.specs.declared.lines.Status.TheVariants.{Ready}
use Rattle.pif_model.specs.PiKernel.{Kernel, has_seat, is_ready, queued_on, kernel_after_waking, parkings_without}
use Rattle.pif_model.specs.PiKernel.{seat_at as kernel_seat_at}
use Rattle.pif_kernel_model.specs.Owners.{Owners, task_at}
use Rattle.pif_kernel_model.specs.Chained.{Chained, KeepsLevels}
use Rattle.pif_kernel_model.specs.Fields.{chains_of}
use Rattle.pif_kernel_model.specs.Inside.{Inside, IsSoundInside, kernel_of}
use Rattle.pif_kernel.specs.declared.parts.Parts.TheView.{view}
use Rattle.pif_kernel_model.proofs.Found.{found_so}
use Rattle.pif_kernel_model.proofs.TableMoved.{moved, kernel_moved, sound_in_table, levels_kept_beside}
use Rattle.pif_kernel_model.proofs.WakeSound.{rests_within, rests_level, rests_off, woken_ends}
use Rattle.pif_kernel.proofs.parts.Parts.wake.Goals.{Start, After-unpark, After-add}
use Rattle.pif_kernel.proofs.parts.Parts.wake.Goals as goal

-- what is known before
held : (g : _) (c : Start g) (p : Inside) → p ≡ c.args.self.now
    → IsSoundInside p × (has_seat (kernel_of p) c.args.t ≡ true)
    × (is_ready (kernel_seat_at (kernel_of p) c.args.t).status ≡ false)
    × (queued_on (kernel_seat_at (kernel_of p) c.args.t).status ≡ 0)
held g c p is = (
  subst IsSoundInside (sym is) c.requires.sound,
  ap (λ (x : Inside). has_seat (kernel_of x) c.args.t) is ∙ c.requires.added,
  ap (λ (x : Inside). is_ready (kernel_seat_at (kernel_of x) c.args.t).status) is ∙ c.requires.unready,
  ap (λ (x : Inside). queued_on (kernel_seat_at (kernel_of x) c.args.t).status) is ∙ c.requires.unqueued,
)

pub index_mut-requires : goal.index_mut-requires
index_mut-requires g c =
    let p : Inside = view _ g.C.Chains c.self.inside in
    let d = held g (goal.at.index_mut-requires g c).Start p c.self.view_is in
    omega (arith, (rests_within p c.args.t d.0 d.1 d.2 d.3).1, c.get.ensures.value)

pub unwrap-level-requires : goal.unwrap-level-requires
unwrap-level-requires g c =
    let p : Inside = view _ g.C.Chains c.self.inside in
    let d = held g (goal.at.unwrap-level-requires g c).Start p c.self.view_is in
    c.local.ensures.given.1 (omega (
      arith,
      ap (λ (v : Owners). (task_at v c.args.t).local) c.unpark.ensures.owners,
      rests_level p c.args.t d.0 d.1 d.2 d.3,
    ))

-- each level is as it was once it is not parked
kept : (g : _) (c : After-unpark g) → KeepsLevels (chains_of (view _ g.C.Chains c.self.inside))
    (record (g.C.Chains.seen c.unpark.new.self) {
      keys = (view _ g.C.Chains c.self.inside).keys;
      parked = (view _ g.C.Chains c.self.inside).parked;
    })
kept g c =
    let p : Inside = view _ g.C.Chains c.self.inside in
    levels_kept_beside (chains_of p) (g.C.Chains.seen c.unpark.new.self) p.keys (parkings_without p.parked c.args.t)
    c.unpark.ensures.kept

pub add-requires-clause-thread : goal.add-requires-clause-thread
add-requires-clause-thread g c =
    let a = goal.at.add-requires-clause-thread g c in
    let p : Inside = view _ g.C.Chains c.self.inside in
    let d = held g a.Start p c.self.view_is in
    let there = sound_in_table p _ (kept g a.After-unpark) d.0 in
    omega (arith, (rests_within p c.args.t d.0 d.1 d.2 d.3).1, d.0.placed.few, there.placed.threads)

pub add-requires-clause-off : goal.add-requires-clause-off
add-requires-clause-off g c =
    let a = goal.at.add-requires-clause-off g c in
    let p : Inside = view _ g.C.Chains c.self.inside in
    let d = held g a.Start p c.self.view_is in
    λ on. rests_off p c.args.t d.0 d.1 d.2 d.3
    (on.0, on.1, ap (has c.args.t) (sym ((kept g a.After-unpark).levels on.0 on.1)) ∙ on.2)

-- what is kept then
woken : (g : _) (c : After-add g)
    → (kernel_of (record (view _ g.C.Chains c.self.inside) {
      statuses = set c.self.inside.statuses.items c.args.t (Ready c.args.woken);
      queue = (g.C.Chains.seen c.add.new.self).queue;
      table = (g.C.Chains.seen c.add.new.self).table;
      parked = parkings_without (view _ g.C.Chains c.self.inside).parked c.args.t;
    }) ≡ kernel_after_waking c.args.t c.args.woken (kernel_of c.args.self.now))
    × IsSoundInside (record (view _ g.C.Chains c.self.inside) {
      statuses = set c.self.inside.statuses.items c.args.t (Ready c.args.woken);
      queue = (g.C.Chains.seen c.add.new.self).queue;
      table = (g.C.Chains.seen c.add.new.self).table;
      parked = parkings_without (view _ g.C.Chains c.self.inside).parked c.args.t;
    })
woken g c =
    let a = goal.at.After-add g c in
    let p : Inside = view _ g.C.Chains c.self.inside in
    let d = held g a.Start p c.self.view_is in
    let y : Chained = record (g.C.Chains.seen c.unpark.new.self) { keys = p.keys; parked = p.parked } in
    let k : KeepsLevels (chains_of p) y = kept g a.After-unpark in
    let there : Inside = moved p y k in
    let same : kernel_of there ≡ kernel_of p = kernel_moved p y k in
    let value : c.unwrap-level.result ≡ (task_at p.owners c.args.t).local
    = (rw c.unwrap-level.ensures at c.local.ensures.value)
    ∙ ap (λ (v : Owners). (task_at v c.args.t).local) c.unpark.ensures.owners in
    let e
    = woken_ends there (record there { parked = parkings_without p.parked c.args.t }) c.args.t (sound_in_table p y k d.0)
    (ap (λ (z : Kernel). has_seat z c.args.t) same ∙ d.1)
    (ap (λ (z : Kernel). is_ready (kernel_seat_at z c.args.t).status) same ∙ d.2)
    (ap (λ (z : Kernel). queued_on (kernel_seat_at z c.args.t).status) same ∙ d.3) c.args.woken
    c.unwrap-level.result (g.C.Chains.seen c.add.new.self).queue (g.C.Chains.seen c.add.new.self).table refl value
    c.add.ensures.place c.add.ensures.levels c.add.ensures.holds in
    (e.0 ∙ ap (kernel_after_waking c.args.t c.args.woken) (same ∙ ap kernel_of c.self.view_is), e.1)

pub returns-clause-after : goal.returns-clause-after
returns-clause-after g c =
    let a = goal.at.returns-clause-after g c in
    rw (
      c.get.ensures.value,
      c.add.ensures.owners,
      c.unpark.ensures.owners,
      c.add.ensures.keys,
      c.unpark.ensures.kept.keys,
      c.add.ensures.parked,
      c.unpark.ensures.kept.parked,
    ) (found_so _ _ (woken g a.After-add)).0

pub returns-clause-sound : goal.returns-clause-sound
returns-clause-sound g c =
    let a = goal.at.returns-clause-sound g c in
    rw (
      c.get.ensures.value,
      c.add.ensures.owners,
      c.unpark.ensures.owners,
      c.add.ensures.keys,
      c.unpark.ensures.kept.keys,
      c.add.ensures.parked,
      c.unpark.ensures.kept.parked,
    ) (found_so _ _ (woken g a.After-add)).1
