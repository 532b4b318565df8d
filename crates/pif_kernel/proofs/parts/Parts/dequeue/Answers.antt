use Rattle.std.proofs.Common.{◌≡◌, ℕ, ◌+◌, Bool, true, false, not, List, Option, get_or, set, Some, None, is_some, refl, subst, sym, ap, ◌∙◌}
use Rattle.std.proofs.lemmas.Bool.{true≢false, false≢true}
use Rattle.pif_model.specs.declared.lines.Status.TheVariants.{Queued}
use Rattle.pif_model.specs.Graph.{has_waiter, without}
use Rattle.pif_model.specs.PiKernel.{Kernel, seat_at}
use Rattle.pif_kernel_model.specs.Owners.{Owners, count, waits_on, without_state}
use Rattle.pif_kernel_model.specs.Chained.{Chained, KeepsLevels}
use Rattle.pif_kernel_model.specs.Fields.{chains_of}
use Rattle.pif_kernel_model.specs.Inside.{Inside, IsSoundInside, kernel_of, state_key_at, arrivals_in}
use Rattle.pif_kernel_model.specs.Leaving.{IsLeft}
use Rattle.pif_kernel.specs.declared.parts.Parts.TheView.{view}
use Rattle.pif_kernel_model.proofs.StillWaits.{left_by}
use Rattle.pif_kernel_model.proofs.TableMoved.{moved, kernel_moved, sound_in_table, left_moved, levels_kept_then, levels_kept_beside}
use Rattle.pif_kernel_model.proofs.LeavingFacts.{key_there, waits_here, freed_idle, still_at, ended_at, left_with}
use Rattle.pif_kernel.proofs.parts.Parts.dequeue.Goals.{Start, After-unwrap-key, After-is_none}
use Rattle.pif_kernel.proofs.parts.Parts.dequeue.Goals as goal

-- what is known before
held : (g : _) (c : Start g) (p : Inside) → p ≡ c.args.self.now
    → IsSoundInside p × ((seat_at (kernel_of p) c.args.t).status ≡ Queued c.args.m)
held g c p is = (
  subst IsSoundInside (sym is) c.requires.sound,
  ap (λ (x : Inside). (seat_at (kernel_of x) c.args.t).status) is ∙ c.requires.queued,
)

-- the key of the mutex
key : (g : _) (c : After-unwrap-key g) → state_key_at (view _ g.C.Chains c.self.inside) c.args.m ≡ Some c.unwrap-key.result
key g c = sym c.find.ensures ∙ c.unwrap-key.ensures

pub unwrap-key-requires : goal.unwrap-key-requires
unwrap-key-requires g c =
    let p : Inside = view _ g.C.Chains c.self.inside in
    let d = held g (goal.at.unwrap-key-requires g c).Start p c.self.view_is in
    ap is_some c.find.ensures ∙ key_there p c.args.t c.args.m d.0 d.1

pub owner-owner-requires : goal.owner-owner-requires
owner-owner-requires g c =
    let a = goal.at.owner-owner-requires g c in
    let p : Inside = view _ g.C.Chains c.self.inside in
    let d = held g a.Start p c.self.view_is in
    d.0.placed.made c.args.m c.unwrap-key.result (key g a.After-unwrap-key)

pub dequeue-requires : goal.dequeue-requires
dequeue-requires g c =
    let a = goal.at.dequeue-requires g c in
    let p : Inside = view _ g.C.Chains c.self.inside in
    let d = held g a.Start p c.self.view_is in
    waits_here p c.args.t c.args.m d.0 d.1 c.unwrap-key.result
    (key g a.After-unwrap-key)

-- whether another waiter waits for the mutex
others : (g : _) (c : After-is_none g) (h : IsSoundInside (view _ g.C.Chains c.self.inside))
    → state_key_at (view _ g.C.Chains c.self.inside) c.args.m ≡ Some c.unwrap-key.result
    → waits_on (view _ g.C.Chains c.self.inside).owners c.args.t ≡ Some c.unwrap-key.result
    → (not (has_waiter (without (view _ g.C.Chains c.self.inside).arrivals c.args.t) c.args.m)) ≡ c.is_none.result
others g c h at waits =
    let p : Inside = view _ g.C.Chains c.self.inside in
    let v : Owners = (g.C.Chains.seen c.dequeue.new.self).owners in
    ap not (left_by p h c.args.m c.unwrap-key.result at c.args.t waits v
    (ap (λ (o : Owners). o.seats) c.dequeue.ensures.free) c.top.result c.top.ensures.none c.top.ensures.top
    ∙ c.is_none.ensures) ∙ not_not c.is_none.result
  where
    not_not : (b : Bool) → not (not b) ≡ b
    not_not true = refl
    not_not false = refl

-- from a test of the opposite
none_by : (b c : Bool) → not b ≡ c → c ≡ true → b ≡ false
none_by true c e t = absurd (false≢true (e ∙ t))
none_by false c e t = refl

some_by : (b c : Bool) → not b ≡ c → c ≡ false → b ≡ true
some_by true c e t = refl
some_by false c e t = absurd (true≢false (e ∙ t))

pub close-requires : goal.close-requires
close-requires g c =
    let a = goal.at.close-requires g c in
    let p : Inside = view _ g.C.Chains c.self.inside in
    let d = held g a.Start p c.self.view_is in
    let at : state_key_at p c.args.m ≡ Some c.unwrap-key.result = key g a.After-unwrap-key in
    let r = others g a.After-is_none d.0 at (waits_here p c.args.t c.args.m d.0 d.1 c.unwrap-key.result at) in
    rw c.dequeue.ensures.free (record {
      mutex = ap (λ (ks : List (Option ℕ)). get_or ks c.args.m None) c.dequeue.ensures.kept.keys ∙ at;
      state = d.0.placed.made c.args.m c.unwrap-key.result at;
      free =
          freed_idle p c.args.t c.args.m d.0 d.1 c.unwrap-key.result at
          (none_by (has_waiter (without p.arrivals c.args.t) c.args.m) c.is_none.result r c.if-is_none.true);
    })

pub returns-then-is_none : goal.returns-then-is_none
returns-then-is_none g c =
    let a = goal.at.returns-then-is_none g c in
    let p : Inside = view _ g.C.Chains c.self.inside in
    let d = held g a.Start p c.self.view_is in
    let at : state_key_at p c.args.m ≡ Some c.unwrap-key.result
    = key g a.After-unwrap-key in
    let r = others g a.After-is_none d.0 at (waits_here p c.args.t c.args.m d.0 d.1 c.unwrap-key.result at) in
    let y : Chained = g.C.Chains.seen c.dequeue.new.self in
    let w : Chained = record (g.C.Chains.seen c.close.new.self) { keys = y.keys; parked = y.parked } in
    let kept : KeepsLevels (chains_of p) w
    = levels_kept_then (chains_of p) y w c.dequeue.ensures.kept
    (levels_kept_beside y (g.C.Chains.seen c.close.new.self) (set y.keys c.args.m None) y.parked c.close.ensures.kept) in
    let there : Inside = moved p w kept in
    let v : Owners = without_state c.unwrap-key.result y.owners in
    let x : Inside
    = record there { keys = set p.keys c.args.m None; owners = v; arrivals = without p.arrivals c.args.t } in
    rw (
      c.close.ensures.ended,
      c.close.ensures.kept.keys,
      c.dequeue.ensures.kept.keys,
      c.close.ensures.kept.parked,
      c.dequeue.ensures.kept.parked,
    )
    (left_with c.args.self.now x c.args.t c.owner-owner.result (arrivals_in p.statuses v)
    (subst (λ (z : Inside). IsLeft z x c.args.t c.owner-owner.result) c.self.view_is
    (left_moved p w kept x c.args.t c.owner-owner.result
    (ended_at there x c.args.t c.args.m (sound_in_table p w kept d.0)
    (ap (λ (k : Kernel). (seat_at k c.args.t).status) (kernel_moved p w kept) ∙ d.1) c.unwrap-key.result at
    c.owner-owner.result c.owner-owner.ensures.value
    v y.owners (without p.arrivals c.args.t) refl refl
    (none_by (has_waiter (without p.arrivals c.args.t) c.args.m) c.is_none.result r c.if-is_none.true) c.dequeue.ensures.free
    refl (sym (ap (λ (o : Owners). count o + 1) c.close.ensures.ended) ∙ c.close.ensures.count)))))

pub returns-else-is_none : goal.returns-else-is_none
returns-else-is_none g c =
    let a = goal.at.returns-else-is_none g c in
    let p : Inside = view _ g.C.Chains c.self.inside in
    let d = held g a.Start p c.self.view_is in
    let at : state_key_at p c.args.m ≡ Some c.unwrap-key.result
    = key g a.After-unwrap-key in
    let r = others g a.After-is_none d.0 at (waits_here p c.args.t c.args.m d.0 d.1 c.unwrap-key.result at) in
    let y : Chained = g.C.Chains.seen c.dequeue.new.self in
    let kept : KeepsLevels (chains_of p) y = c.dequeue.ensures.kept in
    let there : Inside = moved p y kept in
    let x : Inside = record there { owners = y.owners; arrivals = without p.arrivals c.args.t } in
    rw (c.dequeue.ensures.kept.keys, c.dequeue.ensures.kept.parked)
    (left_with c.args.self.now x c.args.t c.owner-owner.result (arrivals_in p.statuses y.owners)
    (subst (λ (z : Inside). IsLeft z x c.args.t c.owner-owner.result) c.self.view_is
    (left_moved p y kept x c.args.t c.owner-owner.result
    (still_at there x c.args.t c.args.m (sound_in_table p y kept d.0)
    (ap (λ (k : Kernel). (seat_at k c.args.t).status) (kernel_moved p y kept) ∙ d.1) c.unwrap-key.result at
    c.owner-owner.result c.owner-owner.ensures.value
    y.owners (without p.arrivals c.args.t) refl refl
    (some_by (has_waiter (without p.arrivals c.args.t) c.args.m) c.is_none.result r c.if-is_none.false) c.dequeue.ensures.free))))
