use Rattle.std.proofs.Common.{◌≡◌, ℕ, ◌+◌, Bool, true, false, not, List, Option, None, get_or, set, refl, subst, sym, ap, ◌∙◌, arith}
use Rattle.std.proofs.lemmas.Bool.{true≢false, false≢true}
use Rattle.pif_model.specs.declared.lines.Status.TheVariants.{Ready}
use Rattle.pif_model.specs.declared.lines.Woken.TheVariants.{Owns}
use Rattle.pif_model.specs.Graph.{has_waiter, without}
use Rattle.pif_model.specs.PiKernel.{kernel_after_hand_over, next_in}
use Rattle.pif_kernel_model.specs.Owners.{Owners, count, without_state}
use Rattle.pif_kernel_model.specs.Chained.{Chained, KeepsLevels}
use Rattle.pif_kernel_model.specs.Fields.{chains_of}
use Rattle.pif_kernel_model.specs.Inside.{Inside, kernel_of}
use Rattle.pif_kernel.specs.declared.parts.Parts.TheView.{view}
use Rattle.pif_kernel_model.proofs.Found.{found_so}
use Rattle.pif_kernel_model.proofs.StillWaits.{left_by}
use Rattle.pif_kernel_model.proofs.TableMoved.{moved, kernel_moved, handable_moved, levels_kept_then, levels_kept_beside}
use Rattle.pif_kernel_model.proofs.TopLaws.{top_is_next, some_waiter}
use Rattle.pif_kernel_model.proofs.WalkSound.{IsWalkable, on_levels, on_running, on_local, ended}
use Rattle.pif_kernel_model.proofs.HandOverFacts.{IsHandable, IsHandedOn}
use Rattle.pif_kernel_model.proofs.HandOverSound.{given_state, given_idle, ended_given, still_given, handing, next_added, local_low, off, seated, before_walk}
use Rattle.pif_kernel.proofs.parts.Parts.hand_over.Goals.{Start, After-is_none, Joined-is_none, After-add, then-is_none, else-is_none}
use Rattle.pif_kernel.proofs.parts.Parts.hand_over.Goals as goal

-- what is known before the mutex is handed over
hands : (g : _) (c : Start g) (p : Inside) → p ≡ c.args.self.now → IsHandable p c.args.holder c.args.m c.args.key
hands g c p is =
    subst (λ (x : Inside). IsHandable x c.args.holder c.args.m c.args.key) (sym is)
    (record { sound = c.requires.sound; at = c.requires.key; owner = c.requires.owner; idle = c.requires.idle })

-- whether another waiter waits for the mutex
others : (g : _) (c : After-is_none g) → IsHandable (view _ g.C.Chains c.self.inside) c.args.holder c.args.m c.args.key
    → (not (has_waiter (without (view _ g.C.Chains c.self.inside).arrivals c.hand_over-next.result) c.args.m))
    ≡ c.is_none.result
others g c d =
    let p : Inside = view _ g.C.Chains c.self.inside in
    let v : Owners = (g.C.Chains.seen c.hand_over-next.new.self).owners in
    ap not (left_by p d.sound c.args.m c.args.key d.at c.hand_over-next.result c.hand_over-next.ensures.top.waits v
    (ap (λ (o : Owners). o.seats) c.hand_over-next.ensures.handed) c.top.result c.top.ensures.none c.top.ensures.top
    ∙ c.is_none.ensures) ∙ not_not c.is_none.result
  where
    not_not : (b : Bool) → not (not b) ≡ b
    not_not true = refl
    not_not false = refl

-- from a test of the opposite
none_by : (b c : Bool) → not b ≡ c → c ≡ true → b ≡ false
none_by true c e t = absurd (false≢true (e ∙ t))
none_by false c e t = refl

some_by : (b c : Bool) → not b ≡ c → c ≡ false → b ≡ true
some_by true c e t = refl
some_by false c e t = absurd (true≢false (e ∙ t))

-- what is kept once it is handed over, with the other waiters
abbrev after : (g : _) (c : Joined-is_none g) → Inside
after g c =
    record (view _ g.C.Chains c.if-is_none.self-inside) {
      arrivals = without (view _ g.C.Chains c.self.inside).arrivals c.hand_over-next.result;
    }

-- what is known then
handed : (g : _) (c : Joined-is_none g) → IsHandable (view _ g.C.Chains c.self.inside) c.args.holder c.args.m c.args.key
    → (not (has_waiter (without (view _ g.C.Chains c.self.inside).arrivals c.hand_over-next.result) c.args.m))
    ≡ c.is_none.result
    → IsHandedOn c.args.self.now (view _ g.C.Chains c.self.inside)
    (after g c) c.args.holder c.args.m c.args.key c.hand_over-next.result
handed g c d r =
    let p : Inside = view _ g.C.Chains c.self.inside in
    let x : Inside = after g c in
    let y : Chained = g.C.Chains.seen c.hand_over-next.new.self in
    let kept : KeepsLevels (chains_of p) y = c.hand_over-next.ensures.kept in
    let u : ℕ = c.hand_over-next.result in
    let rest : List (ℕ × ℕ) = without p.arrivals u in
    let top = c.hand_over-next.ensures.top in
    elim c.if-is_none.branch [
      | then-is_none w ↦ (let z : Chained = g.C.Chains.seen w.close.new.self in
          let closed : Chained = record z { keys = y.keys; parked = y.parked } in
          let over : KeepsLevels (chains_of p) closed
          = levels_kept_then (chains_of p) y closed kept
          (levels_kept_beside y z (set y.keys c.args.m None) y.parked w.close.ensures.kept) in
          let there : Inside = moved p closed over in
          let able : IsHandable there c.args.holder c.args.m c.args.key = handable_moved p closed over _ _ _ d in
          handing there c.args.holder c.args.m c.args.key u able top c.args.self.now x
          (kernel_moved p closed over ∙ ap kernel_of c.self.view_is)
          (ended_given there c.args.holder c.args.m c.args.key u able top x y.owners (without_state c.args.key y.owners)
          rest (has_waiter rest c.args.m)
          (ap (λ q. record (view _ g.C.Chains q) { arrivals = rest }) w.self-inside-is
          ∙ (λ i. record p {
            keys = (w.close.ensures.kept.keys ∙ ap (λ (ks : List (Option ℕ)). set ks c.args.m None) kept.keys) i;
            owners = w.close.ensures.ended i;
            queue = z.queue;
            table = z.table;
            arrivals = rest;
            parked = (w.close.ensures.kept.parked ∙ kept.parked) i;
          }))
          refl refl (none_by (has_waiter rest c.args.m) c.is_none.result r w.if-is_none.true)
          c.hand_over-next.ensures.handed refl
          (sym (ap (λ (o : Owners). count o + 1) w.close.ensures.ended) ∙ w.close.ensures.count)))
      | else-is_none w ↦ (let there : Inside = moved p y kept in
          let able : IsHandable there c.args.holder c.args.m c.args.key = handable_moved p y kept _ _ _ d in
          handing there c.args.holder c.args.m c.args.key u able top c.args.self.now x
          (kernel_moved p y kept ∙ ap kernel_of c.self.view_is)
          (still_given there c.args.holder c.args.m c.args.key u able top x y.owners rest (has_waiter rest c.args.m)
          (ap (λ q. record (view _ g.C.Chains q) { arrivals = rest }) w.self-inside-is
          ∙ (λ i. record p {
            keys = kept.keys i;
            owners = y.owners;
            queue = y.queue;
            table = y.table;
            arrivals = rest;
            parked = kept.parked i;
          }))
          refl refl (some_by (has_waiter rest c.args.m) c.is_none.result r w.if-is_none.false)
          c.hand_over-next.ensures.handed))
    ]

pub hand_over-next-requires : goal.hand_over-next-requires
hand_over-next-requires g c =
    let d = hands g (goal.at.hand_over-next-requires g c).Start _ c.self.view_is in
    record { waiter = some_waiter (view _ g.C.Chains c.self.inside) d.sound c.args.m c.args.key d.at }

pub close-requires : goal.close-requires
close-requires g c =
    let a = goal.at.close-requires g c in
    let p : Inside = view _ g.C.Chains c.self.inside in
    let d = hands g a.Start _ c.self.view_is in
    let r = others g a.After-is_none d in
    rw c.hand_over-next.ensures.handed (record {
      mutex = ap (λ (ks : List (Option ℕ)). get_or ks c.args.m None) c.hand_over-next.ensures.kept.keys ∙ d.at;
      state = given_state p c.args.holder c.args.m c.args.key c.hand_over-next.result d c.hand_over-next.ensures.top;
      free =
          given_idle p c.args.holder c.args.m c.args.key c.hand_over-next.result d c.hand_over-next.ensures.top
          (none_by (has_waiter (without p.arrivals c.hand_over-next.result) c.args.m) c.is_none.result r
          c.if-is_none.true);
    })

pub index_mut-requires : goal.index_mut-requires
index_mut-requires g c =
    let a = goal.at.index_mut-requires g c in
    let d = hands g a.Start _ c.self.view_is in
    let i = handed g a.Joined-is_none d (others g a.After-is_none d) in
    omega (arith, next_added _ _ _ _ _ i.hands i.top, c.get.ensures.value)

pub unwrap-level-requires : goal.unwrap-level-requires
unwrap-level-requires g c =
    let a = goal.at.unwrap-level-requires g c in
    let d = hands g a.Start _ c.self.view_is in
    let i = handed g a.Joined-is_none d (others g a.After-is_none d) in
    c.local.ensures.given.1 (local_low _ _ _ _ _ _ _ i)

pub add-requires-clause-thread : goal.add-requires-clause-thread
add-requires-clause-thread g c =
    let a = goal.at.add-requires-clause-thread g c in
    seated _ _ _ _ _ _ _ (handed g a.Joined-is_none (hands g a.Start _ c.self.view_is)
    (others g a.After-is_none (hands g a.Start _ c.self.view_is)))

pub add-requires-clause-off : goal.add-requires-clause-off
add-requires-clause-off g c =
    let a = goal.at.add-requires-clause-off g c in
    off _ _ _ _ _ _ _ (handed g a.Joined-is_none (hands g a.Start _ c.self.view_is)
    (others g a.After-is_none (hands g a.Start _ c.self.view_is)))

-- what is kept before the walk
added : (g : _) (c : After-add g)
    → IsHandedOn c.args.self.now (view _ g.C.Chains c.self.inside)
    (after g (goal.at.After-add g c).Joined-is_none) c.args.holder c.args.m c.args.key c.hand_over-next.result
    → IsWalkable (record (after g (goal.at.After-add g c).Joined-is_none) {
      statuses = set c.if-is_none.self-inside.statuses.items
          c.hand_over-next.result (Ready Owns);
      owners = (g.C.Chains.seen c.add.new.self).owners;
      queue = (g.C.Chains.seen c.add.new.self).queue;
      table = (g.C.Chains.seen c.add.new.self).table;
    })
    c.args.holder (kernel_after_hand_over c.hand_over-next.result c.args.m (kernel_of c.args.self.now))
added g c i =
    let value = rw c.unwrap-level.ensures at c.local.ensures.value in
    rw c.add.ensures.owners
    (before_walk _ _ _ _ _ _ _ i c.unwrap-level.result (g.C.Chains.seen c.add.new.self).queue (g.C.Chains.seen c.add.new.self).table value c.add.ensures.place
    c.add.ensures.levels c.add.ensures.holds)

pub walk-requires : goal.walk-requires
walk-requires g c =
    let a = goal.at.walk-requires g c in
    let w = added g a.After-add (handed g a.Joined-is_none (hands g a.Start _ c.self.view_is)
    (others g a.After-is_none (hands g a.Start _ c.self.view_is))) in
    record {
      admitted = w.admitted;
      repaired = w.repaired;
      ready = on_levels _ _ _ w;
      running =
          on_running _ _ _ w;
      level = on_local _ _ _ w;
    }

pub returns : goal.returns
returns g c =
    let a = goal.at.returns g c in
    let d = hands g a.Start _ c.self.view_is in
    let w = added g a.After-add (handed g a.Joined-is_none d (others g a.After-is_none d)) in
    let e
    = ended _ _ _ w (g.C.Chains.seen c.walk.new.self).owners (g.C.Chains.seen c.walk.new.self).queue (g.C.Chains.seen c.walk.new.self).table c.walk.ensures.repaired c.walk.ensures.levels
    c.walk.ensures.place c.walk.ensures.holds in
    let next
    = top_is_next (view _ g.C.Chains c.self.inside) d.sound c.args.m c.args.key c.hand_over-next.result d.at
    c.hand_over-next.ensures.top in
    let f = found_so _ _ e in
    record {
      next = next
          ∙ ap (λ (x : Inside). next_in (kernel_of x) c.args.m) c.self.view_is;
      after = rw (
        c.get.ensures.value,
        c.walk.ensures.keys,
        c.add.ensures.keys,
        c.walk.ensures.parked,
        c.add.ensures.parked,
      ) f.0;
      sound = rw (
        c.get.ensures.value,
        c.walk.ensures.keys,
        c.add.ensures.keys,
        c.walk.ensures.parked,
        c.add.ensures.parked,
      ) f.1;
    }
