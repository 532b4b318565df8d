use Rattle.std.proofs.Common.{◌≡◌, ◌≤◌, ℕ, length, subst, sym, ◌∙◌, ap, arith, rules}
use Rattle.pif_types.specs.Bounds.{Bounds}
use Rattle.pif_nodes_model.specs.Levels.{IsQueued, IsLevel, level_of, level_after_add}
use Rattle.pif_model.specs.PiKernel.{kernel_after_add}
use Rattle.pif_kernel_model.specs.Chained.{Chained}
use Rattle.pif_kernel_model.specs.Inside.{Inside, IsSoundInside, kernel_of}
use Rattle.pif_kernel.specs.declared.parts.Parts.TheView.{view}
use Rattle.pif_kernel_model.proofs.Found.{found_so}
use Rattle.pif_kernel_model.proofs.Seats.{seats_length, limits_seen}
use Rattle.pif_kernel_model.proofs.Standing.{fits, off_queue, unadded_off}
use Rattle.pif_kernel_model.proofs.ParkingFacts.{unadded_unnamed}
use Rattle.pif_kernel_model.proofs.AddSound.{kernel_after, sound_after}
use Rattle.pif_kernel.proofs.parts.Parts.add.Goals as goal

-- there is room for one more
room : (p : Inside) → IsSoundInside p → length (kernel_of p).seats ≤ (kernel_of p).limits.threads
    → length p.statuses ≤ p.limits.threads
room p h few = omega (arith, few, seats_length p (fits p h), ap (λ (l : Bounds). l.threads) (limits_seen p))

pub push_within-requires : goal.push_within-requires
push_within-requires g c =
    let p : Inside = view _ g.C.Chains c.self.inside in
    let h : IsSoundInside p = subst IsSoundInside (sym c.self.view_is) c.requires.sound in
    let few : length p.statuses ≤ p.limits.threads
    = room p h (subst (λ (x : Inside). length (kernel_of x).seats ≤ (kernel_of x).limits.threads)
    (sym c.self.view_is) c.requires.room) in
    omega (arith, few, c.self.invariant)

pub admit-requires-clause-row : goal.admit-requires-clause-row
admit-requires-clause-row g c =
    let p : Inside = view _ g.C.Chains c.self.inside in
    let h : IsSoundInside p = subst IsSoundInside (sym c.self.view_is) c.requires.sound in
    let few : length p.statuses ≤ p.limits.threads
    = room p h (subst (λ (x : Inside). length (kernel_of x).seats ≤ (kernel_of x).limits.threads)
    (sym c.self.view_is) c.requires.room) in
    let value : c.unwrap-t.result ≡ c.len.result = rw c.unwrap-t.ensures at c.new.ensures.value in
    omega (arith, value, c.len.ensures, few, h.placed.rows)

pub admit-requires-clause-unparked : goal.admit-requires-clause-unparked
admit-requires-clause-unparked g c =
    let p : Inside = view _ g.C.Chains c.self.inside in
    let h : IsSoundInside p = subst IsSoundInside (sym c.self.view_is) c.requires.sound in
    let value : c.unwrap-t.result ≡ c.len.result = rw c.unwrap-t.ensures at c.new.ensures.value in
    unadded_unnamed p h c.unwrap-t.result (omega (arith, value, c.len.ensures))

pub add-requires-clause-thread : goal.add-requires-clause-thread
add-requires-clause-thread g c =
    let p : Inside = view _ g.C.Chains c.self.inside in
    let h : IsSoundInside p = subst IsSoundInside (sym c.self.view_is) c.requires.sound in
    let few : length p.statuses ≤ p.limits.threads
    = room p h (subst (λ (x : Inside). length (kernel_of x).seats ≤ (kernel_of x).limits.threads)
    (sym c.self.view_is) c.requires.room) in
    let value : c.unwrap-t.result ≡ c.len.result = rw c.unwrap-t.ensures at c.new.ensures.value in
    omega (arith, value, c.len.ensures, few, h.placed.threads, ap (λ (x : Chained). x.queue.threads) c.admit.ensures)

pub add-requires-clause-off : goal.add-requires-clause-off
add-requires-clause-off g c =
    let p : Inside = view _ g.C.Chains c.self.inside in
    let h : IsSoundInside p = subst IsSoundInside (sym c.self.view_is) c.requires.sound in
    let few : length p.statuses ≤ p.limits.threads
    = room p h (subst (λ (x : Inside). length (kernel_of x).seats ≤ (kernel_of x).limits.threads)
    (sym c.self.view_is) c.requires.room) in
    let value : c.unwrap-t.result ≡ c.len.result = rw c.unwrap-t.ensures at c.new.ensures.value in
    λ on. off_queue p c.unwrap-t.result (unadded_off p h c.unwrap-t.result (omega (arith, value, c.len.ensures)))
    (subst (λ (x : Chained). IsQueued x.queue x.table c.unwrap-t.result) c.admit.ensures on)

pub returns : goal.returns
returns g c =
    let p : Inside = view _ g.C.Chains c.self.inside in
    let h : IsSoundInside p = subst IsSoundInside (sym c.self.view_is) c.requires.sound in
    let few : length p.statuses ≤ p.limits.threads
    = room p h (subst (λ (x : Inside). length (kernel_of x).seats ≤ (kernel_of x).limits.threads)
    (sym c.self.view_is) c.requires.room) in
    let value : c.unwrap-t.result ≡ c.len.result = rw c.unwrap-t.ensures at c.new.ensures.value in
    let t : c.unwrap-t.result ≡ length p.statuses = omega (arith, value, c.len.ensures) in
    let low : 1 ≤ c.args.prio = search rules in
    let high : c.args.prio ≤ 99 = search rules in
    let x : Chained = g.C.Chains.seen c.add.new.self in
    let admitted = c.admit.ensures in
    let place : x.queue ≡ record p.queue { mask = x.queue.mask } =
    c.add.ensures.place ∙ ap (λ (y : Chained). record y.queue { mask = x.queue.mask }) admitted in
    let levels : (r : ℕ) → IsLevel r → level_of x.queue x.table r
    ≡ level_after_add c.unwrap-t.result c.args.prio r (level_of p.queue p.table r) =
    λ r lr. c.add.ensures.levels r lr
    ∙ ap (λ (y : Chained). level_after_add c.unwrap-t.result c.args.prio r (level_of y.queue y.table r)) admitted in
    let owners = c.add.ensures.owners ∙ ap (λ (y : Chained). y.owners) admitted in
    let keys = c.add.ensures.keys ∙ ap (λ (y : Chained). y.keys) admitted in
    let parked = c.add.ensures.parked ∙ ap (λ (y : Chained). y.parked) admitted in
    let e = found_so _ (kernel_after_add c.args.prio (kernel_of c.args.self.now)) (
      kernel_after p x.queue x.table c.unwrap-t.result c.args.prio h t few low high place levels c.add.ensures.holds
          ∙ ap (λ (x : Inside). kernel_after_add c.args.prio (kernel_of x)) c.self.view_is,
      sound_after p x.queue x.table c.unwrap-t.result c.args.prio h t few low high place levels c.add.ensures.holds,
    ) in
    record {
      number = t ∙ sym (seats_length p (fits p h)) ∙ ap (λ (x : Inside). length (kernel_of x).seats) c.self.view_is;
      after = rw (c.push_within.ensures.items, owners, keys, parked) e.0;
      sound = rw (c.push_within.ensures.items, owners, keys, parked) e.1;
    }
