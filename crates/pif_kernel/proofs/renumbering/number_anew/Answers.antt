use Rattle.std.proofs.Common.{◌≡◌, ℕ, ◌+◌, ◌-◌, ◌<◌, ◌≤◌, List, length, Some, None, subst, sym, ap, ◌∙◌, arith}
use Rattle.pif_kernel_model.specs.Owners.{Owners, KeepsOrder, with_ticket}
use Rattle.pif_kernel_model.specs.Inside.{arrivals_in, ticket_of}
use Rattle.pif_kernel_model.specs.Tickets.{IsRenumbered, HasFirstTicketFrom}
use Rattle.pif_kernel_model.proofs.TicketLaws.{renumbered_more, named_at}
use Rattle.pif_kernel_model.proofs.TicketTurns.{turn_none, turn_some}
use Rattle.pif_kernel_model.proofs.TableMoved.{levels_kept_then}
use Rattle.pif_kernel.proofs.renumbering.number_anew.Goals as goal

pub set_ticket-requires-clause-order : goal.set_ticket-requires-clause-order
set_ticket-requires-clause-order g c =
    let v : Owners = (g.C.Chains.seen c.args.chains.now).owners in
    let ws : List (ℕ × ℕ) = arrivals_in c.args.statuses.now v in
    let now : Owners = (g.C.Chains.seen c.loop-t.chains).owners in
    let i : ℕ = c.loop-t.ticket - 1 in
    let at : c.loop-t.ticket ≡ i + 1 = omega (arith, c.loop-t.invariant.least) in
    let most : i ≤ length ws = omega (arith, c.loop-t.invariant.most) in
    let turn = turn_some v now (length c.args.statuses.now) i ws c.requires.numbered c.requires.waiters
    c.loop-t.invariant.tags most c.in-Some.t (0, 0)
    (subst (λ (n : ℕ). HasFirstTicketFrom (ticket_of now) n (length c.args.statuses.now) (Some c.in-Some.t)) at c.in-Some.ensures) in
    subst (λ (n : ℕ). KeepsOrder now c.in-Some.t n) (sym at)
    (c.requires.waiters.keeps now i c.in-Some.t (0, 0) c.loop-t.invariant.tags turn.0 turn.1)

pub loop-t-smaller : goal.loop-t-smaller
loop-t-smaller g c =
    let v : Owners = (g.C.Chains.seen c.args.chains.now).owners in
    let ws : List (ℕ × ℕ) = arrivals_in c.args.statuses.now v in
    let now : Owners = (g.C.Chains.seen c.loop-t.chains).owners in
    let i : ℕ = c.loop-t.ticket - 1 in
    let at : c.loop-t.ticket ≡ i + 1 = omega (arith, c.loop-t.invariant.least) in
    let most : i ≤ length ws = omega (arith, c.loop-t.invariant.most) in
    let turn = turn_some v now (length c.args.statuses.now) i ws c.requires.numbered c.requires.waiters
    c.loop-t.invariant.tags most c.in-Some.t (0, 0)
    (subst (λ (n : ℕ). HasFirstTicketFrom (ticket_of now) n (length c.args.statuses.now) (Some c.in-Some.t)) at c.in-Some.ensures) in
    let less : length ws + 1 - (c.loop-t.ticket + 1) < length ws + 1 - c.loop-t.ticket = omega (arith, turn.0, at) in
    less

pub loop-t-preserved : goal.loop-t-preserved
loop-t-preserved g c =
    let v : Owners = (g.C.Chains.seen c.args.chains.now).owners in
    let ws : List (ℕ × ℕ) = arrivals_in c.args.statuses.now v in
    let now : Owners = (g.C.Chains.seen c.loop-t.chains).owners in
    let i : ℕ = c.loop-t.ticket - 1 in
    let at : c.loop-t.ticket ≡ i + 1 = omega (arith, c.loop-t.invariant.least) in
    let most : i ≤ length ws = omega (arith, c.loop-t.invariant.most) in
    let turn = turn_some v now (length c.args.statuses.now) i ws c.requires.numbered c.requires.waiters
    c.loop-t.invariant.tags most c.in-Some.t (0, 0)
    (subst (λ (n : ℕ). HasFirstTicketFrom (ticket_of now) n (length c.args.statuses.now) (Some c.in-Some.t)) at c.in-Some.ensures) in
    let is : (g.C.Chains.seen c.set_ticket.new.self).owners ≡ with_ticket c.in-Some.t (i + 1) now
    = c.set_ticket.ensures.changed ∙ ap (λ (n : ℕ). with_ticket c.in-Some.t n now) at in
    let count : i + 1 ≡ c.loop-t.ticket + 1 - 1 = omega (arith, at) in
    record {
      least = omega arith;
      most = omega (arith, turn.0, at);
      tags =
          subst (λ (n : ℕ). IsRenumbered v (g.C.Chains.seen c.set_ticket.new.self).owners ws n) count
          (subst (λ (o : Owners). IsRenumbered v o ws (i + 1)) (sym is)
          (renumbered_more v now ws i c.in-Some.t (0, 0) c.loop-t.invariant.tags c.requires.waiters.once turn.0 turn.1
          (c.requires.waiters.rows c.in-Some.t (named_at ws i c.in-Some.t (0, 0) turn.0 turn.1))));
      kept = levels_kept_then _ _ _ c.loop-t.invariant.kept c.set_ticket.ensures.kept;
    }

pub returns-clause-next : goal.returns-clause-next
returns-clause-next g c =
    let v : Owners = (g.C.Chains.seen c.args.chains.now).owners in
    let ws : List (ℕ × ℕ) = arrivals_in c.args.statuses.now v in
    let now : Owners = (g.C.Chains.seen c.loop-t.chains).owners in
    let i : ℕ = c.loop-t.ticket - 1 in
    let at : c.loop-t.ticket ≡ i + 1 = omega (arith, c.loop-t.invariant.least) in
    let most : i ≤ length ws = omega (arith, c.loop-t.invariant.most) in
    let all : i ≡ length ws = turn_none v now (length c.args.statuses.now) i ws c.requires.numbered c.requires.waiters
    c.loop-t.invariant.tags most
    (subst (λ (n : ℕ). HasFirstTicketFrom (ticket_of now) n (length c.args.statuses.now) None) at c.in_default.ensures) in
    at ∙ ap (λ (n : ℕ). n + 1) all

pub returns-clause-tags : goal.returns-clause-tags
returns-clause-tags g c =
    let v : Owners = (g.C.Chains.seen c.args.chains.now).owners in
    let ws : List (ℕ × ℕ) = arrivals_in c.args.statuses.now v in
    let now : Owners = (g.C.Chains.seen c.loop-t.chains).owners in
    let i : ℕ = c.loop-t.ticket - 1 in
    let at : c.loop-t.ticket ≡ i + 1 = omega (arith, c.loop-t.invariant.least) in
    let most : i ≤ length ws = omega (arith, c.loop-t.invariant.most) in
    let all : i ≡ length ws = turn_none v now (length c.args.statuses.now) i ws c.requires.numbered c.requires.waiters
    c.loop-t.invariant.tags most
    (subst (λ (n : ℕ). HasFirstTicketFrom (ticket_of now) n (length c.args.statuses.now) None) at c.in_default.ensures) in
    subst (λ (n : ℕ). IsRenumbered v now ws n) all c.loop-t.invariant.tags
