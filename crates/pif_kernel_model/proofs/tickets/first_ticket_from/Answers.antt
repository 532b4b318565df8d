use Rattle.std.proofs.Common.{◌≡◌, ◌+◌, if◌then◌else◌, Option, Some, sym, ap, subst, ◌∙◌, ℕ, arith}
use Rattle.pif_kernel_model.specs.Tickets.{HasFirstTicketFrom, has_sooner_ticket}
use Rattle.pif_kernel_model.proofs.FirstTickets.{first-start, first-more}
use Rattle.pif_kernel_model.proofs.tickets.first_ticket_from.Goals as goal

pub loop-number-init : goal.loop-number-init
loop-number-init g c = first-start (g.T.Tickets.tickets c.args.of.now) c.args.least

pub loop-number-preserved : goal.loop-number-preserved
loop-number-preserved g c =
    let f = g.T.Tickets.tickets c.args.of.now in
    let same : c.unwrap.result ≡ c.loop-number.number = rw c.unwrap.ensures at c.new.ensures.value in
    subst (λ (o : Option ℕ). HasFirstTicketFrom f c.args.least (c.loop-number.number + 1) o)
    (sym (c.sooner-first.ensures
    ∙ ap (λ (n : ℕ). if has_sooner_ticket f c.args.least c.loop-number.first n then Some n else c.loop-number.first) same))
    (first-more f c.args.least c.loop-number.number c.loop-number.first c.loop-number.auto.number c.loop-number.invariant)

pub returns : goal.returns
returns g c =
    let f = g.T.Tickets.tickets c.args.of.now in
    let all : c.loop-number.number ≡ c.args.count
    = omega (arith, c.loop-number-test.false, c.loop-number.auto.number-end, c.requires.some) in
    subst (λ (n : ℕ). HasFirstTicketFrom f c.args.least n c.loop-number.first) all c.loop-number.invariant
