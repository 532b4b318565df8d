use Rattle.pif_kernel_model.specs.Tickets.{HasFirstTicketFrom}
use Rattle.pif_kernel_model.proofs.tickets.first_ticket_from.Given as goal

-- the same of the threads that were gone through
abbrev pub invariant-loop-number : goal.invariant-loop-number
invariant-loop-number g l = HasFirstTicketFrom (g.T.Tickets.tickets l.of) l.least l.number l.first
