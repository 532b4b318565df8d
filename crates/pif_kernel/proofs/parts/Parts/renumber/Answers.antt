use Rattle.std.proofs.Common.{◌≡◌, ◌+◌, List, length, refl, subst, sym, ap, ◌∙◌, arith}
use Rattle.pif_model.specs.declared.lines.Status.{Status}
use Rattle.pif_kernel_model.specs.Owners.{Owners}
use Rattle.pif_kernel_model.specs.Chained.{Chained}
use Rattle.pif_kernel_model.specs.Inside.{Inside, IsSoundInside, kernel_of, arrivals_in}
use Rattle.pif_kernel_model.specs.Tickets.{IsRenumbered}
use Rattle.pif_kernel.specs.declared.parts.Parts.TheView.{view}
use Rattle.pif_kernel_model.proofs.Found.{found_so, renewed}
use Rattle.pif_kernel_model.proofs.RenumberSound.{renumberable, kernel_after, sound_after}
use Rattle.pif_kernel_model.proofs.TableMoved.{moved, kernel_moved, sound_in_table}
use Rattle.pif_kernel_model.proofs.TicketTurns.{numbered}
use Rattle.pif_kernel.proofs.parts.Parts.renumber.Goals.{After-number_anew-ticket}
use Rattle.pif_kernel.proofs.parts.Parts.renumber.Goals as goal

pub number_anew-ticket-requires : goal.number_anew-ticket-requires
number_anew-ticket-requires g c =
    let p : Inside = view _ g.C.Chains c.self.inside in
    let h : IsSoundInside p = subst IsSoundInside (sym c.self.view_is) c.requires.sound in
    record {
      holds = h.placed.holds;
      waiters = rw c.deref.ensures.value (renumberable p h);
      numbered = rw c.deref.ensures.value (numbered p h);
    }

-- what is kept then
anew : (g : _) (c : After-number_anew-ticket g)
    → (kernel_of (record (view _ g.C.Chains c.self.inside) {
      owners = (g.C.Chains.seen c.number_anew-ticket.new.chains).owners;
      queue = (g.C.Chains.seen c.number_anew-ticket.new.chains).queue;
      table = (g.C.Chains.seen c.number_anew-ticket.new.chains).table;
      next = c.number_anew-ticket.result;
    }) ≡ kernel_of c.args.self.now)
    × IsSoundInside (record (view _ g.C.Chains c.self.inside) {
      owners = (g.C.Chains.seen c.number_anew-ticket.new.chains).owners;
      queue = (g.C.Chains.seen c.number_anew-ticket.new.chains).queue;
      table = (g.C.Chains.seen c.number_anew-ticket.new.chains).table;
      next = c.number_anew-ticket.result;
    })
anew g c =
    let p : Inside = view _ g.C.Chains c.self.inside in
    let h : IsSoundInside p = subst IsSoundInside (sym c.self.view_is) c.requires.sound in
    let x : Chained = g.C.Chains.seen c.number_anew-ticket.new.chains in
    let there = sound_in_table p x c.number_anew-ticket.ensures.kept h in
    let tags : IsRenumbered p.owners x.owners p.arrivals (length p.arrivals)
    = subst (λ (xs : List Status). IsRenumbered p.owners x.owners (arrivals_in xs p.owners)
    (length (arrivals_in xs p.owners))) c.deref.ensures.value c.number_anew-ticket.ensures.tags in
    let count : c.number_anew-ticket.result ≡ 1 + length p.arrivals
    = omega (
      arith,
      c.number_anew-ticket.ensures.next,
      ap (λ (xs : List Status). length (arrivals_in xs p.owners)) c.deref.ensures.value,
    ) in (
      kernel_after (moved p x c.number_anew-ticket.ensures.kept) x.owners (length p.arrivals) there tags
          c.number_anew-ticket.result refl count
          ∙ kernel_moved p x c.number_anew-ticket.ensures.kept ∙ ap kernel_of c.self.view_is,
      sound_after (moved p x c.number_anew-ticket.ensures.kept) x.owners (length p.arrivals) there tags
          c.number_anew-ticket.result refl count,
    )

pub returns-clause-same : goal.returns-clause-same
returns-clause-same g c =
    rw (c.number_anew-ticket.ensures.kept.keys, c.number_anew-ticket.ensures.kept.parked)
    (found_so _ _ (anew g (goal.at.returns-clause-same g c).After-number_anew-ticket)).0

pub returns-clause-sound : goal.returns-clause-sound
returns-clause-sound g c =
    rw (c.number_anew-ticket.ensures.kept.keys, c.number_anew-ticket.ensures.kept.parked)
    (found_so _ _ (anew g (goal.at.returns-clause-sound g c).After-number_anew-ticket)).1

pub returns-clause-next : goal.returns-clause-next
returns-clause-next g c =
    let v : Owners = (g.C.Chains.seen c.self.inside.chains).owners in
    c.number_anew-ticket.ensures.next
    ∙ ap (λ (xs : List Status). length (arrivals_in xs v) + 1) c.deref.ensures.value
    ∙ ap (λ (x : Inside). length x.arrivals + 1) c.self.view_is

pub returns-clause-frame : goal.returns-clause-frame
returns-clause-frame g c =
    let x : Chained = g.C.Chains.seen c.number_anew-ticket.new.chains in
    rw (c.number_anew-ticket.ensures.kept.keys, c.number_anew-ticket.ensures.kept.parked)
    (renewed _ (anew g (goal.at.returns-clause-frame g c).After-number_anew-ticket).1
    ∙ (λ i. record (c.self.view_is i) {
      owners = x.owners;
      queue = (c.number_anew-ticket.ensures.kept.queue ∙ ap (λ (p : Inside). p.queue) c.self.view_is) i;
      table = x.table;
      next = c.number_anew-ticket.result;
    }))
