-- A whole call: it ends, and standing goes along.
use Rattle.std.proofs.Common.{◌≡◌, sym, ap, ◌∙◌}
use Rattle.pif_model.specs.declared.events.Event.TheVariants.{Begin}
use Rattle.pif_model.specs.Lines.{Outcome, goes_on}
use Rattle.pif_model_simulation.proofs.Bound.{ends_within_24}
use Rattle.pif_model_simulation.proofs.CallLemmas.{call_refused}
use Rattle.pif_model_simulation.proofs.StandingLemmas.{call_stands}
use Rattle.pif_core.proofs.Turns.{event_refused, call_goes}
use Rattle.pif_core.proofs.cores.Core.call.Goals as goal

pub returns-in-Some : goal.returns-in-Some
returns-in-Some c =
    let one = event_refused (Begin c.args.thread c.args.request) c.args.self.now c.in-Some.refusal
    (sym c.begin_refusal.ensures ∙ c.in-Some.is) in
    let whole = call_refused c.args.thread c.args.request c.args.self.now c.in-Some.refusal
    (ap (λ (o : Outcome). o.seen) one) ∙ one in
    let after = sym (ap (λ (o : Outcome). o.after) whole) in
    record {
      seen = sym (ap (λ (o : Outcome). o.seen) whole);
      after = after;
      ends = λ e. absurd cc;
      stands = call_stands c.args.self.now c.args.self.now c.args.thread c.args.request after;
    }

pub returns-in-None : goal.returns-in-None
returns-in-None c =
    let same = ap (goes_on 23 c.args.thread) c.begin.ensures.after
    ∙ sym (call_goes c.args.thread c.args.request c.args.self.now (sym c.begin_refusal.ensures ∙ c.in-None.is)) in
    let after = c.go_through.ensures.after ∙ ap (λ (o : Outcome). o.after) same in
    record {
      seen = c.go_through.ensures.seen ∙ ap (λ (o : Outcome). o.seen) same;
      after = after;
      ends = λ e. ends_within_24 c.args.thread c.begin.new.self (sym c.go_through.ensures.seen ∙ e);
      stands = call_stands c.args.self.now c.go_through.new.self c.args.thread c.args.request after;
    }
