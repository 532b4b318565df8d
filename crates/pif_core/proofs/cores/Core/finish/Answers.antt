-- A thread goes on: it is refused at once or goes through its call, which ends, and standing goes along.
use Rattle.std.proofs.Common.{sym, ap, ◌∙◌}
use Rattle.pif_model.specs.Lines.{Outcome}
use Rattle.pif_model_simulation.proofs.Bound.{ends_within_24}
use Rattle.pif_model_simulation.proofs.StandingLemmas.{finish_stands}
use Rattle.pif_core.proofs.Turns.{refused_at_once}
use Rattle.pif_core.proofs.cores.Core.finish.Goals as goal

pub returns-in-Some : goal.returns-in-Some
returns-in-Some c =
    let one = refused_at_once c.args.thread c.args.self.now c.in-Some.refusal
    (sym c.go_refusal.ensures ∙ c.in-Some.is) in
    let after = sym (ap (λ (o : Outcome). o.after) one) in
    record {
      seen = sym (ap (λ (o : Outcome). o.seen) one);
      after = after;
      ends = λ e. absurd cc;
      stands = finish_stands c.args.self.now c.args.self.now c.args.thread after;
    }

pub returns-in-None : goal.returns-in-None
returns-in-None c = record {
  seen = c.go_through.ensures.seen;
  after = c.go_through.ensures.after;
  ends = λ e. ends_within_24 c.args.thread c.args.self.now (sym c.go_through.ensures.seen ∙ e);
  stands = finish_stands c.args.self.now c.go_through.new.self c.args.thread c.go_through.ensures.after;
}
