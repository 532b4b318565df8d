use Rattle.std.proofs.Common.{refl, sym, ◌∙◌, arith, rules}
use Rattle.std.proofs.lemmas.Bool.{false≢true}
use Rattle.pif_model.specs.Graph.{Reaches}
use Rattle.pif_kernel_model.specs.Owners.{WaitsFor}
use Rattle.pif_kernel_model.specs.States.{owners_in}
use Rattle.pif_boost.proofs.Chaining.{chaining-hop, chaining-end, chaining-found, chaining-missed}
use Rattle.pif_boost.proofs.OnPaths.{reached, stands}
use Rattle.pif_boost.proofs.cycles.would_close.Goals as goal

pub returns-then-get : goal.returns-then-get
returns-then-get c =
    let found : Reaches (WaitsFor (owners_in c.args.owners.now c.args.table.now)) c.args.owner c.args.t =
    chaining-found c.args.owners.now c.args.table.now c.requires c.args.owner c.args.t c.loop-hop._hop c.loop-hop.at
    c.loop-hop.invariant (sym c.get.ensures.value ∙ c.if-get.true ∙ c.get-in-loop-hop.ensures.value) in
    record {
      reached = (λ _. found, λ _. refl);
      path = λ us p. (
        λ _. stands (owners_in c.args.owners.now c.args.table.now) c.args.owner c.args.t found
            (search rules) us p,
        λ _. refl,
      );
    }

pub returns-in-None-clause-path : goal.returns-in-None-clause-path
returns-in-None-clause-path c = λ us p. (
  λ e. absurd (false≢true e),
  λ h. absurd (chaining-missed c.args.owners.now c.args.table.now c.requires c.args.owner c.args.t c.loop-hop._hop
      c.loop-hop.at c.loop-hop.invariant
      (λ e. c.if-get.false (c.get.ensures.value ∙ e ∙ sym c.get-in-loop-hop.ensures.value))
      (sym c.waits_on.ensures.value ∙ c.in-None.is)
      (reached (owners_in c.args.owners.now c.args.table.now) c.args.owner c.args.t us p h)),
)

pub loop-hop-preserved : goal.loop-hop-preserved
loop-hop-preserved c =
    chaining-hop c.args.owners.now c.args.table.now c.requires c.args.owner c.args.t c.loop-hop._hop c.loop-hop.at
    c.loop-hop.invariant
    (λ e. c.if-get.false (c.get.ensures.value ∙ e ∙ sym c.get-in-loop-hop.ensures.value))
    c.in-Some.state c.owner-at.result (sym c.waits_on.ensures.value ∙ c.in-Some.is) c.owner-at.ensures.value

pub unreachable-requires : goal.unreachable-requires
unreachable-requires c =
    chaining-end c.args.owners.now c.args.table.now c.requires c.args.owner c.args.t c.loop-hop._hop c.loop-hop.at
    c.loop-hop.invariant (omega (arith, c.loop-hop-test.false, c.threads-hop-end.ensures.value))
