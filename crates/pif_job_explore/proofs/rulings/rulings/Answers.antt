use Rattle.std.proofs.Common.{subst, sym}
use Rattle.std.proofs.lemmas.List.Elements.{All-get_or}
use Rattle.pif_explore.specs.Finding.{IsEnoughOf}
use Rattle.pif_explore_text.specs.declared.sheets.Claim.{Claim}
use Rattle.pif_job_explore.proofs.ExploringLemmas.{all_ruled, none_ruled, ruled_more}
use Rattle.pif_job_explore.proofs.rulings.rulings.Goals as goal

pub loop-claim-init : goal.loop-claim-init
loop-claim-init c = λ start enough.
    none_ruled c.args.plan.now start c.args.explored.now.nodes.items c.args.claims.now _ c.new-all.ensures.items

pub loop-claim-preserved : goal.loop-claim-preserved
loop-claim-preserved c = λ start enough.
    ruled_more c.args.plan.now start c.args.explored.now.nodes.items c.args.claims.now c.loop-claim.claim-index
    c.claim-item.result c.in_ok-next.next c.loop-claim.all.items _ c.loop-claim-test.true c.claim-item.is
    c.in_ok-push.ensures (c.loop-claim.invariant start enough)
    (c.in_ok-next.ensures start (λ w.
    subst (λ (x : Claim). IsEnoughOf c.args.plan.now start c.args.explored.now.nodes.items x.assertion) (sym c.claim-item.is)
    (All-get_or (λ (x : Claim). IsEnoughOf c.args.plan.now start c.args.explored.now.nodes.items x.assertion) c.args.claims.now
    c.loop-claim.claim-index c.claim-item.result c.loop-claim-test.true (enough w))))

pub returns : goal.returns
returns c = λ start enough.
    all_ruled c.args.plan.now start c.args.explored.now.nodes.items c.args.claims.now c.loop-claim.claim-index
    c.loop-claim.all.items c.loop-claim-test.false (c.loop-claim.invariant start enough)
