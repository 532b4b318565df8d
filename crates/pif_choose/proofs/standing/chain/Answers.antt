use Rattle.std.proofs.Common.{◌≡◌, ◌<◌, ℕ, length, take, sym, subst, arith}
use Rattle.pif_choose.specs.Standstills.{IsWholeChain}
use Rattle.pif_choose.proofs.Chains.{chain-put, end-put, whole-nobody, whole-back, whole-full}
use Rattle.pif_choose.proofs.standing.chain.Goals as goal

pub returns-in_default-clause-chain : goal.returns-in_default-clause-chain
returns-in_default-clause-chain c =
    let within : c.loop-place.place < length c.loop-place.room = omega arith in
    whole-nobody c.args.standings.now c.args.first c.loop-place.at c.loop-place.room c.loop-place.place _ within c.loop-place.auto.room
    c.loop-place.invariant.chain c.loop-place.invariant.leads (c.link_of.ensures.none c.in_default.is)

pub returns-then-at-first-clause-chain : goal.returns-then-at-first-clause-chain
returns-then-at-first-clause-chain c =
    let within : c.loop-place.place < length c.loop-place.room = omega arith in
    whole-back c.args.standings.now c.args.first c.loop-place.at c.loop-place.room c.loop-place.place _ c.in-Some.link within c.loop-place.auto.room
    c.loop-place.invariant.chain c.loop-place.invariant.leads c.in-Some.ensures.some.0 c.in-Some.ensures.some.1 c.if-at-first.true

pub returns-clause-chain : goal.returns-clause-chain
returns-clause-chain c =
    let full : c.loop-place.place ≡ length c.args.room.now = omega arith in
    subst (λ (n : ℕ). IsWholeChain c.args.standings.now c.args.first (take n c.loop-place.room) (length c.args.room.now)) (sym c.loop-place.auto.room)
    (whole-full c.args.standings.now c.args.first c.loop-place.room c.loop-place.place (length c.args.room.now) c.loop-place.auto.room full c.loop-place.invariant.chain)

pub loop-place-preserved : goal.loop-place-preserved
loop-place-preserved c =
    let within : c.loop-place.place < length c.loop-place.room = omega arith in
    record {
      chain = chain-put c.args.standings.now c.args.first c.loop-place.at c.loop-place.room c.loop-place.place c.in-Some.link within
          c.loop-place.invariant.chain c.loop-place.invariant.leads c.in-Some.ensures.some.0 c.in-Some.ensures.some.1;
      leads = end-put c.args.first c.loop-place.room c.loop-place.place c.in-Some.link within;
    }
