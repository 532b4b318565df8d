use Rattle.std.proofs.Common.{◌≡◌, ℕ, ◌∷◌, ◌++◌, [], List, arith, sym, ap, subst, ◌∙◌, length}
use Rattle.std.proofs.lemmas.List.{append_assoc, length-append}
use Rattle.pif_model.specs.RobustList.{robust_at, walk_of, has_entry, HasNoRepeats}
use Rattle.pif_model_lemmas.specs.RobustWalks.{behind, ahead}
use Rattle.pif_model_lemmas.proofs.RobustWalks.{first-ahead, next-ahead, next-smaller, ahead-none, walk_of-once, walk_of-within, walk_of-short}
use Rattle.pif_robust.proofs.lists.RobustLists.walk.Goals.{In-Some}
use Rattle.pif_robust.proofs.lists.RobustLists.walk.Goals as goal

-- the walk, if it stands at a mutex
here : (c : In-Some) →
    c.loop-next.found.items ++ c.in-Some.m ∷ behind c.in-Some.m (walk_of (robust_at c.args.self.now c.args.t))
    ≡ walk_of (robust_at c.args.self.now c.args.t)
here c = ap (λ o. c.loop-next.found.items ++ ahead o (walk_of (robust_at c.args.self.now c.args.t))) (sym c.in-Some.is)
    ∙ c.loop-next.invariant

pub loop-next-init : goal.loop-next-init
loop-next-init c =
    ap (λ xs. xs ++ ahead c.walk_first-next.result (walk_of (robust_at c.args.self.now c.args.t))) c.new-found.ensures
    ∙ first-ahead c.args.self.now c.args.t c.walk_first-next.ensures.sound c.walk_first-next.ensures.first

pub push-requires : goal.push-requires
push-requires c = (
  omega arith,
  omega (
    arith,
    ap length (here (goal.at.push-requires c).In-Some),
    length-append c.loop-next.found.items
        (c.in-Some.m ∷ behind c.in-Some.m (walk_of (robust_at c.args.self.now c.args.t))),
    walk_of-short c.args.self.now c.args.t c.walk_first-next.ensures.sound,
  ),
)

pub loop-next-smaller : goal.loop-next-smaller
loop-next-smaller c = next-smaller c.args.self.now c.args.t c.walk_first-next.ensures.sound c.in-Some.m
    c.walk_next-next.ensures.next c.in-Some.is

pub loop-next-preserved : goal.loop-next-preserved
loop-next-preserved c =
    let ms : List ℕ = walk_of (robust_at c.args.self.now c.args.t) in
    ap (λ xs. xs ++ ahead c.walk_next-next.result ms) c.push.ensures.items
    ∙ ap (λ xs. (c.loop-next.found.items ++ c.in-Some.m ∷ []) ++ xs)
    (next-ahead c.args.self.now c.args.t c.walk_first-next.ensures.sound c.in-Some.m c.walk_next-next.ensures.next)
    ∙ append_assoc c.loop-next.found.items (c.in-Some.m ∷ []) (behind c.in-Some.m ms)
    ∙ here (goal.at.loop-next-preserved c).In-Some

pub returns-clause-once : goal.returns-clause-once
returns-clause-once c =
    subst HasNoRepeats
    (sym (ahead-none c.loop-next.found.items (walk_of (robust_at c.args.self.now c.args.t)) c.loop-next.next
    c.in_default.is c.loop-next.invariant))
    (walk_of-once c.args.self.now c.args.t c.walk_first-next.ensures.sound)

pub returns-clause-within : goal.returns-clause-within
returns-clause-within c = λ m h.
    walk_of-within c.args.self.now c.args.t c.walk_first-next.ensures.sound m
    (ap (λ xs. has_entry xs m)
    (sym (ahead-none c.loop-next.found.items (walk_of (robust_at c.args.self.now c.args.t)) c.loop-next.next
    c.in_default.is c.loop-next.invariant))
    ∙ h)
