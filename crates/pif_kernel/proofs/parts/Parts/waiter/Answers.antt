use Rattle.std.proofs.Common.{◌≡◌, ℕ, suc, List, is_some, subst, sym, ap, ◌∙◌, arith, add-one}
use Rattle.std.specs.List.{slice_get}
use Rattle.pif_model.specs.PiKernel.{waiters_in}
use Rattle.pif_kernel_model.specs.Owners.{waits_on, IsTop, HasNoWaiter}
use Rattle.pif_kernel_model.specs.Behind.{IsLast, IsBehind}
use Rattle.pif_kernel_model.specs.Inside.{Inside, kernel_of}
use Rattle.pif_kernel_model.proofs.WaiterOrder.{keyless, waits_at, top_at, last_at, next_at, nobody_at}
use Rattle.pif_kernel_model.proofs.WaiterRows.{none_later}
use Rattle.pif_kernel.proofs.parts.Parts.waiter.Goals as goal

pub returns-in_err-key : goal.returns-in_err-key
returns-in_err-key g c =
    c.from_residual.ensures
    ∙ sym (keyless c.args.self.now c.requires c.args.m (sym c.key.ensures ∙ c.in_err-key.was) c.args.place)

pub returns-in_err-at : goal.returns-in_err-at
returns-in_err-at g c =
    c.from_residual-in_err-at.ensures
    ∙ sym (nobody_at c.args.self.now c.requires c.args.m c.in_ok-key.key (sym c.key.ensures ∙ c.in_ok-key.was)
    (subst (λ (x : Inside). HasNoWaiter x.owners c.in_ok-key.key) c.self.view_is c.in_err-at.ensures.none) c.args.place)

pub loop-passed-init : goal.loop-passed-init
loop-passed-init g c =
    top_at c.args.self.now c.requires c.args.m c.in_ok-key.key (sym c.key.ensures ∙ c.in_ok-key.was) c.in_ok-at.at
    (subst (λ (x : Inside). IsTop x.owners c.in_ok-key.key c.in_ok-at.at) c.self.view_is c.in_ok-at.ensures.top)

pub behind-requires : goal.behind-requires
behind-requires g c =
    ap is_some (ap (λ (x : Inside). waits_on x.owners c.loop-passed.at) c.self.view_is
    ∙ waits_at c.args.self.now c.requires c.args.m c.in_ok-key.key (sym c.key.ensures ∙ c.in_ok-key.was)
    c.loop-passed._passed c.loop-passed.at c.loop-passed.invariant)

pub returns-in_err-at-2 : goal.returns-in_err-at-2
returns-in_err-at-2 g c =
    let order : List ℕ = waiters_in (kernel_of c.args.self.now) c.args.m in
    c.from_residual-in_err-at-2.ensures
    ∙ sym (none_later order (suc c.loop-passed._passed) c.args.place
    (last_at c.args.self.now c.requires c.args.m c.in_ok-key.key (sym c.key.ensures ∙ c.in_ok-key.was)
    c.loop-passed._passed c.loop-passed.at c.loop-passed.invariant
    (subst (λ (x : Inside). IsLast x.owners c.loop-passed.at) c.self.view_is c.in_err-at-2.ensures.last))
    (omega (arith, c.loop-passed-test.true)))

pub loop-passed-preserved : goal.loop-passed-preserved
loop-passed-preserved g c =
    let order : List ℕ = waiters_in (kernel_of c.args.self.now) c.args.m in
    ap (slice_get order) (add-one c.loop-passed._passed)
    ∙ next_at c.args.self.now c.requires c.args.m c.in_ok-key.key (sym c.key.ensures ∙ c.in_ok-key.was)
    c.loop-passed._passed c.loop-passed.at c.in_ok-at-2.at c.loop-passed.invariant
    (subst (λ (x : Inside). IsBehind x.owners c.loop-passed.at c.in_ok-at-2.at) c.self.view_is
    c.in_ok-at-2.ensures.behind)

pub returns : goal.returns
returns g c =
    let order : List ℕ = waiters_in (kernel_of c.args.self.now) c.args.m in
    let all : c.args.place ≡ c.loop-passed._passed
    = omega (arith, c.loop-passed-test.false, c.loop-passed.auto._passed-end) in
    sym (ap (slice_get order) all ∙ c.loop-passed.invariant)
