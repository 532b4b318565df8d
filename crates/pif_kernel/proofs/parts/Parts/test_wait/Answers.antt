use Rattle.std.proofs.Common.{◌≡◌, true, false, length, subst, sym, ◌∙◌, ap}
use Rattle.pif_model.specs.PiKernel.{is_living, waits_for}
use Rattle.pif_model.specs.Graph.{reaches_within}
use Rattle.pif_kernel_model.specs.Inside.{Inside, IsSoundInside, kernel_of, owner_under}
use Rattle.pif_kernel.specs.declared.parts.Parts.TheView.{view}
use Rattle.pif_kernel.proofs.Answering.{closes_seen, wait_closes, wait_queues}
use Rattle.pif_kernel.proofs.parts.Parts.test_wait.Goals as goal

pub returns-then-would_close : goal.returns-then-would_close
returns-then-would_close g c =
    let p : Inside = view _ g.C.Chains c.self.inside in
    let lives : is_living (kernel_of c.args.self.now) c.args.owner ≡ true
    = sym c.lives.ensures ∙ c.if-not-lives.false in
    let closes : reaches_within (length (kernel_of p).seats) (waits_for (kernel_of p)) c.args.owner c.args.t ≡ true
    = closes_seen p (subst IsSoundInside (sym c.self.view_is) c.requires.sound) c.args.t c.args.owner c.would_close.result
    (ap (λ (x : Inside). is_living (kernel_of x) c.args.owner) c.self.view_is ∙ lives) c.would_close.ensures
    ∙ c.if-would_close.true in
    wait_closes c.args.t c.args.owner (owner_under c.args.self.now.owners c.args.key) (kernel_of c.args.self.now) lives
    (sym c.is_state_of.ensures ∙ c.if-not-is_state_of.false)
    (sym (ap (λ (x : Inside). reaches_within (length (kernel_of x).seats)
    (waits_for (kernel_of x)) c.args.owner c.args.t) c.self.view_is) ∙ closes)

pub returns : goal.returns
returns g c =
    let p : Inside = view _ g.C.Chains c.self.inside in
    let lives : is_living (kernel_of c.args.self.now) c.args.owner ≡ true
    = sym c.lives.ensures ∙ c.if-not-lives.false in
    let closes : reaches_within (length (kernel_of p).seats) (waits_for (kernel_of p)) c.args.owner c.args.t ≡ false
    = closes_seen p (subst IsSoundInside (sym c.self.view_is) c.requires.sound) c.args.t c.args.owner c.would_close.result
    (ap (λ (x : Inside). is_living (kernel_of x) c.args.owner) c.self.view_is ∙ lives) c.would_close.ensures
    ∙ c.if-would_close.false in
    wait_queues c.args.t c.args.owner (owner_under c.args.self.now.owners c.args.key) (kernel_of c.args.self.now) lives
    (sym c.is_state_of.ensures ∙ c.if-not-is_state_of.false)
    (sym (ap (λ (x : Inside). reaches_within (length (kernel_of x).seats)
    (waits_for (kernel_of x)) c.args.owner c.args.t) c.self.view_is) ∙ closes)
