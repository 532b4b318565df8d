-- The first client that is a stranger.
use Rattle.std.proofs.Common.{◌≡◌, ◌∙◌, true, false, ap, sym, take}
use Rattle.std.proofs.lemmas.Bool.{true≢false}
use Rattle.std.proofs.lemmas.List.{take_all}
use Rattle.std.proofs.lemmas.List.Elements.{All-more, All-same}
use Rattle.pif_desk.specs.Rooms.{ClientState}
use Rattle.pif_desk.specs.Settling.{is_stranger}
use Rattle.pif_desk.proofs.Firsts.{first_at}
use Rattle.pif_desk.proofs.settle.first_stranger.Goals as goal

pub returns-then-is_stranger : goal.returns-then-is_stranger
returns-then-is_stranger c =
    let strange = is_stranger c.args.clients.now c.args.journal.now in
    let x = c.client-item.result in (
      x,
      ap (λ (y : ClientState). y.thread) (sym c.client.view_is),
      first_at (λ d. strange d ≡ true) (λ d. strange d ≡ false) (λ y no yes. true≢false (sym yes
          ∙ no)) c.args.clients.now
          c.loop-client.client-index x c.loop-client-test.true c.client-item.is (sym c.is_stranger.ensures
          ∙ c.if-is_stranger.true)
          c.loop-client.invariant,
    )

pub loop-client-preserved : goal.loop-client-preserved
loop-client-preserved c =
    let strange = is_stranger c.args.clients.now c.args.journal.now in
    let x = c.client-item.result in
    All-more (λ d. strange d ≡ false) c.args.clients.now c.loop-client.client-index x c.loop-client-test.true
    c.loop-client.invariant (ap strange (sym c.client-item.is) ∙ sym c.is_stranger.ensures ∙ c.if-is_stranger.false)

pub returns : goal.returns
returns c =
    All-same (λ d. is_stranger c.args.clients.now c.args.journal.now d ≡ false) c.args.clients.now
    (take c.loop-client.client-index c.args.clients.now)
    (sym (take_all c.loop-client.client-index c.args.clients.now c.loop-client-test.false)) c.loop-client.invariant
