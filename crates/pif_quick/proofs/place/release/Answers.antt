use Rattle.std.proofs.Common.{◌∙◌, ap, refl}
use Rattle.pif_quick.proofs.PlaceSteps.{release_allowed, closed_place}
use Rattle.pif_quick.proofs.place.release.Goals as goal

pub compare_exchange-requires : goal.compare_exchange-requires
compare_exchange-requires g c =
    let h = c.requires.place in (
      c.put_down.ensures.0
          ∙ h.table,
      h.inside.0,
      release_allowed _ _ _ _ h c.put_down.new.place _ c.put_down.ensures.1
          c.requires.open_turn _ c.from-own.ensures _,
    )

pub returns-then-compare_exchange-own-clause-place : goal.returns-then-compare_exchange-own-clause-place
returns-then-compare_exchange-own-clause-place g c =
    let h = c.requires.place in
    let done = c.compare_exchange.ensures.2.1.given c.if-compare_exchange-own.true _
    (ap (λ m. m.1) c.put_down.ensures.1) in
    closed_place _ _ _ _ h c.put_down.new.place _ c.put_down.ensures.1 c.requires.open_turn _ done _
    (c.compare_exchange.ensures.0 ∙ (c.put_down.ensures.0 ∙ h.table)) refl
