use Rattle.std.proofs.Common.{◌≡◌, ◌++◌, ◌∙◌, ap, arith, flat_map}
use Rattle.pif_text.specs.Json.{numbers}
use Rattle.pif_story_states.proofs.ListLemmas.{texts_on, texts_start}
use Rattle.pif_story_states.proofs.lists.append_all.Goals as goal

pub loop-place-init : goal.loop-place-init
loop-place-init g c = texts_start (g.N.Numbered.text c.args.things.now) c.args.out.now.items

pub loop-place-preserved : goal.loop-place-preserved
loop-place-preserved g c =
    rw c.in_ok-append.ensures
    (texts_on (g.N.Numbered.text c.args.things.now) c.args.out.now.items c.loop-place.out.items c.loop-place.place
    c.loop-place.invariant)

pub returns : goal.returns
returns g c =
    let end : c.loop-place.place ≡ c.args.most = omega (arith, c.loop-place.auto.place-end, c.loop-place-test.false) in
    c.loop-place.invariant
    ∙ ap (λ n. c.args.out.now.items ++ flat_map (g.N.Numbered.text c.args.things.now) (numbers n)) end
