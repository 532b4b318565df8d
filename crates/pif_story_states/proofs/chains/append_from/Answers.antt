use Rattle.std.proofs.Common.{◌++◌, ◌∙◌, sym, ap}
use Rattle.std.proofs.lemmas.Result.{on_ok_weaker}
use Rattle.pif_text.specs.Json.{name_text}
use Rattle.pif_story_states.specs.Objects.{chain_from}
use Rattle.pif_story_states.proofs.ChainLemmas.{chain_end, chain_on, chain_out}
use Rattle.pif_story_states.proofs.chains.append_from.Goals as goal

pub loop-place-preserved : goal.loop-place-preserved
loop-place-preserved c =
    let whole = c.args.out.now.items ++ chain_from c.args.most c.args.core.now c.args.thread in
    rw (c.in_ok-push-in-Some.ensures.items, c.in_ok-append_link.ensures, c.in_ok-append_name.ensures, c.get.ensures.value)
    (chain_on whole c.loop-place.out.items c.args.core.now c.loop-place.next c.loop-place.place c.args.most
    c.loop-place.invariant c.in-Some.owner c.loop-place-test.true (sym c.blocker.ensures ∙ c.in-Some.is))

pub returns-in-None : goal.returns-in-None
returns-in-None c =
    let whole = c.args.out.now.items ++ chain_from c.args.most c.args.core.now c.args.thread in
    rw (c.in_ok-append_link.ensures, c.in_ok-append_name.ensures, c.get.ensures.value)
    (chain_out whole c.loop-place.out.items c.args.core.now c.loop-place.next c.loop-place.place c.args.most
    c.loop-place.invariant c.loop-place-test.true (sym c.blocker.ensures ∙ c.in-None.is))

pub returns : goal.returns
returns c =
    let whole = c.args.out.now.items ++ chain_from c.args.most c.args.core.now c.args.thread in
    on_ok_weaker c.append_name-2.result
    (λ e.
    e ∙ ap (λ n. c.loop-place.out.items ++ name_text 116 n) c.get-2.ensures.value
    ∙ chain_end whole c.loop-place.out.items c.args.core.now c.loop-place.next c.loop-place.place c.args.most
    c.loop-place.invariant c.loop-place-test.false)
    c.append_name-2.ensures
