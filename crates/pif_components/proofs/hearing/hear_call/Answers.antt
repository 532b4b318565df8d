use Rattle.std.proofs.lemmas.Result.{IfOk-weaker}
use Rattle.pif_components.proofs.HearingLemmas.{named_by}
use Rattle.pif_components.proofs.hearing.hear_call.Goals as goal

pub returns : goal.returns
returns c =
    IfOk-weaker c.join_if-3.result _ _
    (λ b h e.
    named_by c.args.thread _ c.args.request.now c.names-named.result c.mutex_named.result c.variable_named.result c.thread_named.result
    c.get.ensures.value c.names-named.ensures.value c.mutex_named.ensures c.variable_named.ensures c.thread_named.ensures
    c.args.groups.now c.join_if.new.groups c.join_if-2.new.groups c.join_if-3.new.groups
    (c.in_ok-join_if.ensures c.if-not-branch.false) (c.in_ok-join_if-2.ensures c.if-not-branch-2.false) (h e))
    c.join_if-3.ensures
