use Rattle.std.proofs.lemmas.Result.{on_ok_weaker}
use Rattle.pif_history_told.proofs.InTheWayLemmas.{awake_told, held_told, next_told, no_cycle_told}
use Rattle.pif_history_told.proofs.in_the_way.append_fact.Goals as goal

pub returns-in-Held : goal.returns-in-Held
returns-in-Held c =
    on_ok_weaker c.append_both.result
    (λ e.
    held_told c.args.fact.now c.args.priority c.in-Held.m c.in-Held.t c.get-in-Held.result c.get-in-Held-2.result
    c.args.out.now.items c.append_both.new.out.items c.in-Held.is c.get-in-Held.ensures.value c.get-in-Held-2.ensures.value e)
    c.append_both.ensures

pub returns-in-Next : goal.returns-in-Next
returns-in-Next c =
    on_ok_weaker c.append_of_thread.result
    (λ e.
    next_told c.args.fact.now c.args.priority c.in-Next.m c.in-Next.t c.get-in-Next-2.result c.get-in-Next.result
    c.args.out.now.items c.append_of_thread.new.out.items c.in-Next.is c.get-in-Next-2.ensures.value
    c.get-in-Next.ensures.value e)
    c.append_of_thread.ensures

pub returns-in-ClosesNoCycle : goal.returns-in-ClosesNoCycle
returns-in-ClosesNoCycle c =
    on_ok_weaker c.append_both-in-ClosesNoCycle.result
    (λ e.
    no_cycle_told c.args.fact.now c.args.priority c.in-ClosesNoCycle.m c.in-ClosesNoCycle.t c.get-in-ClosesNoCycle.result
    c.get-in-ClosesNoCycle-2.result c.args.out.now.items c.append_both-in-ClosesNoCycle.new.out.items c.in-ClosesNoCycle.is
    c.get-in-ClosesNoCycle.ensures.value c.get-in-ClosesNoCycle-2.ensures.value e)
    c.append_both-in-ClosesNoCycle.ensures

pub returns-in-Awake : goal.returns-in-Awake
returns-in-Awake c =
    on_ok_weaker c.append_between-in-Awake.result
    (λ e.
    awake_told c.args.fact.now c.args.priority c.in-Awake.t c.get-in-Awake.result c.args.out.now.items
    c.append_between-in-Awake.new.out.items c.in-Awake.is c.get-in-Awake.ensures.value e)
    c.append_between-in-Awake.ensures
