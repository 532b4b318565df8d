use Rattle.std.proofs.Common.{List, ◌∙◌, ◌==◌, ◌++◌, ◌∷◌, [], refl, sym, ap, length, Some, None}
use Rattle.std.specs.Prelude.{nat_le}
use Rattle.pif_model.specs.Graph.{is_priority}
use Rattle.pif_model.specs.Posix.{World, Thread, new_thread}
use Rattle.pif_posix_steps.specs.Doing.{thread_added}
use Rattle.pif_posix_steps.specs.Doing.Does.{did_not}
use Rattle.pif_posix_steps.proofs.DoingCases.{did_this, choose_then}
use Rattle.pif_posix_steps.proofs.DoingEntries.{priority_from}
use Rattle.pif_posix.proofs.Entering.{next_within, not_next_within, next_is}
use Rattle.pif_posix.proofs.state.State.add_thread.Goals as goal

pub returns-then-not-is_next : goal.returns-then-not-is_next
returns-then-not-is_next c =
    did_not
    (not_next_within (c.args.thread == length c.args.self.now.threads) (nat_le c.args.thread c.args.limits.now.threads) _
    (next_is c.get.ensures.value c.thread_count.ensures c.most_threads.ensures c.is_next.ensures c.if-not-is_next.true)) refl

pub returns : goal.returns
returns c =
    did_this (thread_added c.args.limits.now c.args.thread c.args.priority c.args.self.now)
    (next_within (c.args.thread == length c.args.self.now.threads) (nat_le c.args.thread c.args.limits.now.threads) _
    (next_is c.get.ensures.value c.thread_count.ensures c.most_threads.ensures c.is_next.ensures c.if-not-is_next.false)
    ∙ choose_then (is_priority c.args.priority) (Some (record c.args.self.now { threads = c.args.self.now.threads ++ new_thread c.args.priority ∷ [] })) None
    (ap is_priority (sym c.get-2.ensures.value) ∙ priority_from c.get-2.result c.get-2.ensures.low c.get-2.ensures.high))
    (ap (λ (w : World). record w { threads = c.push.new.items.items }) c.self.view_is
    ∙ ap (λ (xs : List Thread). record c.args.self.now { threads = xs })
    (c.in_ok-push.ensures ∙ ap (λ (w : World). w.threads ++ c.new_task.result ∷ []) c.self.view_is
    ∙ ap (λ (x : Thread). c.args.self.now.threads ++ x ∷ []) (c.new_task.ensures ∙ ap new_thread c.get-2.ensures.value)))
