use Rattle.std.proofs.Common.{◌∙◌, ◌-◌, ap}
use Rattle.pif_rules_model.specs.Rules.{Wide}
use Rattle.pif_history_told.specs.StateObjects.{cond_object, is_cond_changed, is_mutex_changed, is_thread_changed, mutex_object, objects, thread_object}
use Rattle.pif_history_told.proofs.Appending.{changes_appended, grown_first, grown_more, grown_same}
use Rattle.pif_history_told.proofs.Pieces.{changes_pieces}
use Rattle.pif_history_told.proofs.changes.append_changes.Goals as goal

pub returns : goal.returns
returns c =
    let whole = c.args.change.now.is_whole in
    let a = c.world-seen_from.result.now in
    let b = c.world-seen_to.result.now in
    let w = c.world-before.result.now in
    let v = c.world-behind.result.now in
    let h1 = grown_first c.args.out.now.items _ _ c.in_ok-append_threads.ensures in
    let h2 = grown_more _ _ _ _ _ h1 c.in_ok-append_mutexes.ensures in
    let h3 = grown_more _ _ _ _ _ h2 c.in_ok-append_conds.ensures in
    changes_appended c.args.change.now.is_whole c.args.change.now.from.now c.args.change.now.to.now a b w v c.args.out.now.items _
    c.in_ok-threads.threads c.in_ok-mutexes.mutexes c.in_ok-conds.conds
    (c.world-seen_from.ensures ∙ ap (λ (s : Wide). s.world) c.in_ok-from.ensures)
    (c.world-seen_to.ensures ∙ ap (λ (s : Wide). s.world) c.in_ok-to.ensures) c.world-before.ensures c.world-behind.ensures
    (c.in_ok-threads.ensures ∙ ap (λ n. n - 1) c.thread_count.ensures)
    (c.in_ok-mutexes.ensures ∙ ap (λ n. n - 1) c.mutex_count.ensures)
    (c.in_ok-conds.ensures ∙ ap (λ n. n - 1) c.variable_count.ensures) (grown_same _ _ _ _ h3
    (changes_pieces
    (objects whole (is_thread_changed a b) (thread_object b) c.in_ok-threads.threads)
    (objects whole (is_mutex_changed w v) (mutex_object v) c.in_ok-mutexes.mutexes)
    (objects whole (is_cond_changed w v) (cond_object v) c.in_ok-conds.conds)))
