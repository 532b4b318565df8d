use Rattle.std.proofs.Common.{List, ◌∙◌, ◌==◌, ◌++◌, ◌∷◌, [], refl, ap, length}
use Rattle.std.specs.Prelude.{nat_le}
use Rattle.pif_model.specs.Posix.{World, Mutex}
use Rattle.pif_posix_steps.specs.Doing.{mutex_added}
use Rattle.pif_posix_steps.specs.Doing.Does.{did_not}
use Rattle.pif_posix_steps.proofs.DoingCases.{did_this}
use Rattle.pif_posix.proofs.Entering.{next_within, not_next_within, next_is}
use Rattle.pif_posix.proofs.state.State.add_mutex.Goals as goal

pub returns-then-not-is_next : goal.returns-then-not-is_next
returns-then-not-is_next c =
    did_not
    (not_next_within (c.args.mutex == length c.args.self.now.mutexes) (nat_le c.args.mutex c.args.limits.now.mutexes) _
    (next_is c.get.ensures.value c.mutex_count.ensures c.most_mutexes.ensures c.is_next.ensures c.if-not-is_next.true)) refl

pub returns : goal.returns
returns c =
    did_this (mutex_added c.args.limits.now c.args.mutex c.args.kind c.args.robust c.args.self.now)
    (next_within (c.args.mutex == length c.args.self.now.mutexes) (nat_le c.args.mutex c.args.limits.now.mutexes) _
    (next_is c.get.ensures.value c.mutex_count.ensures c.most_mutexes.ensures c.is_next.ensures c.if-not-is_next.false))
    (ap (λ (w : World). record w { mutexes = c.push.new.items.items }) c.self.view_is
    ∙ ap (λ (xs : List Mutex). record c.args.self.now { mutexes = xs })
    (c.in_ok-push.ensures ∙ ap (λ (w : World). w.mutexes ++ c.new_lockable.result ∷ []) c.self.view_is
    ∙ ap (λ (x : Mutex). c.args.self.now.mutexes ++ x ∷ []) c.new_lockable.ensures))
