use Rattle.std.proofs.Common.{List, ◌∙◌, ◌==◌, ◌++◌, ◌∷◌, [], refl, sym, ap, length}
use Rattle.std.specs.Prelude.{nat_le}
use Rattle.pif_model.specs.Posix.{World, Variable, is_mutex, new_variable}
use Rattle.pif_posix_steps.specs.Doing.{variable_added}
use Rattle.pif_posix_steps.specs.Doing.Does.{did_not}
use Rattle.pif_posix_steps.proofs.DoingCases.{did_this, choose_then, choose_else}
use Rattle.pif_posix.proofs.Entering.{next_within, not_next_within, next_is}
use Rattle.pif_posix.proofs.state.State.add_variable.Goals as goal

pub returns-then-not-is_mutex : goal.returns-then-not-is_mutex
returns-then-not-is_mutex c =
    did_not (choose_else (is_mutex c.args.self.now c.args.mutex) _ _ (ap (is_mutex c.args.self.now) (sym c.get.ensures.value) ∙ sym c.is_mutex.ensures ∙ c.if-not-is_mutex.true)) refl

pub returns-then-not-is_next : goal.returns-then-not-is_next
returns-then-not-is_next c =
    did_not
    (choose_then (is_mutex c.args.self.now c.args.mutex) _ _ (ap (is_mutex c.args.self.now) (sym c.get.ensures.value) ∙ sym c.is_mutex.ensures ∙ c.if-not-is_mutex.false)
    ∙ not_next_within (c.args.cond == length c.args.self.now.variables) (nat_le c.args.cond c.args.limits.now.conds) _
    (next_is c.get-2.ensures.value c.variable_count.ensures c.most_variables.ensures c.is_next.ensures c.if-not-is_next.true)) refl

pub returns : goal.returns
returns c =
    did_this (variable_added c.args.limits.now c.args.cond c.args.mutex c.args.self.now)
    (choose_then (is_mutex c.args.self.now c.args.mutex) _ _ (ap (is_mutex c.args.self.now) (sym c.get.ensures.value) ∙ sym c.is_mutex.ensures ∙ c.if-not-is_mutex.false)
    ∙ next_within (c.args.cond == length c.args.self.now.variables) (nat_le c.args.cond c.args.limits.now.conds) _
    (next_is c.get-2.ensures.value c.variable_count.ensures c.most_variables.ensures c.is_next.ensures c.if-not-is_next.false))
    (ap (λ (w : World). record w { variables = c.push.new.items.items }) c.self.view_is
    ∙ ap (λ (xs : List Variable). record c.args.self.now { variables = xs })
    (c.in_ok-push.ensures ∙ ap (λ (w : World). w.variables ++ c.new_signalled.result ∷ []) c.self.view_is
    ∙ ap (λ (x : Variable). c.args.self.now.variables ++ x ∷ []) (c.new_signalled.ensures ∙ ap new_variable c.get-3.ensures.value)))
