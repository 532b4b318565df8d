use Rattle.std.proofs.Common.{◌∷◌, subst, sym}
use Rattle.std.proofs.lemmas.Result.{IfOk-weaker}
use Rattle.pif_history_model.specs.declared.lines.Line.{Line}
use Rattle.pif_components.specs.Groups.{AreGroupsOf}
use Rattle.pif_components.proofs.HearingLemmas.{heard_begin, heard_mutex, heard_other, heard_thread}
use Rattle.pif_components.proofs.hearing.hear.Goals as goal

pub returns-in-Begin : goal.returns-in-Begin
returns-in-Begin c =
    IfOk-weaker c.hear_call.result _ _
    (λ b h lines e groups.
    subst (λ (x : Line). AreGroupsOf (x ∷ lines) c.hear_call.new.groups) (sym c.in-Begin.is)
    (heard_begin c.in-Begin.thread c.in-Begin.request lines c.args.groups.now c.hear_call.new.groups (h e) groups))
    c.hear_call.ensures

pub returns-in_ok-add_thread-in-Thread : goal.returns-in_ok-add_thread-in-Thread
returns-in_ok-add_thread-in-Thread c = λ lines e groups.
    subst (λ (x : Line). AreGroupsOf (x ∷ lines) c.add_thread.new.self) (sym c.in-Thread.is)
    (heard_thread c.in-Thread.field-0 lines c.args.groups.now c.add_thread.new.self c.in_ok-add_thread-in-Thread.ensures groups)

pub returns-in_ok-add_mutex-in-Mutex : goal.returns-in_ok-add_mutex-in-Mutex
returns-in_ok-add_mutex-in-Mutex c = λ lines e groups.
    subst (λ (x : Line). AreGroupsOf (x ∷ lines) c.add_mutex.new.self) (sym c.in-Mutex.is)
    (heard_mutex c.in-Mutex.field-0 c.in-Mutex.field-1 c.in-Mutex.field-2 lines c.args.groups.now c.add_mutex.new.self
    c.in_ok-add_mutex-in-Mutex.ensures groups)

pub returns-in_default : goal.returns-in_default
returns-in_default c = λ lines e groups.
    heard_other c.args.line.now lines c.args.groups.now c.in_default.not-Cond c.in_default.not-Begin groups
