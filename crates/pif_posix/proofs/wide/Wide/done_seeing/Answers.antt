use Rattle.std.proofs.Common.{◌≡◌, ◌∙◌, List, length, sym, subst}
use Rattle.std.proofs.lemmas.Bool.{eqb-true, eqb-false}
use Rattle.std.specs.Prelude.{IfOk}
use Rattle.pif_rules_model.specs.Rules.{Wide}
use Rattle.pif_posix.specs.Deeds.{done_as}
use Rattle.pif_posix.proofs.SeeingLending.{seeing_all, seeing_some}
use Rattle.pif_posix.proofs.wide.Wide.done_seeing.Goals as goal

pub returns-then-is_empty : goal.returns-then-is_empty
returns-then-is_empty c =
    let none : length c.args.hidden.now ≡ 0 = eqb-true (length c.args.hidden.now) 0 (sym c.is_empty.ensures ∙ c.if-is_empty.true) in
    subst (λ (ns : List Wide). IfOk c.done_as.result (λ v. v.items ≡ ns))
    (sym (seeing_all c.args.hidden.now (done_as c.args.deed.now c.args.rules.now c.args.thread c.args.none.now) c.args.self.now none))
    c.done_as.ensures

pub returns : goal.returns
returns c =
    subst (λ (ns : List Wide). IfOk c.done_behind.result (λ v. v.items ≡ ns))
    (sym (seeing_some c.args.hidden.now (done_as c.args.deed.now c.args.rules.now c.args.thread c.args.none.now) c.args.self.now
    (eqb-false (length c.args.hidden.now) 0 (sym c.is_empty.ensures ∙ c.if-is_empty.false))))
    c.done_behind.ensures
