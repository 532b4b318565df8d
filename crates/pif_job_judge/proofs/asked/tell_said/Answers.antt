use Rattle.std.proofs.Common.{arith, List, ap, subst, sym}
use Rattle.pif_history_model.specs.declared.labels.Label.{Label}
use Rattle.pif_history_text.specs.Histories.{limits_of}
use Rattle.pif_history_text.specs.Reading.{heard_of}
use Rattle.pif_history_told.specs.Ways.{IsRun}
use Rattle.pif_job_judge.specs.declared.posix.Says.{Says}
use Rattle.pif_job_judge.specs.Posix.{verdict_said}
use Rattle.pif_job_judge.proofs.AskedLemmas.{allowed_by, legal_said, rest_forbids, rest_found, rest_least, rest_undecided, rest_undefined, within_forbidden}
use Rattle.pif_job_judge.proofs.ObjectLemmas.{on_ok}
use Rattle.pif_job_judge.proofs.asked.tell_said.Goals as goal

pub returns-in-Least : goal.returns-in-Least
returns-in-Least g c =
    let h = heard_of c.args.history in
    let k = heard_of c.under-history.result in
    let legal = legal_said h k c.args.says.now c.in-Least.e.labels c.requires.said c.under-history.ensures.heard
    (ap (λ (x : Says). verdict_said x) c.in-Least.is) in
    on_ok c.tell_allowed_by.result _ _
    (λ t.
    rest_least c.args.asked.now.form h k c.in-Least.e c.args.says.now c.args.number c.args.out.now.items c.tell_allowed_by.new.out.items
    c.in-Least.is c.under-history.ensures.heard
    (allowed_by c.args.asked.now.form h.allowed k c.args.says.now c.args.number c.in-Least.e.labels.items c.as_slice-labels.result.now
    c.args.out.now.items c.tell_allowed_by.new.out.items legal c.as_slice-labels.ensures.value t)) c.tell_allowed_by.ensures

pub returns-in-Found : goal.returns-in-Found
returns-in-Found g c =
    let h = heard_of c.args.history in
    let k = heard_of c.under-history.result in
    let legal = legal_said h k c.args.says.now c.in-Found.e.labels c.requires.said c.under-history.ensures.heard
    (ap (λ (x : Says). verdict_said x) c.in-Found.is) in
    on_ok c.tell_allowed_by-in-Found.result _ _
    (λ t.
    rest_found c.args.asked.now.form h k c.in-Found.e c.args.says.now c.args.number c.args.out.now.items
    c.tell_allowed_by-in-Found.new.out.items c.in-Found.is c.under-history.ensures.heard
    (allowed_by c.args.asked.now.form h.allowed k c.args.says.now c.args.number c.in-Found.e.labels.items c.as_slice-labels-in-Found.result.now
    c.args.out.now.items c.tell_allowed_by-in-Found.new.out.items legal c.as_slice-labels-in-Found.ensures.value t))
    c.tell_allowed_by-in-Found.ensures

pub returns-in-Forbids : goal.returns-in-Forbids
returns-in-Forbids g c =
    on_ok c.tell_forbidden.result _ _
    (rest_forbids c.args.asked.now.form (heard_of c.args.history) (heard_of c.under-history.result) c.args.says.now _ c.args.number
    c.args.out.now.items c.tell_forbidden.new.out.items c.in-Forbids.is c.under-history.ensures.heard) c.tell_forbidden.ensures

pub returns-in-Undecided : goal.returns-in-Undecided
returns-in-Undecided g c =
    on_ok c.push_says.result _ _
    (rest_undecided c.args.asked.now.form (heard_of c.args.history) c.args.says.now _ c.args.number _ c.args.out.now.items
    c.push_says.new.out.items c.in-Undecided.is) c.push_says.ensures

pub returns : goal.returns
returns g c =
    on_ok c.push_says-in-Undefined.result _ _
    (rest_undefined c.args.asked.now.form (heard_of c.args.history) c.args.says.now _ _ c.args.number _ c.args.out.now.items
    c.push_says-in-Undefined.new.out.items c.in-Undefined.is) c.push_says-in-Undefined.ensures

pub tell_allowed_by-requires : goal.tell_allowed_by-requires
tell_allowed_by-requires g c =
    let k = heard_of c.under-history.result in
    let legal = legal_said (heard_of c.args.history) k c.args.says.now c.in-Least.e.labels c.requires.said c.under-history.ensures.heard
    (ap (λ (x : Says). verdict_said x) c.in-Least.is) in
    subst (λ (ls : List Label). IsRun k.allowed (limits_of k) ls) (sym c.as_slice-labels.ensures.value) (legal.last, legal.run)

pub tell_allowed_by-requires-in-Found : goal.tell_allowed_by-requires-in-Found
tell_allowed_by-requires-in-Found g c =
    let k = heard_of c.under-history.result in
    let legal = legal_said (heard_of c.args.history) k c.args.says.now c.in-Found.e.labels c.requires.said c.under-history.ensures.heard
    (ap (λ (x : Says). verdict_said x) c.in-Found.is) in
    subst (λ (ls : List Label). IsRun k.allowed (limits_of k) ls) (sym c.as_slice-labels-in-Found.ensures.value) (legal.last, legal.run)

pub tell_forbidden-requires-clause-within : goal.tell_forbidden-requires-clause-within
tell_forbidden-requires-clause-within g c =
    let w = within_forbidden (heard_of c.args.history) (heard_of c.under-history.result) c.args.says.now c.in-Forbids.count c.requires.said
    c.in-Forbids.is c.under-history.ensures.heard in
    (w.0, omega (arith, w.1, c.under-history.result.shown.ok.0))
