use Rattle.std.proofs.Common.{◌≡◌, false, if◌then◌else◌, subst, sym}
use Rattle.pif_rules_model.specs.declared.rules.Rules.{Rules}
use Rattle.pif_rules_model.specs.Sets.{has, is_of_posix}
use Rattle.pif_job_judge.proofs.AskedLemmas.{against_each}
use Rattle.pif_job_judge.proofs.posix.against.Goals as goal

pub returns-clause-each : goal.returns-clause-each
returns-clause-each c =
    let r = c.args.rules.now in
    λ rule.
    subst
    (λ (z : Rules).
    has (record z {
      steal = r.steal;
      own_errorcheck = r.own_errorcheck;
      any_consistent = r.any_consistent;
      lost_signal = r.lost_signal;
      revives = r.revives;
    }) rule
    ≡ (if is_of_posix rule then false else has r rule))
    (sym c.no_rules.ensures) (against_each r rule)
