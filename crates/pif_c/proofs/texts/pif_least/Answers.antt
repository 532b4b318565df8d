-- POSIX's rules are handed on, and the number is that of how the job ended.
use Rattle.std.proofs.Common.{ℕ, subst}
use Rattle.pif_rules_model.specs.declared.rules.Rules.{Rules}
use Rattle.pif_c.specs.Texts.{IsHandedOut, LeastAlone, Wholly}
use Rattle.pif_c.proofs.texts.pif_least.Goals as goal

pub returns : goal.returns
returns c = record {
  text = c.least_whole-text.result.0.items;
  done = c.least_whole-text.result.1;
  does =
      subst (λ (r : Rules). Wholly (LeastAlone r) c.args.history.now c.least_whole-text.result.0.items c.least_whole-text.result.1)
      c.posix_rules.ensures c.least_whole-text.ensures;
  handed =
      subst (λ (n : ℕ). IsHandedOut c.least_whole-text.result.0.items n c.args.out.now c.hand_out.new.out c.hand_out.result)
      c.judged_number.ensures c.hand_out.ensures;
}
