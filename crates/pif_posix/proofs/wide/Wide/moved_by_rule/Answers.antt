use Rattle.std.proofs.Common.{ℕ, ◌≡◌, ◌<◌, ◌+◌, ◌∙◌, true, false, List, [], ◌++◌, length, get_or, take, sym, ap, arith, append-nil}
use Rattle.std.specs.List.{flat_map}
use Rattle.pif_rules_model.specs.declared.rules.Rule.{Rule}
use Rattle.pif_rules_model.specs.declared.rules.Rules.{Rules}
use Rattle.pif_rules_model.specs.Sets.{has, rules_in_order}
use Rattle.pif_rules_model.specs.Rules.{Wide, hidden_from}
use Rattle.pif_rules_model.specs.Ruled.{seeing_lending, done_by, done_if_allowed}
use Rattle.pif_posix.proofs.Loops.{item_more}
use Rattle.pif_posix.proofs.wide.Wide.moved_by_rule.Goals as goal
use Rattle.pif_posix.proofs.wide.Wide.moved_by_rule.Goals.{then-has+in_ok-append, else-has}

module _ (r : Rules) (t : ℕ) (s : Wide) where
  abbrev done : Rule → List Wide
  done x = seeing_lending (hidden_from x t s) (done_by r x t) s

  by_allowed : (x : Rule) → has r x ≡ true → done_if_allowed r t s x ≡ done x
  by_allowed x e = rw e

  by_other : (x : Rule) → has r x ≡ false → done_if_allowed r t s x ≡ []
  by_other x e = rw e

  -- one rule more, which is allowed
  rule_more : (xs : List Rule) (i : ℕ) (d : Rule) (bs cs : List Wide) → i < length xs → has r (get_or xs i d) ≡ true
      → bs ≡ flat_map (done_if_allowed r t s) (take i xs) → cs ≡ bs ++ done (get_or xs i d)
      → cs ≡ flat_map (done_if_allowed r t s) (take (i + 1) xs)
  rule_more xs i d bs cs lt a e g =
      item_more (done_if_allowed r t s) xs i d bs cs lt e (g ∙ ap (λ zs. bs ++ zs) (sym (by_allowed (get_or xs i d) a)))

  -- one rule more, which isn't
  rule_same : (xs : List Rule) (i : ℕ) (d : Rule) (bs : List Wide) → i < length xs → has r (get_or xs i d) ≡ false
      → bs ≡ flat_map (done_if_allowed r t s) (take i xs) → bs ≡ flat_map (done_if_allowed r t s) (take (i + 1) xs)
  rule_same xs i d bs lt a e =
      item_more (done_if_allowed r t s) xs i d bs bs lt e (sym (ap (λ zs. bs ++ zs) (by_other (get_or xs i d) a) ∙ append-nil bs))

pub loop-rule-preserved : goal.loop-rule-preserved
loop-rule-preserved c = elim c.if-has.branch [
  | then-has+in_ok-append w ↦ ap (λ v. v.items) w.all-is
      ∙ rule_more c.args.rules.now c.args.thread c.args.self.now rules_in_order c.loop-rule.rule-index _ c.loop-rule.all.items w.append.new.all.items
      (omega (arith, c.loop-rule-test.true)) (sym c.has.ensures ∙ w.if-has.true) c.loop-rule.invariant (w.in_ok-append.ensures _ w.done_seeing_lending.ensures)
  | else-has w ↦ ap (λ v. v.items) w.all-is
      ∙ rule_same c.args.rules.now c.args.thread c.args.self.now rules_in_order c.loop-rule.rule-index _ c.loop-rule.all.items
      (omega (arith, c.loop-rule-test.true)) (sym c.has.ensures ∙ w.if-has.false) c.loop-rule.invariant
]
