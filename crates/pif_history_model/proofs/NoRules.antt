-- Whether any rule is allowed.
use Rattle.std.proofs.Common.{◌≡◌, ◌⊎◌, ◌∙◌, true, false, List, [], ◌∷◌, Option, Some, None, is_some, refl, sym, ap, inl, inr}
use Rattle.std.proofs.lemmas.Bool.{true≢false, cases_Bool}
use Rattle.std.specs.List.{All}
use Rattle.std.proofs.lemmas.List.Elements.{All-nil, All-cons, All-contains}
use Rattle.pif_rules_model.specs.declared.rules.HoldLimits.{HoldLimits}
use Rattle.pif_rules_model.specs.declared.rules.Rule.{Rule}
use Rattle.pif_rules_model.specs.declared.rules.Rule.TheVariants.{Steal, AnyWaiter, Spurious, Recursion, OwnErrorcheck, AnyConsistent, HeldWait, LostSignal, Revives, Barge, CycleWaits, CycleRefused, TimeoutConsumes, EndsApart, StaysLocked, Rebinds, MoreUses, RefusesSetprio, ConsistentByAny, CutUnlock, OtherError, WaitGivesAll}
use Rattle.pif_rules_model.specs.declared.rules.Rules.{Rules}
use Rattle.pif_rules_model.specs.Sets.{has, no_rules, rules_in_order}
use Rattle.pif_rules_model.proofs.Ruling.{each_is_in_order}
use Rattle.pif_rules_model.proofs.Sets.{none_is_among}

no_limits : (o : Option HoldLimits) → is_some o ≡ false → o ≡ None
no_limits None e = refl
no_limits (Some x) e = absurd (true≢false e)

-- rules of which none is allowed, no mutex of PTHREAD_PRIO_NONE, and no line that the plain machine doesn't have
are_none : (r : Rules) → ((x : Rule) → has r x ≡ false) → r.prio_none ≡ false → r.extra_lines ≡ false → r ≡ no_rules
are_none r none inherits plain = λ i. record {
  steal = none Steal i;
  any_waiter = none AnyWaiter i;
  spurious = none Spurious i;
  recursion = no_limits r.recursion (none Recursion) i;
  own_errorcheck = none OwnErrorcheck i;
  any_consistent = none AnyConsistent i;
  held_wait = none HeldWait i;
  lost_signal = none LostSignal i;
  revives = none Revives i;
  barge = none Barge i;
  cycle_waits = none CycleWaits i;
  cycle_refused = none CycleRefused i;
  timeout_consumes = none TimeoutConsumes i;
  ends_apart = none EndsApart i;
  stays_locked = none StaysLocked i;
  rebinds = none Rebinds i;
  more_uses = none MoreUses i;
  refuses_setprio = none RefusesSetprio i;
  consistent_by_any = none ConsistentByAny i;
  cut_unlock = none CutUnlock i;
  other_error = none OtherError i;
  wait_gives_all = none WaitGivesAll i;
  prio_none = inherits i;
  extra_lines = plain i;
}

-- one of these is allowed, or none of them
one_or_none : (r : Rules) (xs : List Rule) → ((x : Rule) × (has r x ≡ true)) ⊎ All (λ x. has r x ≡ false) xs
one_or_none r [] = inr (All-nil (λ x. has r x ≡ false))
one_or_none r (x ∷ xs) = by_first (cases_Bool (has r x)) (one_or_none r xs)
  where
    by_first : (has r x ≡ true) ⊎ (has r x ≡ false) → ((y : Rule) × (has r y ≡ true)) ⊎ All (λ y. has r y ≡ false) xs
        → ((y : Rule) × (has r y ≡ true)) ⊎ All (λ y. has r y ≡ false) (x ∷ xs)
    by_first (inl there) rest = inl (x, there)
    by_first (inr missing) (inl some) = inl some
    by_first (inr missing) (inr none) = inr (All-cons (λ y. has r y ≡ false) x xs missing none)

-- no rule is allowed, or some is, or mutexes of PTHREAD_PRIO_NONE are, or lines that the plain machine doesn't have
pub none_or_some : (r : Rules) → (r ≡ no_rules) ⊎ (r ≡ no_rules → ⊥)
none_or_some r = by_flags (cases_Bool r.prio_none) (cases_Bool r.extra_lines)
  where
    by_rules : r.prio_none ≡ false → r.extra_lines ≡ false → ((x : Rule) × (has r x ≡ true)) ⊎ All (λ x. has r x ≡ false) rules_in_order
        → (r ≡ no_rules) ⊎ (r ≡ no_rules → ⊥)
    by_rules inherits plain (inl some) =
        inr (λ is. true≢false (sym some.1 ∙ (ap (λ (q : Rules). has q some.0) is ∙ none_is_among some.0)))
    by_rules inherits plain (inr none) =
        inl (are_none r (λ x. All-contains (λ y. has r y ≡ false) rules_in_order x none (each_is_in_order x)) inherits plain)

    by_flags : (r.prio_none ≡ true) ⊎ (r.prio_none ≡ false) → (r.extra_lines ≡ true) ⊎ (r.extra_lines ≡ false)
        → (r ≡ no_rules) ⊎ (r ≡ no_rules → ⊥)
    by_flags (inl on) extra = inr (λ is. true≢false (sym on ∙ ap (λ (q : Rules). q.prio_none) is))
    by_flags (inr off) (inl on) = inr (λ is. true≢false (sym on ∙ ap (λ (q : Rules). q.extra_lines) is))
    by_flags (inr off) (inr plain) = by_rules off plain (one_or_none r rules_in_order)
