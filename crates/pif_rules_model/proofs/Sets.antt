-- With more rules there is each step that there is with fewer, and with none there are those of the plain machine.
use Rattle.std.proofs.Common.{ℕ, ◌≡◌, ◌∙◌, ◌==◌, Bool, true, false, not, List, [], Option, Some, None, refl, sym, ap, subst, inl, inr, arith}
use Rattle.std.specs.List.{list_any}
use Rattle.std.proofs.lemmas.Bool.{both_ways}
use Rattle.pif_types.specs.Bounds.{Bounds}
use Rattle.pif_model.specs.declared.events.Event.{Event}
use Rattle.pif_model.specs.declared.events.Event.TheVariants.{Begin, Go, End, Tick}
use Rattle.pif_model.specs.declared.events.Seen.{Seen}
use Rattle.pif_model.specs.declared.events.Seen.TheVariants.{Begun, Went, Waits, Answered, Ended, Ticked, Refused}
use Rattle.pif_model.specs.declared.events.Entry.{Entry}
use Rattle.pif_model.specs.declared.events.Entry.TheVariants.{Thread as AddThread, Mutex as AddMutex, Cond as AddCond, Step as Happened}
use Rattle.pif_model.specs.Posix.{World, Ends, after_end, after_owner_death}
use Rattle.pif_model.specs.Posix.Step.{ended as ends}
use Rattle.pif_posix_steps.specs.Once.{MovesOnce, Enters}
use Rattle.pif_posix_steps.specs.Once.Enters.{other as entered}
use Rattle.pif_posix_steps.proofs.DoingEnds.{ended_to}
use Rattle.pif_posix_steps.proofs.DoingEntries.{entered_from}
use Rattle.pif_rules_model.specs.declared.rules.HoldLimits.{HoldLimits}
use Rattle.pif_rules_model.specs.declared.rules.Rule.{Rule}
use Rattle.pif_rules_model.specs.declared.rules.Rule.TheVariants.{Steal, AnyWaiter, Spurious, Recursion, OwnErrorcheck, AnyConsistent, HeldWait, LostSignal, Revives, Barge, CycleWaits, CycleRefused, TimeoutConsumes, EndsApart, StaysLocked, Rebinds, MoreUses, RefusesSetprio, ConsistentByAny, CutUnlock, OtherError, WaitGivesAll}
use Rattle.pif_rules_model.specs.declared.rules.Rules.{Rules}
use Rattle.pif_rules_model.specs.Sets.{has, no_rules, AreAmong, AreWithin}
use Rattle.pif_rules_model.specs.Lending.{not_owned}
use Rattle.pif_rules_model.specs.Rules.{Wide, seen_by_lending, hidden_from, WideEnds, EndsInSteps, LocksBeyond, LocksWithin, DoesBy, MovesByRule, WideMoves, MayRevive, FindsHealth, PassesBy, ReleasesBy, EndsBy, EndsApartBy, PassesApart, PassesLater, InWorld, HasReleased, WideEnters, WideEndsApart, WidePassesLater, as_process_ends, end_of, lost_by, has_given, given_by_others, has_all_again, answered_by}
use Rattle.pif_rules_model.specs.Rules.WideMoves.{plain, ruled}
use Rattle.pif_rules_model.specs.Rules.MayRevive.{revives, cut}
use Rattle.pif_rules_model.specs.Rules.FindsHealth.{as_it_is, one}
use Rattle.pif_rules_model.specs.Rules.PassesBy.{passes, left_free}
use Rattle.pif_rules_model.specs.Rules.ReleasesBy.{none_left, they_stay, one_more}
use Rattle.pif_rules_model.specs.Rules.HasReleased.{at_once, none_left as none_kept, they_stay as they_are_kept}
use Rattle.pif_rules_model.specs.Rules.WideEnters.{ended, other}
use Rattle.pif_rules_model.specs.Rules.EndsInSteps.{leaves, passes as passes_apart}
use Rattle.pif_rules_model.proofs.Entries.{plainly_released, widely_released}
use Rattle.pif_rules_model.proofs.Lending.{sees_more, moves_plainly, plain_moves_are_seen, ends_plainly, plain_ends_are_seen}

module _ (a b : Rules) (more : AreAmong a b) where
  beyond_more : (x y : HoldLimits) → AreWithin x y → (t : ℕ) (w v : World) → LocksBeyond x t w v → LocksBeyond y t w v
  beyond_more x y k t w v h = record {
    mutex = h.mutex;
    locks = h.locks;
    owns = h.owns;
    recursive = h.recursive;
    comes = elim h.comes [
      | inl c ↦ inl (c.0, omega (arith, c.1, k.most), c.2)
      | inr c ↦ inr (omega (arith, c.0, k.least), omega (arith, c.1, k.most), c.2)
    ];
  }

  within_more : (t : ℕ) (w v : World) → LocksWithin a.recursion t w v → LocksWithin b.recursion t w v
  within_more t w v h = by_limits a.recursion refl h
    where
      by_limits : (o : Option HoldLimits) → a.recursion ≡ o → LocksWithin o t w v → LocksWithin b.recursion t w v
      by_limits None e k = absurd k
      by_limits (Some x) e k =
          let y = more.recursion x e in
          subst (λ (o : Option HoldLimits). LocksWithin o t w v) (sym y.1) (beyond_more x y.0 y.2 t w v k)

  pub does_more : (x : Rule) (t : ℕ) (s n : Wide) → DoesBy a x t s n → DoesBy b x t s n
  does_more Recursion t s n h = record { world = h.world; step = within_more t s.world h.world h.step; same = h.same }
  does_more Steal t s n h = h
  does_more AnyWaiter t s n h = h
  does_more Spurious t s n h = h
  does_more OwnErrorcheck t s n h = h
  does_more AnyConsistent t s n h = h
  does_more HeldWait t s n h = h
  does_more LostSignal t s n h = h
  does_more Barge t s n h = h
  does_more CycleWaits t s n h = h
  does_more CycleRefused t s n h = h
  does_more TimeoutConsumes t s n h = h
  does_more Rebinds t s n h = h
  does_more MoreUses t s n h = h
  does_more RefusesSetprio t s n h = h
  does_more ConsistentByAny t s n h = h
  does_more OtherError t s n h = h
  does_more WaitGivesAll t s n h = h
  does_more _ t s n h = h

  ruled_more : (t : ℕ) (s n : Wide) → MovesByRule a t s n → MovesByRule b t s n
  ruled_more t s n h = record {
    rule = h.rule;
    allowed = more.among h.rule h.allowed;
    does = sees_more (DoesBy a h.rule t) (DoesBy b h.rule t) (does_more h.rule t) (hidden_from h.rule t s) s n h.does;
  }

  pub moves_more : (t : ℕ) (s n : Wide) → WideMoves a t s n → WideMoves b t s n
  moves_more t s n (plain h) = plain h
  moves_more t s n (ruled i h) = ruled i (ruled_more t s n h)

  revives_more : (t m : ℕ) (w : World) → MayRevive a t m w → MayRevive b t m w
  revives_more t m w (revives e) = revives (more.among Revives e)
  revives_more t m w (cut e h) = cut (more.among CutUnlock e) h

  finds_more : (t : ℕ) (w v : World) → FindsHealth a t w v → FindsHealth b t w v
  finds_more t w v (as_it_is e) = as_it_is e
  finds_more t w v (one m h o r u e) = one m (revives_more t m w h) o r u e

  passes_more : (m : ℕ) (w v : World) → PassesBy a m w v → PassesBy b m w v
  passes_more m w v (passes p) = passes p
  passes_more m w v (left_free e f) = left_free (more.among Barge e) f

  releases_more : (t : ℕ) (w v : World) → ReleasesBy a t w v → ReleasesBy b t w v
  releases_more t w v (none_left n e) = none_left n e
  releases_more t w v (they_stay i e) = they_stay (more.among StaysLocked i) e
  releases_more t w v (one_more {u = u} m o r p rest) =
      one_more m o r (passes_more m (after_owner_death m w) u p) (releases_more t u v rest)

  pub ends_more : (t : ℕ) (w v : World) → EndsBy a t w v → EndsBy b t w v
  ends_more t w v h = record {
    allowed = h.allowed;
    found = h.found;
    finds = finds_more t w h.found h.finds;
    releases = releases_more t (after_end t h.found) v h.releases;
  }

  pub leaves_more : (t : ℕ) (w v : World) → EndsApartBy a t w v → EndsApartBy b t w v
  leaves_more t w v h = record {
    apart = more.among EndsApart h.apart;
    allowed = h.allowed;
    found = h.found;
    finds = finds_more t w h.found h.finds;
    leaves = h.leaves;
  }

  passes_later_more : (t : ℕ) (w v : World) → PassesLater a t w v → PassesLater b t w v
  passes_later_more t w v h = record {
    ended = h.ended;
    mutex = h.mutex;
    owns = h.owns;
    robust = h.robust;
    passes = passes_more h.mutex (after_owner_death h.mutex w) v h.passes;
  }

  pub passes_apart_more : (t : ℕ) (w v : World) → PassesApart a t w v → PassesApart b t w v
  passes_apart_more t w v h = record {
    apart = more.among EndsApart h.apart;
    later = passes_later_more t w v h.later;
  }

  in_steps_more : (t : ℕ) (s n : Wide) → EndsInSteps a t s n → EndsInSteps b t s n
  in_steps_more t s n (leaves v h e) = leaves v (leaves_more t s.world v h) e
  in_steps_more t s n (passes_apart v i h e) = passes_apart v i (passes_apart_more t s.world v h) e

  pub ends_apart_more : (t : ℕ) (s n : Wide) → WideEndsApart a t s n → WideEndsApart b t s n
  ends_apart_more t s n h = sees_more (EndsInSteps a t) (EndsInSteps b t) (in_steps_more t) (not_owned s.world t s.prio_none) s n h

  later_more : (t : ℕ) (s n : Wide) → InWorld (PassesLater a t) s n → InWorld (PassesLater b t) s n
  later_more t s n h = record { world = h.world; step = passes_later_more t s.world h.world h.step; same = h.same }

  pub passed_later_more : (t : ℕ) (s n : Wide) → WidePassesLater a t s n → WidePassesLater b t s n
  passed_later_more t s n h =
      sees_more (InWorld (PassesLater a t)) (InWorld (PassesLater b t)) (later_more t) (not_owned s.world t s.prio_none) s n h

  -- all but `stays_locked`
  among_kept : (x : Rule) → has (record a { stays_locked = false }) x ≡ true → has (record b { stays_locked = false }) x ≡ true
  among_kept StaysLocked e = absurd (both_ways false refl e)
  among_kept Steal e = more.among Steal e
  among_kept AnyWaiter e = more.among AnyWaiter e
  among_kept Spurious e = more.among Spurious e
  among_kept Recursion e = more.among Recursion e
  among_kept OwnErrorcheck e = more.among OwnErrorcheck e
  among_kept AnyConsistent e = more.among AnyConsistent e
  among_kept HeldWait e = more.among HeldWait e
  among_kept LostSignal e = more.among LostSignal e
  among_kept Revives e = more.among Revives e
  among_kept Barge e = more.among Barge e
  among_kept CycleWaits e = more.among CycleWaits e
  among_kept CycleRefused e = more.among CycleRefused e
  among_kept TimeoutConsumes e = more.among TimeoutConsumes e
  among_kept EndsApart e = more.among EndsApart e
  among_kept Rebinds e = more.among Rebinds e
  among_kept MoreUses e = more.among MoreUses e
  among_kept RefusesSetprio e = more.among RefusesSetprio e
  among_kept ConsistentByAny e = more.among ConsistentByAny e
  among_kept CutUnlock e = more.among CutUnlock e
  among_kept OtherError e = more.among OtherError e
  among_kept WaitGivesAll e = more.among WaitGivesAll e

  -- so also for the end of a thread whose process ends with it
  pub as_process_ends_more : (x : Bool) → AreAmong (as_process_ends x a) (as_process_ends x b)
  as_process_ends_more false = more
  as_process_ends_more true = record {
    among = among_kept;
    recursion = more.recursion;
    prio_none = more.prio_none;
    extra_lines = more.extra_lines;
  }

  pub released_more : (t : ℕ) (s : Wide) → HasReleased a t s → HasReleased b t s
  released_more t s (at_once e) = at_once e
  released_more t s (none_kept h) = none_kept h
  released_more t s (they_are_kept e) = they_are_kept (more.among StaysLocked e)

  wide_ends_more : (t : ℕ) (s n : Wide) → WideEnds a t s n → WideEnds b t s n
  wide_ends_more t s n h = record { world = h.world; ends = ends_more t s.world h.world h.ends; same = h.same }

  pub enters_more : (l : Bounds) (s : Wide) (e : Entry) (n : Wide) → WideEnters a l s e n → WideEnters b l s e n
  enters_more l s e n (ended t is h) =
      ended t is (sees_more (WideEnds a t) (WideEnds b t) (wide_ends_more t) (not_owned s.world t s.prio_none) s n h)
  enters_more l s e n (other v is all h f) = other v is all h f

-- NO RULES

-- no rule is one of none
pub none_is_among : (x : Rule) → has no_rules x ≡ false
none_is_among Steal = refl
none_is_among AnyWaiter = refl
none_is_among Spurious = refl
none_is_among Recursion = refl
none_is_among OwnErrorcheck = refl
none_is_among AnyConsistent = refl
none_is_among HeldWait = refl
none_is_among LostSignal = refl
none_is_among Revives = refl
none_is_among Barge = refl
none_is_among CycleWaits = refl
none_is_among CycleRefused = refl
none_is_among TimeoutConsumes = refl
none_is_among EndsApart = refl
none_is_among StaysLocked = refl
none_is_among Rebinds = refl
none_is_among MoreUses = refl
none_is_among RefusesSetprio = refl
none_is_among ConsistentByAny = refl
none_is_among CutUnlock = refl
none_is_among OtherError = refl
none_is_among WaitGivesAll = refl

-- none of them is among any
pub none_among : (r : Rules) → AreAmong no_rules r
none_among r = record {
  among = λ x e. absurd (both_ways (has no_rules x) (none_is_among x) e);
  recursion = λ x e. absurd (cc);
  prio_none = λ e. absurd (cc);
  extra_lines = λ e. absurd (cc);
}

-- a process that ends has none of them either
pub as_process_ends_none : (x : Bool) → as_process_ends x no_rules ≡ no_rules
as_process_ends_none false = refl
as_process_ends_none true = refl

no_rule_moves : (t : ℕ) (s n : Wide) → MovesByRule no_rules t s n → ⊥
no_rule_moves t s n h = both_ways (has no_rules h.rule) (none_is_among h.rule) h.allowed

pub plain_moves : (t : ℕ) (s n : Wide) → s.prio_none ≡ [] → WideMoves no_rules t s n → MovesOnce t s.world n.world
plain_moves t s n none (plain h) =
    let x = moves_plainly t s.prio_none none s n h in
    subst (λ (x : Wide). MovesOnce t s.world x.world) (sym x.2) x.1
plain_moves t s n none (ruled i h) = absurd (no_rule_moves t s n h)

-- no thread ends apart
pub none_ends_apart : (t : ℕ) (s n : Wide) → WideEndsApart no_rules t s n → ⊥
none_ends_apart t s n h = by_step (seen_by_lending (not_owned s.world t s.prio_none) s) h.after h.step
  where
    by_step : (u v : Wide) → EndsInSteps no_rules t u v → ⊥
    by_step u v (leaves x i e) = both_ways false refl i.apart
    by_step u v (passes_apart x a i e) = both_ways false refl i.apart

-- AN ENTRY OF THE PLAIN MACHINE

end_is : (e : Entry) (t : ℕ) → end_of e ≡ Some t → e ≡ Happened (End t) Ended
end_is (AddThread u p) t h = absurd (cc)
end_is (AddMutex m k x) t h = absurd (cc)
end_is (AddCond c m) t h = absurd (cc)
end_is (Happened x seen) t h = by_event x seen h
  where
    by_event : (x : Event) (seen : Seen) → end_of (Happened x seen) ≡ Some t → Happened x seen ≡ Happened (End t) Ended
    by_event (End u) Ended h = cc
    by_event (Begin u q) seen h = absurd (cc)
    by_event (Go u) seen h = absurd (cc)
    by_event (Tick k) seen h = absurd (cc)
    by_event (End u) Begun h = absurd (cc)
    by_event (End u) Went h = absurd (cc)
    by_event (End u) Waits h = absurd (cc)
    by_event (End u) (Answered a) h = absurd (cc)
    by_event (End u) Ticked h = absurd (cc)
    by_event (End u) (Refused r) h = absurd (cc)

module _ (l : Bounds) (s : Wide) (e : Entry) where
  ends_as_ever : (t : ℕ) (w v : World) → EndsBy no_rules t w v → Ends t w v
  ends_as_ever t w v h =
      let found : h.found ≡ w = by_health h.found h.finds in
      record {
        allowed = h.allowed;
        releases = plainly_released no_rules t refl refl (after_end t w) v
            (subst (λ (x : World). ReleasesBy no_rules t (after_end t x) v) found h.releases);
      }
    where
      by_health : (x : World) → FindsHealth no_rules t w x → x ≡ w
      by_health x (as_it_is f) = f
      by_health x (one m (revives f) o r u g) = absurd (both_ways false refl f)
      by_health x (one m (cut f k) o r u g) = absurd (both_ways false refl f)

  pub plain_enters : (n : Wide) → s.prio_none ≡ [] → WideEnters no_rules l s e n → Enters l s.world e n.world
  plain_enters n none (ended t is h) =
      let this : e ≡ Happened (End t) Ended = end_is e t is in
      let x = ends_plainly (WideEnds no_rules t) t s.prio_none none s n h in
      subst (λ (y : Wide). Enters l s.world e y.world) (sym x.same)
      (subst (λ (y : Entry). Enters l s.world y x.world) (sym this) (entered refl refl (ends t refl (ends_as_ever t s.world x.world x.ends))))
  plain_enters n none (other v is all h f) = subst (λ (x : Wide). Enters l s.world e x.world) (sym f) h

  ends_widely : (r : Rules) (t : ℕ) (w v : World) → Ends t w v → EndsBy r t w v
  ends_widely r t w v h = record {
    allowed = h.allowed;
    found = w;
    finds = as_it_is refl;
    releases = widely_released r t (after_end t w) v h.releases;
  }

  -- no wait has holds to take again
  all_again : s.given ≡ [] → has_all_again s e ≡ true
  all_again none = by_answer (answered_by e)
    where
      by_answer : (o : Option ℕ) → elim o [ None ↦ true | Some t ↦ not (has_given s t) ] ≡ true
      by_answer None = refl
      by_answer (Some t) = ap (λ (us : List ℕ). not (list_any (λ u. u == t) us)) none

  -- what is remembered of threads that ended apart stays, and so do the mutexes that lend nothing
  pub enters_widely : (r : Rules) (v : World) → s.prio_none ≡ [] → s.given ≡ [] → Enters l s.world e v
      → (n : Wide) × WideEnters r l s e n × (n.world ≡ v) × (n.apart ≡ s.apart) × (n.prio_none ≡ s.prio_none) × (n.given ≡ s.given)
  enters_widely r v none all h = by_end (end_of e) refl
    where
      by_end : (o : Option ℕ) → end_of e ≡ o
          → (n : Wide) × WideEnters r l s e n × (n.world ≡ v) × (n.apart ≡ s.apart) × (n.prio_none ≡ s.prio_none) × (n.given ≡ s.given)
      by_end None is = (record s { world = v }, other v is (all_again all) h refl, refl, refl, refl, refl)
      by_end (Some t) is =
          let this : Enters l s.world (Happened (End t) Ended) v = subst (λ (x : Entry). Enters l s.world x v) (end_is e t is) h in
          let end : Ends t s.world v = ended_to t s.world v (entered_from l s.world (Happened (End t) Ended) v this) in
          let n : Wide = record s { world = v; lost = lost_by s.world t s.lost; given = given_by_others t s.given } in
          let ends : WideEnds r t s n = record { world = v; ends = ends_widely r t s.world v end; same = refl } in
          let nobody : given_by_others t s.given ≡ s.given = ap (given_by_others t) all ∙ sym all in
          (n, ended t is (plain_ends_are_seen (WideEnds r t) t s.prio_none none s n ends), refl, refl, refl, nobody)

pub moves_widely : (r : Rules) (t : ℕ) (s : Wide) (v : World) → s.prio_none ≡ [] → MovesOnce t s.world v
    → WideMoves r t s (record s { world = v })
moves_widely r t s v none h = plain (plain_moves_are_seen t s.prio_none none s v h)
