-- A step with rules is there with few of them: a move with one at most, and any other with those that change an end.
use Rattle.std.proofs.Common.{ℕ, ◌≡◌, ◌∙◌, Bool, true, false, ◌||◌, ◌∷◌, Option, Some, None, filter, map, Contains, arith, refl}
use Rattle.std.proofs.lemmas.List.Elements.{Contains-push}
use Rattle.pif_types.specs.Bounds.{Bounds}
use Rattle.pif_model.specs.Posix.{World}
use Rattle.pif_model.specs.declared.events.Entry.{Entry}
use Rattle.pif_posix_steps.proofs.DoingLists.{in_filter_from, in_first, in_map_from, in_rest}
use Rattle.pif_rules_model.specs.declared.rules.Rule.{Rule}
use Rattle.pif_rules_model.specs.declared.rules.Rule.TheVariants.{Steal, AnyWaiter, Spurious, Recursion, OwnErrorcheck, AnyConsistent, HeldWait, LostSignal, Revives, Barge, CycleWaits, CycleRefused, TimeoutConsumes, EndsApart, StaysLocked, Rebinds, MoreUses, RefusesSetprio, ConsistentByAny, CutUnlock, OtherError, WaitGivesAll}
use Rattle.pif_rules_model.specs.declared.rules.Rules.{Rules}
use Rattle.pif_rules_model.specs.Sets.{has, no_rules, rules_in_order}
use Rattle.pif_rules_model.specs.Lending.{not_owned}
use Rattle.pif_rules_model.specs.Rules.{Wide, hidden_from, WideEnters, WideEnds, EndsInSteps, WideEndsApart, InWorld, PassesLater, WidePassesLater, as_process_ends, end_of, MovesByRule, DoesBy, EndsBy, HasReleased, MayRevive, FindsHealth, PassesBy, ReleasesBy}
use Rattle.pif_rules_model.specs.Rules.WideMoves.{plain, ruled}
use Rattle.pif_rules_model.specs.Rules.WideEnters.{ended as wide_end, other as wide_other}
use Rattle.pif_rules_model.specs.Rules.EndsInSteps.{leaves, passes as wide_passes}
use Rattle.pif_rules_model.specs.Rules.MayRevive.{revives, cut}
use Rattle.pif_rules_model.specs.Rules.FindsHealth.{as_it_is, one}
use Rattle.pif_rules_model.specs.Rules.PassesBy.{passes, left_free}
use Rattle.pif_rules_model.specs.Rules.ReleasesBy.{none_left, they_stay, one_more}
use Rattle.pif_rules_model.specs.Rules.HasReleased.{at_once as released_at_once, none_left as released_none, they_stay as released_staying}
use Rattle.pif_rules_model.proofs.Lending.{sees_more}
use Rattle.pif_rules.specs.Sets.{both, only}
use Rattle.pif_history_model.specs.declared.lines.Line.{Line}
use Rattle.pif_history_model.specs.declared.lines.Line.TheVariants.{Mutex, Process, Halted, Resumed, Asks}
use Rattle.pif_history_model.specs.declared.lines.Protocol.TheVariants.{PrioNone}
use Rattle.pif_history_model.specs.Lines.{is_among}
use Rattle.pif_history_model.specs.declared.labels.Label.{Label}
use Rattle.pif_history_model.specs.declared.labels.Label.TheVariants.{Shown, Moves, Ends}
use Rattle.pif_history_model.specs.Searched.{Configuration, Steps, Advances, IsThrough, at_end_of, at_entry}
use Rattle.pif_history_model.specs.Searched.IsThrough.{at_once as through_at_once, released as through_released}
use Rattle.pif_history_model.specs.Searched.Steps.{moves, ends, ends_apart, enters, adds_none, sees, has_ended, exits, passes_later, halts, resumes, asks}
use Rattle.pif_history_told.specs.Sets.{sets_but_all, sets_in_order}
use Rattle.pif_history_told.specs.Steps.{IsStepBy, asked_with, of_ends, of_lines, sets_for}

-- ENDS

-- b has the rules of a that change an end
record EndsAlike (a b : Rules) : Type 0 where
  revives : b.revives ≡ a.revives
  barge : b.barge ≡ a.barge
  ends_apart : b.ends_apart ≡ a.ends_apart
  stays_locked : b.stays_locked ≡ a.stays_locked
  cut_unlock : b.cut_unlock ≡ a.cut_unlock

may_revive : (a b : Rules) → EndsAlike a b → (t m : ℕ) (w : World) → MayRevive a t m w → MayRevive b t m w
may_revive a b h t m w (revives e) = revives (h.revives ∙ e)
may_revive a b h t m w (cut e c) = cut (h.cut_unlock ∙ e) c

finds : (a b : Rules) → EndsAlike a b → (t : ℕ) (w v : World) → FindsHealth a t w v → FindsHealth b t w v
finds a b h t w v (as_it_is e) = as_it_is e
finds a b h t w v (one m may o s u e) = one m (may_revive a b h t m w may) o s u e

passes_on : (a b : Rules) → EndsAlike a b → (m : ℕ) (w v : World) → PassesBy a m w v → PassesBy b m w v
passes_on a b h m w v (passes p) = passes p
passes_on a b h m w v (left_free e f) = left_free (h.barge ∙ e) f

releases : (a b : Rules) → EndsAlike a b → (t : ℕ) (w v : World) → ReleasesBy a t w v → ReleasesBy b t w v
releases a b h t w v (none_left o e) = none_left o e
releases a b h t w v (they_stay s e) = they_stay (h.stays_locked ∙ s) e
releases a b h t w v (one_more m o s p more) = one_more m o s (passes_on a b h m _ _ p) (releases a b h t _ v more)

ends_by : (a b : Rules) → EndsAlike a b → (t : ℕ) (w v : World) → EndsBy a t w v → EndsBy b t w v
ends_by a b h t w v e = record {
  allowed = e.allowed;
  found = e.found;
  finds = finds a b h t w e.found e.finds;
  releases = releases a b h t _ v e.releases;
}

wide_ends_by : (a b : Rules) → EndsAlike a b → (t : ℕ) (s n : Wide) → WideEnds a t s n → WideEnds b t s n
wide_ends_by a b h t s n x = record { world = x.world; ends = ends_by a b h t s.world x.world x.ends; same = x.same }

enters_by : (a b : Rules) → EndsAlike a b → (l : Bounds) (s : Wide) (e : Entry) (n : Wide) → WideEnters a l s e n → WideEnters b l s e n
enters_by a b h l s e n (wide_end t q x) =
    wide_end t q (sees_more (WideEnds a t) (WideEnds b t) (wide_ends_by a b h t) (not_owned s.world t s.prio_none) s n x)
enters_by a b h l s e n (wide_other v q all x f) = wide_other v q all x f

passes_later_by : (a b : Rules) → EndsAlike a b → (t : ℕ) (w v : World) → PassesLater a t w v → PassesLater b t w v
passes_later_by a b h t w v x = record {
  ended = x.ended;
  mutex = x.mutex;
  owns = x.owns;
  robust = x.robust;
  passes = passes_on a b h x.mutex _ v x.passes;
}

in_steps_by : (a b : Rules) → EndsAlike a b → (t : ℕ) (s n : Wide) → EndsInSteps a t s n → EndsInSteps b t s n
in_steps_by a b h t s n (leaves v x f) =
    leaves v (record {
      apart = h.ends_apart ∙ x.apart;
      allowed = x.allowed;
      found = x.found;
      finds = finds a b h t s.world x.found x.finds;
      leaves = x.leaves;
    }) f
in_steps_by a b h t s n (wide_passes v there x f) =
    wide_passes v there (record {
      apart = h.ends_apart ∙ x.apart;
      later = passes_later_by a b h t s.world v x.later;
    }) f

apart_by : (a b : Rules) → EndsAlike a b → (t : ℕ) (s n : Wide) → WideEndsApart a t s n → WideEndsApart b t s n
apart_by a b h t s n x = sees_more (EndsInSteps a t) (EndsInSteps b t) (in_steps_by a b h t) (not_owned s.world t s.prio_none) s n x

-- also if the process of the thread ends with it
exiting_alike : (a b : Rules) → EndsAlike a b → (ending : Bool) → EndsAlike (as_process_ends ending a) (as_process_ends ending b)
exiting_alike a b h false = h
exiting_alike a b h true = record {
  revives = h.revives;
  barge = h.barge;
  ends_apart = h.ends_apart;
  stays_locked = refl;
  cut_unlock = h.cut_unlock;
}

end_alike : (a b : Rules) → EndsAlike a b → (s : Configuration) (t : ℕ) → EndsAlike (at_end_of s a t) (at_end_of s b t)
end_alike a b h s t = exiting_alike a b h (is_among s.exiting t)

ended_alike : (a b : Rules) → EndsAlike a b → (s : Configuration) (ended : Option ℕ)
    → EndsAlike (elim ended [ None ↦ a | Some t ↦ at_end_of s a t ]) (elim ended [ None ↦ b | Some t ↦ at_end_of s b t ])
ended_alike a b h s None = h
ended_alike a b h s (Some t) = end_alike a b h s t

entry_alike : (a b : Rules) → EndsAlike a b → (s : Configuration) (e : Entry) → EndsAlike (at_entry s a e) (at_entry s b e)
entry_alike a b h s e = ended_alike a b h s (end_of e)

later_in_world : (a b : Rules) → EndsAlike a b → (t : ℕ) (s n : Wide) → InWorld (PassesLater a t) s n → InWorld (PassesLater b t) s n
later_in_world a b h t s n x =
    record { world = x.world; step = passes_later_by a b h t s.world x.world x.step; same = x.same }

later_by : (a b : Rules) → EndsAlike a b → (t : ℕ) (s n : Wide) → WidePassesLater a t s n → WidePassesLater b t s n
later_by a b h t s n x =
    sees_more (InWorld (PassesLater a t)) (InWorld (PassesLater b t)) (later_in_world a b h t) (not_owned s.world t s.prio_none) s n x

has_released : (a b : Rules) → EndsAlike a b → (t : ℕ) (s : Wide) → HasReleased a t s → HasReleased b t s
has_released a b h t s (released_at_once e) = released_at_once e
has_released a b h t s (released_none o) = released_none o
has_released a b h t s (released_staying e) = released_staying (h.stays_locked ∙ e)

is_through : (a b : Rules) → EndsAlike a b → (t : ℕ) (s : Wide) → IsThrough a t s → IsThrough b t s
is_through a b h t s (through_at_once e) = through_at_once (h.ends_apart ∙ e)
is_through a b h t s (through_released x) = through_released (has_released a b h t s x)

-- THE LAST SET

or_false : (b : Bool) → (b || false) ≡ b
or_false true = refl
or_false false = refl

last_of : Rules → Rules
last_of r = both r no_rules

lines_alike : (r : Rules) (line : Line) → EndsAlike r (asked_with r (Shown line) (last_of (of_lines r)))
unfolding last_of
lines_alike r line = record {
  revives = or_false r.revives;
  barge = or_false r.barge;
  ends_apart = refl;
  stays_locked = or_false r.stays_locked;
  cut_unlock = or_false r.cut_unlock;
}

ends_alike : (r : Rules) (t : ℕ) → EndsAlike r (asked_with r (Ends t) (last_of (of_ends r)))
unfolding last_of
ends_alike r t = record {
  revives = or_false r.revives;
  barge = or_false r.barge;
  ends_apart = or_false r.ends_apart;
  stays_locked = or_false r.stays_locked;
  cut_unlock = or_false r.cut_unlock;
}

last_shown : (r : Rules) → Contains (sets_in_order no_rules r) (last_of r)
unfolding last_of
last_shown r = Contains-push (sets_but_all no_rules r) (both r no_rules)

-- MOVES

-- each rule stands in the table
in_order : (rule : Rule) → Contains rules_in_order rule
in_order Steal = (0, omega arith, refl)
in_order AnyWaiter = (1, omega arith, refl)
in_order Spurious = (2, omega arith, refl)
in_order Recursion = (3, omega arith, refl)
in_order OwnErrorcheck = (4, omega arith, refl)
in_order AnyConsistent = (5, omega arith, refl)
in_order HeldWait = (6, omega arith, refl)
in_order LostSignal = (7, omega arith, refl)
in_order Revives = (8, omega arith, refl)
in_order Barge = (9, omega arith, refl)
in_order CycleWaits = (10, omega arith, refl)
in_order CycleRefused = (11, omega arith, refl)
in_order TimeoutConsumes = (12, omega arith, refl)
in_order EndsApart = (13, omega arith, refl)
in_order StaysLocked = (14, omega arith, refl)
in_order Rebinds = (15, omega arith, refl)
in_order MoreUses = (16, omega arith, refl)
in_order RefusesSetprio = (17, omega arith, refl)
in_order ConsistentByAny = (18, omega arith, refl)
in_order CutUnlock = (19, omega arith, refl)
in_order OtherError = (20, omega arith, refl)
in_order WaitGivesAll = (21, omega arith, refl)

-- a rule is one of those that it has alone
has_alone : (r : Rules) (rule : Rule) → has r rule ≡ true → has (only r rule) rule ≡ true
has_alone r Steal e = e
has_alone r AnyWaiter e = e
has_alone r Spurious e = e
has_alone r Recursion e = e
has_alone r OwnErrorcheck e = e
has_alone r AnyConsistent e = e
has_alone r HeldWait e = e
has_alone r LostSignal e = e
has_alone r Revives e = e
has_alone r Barge e = e
has_alone r CycleWaits e = e
has_alone r CycleRefused e = e
has_alone r TimeoutConsumes e = e
has_alone r EndsApart e = e
has_alone r StaysLocked e = e
has_alone r Rebinds e = e
has_alone r MoreUses e = e
has_alone r RefusesSetprio e = e
has_alone r ConsistentByAny e = e
has_alone r CutUnlock e = e
has_alone r OtherError e = e
has_alone r WaitGivesAll e = e

does_alone : (r : Rules) (rule : Rule) (t : ℕ) (s n : Wide) → DoesBy r rule t s n → DoesBy (only r rule) rule t s n
does_alone r Recursion t s n d = d
does_alone r Steal t s n d = d
does_alone r AnyWaiter t s n d = d
does_alone r Spurious t s n d = d
does_alone r OwnErrorcheck t s n d = d
does_alone r AnyConsistent t s n d = d
does_alone r HeldWait t s n d = d
does_alone r LostSignal t s n d = d
does_alone r Barge t s n d = d
does_alone r CycleWaits t s n d = d
does_alone r CycleRefused t s n d = d
does_alone r TimeoutConsumes t s n d = d
does_alone r Rebinds t s n d = d
does_alone r MoreUses t s n d = d
does_alone r RefusesSetprio t s n d = d
does_alone r ConsistentByAny t s n d = d
does_alone r OtherError t s n d = d
does_alone r WaitGivesAll t s n d = d
does_alone r _ t s n d = absurd d

moves_alone : (r : Rules) (t : ℕ) (s n : Wide) (m : MovesByRule r t s n) → MovesByRule (only r m.rule) t s n
moves_alone r t s n m = record {
  rule = m.rule;
  allowed = has_alone r m.rule m.allowed;
  does = sees_more (DoesBy r m.rule t) (DoesBy (only r m.rule) m.rule t) (does_alone r m.rule t) (hidden_from m.rule t s) s n m.does;
}

alone_listed : (r : Rules) (rule : Rule) → has r rule ≡ true → Contains (no_rules ∷ map (only r) (filter (has r) rules_in_order)) (only r rule)
alone_listed r rule e =
    in_rest no_rules (map (only r) (filter (has r) rules_in_order)) (only r rule)
    (in_map_from (only r) (filter (has r) rules_in_order) rule (in_filter_from (has r) rules_in_order rule (in_order rule) e))

-- ALL STEPS

-- whether b lets a line add a mutex of PTHREAD_PRIO_NONE, and be `process`, `halted` or `resumed`, as a does
record LinesAlike (a b : Rules) : Type 0 where
  prio_none : b.prio_none ≡ a.prio_none
  extra_lines : b.extra_lines ≡ a.extra_lines

-- a step that is no move is there with rules that change an end alike
no_move : (a b : Rules) → EndsAlike a b → (l : Bounds) (s : Configuration) (x : Label) (n : Configuration)
    → ((t : ℕ) → x ≡ Moves t → ⊥) → ((line : Line) → x ≡ Shown line → LinesAlike a b) → Steps a l s x n → Steps b l s x n
no_move a b h l s x n none lines (moves t v i m e) = absurd (none t i)
no_move a b h l s x n none lines (ends t v i d g e) =
    ends t v i d (enters_by (at_end_of s a t) (at_end_of s b t) (end_alike a b h s t) l s.wide _ v g) e
no_move a b h l s x n none lines (ends_apart t v i d g e) =
    ends_apart t v i d (apart_by (at_end_of s a t) (at_end_of s b t) (end_alike a b h s t) t s.wide v g) e
no_move a b h l s x n none lines (enters line c v i k d g e) =
    enters line c v i k d (enters_by (at_entry s a c) (at_entry s b c) (entry_alike a b h s c) l s.wide c v g) e
no_move a b h l s x n none lines (adds_none m k c v i g w e) =
    adds_none m k c v i ((lines (Mutex k c PrioNone) i).prio_none ∙ g) (enters_by a b h l s.wide _ v w) e
no_move a b h l s x n none lines (sees line i d g e) = sees line i d g e
no_move a b h l s x n none lines (has_ended t i d g q e) =
    has_ended t i d g (is_through (at_end_of s a t) (at_end_of s b t) (end_alike a b h s t) t s.wide q) e
no_move a b h l s x n none lines (exits t i g d k e) = exits t i ((lines (Process t) i).extra_lines ∙ g) d k e
no_move a b h l s x n none lines (passes_later t v i d g p e) =
    passes_later t v i d (h.stays_locked ∙ g) (later_by a b h t s.wide v p) e
no_move a b h l s x n none lines (halts i g e) = halts i ((lines Halted i).extra_lines ∙ g) e
no_move a b h l s x n none lines (resumes i g e) = resumes i ((lines Resumed i).extra_lines ∙ g) e
no_move a b h l s x n none lines (asks f holds i g so e) =
    asks f holds i ((lines (Asks f holds) i).extra_lines ∙ g) so e

-- a move is there with one rule or none
by_move : (r : Rules) (l : Bounds) (s : Configuration) (t : ℕ) (n : Configuration) → Steps r l s (Moves t) n
    → (q : Rules) × Contains (no_rules ∷ map (only r) (filter (has r) rules_in_order)) q × Steps q l s (Moves t) n
by_move r l s t n (moves u v i (plain m) e) =
    (no_rules, in_first no_rules (map (only r) (filter (has r) rules_in_order)), moves u v i (plain m) e)
by_move r l s t n (moves u v i (ruled a m) e) =
    (only r m.rule, alone_listed r m.rule m.allowed, moves u v i (ruled a (moves_alone r u s.wide v m)) e)
by_move r l s t n (ends u v i d h e) = absurd (cc)
by_move r l s t n (ends_apart u v i d h e) = absurd (cc)
by_move r l s t n (enters line c v i k d h e) = absurd (cc)
by_move r l s t n (adds_none m k b v i a h e) = absurd (cc)
by_move r l s t n (sees line i d h e) = absurd (cc)
by_move r l s t n (has_ended u i d h g e) = absurd (cc)
by_move r l s t n (exits u i g d k e) = absurd (cc)
by_move r l s t n (passes_later u v i d g p e) = absurd (cc)
by_move r l s t n (halts i g e) = absurd (cc)
by_move r l s t n (resumes i g e) = absurd (cc)
by_move r l s t n (asks f b i g so e) = absurd (cc)

pub by_set : (r : Rules) (l : Bounds) (s : Configuration) (x : Label) (n : Configuration) → Advances r l s x n
    → (q : Rules) × IsStepBy r l s x q n
unfolding sets_for
by_set r l s (Moves t) n a =
    let move = by_move r l s t n a.step in (move.0, (move.1, record { comes = a.comes; step = move.2 }))
by_set r l s (Shown line) n a = (
  last_of (of_lines r),
  (
    last_shown (of_lines r),
    record {
      comes = a.comes;
      step = no_move r _ (lines_alike r line) l s (Shown line) n (λ t i. cc)
          (λ other i. record { prio_none = refl; extra_lines = refl }) a.step;
    },
  ),
)
by_set r l s (Ends u) n a = (
  last_of (of_ends r),
  (
    last_shown (of_ends r),
    record {
      comes = a.comes;
      step = no_move r _ (ends_alike r u) l s (Ends u) n (λ t i. cc) (λ line i. absurd (cc)) a.step;
    },
  ),
)
