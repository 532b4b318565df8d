-- Lines are shown from a state exactly if they are from one that is the same but for uses, as far as no variable is used
-- as often as it may be.
use Rattle.std.proofs.Common.{ℕ, ◌≡◌, ◌≤◌, ◌+◌, ◌-◌, ◌∙◌, Some, List, [], ◌∷◌, ◌++◌, length, reverse, take, refl, sym, ap, subst, arith}
use Rattle.std.proofs.lemmas.List.{reverse-append}
use Rattle.std.proofs.lemmas.List.Sums.{sum_by-cons, sum_by_push, sum_by-take-le}
use Rattle.pif_types.specs.Bounds.{Bounds}
use Rattle.pif_types.specs.declared.requests.Request.{Request}
use Rattle.pif_types.specs.declared.requests.Request.TheVariants.{Signal, Broadcast, TimedLock, TimedWait}
use Rattle.pif_model.specs.declared.events.Event.TheVariants.{Begin as BeginEvent, End as EndEvent}
use Rattle.pif_model.specs.declared.events.Seen.TheVariants.{Begun, Ended}
use Rattle.pif_model.specs.declared.events.Entry.{Entry}
use Rattle.pif_model.specs.declared.events.Entry.TheVariants.{Step as Happened}
use Rattle.pif_model.specs.Deadlines.{plain}
use Rattle.pif_model.specs.World.Progress.{Fresh}
use Rattle.pif_model.specs.Posix.{World, Variable}
use Rattle.pif_search.specs.Runs.{Runs}
use Rattle.pif_uses_model.specs.Uses.{AreButForUses, NoneIsUsedUp, uses_in, uses_to_come, to_come_at, without_uses}
use Rattle.pif_uses_model.proofs.Moves.{other}
use Rattle.pif_uses_model.proofs.Counted.{BeginsAtMost, followed_move, followed_entry}
use Rattle.pif_history_model.specs.declared.lines.Line.{Line}
use Rattle.pif_history_model.specs.declared.lines.Line.TheVariants.{Begin, End}
use Rattle.pif_history_model.specs.declared.labels.Label.{Label}
use Rattle.pif_history_model.specs.declared.labels.Label.TheVariants.{Shown, Moves, Ends}
use Rattle.pif_history_model.specs.Lines.{line_of, dying_after}
use Rattle.pif_history_model.specs.Plain.{PlainConfiguration, PlainAdvances}
use Rattle.pif_history_model.specs.Plain.PlainAdvances.{moves, ends, enters, sees, has_ended}
use Rattle.pif_history_model.specs.Shown.{IsShown, IsSeen}
use Rattle.pif_history_model.specs.Shown.IsSeen.{rests as sees_rest, prio as sees_prio, dying as sees_dying}
use Rattle.pif_history_model.proofs.Soundness.{lines_in, shown-lines_in, same-from_shown}
use Rattle.pif_history_model.specs.Verdicts.{IsIllegal}
use Rattle.pif_rules_model.specs.Sets.{no_rules}
use Rattle.pif_parts_model.specs.FewUses.{uses_by, uses_begun, StaysBelow, AreSameButForUses, MayStandFor}
use Rattle.pif_parts_model.specs.Parts.{IsShownFrom, IsIllegalFrom}
use Rattle.pif_parts_model.specs.Quiet.{IsQuiet}
use Rattle.pif_parts_model.specs.Resting.{world_by, rest_by}
use Rattle.pif_parts_model.proofs.Stepping.{shown_by}
use Rattle.pif_parts_model.proofs.Cutting.{cut_there, join_there}
use Rattle.pif_parts_model.proofs.Judging.{legal_behind, illegal_behind, illegal_from}

-- the same state with these variables
abbrev placed : List Variable → PlainConfiguration → PlainConfiguration
placed xs s = record { world = other xs s.world; dying = s.dying }

-- USES THAT BEGIN

-- of a request, as it is begun
plain_uses : (t : ℕ) (q : Request) → to_come_at (plain q) Fresh ≡ uses_by (Begin t q)
plain_uses t (Signal c) = refl
plain_uses t (Broadcast c) = refl
plain_uses t (TimedLock m d) = refl
plain_uses t (TimedWait c m d) = refl
plain_uses t _ = refl

-- with an entry that a line shows
line_begins : (e : Entry) (k : Line) → line_of e ≡ Some k → BeginsAtMost (uses_by k) e
line_begins e k of t q is =
    let this : k ≡ Begin t q = shown_by (Happened (BeginEvent t q) Begun) of is refl in
    let same : uses_by k ≡ uses_by (Begin t q) = ap uses_by this in
    let one = plain_uses t q in
    omega (arith, same, one)

-- with a step
abbrev uses_with : Label → ℕ
uses_with (Shown k) = uses_by k
uses_with _ = 0

one_more_step : (x : Label) (h : List Label) → uses_begun (lines_in (x ∷ h)) ≡ uses_with x + uses_begun (lines_in h)
one_more_step (Shown k) h = sum_by-cons uses_by k (lines_in h)
one_more_step (Moves t) h = omega arith
one_more_step (Ends t) h = omega arith

-- STEPS

module _ (l : Bounds) where
  -- a step is followed with other variables
  record IsStepped (s : PlainConfiguration) (xs : List Variable) (x : Label) (n : PlainConfiguration) : Type 0 where
    variables : List Variable
    step : PlainAdvances l (placed xs s) x (placed variables n)
    same : AreButForUses n.world.variables variables
    here : (c : ℕ) → uses_in n.world.variables c + uses_to_come n.world ≤ uses_in s.world.variables c + uses_to_come s.world + uses_with x
    there : (c : ℕ) → uses_in variables c + uses_to_come n.world ≤ uses_in xs c + uses_to_come s.world + uses_with x
    signals : n.world.signals ≡ s.world.signals

  -- what a line tells of a state doesn't tell uses
  seen_too : (w : World) (xs : List Variable) (k : Line) → IsSeen k w → IsSeen k (other xs w)
  seen_too w xs k (sees_rest t e lives rest) = sees_rest t e lives rest
  seen_too w xs k (sees_prio t p e lives num) = sees_prio t p e lives num
  seen_too w xs k (sees_dying t e lives) = sees_dying t e lives

  module _ (s : PlainConfiguration) (xs : List Variable) (a : AreButForUses s.world.variables xs) where
    -- one that changes no state of the POSIX machine
    stays : (x : Label) (us : List ℕ) → PlainAdvances l (placed xs s) x (record { world = other xs s.world; dying = us })
        → IsStepped s xs x (record { world = s.world; dying = us })
    stays x us step = record {
      variables = xs;
      step = step;
      same = a;
      here = λ c. omega arith;
      there = λ c. omega arith;
      signals = refl;
    }

    stepped : (spare : NoneIsUsedUp s.world) → NoneIsUsedUp (other xs s.world) → (x : Label) (n : PlainConfiguration) → PlainAdvances l s x n
        → IsStepped s xs x n
    stepped spare room x n (moves t v is m e) =
        rw (is, e) (let f = followed_move t s.world xs v a spare room m in record {
          variables = f.variables;
          step = moves t (other f.variables v) refl f.step refl;
          same = f.same;
          here = f.here;
          there = f.there;
          signals = f.signals;
        })
    stepped spare room x n (ends t v is among y e) =
        rw (is, e) (let f = followed_entry l s.world xs a 0 (Happened (EndEvent t) Ended) v (λ u q i. absurd (cc)) y in record {
          variables = f.variables;
          step = ends t (other f.variables v) refl among f.step refl;
          same = f.same;
          here = f.here;
          there = f.there;
          signals = f.signals;
        })
    stepped spare room x n (enters k e v is of apart y same) =
        rw (is, same) (let f = followed_entry l s.world xs a (uses_by k) e v (line_begins e k of) y in record {
          variables = f.variables;
          step = enters k e (other f.variables v) refl of apart f.step refl;
          same = f.same;
          here = f.here;
          there = f.there;
          signals = f.signals;
        })
    stepped spare room x n (sees k is apart look same) =
        rw (is, same) (stays (Shown k) (dying_after k s.dying) (sees k refl apart (seen_too s.world xs k look) refl))
    stepped spare room x n (has_ended t is among dead same) =
        rw (is, same) (stays (Shown (End t)) (dying_after (End t) s.dying) (has_ended t refl among dead refl))

  -- RUNS

  module _ (s : PlainConfiguration) (xs : List Variable) (a : AreButForUses s.world.variables xs) where
    -- a run is followed with other variables
    record IsRun (h : List Label) (n : PlainConfiguration) : Type 0 where
      variables : List Variable
      run : Runs (PlainAdvances l) (placed xs s) h (placed variables n)
      same : AreButForUses n.world.variables variables
      here : (c : ℕ) → uses_in n.world.variables c + uses_to_come n.world
          ≤ uses_in s.world.variables c + uses_to_come s.world + uses_begun (lines_in h)
      there : (c : ℕ) → uses_in variables c + uses_to_come n.world ≤ uses_in xs c + uses_to_come s.world + uses_begun (lines_in h)
      signals : n.world.signals ≡ s.world.signals

    run_too : (h : List Label) → StaysBelow s.world (lines_in h) → StaysBelow (other xs s.world) (lines_in h) → (n : PlainConfiguration)
        → Runs (PlainAdvances l) s h n → IsRun h n
    run_too [] below below_too n e =
        subst (λ (m : PlainConfiguration). IsRun [] m) e (record {
          variables = xs;
          run = refl;
          same = a;
          here = λ c. omega arith;
          there = λ c. omega arith;
          signals = refl;
        })
    run_too (x ∷ h) below below_too n r =
        let more = one_more_step x h in
        let m : PlainConfiguration = r.0 in
        let k : IsRun h m = run_too h (λ c. let b = below c in omega (arith, b, more)) (λ c. let b = below_too c in omega (arith, b, more)) m r.1 in
        let limit = k.signals in
        let spare : NoneIsUsedUp m.world = λ c. let u = k.here c in let b = below c in omega (arith, u, b, more, limit) in
        let room : NoneIsUsedUp (other k.variables m.world) = λ c. let u = k.there c in let b = below_too c in omega (arith, u, b, more, limit) in
        let f = stepped m k.variables k.same spare room x n r.2 in
        record {
          variables = f.variables;
          run = (placed k.variables m, k.run, f.step);
          same = f.same;
          here = λ c. let u = k.here c in let i = f.here c in omega (arith, u, i, more);
          there = λ c. let u = k.there c in let i = f.there c in omega (arith, u, i, more);
          signals = f.signals ∙ k.signals;
        }

    shown_placed : (lines : List Line) → StaysBelow s.world lines → StaysBelow (other xs s.world) lines → IsShownFrom l s lines
        → IsShownFrom l (placed xs s) lines
    shown_placed lines below below_too x =
        let same : lines ≡ lines_in x.run.history =
        sym (same-from_shown (lines_in x.run.history) lines (sym (shown-lines_in x.run.history) ∙ x.run.shows)) in
        let k = run_too x.run.history (subst (StaysBelow s.world) same below) (subst (StaysBelow (other xs s.world)) same below_too) x.last x.run.run in
        record { last = placed k.variables x.last; run = record { history = x.run.history; run = k.run; shows = x.run.shows } }

-- STATES

pub shown_but_for_uses : (l : Bounds) (s n : PlainConfiguration) (lines : List Line) → AreSameButForUses s n → StaysBelow s.world lines
    → StaysBelow n.world lines → IsShownFrom l s lines → IsShownFrom l n lines
shown_but_for_uses l s n lines e below below_too x =
    let world : other n.world.variables s.world ≡ n.world = ap (other n.world.variables) e.world in
    let is : placed n.world.variables s ≡ n = λ i. record { world = world i; dying = e.dying i } in
    subst (λ (z : PlainConfiguration). IsShownFrom l z lines) is
    (shown_placed l s n.world.variables (ap (λ (w : World). w.variables) e.world) lines below
    (subst (λ (w : World). StaysBelow w lines) (sym world) below_too) x)

pub same_but_for_uses_back : (s n : PlainConfiguration) → AreSameButForUses s n → AreSameButForUses n s
same_but_for_uses_back s n e = record { world = sym e.world; dying = sym e.dying }

-- HISTORIES

-- two histories that rest in one state but for uses go on alike
pub go_on_but_for_uses : (l : Bounds) (before others later : List Line) → IsQuiet before → IsQuiet others
    → without_uses (world_by l before) ≡ without_uses (world_by l others) → StaysBelow (world_by l before) later
    → StaysBelow (world_by l others) later → IsShown l others → IsShown l (later ++ before) → IsShown l (later ++ others)
go_on_but_for_uses l before others later q r same below below_too legal x =
    join_there l others r later legal
    (shown_but_for_uses l (rest_by l before) (rest_by l others) later (record { world = same; dying = refl }) below below_too
    (cut_there l before q later x).1)

-- PARTS

-- lines in the other order, and the first of them
uses_in_order : (lines : List Line) → uses_begun (reverse lines) ≡ uses_begun lines
uses_in_order [] = refl
uses_in_order (x ∷ xs) =
    ap uses_begun (reverse-append (x ∷ []) xs) ∙ sum_by_push uses_by (reverse xs) x
    ∙ (let same = uses_in_order xs in let more = sum_by-cons uses_by x xs in omega (arith, same, more))

below_first : (w : World) (lines : List Line) (n : ℕ) → StaysBelow w lines → StaysBelow w (reverse (take n lines))
below_first w lines n below c =
    let b = below c in
    let same = uses_in_order (take n lines) in
    let fewer = sum_by-take-le uses_by lines n in
    omega (arith, b, same, fewer)

-- the first illegal line is the same one
illegal_but_for_uses : (l : Bounds) (s m : PlainConfiguration) (lines : List Line) (n : ℕ) → AreSameButForUses s m → StaysBelow s.world lines
    → StaysBelow m.world lines → IsIllegalFrom l s lines n → IsIllegalFrom l m lines n
illegal_but_for_uses l s m lines n e below below_too x = record {
  some = x.some;
  within = x.within;
  illegal = λ y.
      x.illegal (shown_but_for_uses l m s (reverse (take n lines)) (same_but_for_uses_back s m e) (below_first m.world lines n below_too)
      (below_first s.world lines n below) y);
  legal = shown_but_for_uses l s m (reverse (take (n - 1) lines)) e (below_first s.world lines (n - 1) below)
      (below_first m.world lines (n - 1) below_too) x.legal;
}

module _ (l : Bounds) (before first second : List Line) (x : MayStandFor l before first second) where
  rests_same : AreSameButForUses (rest_by l (reverse before)) (rest_by l (reverse first))
  rests_same = record { world = x.same; dying = refl }

  pub part_is_legal : IsShown l (reverse first) → IsShown l (reverse (before ++ second)) → IsShown l (reverse (first ++ second))
  part_is_legal legal y =
      let cut = cut_there l (reverse before) x.quiet (reverse second) (subst (λ (zs : List Line). IsShown l zs) (reverse-append before second) y) in
      legal_behind l first x.quiet_too legal second
      (shown_but_for_uses l (rest_by l (reverse before)) (rest_by l (reverse first)) (reverse second) rests_same
      (λ c. let b = x.below c in let same = uses_in_order second in omega (arith, b, same))
      (λ c. let b = x.below_too c in let same = uses_in_order second in omega (arith, b, same)) cut.1)

  pub part_is_illegal : (n : ℕ) → 1 ≤ n → IsShown l (reverse first) → IsIllegal no_rules l (before ++ second) (length before + n)
      → IsIllegal no_rules l (first ++ second) (length first + n)
  part_is_illegal n some legal y =
      illegal_behind l first x.quiet_too legal second n
      (illegal_but_for_uses l (rest_by l (reverse before)) (rest_by l (reverse first)) second n rests_same x.below x.below_too
      (illegal_from l before x.quiet second n some y))
