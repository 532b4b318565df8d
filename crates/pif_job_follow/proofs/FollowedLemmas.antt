-- What is known of a history that is followed, step by step.
use Rattle.std.proofs.Common.{◌≡◌, ℕ, ◌+◌, ◌<◌, ◌≤◌, ◌∙◌, ◌⊎◌, inl, inr, cond, true, false, ◌==◌, List, [], ◌∷◌, ◌++◌, Bool, Option, Some, None, Ok, length, length-append, reverse, take, drop, refl, sym, ap, subst, arith, append_assoc, append-nil}
use Rattle.std.specs.List.{count_by, slice_get}
use Rattle.std.proofs.Common.{slice_index_or, zero, suc, ◌-◌}
use Rattle.std.proofs.lemmas.Bool.{false≢true}
use Rattle.std.proofs.lemmas.Bool.Decides.{nat_tests}
use Rattle.std.proofs.lemmas.List.Sums.{sum_by-append}
use Rattle.std.proofs.Math.Seq.{drop-append_seam, take-append_seam}
use Rattle.pif_types.specs.Bounds.{Bounds}
use Rattle.pif_rules.specs.Sets.{is_any}
use Rattle.pif_rules_model.specs.Sets.{no_rules}
use Rattle.pif_model.specs.Posix.{empty_world}
use Rattle.pif_model.specs.Posix.IsRun.{start}
use Rattle.pif_history_model.specs.declared.lines.Line.{Line}
use Rattle.pif_history_model.specs.Shown.{IsShown}
use Rattle.pif_history_model.specs.Shown.IsCut.{no_line}
use Rattle.pif_history_text.specs.declared.heard.History.{History}
use Rattle.pif_history_text.specs.Histories.{Heard, after_line, at_end, numbered, is_begin, limits_of, unheard}
use Rattle.pif_history_text.specs.Reading.{HasNoFeed, IsPaired, heard_of}
use Rattle.pif_parts.specs.declared.joining.WholeVerdict.{WholeVerdict}
use Rattle.pif_parts.specs.Parts.{IsOfWhole}
use Rattle.pif_parts_judged.specs.declared.following.Judged.{Judged}
use Rattle.pif_parts_judged.specs.declared.following.Step.{Step}
use Rattle.pif_parts_judged.specs.declared.following.Step.TheVariants as step
use Rattle.pif_parts_judged.specs.Following.{ComesTo, IsJudged}
use Rattle.pif_job_parts.specs.Splitting.{HasNoRules}
use Rattle.pif_job_follow.specs.declared.followed.Followed.{Followed}
use Rattle.pif_job_follow.specs.Fronts.{HearsNext, IsFrontOf, behind, limits_named}
use Rattle.pif_job_follow.proofs.TextLemmas.{at_start, leads_end, leads_line}
use Rattle.pif_job_follow.specs.Followed.{EndsTo, HeardLast, HeardNext, IsFollowed, IsOf, IsReading, JudgesTo, forgotten, last_or}

-- LIMITS

limits_behind : (front : List Line) (numbers : List ℕ) (named : Option Bounds) (h : Heard) → IsFrontOf front numbers named h
    → limits_named named ≡ limits_of h
limits_behind front numbers named h (inl none) = ap limits_named none.2
limits_behind front numbers named h (inr some) = some.2 ∙ sym (ap limits_named some.1)

pub same_limits : (h : Heard) (f : Followed) → IsFollowed h f → limits_of h ≡ limits_of (heard_of f.later)
same_limits h f x = ap limits_of x.is ∙ limits_behind x.front x.numbers x.named (heard_of f.later) x.stands_behind

-- what is so of the lines is so of the history
pub is_of : (h : Heard) (f : Followed) (x : IsFollowed h f) (v : WholeVerdict)
    → IsOfWhole (limits_of (heard_of f.later)) (x.front ++ f.later.shown.items) v → IsOf h v
is_of h f x v is =
    subst (λ l. IsOfWhole l h.shown v) (sym (same_limits h f x))
    (subst (λ (ls : List Line). IsOfWhole (limits_of (heard_of f.later)) ls v) (sym (ap (λ (w : Heard). w.shown) x.is)) is)

-- BEFORE THE FIRST BYTE

no_rules_at_first : HasNoRules no_rules
unfolding is_any
no_rules_at_first = record { none = refl; inherits = refl; plain = refl }

pub followed_first : (f : Followed) → heard_of f.later ≡ unheard → f.calls ≡ 0 → f.up_to ≡ None
    → ((l : Bounds) → IsJudged l [] [] f.judged) → IsFollowed unheard f
followed_first f e calls up_to judged = record {
  front = [];
  numbers = [];
  named = None;
  is = ap (behind [] [] None) (sym e);
  stands_behind = inl (refl, refl, ap (λ (h : Heard). h.named) (sym e));
  paired = refl;
  later_paired = ap (λ (h : Heard). length h.numbers) e ∙ sym (ap (λ (h : Heard). length h.shown) e);
  judged = subst (λ (ls : List Line). IsJudged (limits_of (heard_of f.later)) [] ls f.judged)
      (sym (ap (λ (h : Heard). h.shown) e)) (judged (limits_of (heard_of f.later)));
  calls = calls;
  rules = no_rules_at_first;
  up_to = up_to;
}

-- ONE MORE LINE

count_more : (p : Line → Bool) (xs ys : List Line) → count_by p (xs ++ ys) ≡ count_by p xs + count_by p ys
count_more p xs ys = sum_by-append (λ x. cond (p x) 1 0) xs ys

none_shown : (l : Bounds) → IsShown l []
none_shown l = record { history = []; before = []; last = empty_world l.signals; run = start refl; cut = no_line }

-- with other limits, as long as no line is forgotten
other_limits : (front later : List Line) (j : Judged) (l m : Bounds) → (front ≡ []) ⊎ (m ≡ l) → IsJudged l front later j
    → IsJudged m front later j
other_limits front later j l m (inl none) x = record {
  count = x.count;
  legal = subst (λ (ls : List Line). IsShown m (reverse ls)) (sym none) (none_shown m);
  stands = x.at_first none m;
  at_first = x.at_first;
  past = x.past;
}
other_limits front later j l m (inr e) x = subst (λ k. IsJudged k front later j) (sym e) x

next_of : (full : Heard) (old new : Followed) (bytes : List ℕ) (n : ℕ) → n ≡ length old.later.shown.items → (x : IsFollowed full old)
    → HearsNext x.front x.numbers x.named (heard_of old.later) bytes (heard_of new.later)
    → HasNoRules new.later.allowed → (IsPaired old.later → IsPaired new.later)
    → ((l : Bounds) (front : List Line) → IsJudged l front (take n new.later.shown.items) old.judged
    → IsJudged l front new.later.shown.items new.judged)
    → new.calls ≡ old.calls + count_by is_begin (drop n new.later.shown.items)
    → new.up_to ≡ old.up_to → HeardNext full bytes new
next_of full old new bytes n at x y rules paired judged calls up_to = (
  behind x.front x.numbers y.now_named (heard_of new.later),
  ap (λ (h : Heard). after_line h bytes) x.is ∙ y.whole,
  record {
    front = x.front;
    numbers = x.numbers;
    named = y.now_named;
    is = refl;
    stands_behind = y.stays_behind;
    paired = x.paired;
    later_paired = paired x.later_paired;
    judged = judged (limits_of (heard_of new.later)) x.front
        (subst (λ (ls : List Line). IsJudged (limits_of (heard_of new.later)) x.front ls old.judged) (sym taken)
        (other_limits x.front old.later.shown.items old.judged (limits_of (heard_of old.later)) (limits_of (heard_of new.later))
        y.limits x.judged));
    calls = calls_now;
    rules = rules;
    up_to = up_to ∙ x.up_to;
  },
)
  where
    grown : new.later.shown.items ≡ old.later.shown.items ++ y.more
    grown = y.grows

    taken : take n new.later.shown.items ≡ old.later.shown.items
    taken = ap (λ k. take k new.later.shown.items) at ∙ ap (take (length old.later.shown.items)) grown ∙ take-append_seam old.later.shown.items y.more

    dropped : drop n new.later.shown.items ≡ y.more
    dropped = ap (λ k. drop k new.later.shown.items) at ∙ ap (drop (length old.later.shown.items)) grown ∙ drop-append_seam old.later.shown.items y.more

    calls_now : new.calls ≡ count_by is_begin (x.front ++ new.later.shown.items)
    calls_now =
        let was : old.calls ≡ count_by is_begin x.front + count_by is_begin old.later.shown.items =
        x.calls ∙ ap (λ (h : Heard). count_by is_begin h.shown) x.is ∙ count_more is_begin x.front old.later.shown.items in
        let here : count_by is_begin (drop n new.later.shown.items) ≡ count_by is_begin y.more =
        ap (count_by is_begin) dropped in
        let all : count_by is_begin (x.front ++ new.later.shown.items)
        ≡ count_by is_begin x.front + count_by is_begin new.later.shown.items = count_more is_begin x.front new.later.shown.items in
        let both : count_by is_begin new.later.shown.items ≡ count_by is_begin old.later.shown.items + count_by is_begin y.more =
        ap (count_by is_begin) grown ∙ count_more is_begin old.later.shown.items y.more in
        omega (arith, was, here, all, both, calls)

pub followed_next : (full : Heard) (old new : Followed) (m : History) (bytes : List ℕ) (n : ℕ) → n ≡ length old.later.shown.items
    → new.later ≡ m → (x : IsFollowed full old)
    → HearsNext x.front x.numbers x.named (heard_of old.later) bytes (heard_of m) → HasNoRules m.allowed
    → (IsPaired old.later → IsPaired m)
    → ((l : Bounds) (front : List Line) → IsJudged l front (take n m.shown.items) old.judged → IsJudged l front m.shown.items new.judged)
    → new.calls ≡ old.calls + count_by is_begin (drop n m.shown.items) → new.up_to ≡ old.up_to → HeardNext full bytes new
followed_next full old new m bytes n at later x y rules paired judged calls up_to =
    next_of full old new bytes n at x
    (subst (λ k. HearsNext x.front x.numbers x.named (heard_of old.later) bytes (heard_of k)) (sym later) y)
    (subst (λ (k : History). HasNoRules k.allowed) (sym later) rules) (subst (λ k. IsPaired old.later → IsPaired k) (sym later) paired)
    (subst (λ (k : History). (l : Bounds) (front : List Line) → IsJudged l front (take n k.shown.items) old.judged
    → IsJudged l front k.shown.items new.judged) (sym later) judged)
    (subst (λ (k : History). new.calls ≡ old.calls + count_by is_begin (drop n k.shown.items)) (sym later) calls) up_to

-- no line is lost
pub no_fewer : (old new more : List Line) (n : ℕ) → n ≡ length old → new ≡ old ++ more → n ≤ length new
no_fewer old new more n e g =
    let both = length-append old more in let all : length new ≡ length (old ++ more) = ap length g in omega (arith, e, both, all)

-- LINES ARE FORGOTTEN

last_more : (xs ys : List ℕ) (o : Option ℕ) → last_or (xs ++ ys) o ≡ last_or ys (last_or xs o)
last_more [] ys o = refl
last_more (x ∷ xs) ys o = last_more xs ys (Some x)

pub followed_forgotten : (full : Heard) (old new : Followed) (b : Bounds) → b ≡ limits_of (heard_of old.later) → heard_of new.later ≡ forgotten b (heard_of old.later) → new.calls ≡ old.calls
    → new.up_to ≡ last_or old.later.numbers.items old.up_to → (x : IsFollowed full old)
    → IsJudged b (x.front ++ old.later.shown.items) [] new.judged → IsFollowed full new
followed_forgotten full old new b limits e calls up_to x judged = record {
  front = x.front ++ old.later.shown.items;
  numbers = x.numbers ++ old.later.numbers.items;
  named = x.named;
  is = x.is
      ∙ (λ i. record (heard_of old.later) {
        named = x.named;
        shown = sym (append-nil (x.front ++ old.later.shown.items)) i;
        numbers = sym (append-nil (x.numbers ++ old.later.numbers.items)) i;
      }) ∙ ap (behind (x.front ++ old.later.shown.items) (x.numbers ++ old.later.numbers.items) x.named) (sym e);
  stands_behind = inr (
    b,
    ap (λ (h : Heard). h.named) e,
    limits_behind x.front x.numbers x.named (heard_of old.later) x.stands_behind ∙ sym limits,
  );
  paired = length-append x.numbers old.later.numbers.items
      ∙ (λ i. x.paired i + x.later_paired i) ∙ sym (length-append x.front old.later.shown.items);
  later_paired = ap (λ (h : Heard). length h.numbers) e ∙ sym (ap (λ (h : Heard). length h.shown) e);
  judged = subst (λ m. IsJudged m (x.front ++ old.later.shown.items) new.later.shown.items new.judged) (sym (ap limits_of e))
      (subst (λ (ls : List Line). IsJudged b (x.front ++ old.later.shown.items) ls new.judged)
      (sym (ap (λ (h : Heard). h.shown) e)) judged);
  calls = calls ∙ x.calls;
  rules = x.rules;
  up_to = up_to ∙ ap (last_or old.later.numbers.items) x.up_to ∙ sym (last_more x.numbers old.later.numbers.items None);
}

-- BYTES

pub reading_first : (f : Followed) → heard_of f.later ≡ unheard → f.line.items ≡ [] → f.calls ≡ 0 → f.up_to ≡ None
    → ((l : Bounds) → IsJudged l [] [] f.judged) → IsReading [] f
reading_first f e line calls up_to judged = record {
  full = unheard;
  followed = followed_first f e calls up_to judged;
  leads = at_start f.line.items line;
  plain = subst HasNoFeed (sym line) (λ k lt. absurd (omega (arith, lt)));
}

-- the same is known if the bytes of a line alone have changed
pub followed_same : (full : Heard) (old new : Followed) → new.later ≡ old.later → new.judged ≡ old.judged → new.calls ≡ old.calls
    → new.up_to ≡ old.up_to → IsFollowed full old → IsFollowed full new
followed_same full old new later judged calls up_to x = record {
  front = x.front;
  numbers = x.numbers;
  named = x.named;
  is = x.is ∙ ap (λ h. behind x.front x.numbers x.named (heard_of h)) (sym later);
  stands_behind = subst (λ h. IsFrontOf x.front x.numbers x.named (heard_of h)) (sym later) x.stands_behind;
  paired = x.paired;
  later_paired = subst IsPaired (sym later) x.later_paired;
  judged = subst (λ j. IsJudged (limits_of (heard_of new.later)) x.front new.later.shown.items j) (sym judged)
      (subst (λ h. IsJudged (limits_of (heard_of h)) x.front h.shown.items old.judged) (sym later) x.judged);
  calls = calls ∙ x.calls;
  rules = x.rules;
  up_to = up_to ∙ x.up_to;
}

pub reading_line : (read bytes : List ℕ) (kept heard new : Followed) → IsReading (read ++ bytes) kept
    → ((full : Heard) → IsFollowed full kept → HeardNext full kept.line.items heard) → new.line.items ≡ []
    → new.later ≡ heard.later → new.judged ≡ heard.judged → new.calls ≡ heard.calls → new.up_to ≡ heard.up_to
    → IsReading (read ++ (bytes ++ 10 ∷ [])) new
reading_line read bytes kept heard new x hears empty later judged calls up_to =
    let y = hears x.full x.followed in
    subst (λ (bs : List ℕ). IsReading bs new) (append_assoc read bytes (10 ∷ [])) (record {
      full = y.0;
      followed = followed_same y.0 heard new later judged calls up_to y.2;
      leads = leads_line (read ++ bytes) kept.line.items new.line.items x.full y.0 empty x.plain y.1 x.leads;
      plain = subst HasNoFeed (sym empty) (λ k lt. absurd (omega (arith, lt)));
    })

-- WHAT JUDGING COMES TO

-- what is judged, with these limits and lines
judged_as : (h : Heard) (f : Followed) (b : Bounds) (ls : List Line) → b ≡ limits_of (heard_of f.later)
    → ls ≡ f.later.shown.items → (x : IsFollowed h f) → IsJudged b x.front ls f.judged
judged_as h f b ls e d x =
    subst (λ l. IsJudged l x.front ls f.judged) (sym e)
    (subst (λ (ys : List Line). IsJudged (limits_of (heard_of f.later)) x.front ys f.judged) (sym d) x.judged)

-- what was judged of lines, with limits that are those of the history
pub is_of_rest : (h : Heard) (f : Followed) (v : WholeVerdict) (b : Bounds) (ls : List Line)
    → b ≡ limits_of (heard_of f.later) → ls ≡ f.later.shown.items
    → ((front : List Line) → IsJudged b front ls f.judged → IsOfWhole b (front ++ ls) v) → IsFollowed h f → IsOf h v
is_of_rest h f v b ls e d given x =
    is_of h f x v (subst (λ l. IsOfWhole l (x.front ++ f.later.shown.items) v) e
    (subst (λ (ys : List Line). IsOfWhole b (x.front ++ ys) v) d
    (given x.front (judged_as h f b ls e d x))))

-- the step of judging open lines that is this one
step_is : (b : Bounds) (ls : List Line) (old new : Judged) (s t : Step) → s ≡ t
    → ((front : List Line) → IsJudged b front ls old → ComesTo b front ls new s)
    → (front : List Line) → IsJudged b front ls old → ComesTo b front ls new t
step_is b ls old new s t d given front h = subst (λ w. ComesTo b front ls new w) d (given front h)

-- with another record of what was judged
with_judged : (h : Heard) (old new : Followed) → new.later ≡ old.later → new.calls ≡ old.calls → new.up_to ≡ old.up_to
    → (x : IsFollowed h old) → IsJudged (limits_of (heard_of old.later)) x.front old.later.shown.items new.judged → IsFollowed h new
with_judged h old new later calls up_to x judged = record {
  front = x.front;
  numbers = x.numbers;
  named = x.named;
  is = x.is ∙ ap (λ k. behind x.front x.numbers x.named (heard_of k)) (sym later);
  stands_behind = subst (λ k. IsFrontOf x.front x.numbers x.named (heard_of k)) (sym later) x.stands_behind;
  paired = x.paired;
  later_paired = subst IsPaired (sym later) x.later_paired;
  judged = subst (λ k. IsJudged (limits_of (heard_of k)) x.front k.shown.items new.judged) (sym later) judged;
  calls = calls ∙ x.calls;
  rules = x.rules;
  up_to = up_to ∙ x.up_to;
}

module _ (h : Heard) (old : Followed) (new : Judged) (b : Bounds) (ls : List Line) (s : Step)
    (e : b ≡ limits_of (heard_of old.later)) (d : ls ≡ old.later.shown.items)
    (given : (front : List Line) → IsJudged b front ls old.judged → ComesTo b front ls new s) (x : IsFollowed h old) where
  judged_now : IsJudged b x.front ls new → IsJudged (limits_of (heard_of old.later)) x.front old.later.shown.items new
  judged_now y =
      subst (λ l. IsJudged l x.front old.later.shown.items new) e (subst (λ (ys : List Line). IsJudged b x.front ys new) d y)

  pub step_waits : s ≡ step.Waits → (now : Followed) → now.later ≡ old.later → now.calls ≡ old.calls → now.up_to ≡ old.up_to
      → now.judged ≡ new → IsFollowed h now
  step_waits t now later calls up_to judged =
      with_judged h old now later calls up_to x
      (subst (λ j. IsJudged (limits_of (heard_of old.later)) x.front old.later.shown.items j) (sym judged)
      (judged_now (step_is b ls old.judged new s step.Waits t given x.front (judged_as h old b ls e d x))))

  pub step_ends : (v : WholeVerdict) → s ≡ step.Ends v → (now : Followed) → now.later ≡ old.later → now.calls ≡ old.calls
      → now.up_to ≡ old.up_to → now.judged ≡ new → JudgesTo h now (Some v)
  step_ends v t now later calls up_to judged =
      let y = step_is b ls old.judged new s (step.Ends v) t given x.front (judged_as h old b ls e d x) in (
        with_judged h old now later calls up_to x
            (subst (λ j. IsJudged (limits_of (heard_of old.later)) x.front old.later.shown.items j) (sym judged) (judged_now y.0)),
        is_of h old x v (subst (λ l. IsOfWhole l (x.front ++ old.later.shown.items) v) e
            (subst (λ (ys : List Line). IsOfWhole b (x.front ++ ys) v) d y.1)),
        y.2,
      )

  pub step_legal : s ≡ step.Legal → (now : Followed) → heard_of now.later ≡ forgotten b (heard_of old.later)
      → now.calls ≡ old.calls → now.up_to ≡ last_or old.later.numbers.items old.up_to → now.judged ≡ new → IsFollowed h now
  step_legal t now later calls up_to judged =
      followed_forgotten h old now b e later calls up_to x
      (subst (λ j. IsJudged b (x.front ++ old.later.shown.items) [] j) (sym judged)
      (subst (λ (ys : List Line). IsJudged b (x.front ++ ys) [] new) d
      (step_is b ls old.judged new s step.Legal t given x.front (judged_as h old b ls e d x))))

-- PLACES

-- what stands at a place behind others
pub at_behind : {A : Type 0} (xs ys : List A) (n k : ℕ) → n ≡ length xs + k → slice_get (xs ++ ys) n ≡ slice_get ys k
at_behind {A} [] ys n k e = ap (slice_get ys) (let z : length {A = A} [] + k ≡ k = omega arith in e ∙ z)
at_behind (x ∷ xs) ys zero k e = absurd (omega (arith, e))
at_behind (x ∷ xs) ys (suc n) k e = at_behind xs ys n k (omega (arith, e))

-- the last of some numbers
pub last_at : (ns : List ℕ) (o : Option ℕ) → 1 ≤ length ns → Some (slice_index_or ns (length ns - 1) 0) ≡ last_or ns o
last_at [] o some = absurd (omega (arith, some))
last_at (n ∷ []) o some = refl
last_at (n ∷ m ∷ ms) o some =
    (λ i. Some (slice_index_or (n ∷ m ∷ ms) (two i) 0)) ∙ (λ i. Some (slice_index_or (m ∷ ms) (one i) 0))
    ∙ last_at (m ∷ ms) (Some n) (omega arith)
  where
    two : length (n ∷ m ∷ ms) - 1 ≡ suc (length ms)
    two = omega arith

    one : length ms ≡ length (m ∷ ms) - 1
    one = omega arith

-- THE END

pub some_of : (b : Bool) (n : ℕ) → b ≡ (n == 0) → b ≡ false → 0 < n
some_of b zero e f = absurd (false≢true (sym f ∙ e))
some_of b (suc n) e f = omega arith

pub none_of : (b : Bool) (n : ℕ) → b ≡ (n == 0) → b ≡ true → n ≡ 0
none_of b n e f = let test : (n == 0) ≡ true = sym e ∙ f in grind (arith, nat_tests)

-- the last line, if it has bytes
last_line : (h next : Heard) (line : List ℕ) → 0 < length line → after_line h line ≡ Ok next → at_end h line ≡ Ok next
last_line h next [] some e = absurd (omega (arith, some))
last_line h next (b ∷ bs) some e = ap (numbered h) e

pub heard_last : (full : Heard) (line : List ℕ) (f : Followed) → 0 < length line → HeardNext full line f → HeardLast full line f
heard_last full line f some x = (x.0, last_line full x.0 line some x.1, x.2)

pub ends_to : (read : List ℕ) (old new : Followed) (v : WholeVerdict)
    → ((full : Heard) → IsFollowed full old → HeardLast full old.line.items new)
    → ((full : Heard) → IsFollowed full new → IsOf full v) → IsReading read old → EndsTo read new v
ends_to read old new v last of x =
    let y = last x.full x.followed in
    (y.0, leads_end read old.line.items x.full y.0 x.plain y.1 x.leads, y.2, of y.0 y.2)
