-- What lines tell of threads, line by line, and that a line is not refused that may come behind lines that tell this.
use Rattle.std.proofs.Common.{ℕ, ◌≡◌, ◌≢◌, ◌⊎◌, ◌<◌, ◌-◌, ◌+◌, ◌∙◌, ◌&&◌, ◌||◌, ◌==◌, Bool, true, false, not, nat_lt, List, [], ◌∷◌, ◌++◌, length, get_or, Option, Some, None, IfSome, IfOk, Result, Ok, Err, reverse, take, slice_get, refl, sym, ap, subst, inl, inr, arith, slice_set, if◌then◌else◌}
use Rattle.std.specs.List.{filter}
use Rattle.std.proofs.lemmas.Bool.{cases_eq, cases_order, true≢false, eq-eqb, ne_eqb, ltb-true}
use Rattle.std.proofs.lemmas.List.{length-set, length_push, get_or-set_same, get_or-set_other, get_or_push, get_or_append_left, get_or_past, reverse-append, take_more}
use Rattle.std.proofs.lemmas.Option.{same_Some, slice_get-get_or}
use Rattle.pif_types.specs.Bounds.{Bounds}
use Rattle.pif_types.specs.declared.errors.AddFault.TheVariants.{BadPrio, NoSuch}
use Rattle.pif_types.specs.declared.errors.Refusal.TheVariants as refusal
use Rattle.pif_model.specs.Graph.{is_priority}
use Rattle.pif_model.specs.Refusals.{begin_refused, end_refused, go_refused}
use Rattle.pif_model.specs.Posix.{names_known}
use Rattle.pif_model_lemmas.proofs.Numbers.{within, from_within}
use Rattle.pif_model_lemmas.proofs.kernel.Numbers.{among-filter}
use Rattle.pif_history_model.specs.declared.lines.Line.{Line}
use Rattle.pif_history_model.specs.declared.lines.Line.TheVariants.{Thread, Mutex, Cond, Begin, Answer, Dying, End, Tick, Rests, Prio, Process, Halted, Resumed, Asks}
use Rattle.pif_history_model.specs.declared.refusals.LineRefusal.{LineRefusal}
use Rattle.pif_history_model.specs.declared.refusals.LineRefusal.TheVariants.{Addition, Halt}
use Rattle.pif_history_model.specs.Lines.{comes_while, dying_by, halted_by, is_among, thread_of}
use Rattle.pif_history_model.specs.Refused.{conds_in, event_refused, is_gone, is_known, is_open, living_refused, mutexes_in, refusal_of_line, refusal_while_running, room_refused, threads_in}
use Rattle.pif_history_model.proofs.Telling.{begin_ok, go_ok, room_ok}
use Rattle.pif_job_judge.specs.declared.before.Come.{Come}
use Rattle.pif_job_judge.specs.declared.before.Counts.{Counts}
use Rattle.pif_job_judge.specs.declared.before.Refused.{Refused}
use Rattle.pif_search.specs.declared.machine.Stop.{Stop}
use Rattle.pif_history_machine.specs.Verdicts.{IsRefusalThere}
use Rattle.pif_job_judge.specs.Before.{AreTaken, IsFirstRefused, IsRefusedAt, HasCome, HaveCome, IsCounted, come_after, counted_after, is_added, is_taken, lives, nothing, threads_after}

-- COUNTS

pub counted : (line : Line) (before : List Line) (x : Counts) → IsCounted before x → IsCounted (line ∷ before) (counted_after line x)
counted (Thread p) before x h = record { halted = h.halted; mutexes = h.mutexes; conds = h.conds; time = h.time }
counted (Mutex k r p) before x h =
    record { halted = h.halted; mutexes = ap (λ n. n + 1) h.mutexes; conds = h.conds; time = h.time }
counted (Cond m) before x h =
    record { halted = h.halted; mutexes = h.mutexes; conds = ap (λ n. n + 1) h.conds; time = h.time }
counted (Begin t q) before x h = record { halted = h.halted; mutexes = h.mutexes; conds = h.conds; time = h.time }
counted (Answer t a) before x h = record { halted = h.halted; mutexes = h.mutexes; conds = h.conds; time = h.time }
counted (Dying t) before x h = record { halted = h.halted; mutexes = h.mutexes; conds = h.conds; time = h.time }
counted (End t) before x h = record { halted = h.halted; mutexes = h.mutexes; conds = h.conds; time = h.time }
counted (Tick n) before x h = record { halted = h.halted; mutexes = h.mutexes; conds = h.conds; time = refl }
counted (Rests t) before x h = record { halted = h.halted; mutexes = h.mutexes; conds = h.conds; time = h.time }
counted (Prio t p) before x h = record { halted = h.halted; mutexes = h.mutexes; conds = h.conds; time = h.time }
counted (Process t) before x h = record { halted = h.halted; mutexes = h.mutexes; conds = h.conds; time = h.time }
counted Halted before x h = record { halted = refl; mutexes = h.mutexes; conds = h.conds; time = h.time }
counted Resumed before x h = record { halted = refl; mutexes = h.mutexes; conds = h.conds; time = h.time }
counted (Asks f b) before x h = record { halted = h.halted; mutexes = h.mutexes; conds = h.conds; time = h.time }

-- THREADS

-- one more of which nothing is told changes nothing
same_pushed : (threads : List Come) (t : ℕ) → get_or (threads ++ nothing ∷ []) t nothing ≡ get_or threads t nothing
same_pushed threads t = by_order (cases_order t (length threads))
  where
    by_order : (t ≡ length threads) ⊎ ((t < length threads) ⊎ (length threads < t))
        → get_or (threads ++ nothing ∷ []) t nothing ≡ get_or threads t nothing
    by_order (inl e) = get_or_push threads nothing nothing t (sym e) ∙ sym (get_or_past threads t nothing (omega (arith, e)))
    by_order (inr (inl less)) = get_or_append_left threads (nothing ∷ []) nothing t less
    by_order (inr (inr more)) =
        get_or_past (threads ++ nothing ∷ []) t nothing (omega (arith, length_push threads nothing, more))
        ∙ sym (get_or_past threads t nothing (omega (arith, more)))

-- an added thread's line changes what is told of it, and nothing of others
at_own : (line : Line) (before : List Line) (threads : List Come) (u : ℕ) (y : Come) → HaveCome before threads
    → is_added threads u ≡ true → threads_in (line ∷ before) ≡ threads_in before → HasCome (line ∷ before) u y
    → ((t : ℕ) → t ≢ u → HasCome before t (get_or threads t nothing) → HasCome (line ∷ before) t (get_or threads t nothing))
    → HaveCome (line ∷ before) (slice_set threads u y)
at_own line before threads u y h added same own others = record {
  count = length-set threads u y ∙ (h.count ∙ ap (λ n. n + 1) (sym same));
  nobody = get_or-set_other threads u 0 y nothing (λ e. (within u (length threads) added).0 (sym e)) ∙ h.nobody;
  each = λ t. go t (cases_eq t u);
}
  where
    place : u < length threads
    place = (within u (length threads) added).1

    go : (t : ℕ) → (t ≡ u) ⊎ (t ≢ u) → HasCome (line ∷ before) t (get_or (slice_set threads u y) t nothing)
    go t (inl e) =
        subst (λ (k : ℕ). HasCome (line ∷ before) k (get_or (slice_set threads u y) k nothing)) (sym e)
        (subst (λ (z : Come). HasCome (line ∷ before) u z) (sym (get_or-set_same threads u y nothing place)) own)
    go t (inr n) =
        subst (λ (z : Come). HasCome (line ∷ before) t z) (sym (get_or-set_other threads u t y nothing n)) (others t n (h.each t))

-- a line that tells of no thread
as_before : (line : Line) (before : List Line) (threads : List Come) → HaveCome before threads
    → threads_in (line ∷ before) ≡ threads_in before
    → ((t : ℕ) (x : Come) → HasCome before t x → HasCome (line ∷ before) t x) → HaveCome (line ∷ before) threads
as_before line before threads h same each =
    record { count = h.count ∙ ap (λ n. n + 1) (sym same); nobody = h.nobody; each = λ t. each t (get_or threads t nothing) (h.each t) }

-- whether a number that isn't u is u
not_it : (t u : ℕ) → t ≢ u → (u == t) ≡ false
not_it t u n = ne_eqb u t (λ e. n (sym e))

-- a thread that was left out is not among the others
left_out : (us : List ℕ) (t : ℕ) → is_among (filter (λ x. not (x == t)) us) t ≡ false
left_out us t = among-filter (λ x. not (x == t)) us t ∙ ap (λ b. if not b then is_among us t else false) (eq-eqb t t refl)

-- another one is as before
left_in : (us : List ℕ) (t u : ℕ) → u ≢ t → is_among (filter (λ x. not (x == u)) us) t ≡ is_among us t
left_in us t u n =
    among-filter (λ x. not (x == u)) us t ∙ ap (λ b. if not b then is_among us t else false) (ne_eqb t u (λ e. n (sym e)))

pub come : (line : Line) (before : List Line) (threads : List Come) → HaveCome before threads
    → IfSome (thread_of line) (λ t. is_added threads t ≡ true) → HaveCome (line ∷ before) (threads_after line threads)
come (Thread p) before threads h added = record {
  count = length_push threads nothing ∙ ap (λ n. n + 1) h.count;
  nobody = same_pushed threads 0 ∙ h.nobody;
  each = λ t. subst (λ (x : Come). HasCome (Thread p ∷ before) t x) (sym (same_pushed threads t))
      (record { calling = (h.each t).calling; gone = (h.each t).gone; dying = (h.each t).dying });
}
come (Begin u q) before threads h added =
    at_own (Begin u q) before threads u (come_after (Begin u q) (get_or threads u nothing)) h added refl
    (record { calling = ap (λ b. if b then true else is_open before u) (sym (eq-eqb u u refl)); gone = (h.each u).gone; dying = (h.each u).dying })
    (λ t n x. record { calling = x.calling ∙ ap (λ b. if b then true else is_open before t) (sym (not_it t u n)); gone = x.gone; dying = x.dying })
come (Answer u a) before threads h added =
    at_own (Answer u a) before threads u (come_after (Answer u a) (get_or threads u nothing)) h added refl
    (record { calling = ap (λ b. if b then false else is_open before u) (sym (eq-eqb u u refl)); gone = (h.each u).gone; dying = (h.each u).dying })
    (λ t n x. record { calling = x.calling ∙ ap (λ b. if b then false else is_open before t) (sym (not_it t u n)); gone = x.gone; dying = x.dying })
come (Dying u) before threads h added =
    at_own (Dying u) before threads u (come_after (Dying u) (get_or threads u nothing)) h added refl
    (record {
      calling = (h.each u).calling;
      gone = ap (λ b. if b then true else is_gone before u) (sym (eq-eqb u u refl));
      dying = ap (λ b. b || is_among (dying_by before) u) (sym (eq-eqb u u refl));
    })
    (λ t n x. record {
      calling = x.calling;
      gone = x.gone ∙ ap (λ b. if b then true else is_gone before t) (sym (not_it t u n));
      dying = x.dying ∙ ap (λ b. b || is_among (dying_by before) t) (sym (not_it t u n));
    })
come (End u) before threads h added =
    at_own (End u) before threads u (come_after (End u) (get_or threads u nothing)) h added refl
    (record {
      calling = (h.each u).calling;
      gone = ap (λ b. if b then true else is_gone before u) (sym (eq-eqb u u refl));
      dying = sym (left_out (dying_by before) u);
    })
    (λ t n x. record {
      calling = x.calling;
      gone = x.gone ∙ ap (λ b. if b then true else is_gone before t) (sym (not_it t u n));
      dying = x.dying ∙ sym (left_in (dying_by before) t u (λ e. n (sym e)));
    })
come (Mutex k r p) before threads h added = as_before (Mutex k r p) before threads h refl (λ t x y. record { calling = y.calling; gone = y.gone; dying = y.dying })
come (Cond m) before threads h added = as_before (Cond m) before threads h refl (λ t x y. record { calling = y.calling; gone = y.gone; dying = y.dying })
come (Tick n) before threads h added = as_before (Tick n) before threads h refl (λ t x y. record { calling = y.calling; gone = y.gone; dying = y.dying })
come (Rests u) before threads h added = as_before (Rests u) before threads h refl (λ t x y. record { calling = y.calling; gone = y.gone; dying = y.dying })
come (Prio u p) before threads h added = as_before (Prio u p) before threads h refl (λ t x y. record { calling = y.calling; gone = y.gone; dying = y.dying })
come (Process u) before threads h added = as_before (Process u) before threads h refl (λ t x y. record { calling = y.calling; gone = y.gone; dying = y.dying })
come Halted before threads h added = as_before Halted before threads h refl (λ t x y. record { calling = y.calling; gone = y.gone; dying = y.dying })
come Resumed before threads h added = as_before Resumed before threads h refl (λ t x y. record { calling = y.calling; gone = y.gone; dying = y.dying })
come (Asks f b) before threads h added = as_before (Asks f b) before threads h refl (λ t x y. record { calling = y.calling; gone = y.gone; dying = y.dying })

-- WHAT IS TAKEN ISN'T REFUSED

both_true : (a b : Bool) → (a && b) ≡ true → (a ≡ true) × (b ≡ true)
both_true true b e = (refl, e)
both_true false b e = absurd (true≢false (sym e))

not_true : (a : Bool) → not a ≡ true → a ≡ false
not_true true e = absurd (true≢false (sym e))
not_true false e = refl

-- who was added by the lines
added_is : (before : List Line) (threads : List Come) (t : ℕ) → HaveCome before threads
    → is_added threads t ≡ is_known (threads_in before) t
added_is before threads t h = ap (λ k. if t == 0 then false else nat_lt t k) h.count

living_ok : (before : List Line) (threads : List Come) (t : ℕ) → HaveCome before threads → lives threads t ≡ true
    → (is_known (threads_in before) t ≡ true) × (is_gone before t ≡ false)
living_ok before threads t h e =
    let b = both_true (is_added threads t) (not (get_or threads t nothing).gone) e in
    (sym (added_is before threads t h) ∙ b.0, sym (h.each t).gone ∙ not_true (get_or threads t nothing).gone b.1)

end_ok : (k g : Bool) → k ≡ true → g ≡ false → event_refused (end_refused k (not g)) ≡ None
end_ok true false a b = refl
end_ok true true a b = absurd (true≢false b)
end_ok false g a b = absurd (true≢false (sym a))

lives_ok : (before : List Line) (threads : List Come) (t : ℕ) → HaveCome before threads → lives threads t ≡ true
    → living_refused before t ≡ None
lives_ok before threads t h e =
    let b = living_ok before threads t h e in
    end_ok (is_known (threads_in before) t) (is_gone before t) b.0 b.1

process_ok : (k d : Bool) → k ≡ true → d ≡ false
    → event_refused (if k then (if d then Some refusal.Dead else None) else Some refusal.NoSuch) ≡ None
process_ok true false a b = refl
process_ok true true a b = absurd (true≢false b)
process_ok false d a b = absurd (true≢false (sym a))

over_ok : (before : List Line) (threads : List Come) (t : ℕ) → HaveCome before threads → (d : Bool) → d ≡ is_among (dying_by before) t
    → (d || lives threads t) ≡ true → (if is_among (dying_by before) t then None else living_refused before t) ≡ None
over_ok before threads t h true is e = ap (λ b. if b then None else living_refused before t) (sym is)
over_ok before threads t h false is e =
    ap (λ b. if b then None else living_refused before t) (sym is) ∙ lives_ok before threads t h e

pub taken_ok : (l : Bounds) (before : List Line) (threads : List Come) (x : Counts) (line : Line) → HaveCome before threads
    → IsCounted before x → is_taken l threads x line ≡ true → refusal_while_running l before line ≡ None
taken_ok l before threads x (Thread p) h c e =
    let b = both_true (is_priority p) (nat_lt (length threads) (l.threads + 1)) e in
    ap (λ z. if z then room_refused (threads_in before) l.threads else Some (Addition BadPrio)) b.0
    ∙ room_ok (threads_in before) l.threads (omega (arith, h.count, ltb-true (length threads) (l.threads + 1) b.1))
taken_ok l before threads x (Mutex k r p) h c e =
    room_ok (mutexes_in before) l.mutexes (subst (λ n. n < l.mutexes) c.mutexes (ltb-true x.mutexes l.mutexes e))
taken_ok l before threads x (Cond m) h c e =
    let b = both_true (is_known x.mutexes m) (nat_lt x.conds l.conds) e in
    ap (λ z. if z then room_refused (conds_in before) l.conds else Some (Addition NoSuch)) (ap (λ k. is_known k m) (sym c.mutexes) ∙ b.0)
    ∙ room_ok (conds_in before) l.conds (subst (λ n. n < l.conds) c.conds (ltb-true x.conds l.conds b.1))
taken_ok l before threads x (Begin t q) h c e =
    let y = get_or threads t nothing in
    let b = both_true (lives threads t) (not y.calling && names_known (is_known x.mutexes) (is_known x.conds) q) e in
    let d = both_true (not y.calling) (names_known (is_known x.mutexes) (is_known x.conds) q) b.1 in
    let a = living_ok before threads t h b.0 in
    begin_ok (is_known (threads_in before) t) (is_gone before t) (is_open before t) _ a.0 a.1
    (sym (h.each t).calling ∙ not_true y.calling d.0)
    (ap (λ k. names_known (is_known k) (is_known (conds_in before)) q) (sym c.mutexes)
    ∙ ap (λ k. names_known (is_known x.mutexes) (is_known k) q) (sym c.conds) ∙ d.1)
taken_ok l before threads x (Answer t n) h c e =
    let y = get_or threads t nothing in
    let b = both_true (lives threads t) y.calling e in
    let a = living_ok before threads t h b.0 in
    go_ok (is_known (threads_in before) t) (is_gone before t) (is_open before t) a.0 a.1 (sym (h.each t).calling ∙ b.1)
taken_ok l before threads x (Dying t) h c e = lives_ok before threads t h e
taken_ok l before threads x (End t) h c e = over_ok before threads t h (get_or threads t nothing).dying (h.each t).dying e
taken_ok l before threads x (Tick n) h c e =
    ap (λ b. event_refused (if b then Some refusal.Past else None))
    (ap (λ k. nat_lt n k) (sym c.time) ∙ not_true (nat_lt n x.time) e)
taken_ok l before threads x (Rests t) h c e = lives_ok before threads t h e
taken_ok l before threads x (Prio t p) h c e = lives_ok before threads t h e
taken_ok l before threads x (Process t) h c e =
    let y = get_or threads t nothing in
    let b = both_true (is_added threads t) (not y.dying) e in
    process_ok (is_known (threads_in before) t) (is_among (dying_by before) t) (sym (added_is before threads t h) ∙ b.0)
    (sym (h.each t).dying ∙ not_true y.dying b.1)
taken_ok l before threads x Halted h c e = refl
taken_ok l before threads x Resumed h c e = refl
taken_ok l before threads x (Asks f b) h c e = refl

pub none_refused : (l : Bounds) (before : List Line) (threads : List Come) (x : Counts) (line : Line) → HaveCome before threads
    → IsCounted before x → (comes_while x.halted line && is_taken l threads x line) ≡ true → None ≡ refusal_of_line l before line
none_refused l before threads x line h c e =
    let b = both_true (comes_while x.halted line) (is_taken l threads x line) e in
    sym (ap (λ z. if z then refusal_while_running l before line else Some Halt) (ap (λ z. comes_while z line) (sym c.halted) ∙ b.0)
    ∙ taken_ok l before threads x line h c b.1)

-- WHO WAS ADDED

running : (b : Bool) (r : Option LineRefusal) → (if b then r else Some Halt) ≡ None → r ≡ None
running true r e = e
running false r e = absurd (cc)

begin_known : (k g o n : Bool) → event_refused (begin_refused k (not g) o n) ≡ None → k ≡ true
begin_known true g o n e = refl
begin_known false g o n e = absurd (cc)

go_known : (k g o : Bool) → event_refused (go_refused k (not g) o) ≡ None → k ≡ true
go_known true g o e = refl
go_known false g o e = absurd (cc)

end_known : (k g : Bool) → event_refused (end_refused k (not g)) ≡ None → k ≡ true
end_known true g e = refl
end_known false g e = absurd (cc)

process_known : (k d : Bool) → event_refused (if k then (if d then Some refusal.Dead else None) else Some refusal.NoSuch) ≡ None
    → k ≡ true
process_known true d e = refl
process_known false d e = absurd (cc)

-- who is dying was added
dying_added : (before : List Line) (threads : List Come) (t : ℕ) → HaveCome before threads
    → is_among (dying_by before) t ≡ true → is_added threads t ≡ true
dying_added before threads t h e = from_within t (length threads) some (by_order (cases_order t (length threads)))
  where
    is : (get_or threads t nothing).dying ≡ true
    is = (h.each t).dying ∙ e

    some : t ≢ 0
    some z = true≢false (sym is ∙ ap (λ (x : Come). x.dying) (ap (λ k. get_or threads k nothing) z ∙ h.nobody))

    by_order : (t ≡ length threads) ⊎ ((t < length threads) ⊎ (length threads < t)) → t < length threads
    by_order (inl s) = absurd (true≢false (sym is ∙ ap (λ (x : Come). x.dying) (get_or_past threads t nothing (omega (arith, s)))))
    by_order (inr (inl less)) = less
    by_order (inr (inr more)) = absurd (true≢false (sym is ∙ ap (λ (x : Come). x.dying) (get_or_past threads t nothing (omega (arith, more)))))

end_added : (before : List Line) (threads : List Come) (t : ℕ) → HaveCome before threads → (d : Bool) → is_among (dying_by before) t ≡ d
    → (if d then None else living_refused before t) ≡ None → is_added threads t ≡ true
end_added before threads t h true is e = dying_added before threads t h is
end_added before threads t h false is e =
    added_is before threads t h ∙ end_known (is_known (threads_in before) t) (is_gone before t) e

added_while : (l : Bounds) (before : List Line) (threads : List Come) (line : Line) → HaveCome before threads
    → refusal_while_running l before line ≡ None → IfSome (thread_of line) (λ t. is_added threads t ≡ true)
added_while l before threads (Thread p) h e = tt
added_while l before threads (Mutex k r p) h e = tt
added_while l before threads (Cond m) h e = tt
added_while l before threads (Begin t q) h e = added_is before threads t h ∙ begin_known _ (is_gone before t) (is_open before t) _ e
added_while l before threads (Answer t a) h e = added_is before threads t h ∙ go_known _ (is_gone before t) (is_open before t) e
added_while l before threads (Dying t) h e = added_is before threads t h ∙ end_known _ (is_gone before t) e
added_while l before threads (End t) h e = end_added before threads t h (is_among (dying_by before) t) refl e
added_while l before threads (Tick n) h e = tt
added_while l before threads (Rests t) h e = added_is before threads t h ∙ end_known _ (is_gone before t) e
added_while l before threads (Prio t p) h e = added_is before threads t h ∙ end_known _ (is_gone before t) e
added_while l before threads (Process t) h e = added_is before threads t h ∙ process_known _ (is_among (dying_by before) t) e
added_while l before threads Halted h e = tt
added_while l before threads Resumed h e = tt
added_while l before threads (Asks f b) h e = tt

-- LINE BY LINE

one_more : (lines : List Line) (n : ℕ) (line : Line) → n < length lines → line ≡ get_or lines n line
    → reverse (take (n + 1) lines) ≡ line ∷ reverse (take n lines)
one_more lines n line lt same =
    ap reverse (take_more lines n line lt)
    ∙ reverse-append (take n lines) (get_or lines n line ∷ [])
    ∙ ap (λ (x : Line). x ∷ reverse (take n lines)) (sym same)

-- what is so of so many lines
pub record AreHeard (l : Bounds) (lines : List Line) (n : ℕ) (threads : List Come) (x : Counts) : Type 0 where
  pub come : HaveCome (reverse (take n lines)) threads
  pub counted : IsCounted (reverse (take n lines)) x
  pub taken : AreTaken l lines n

pub heard_more : (l : Bounds) (lines : List Line) (n : ℕ) (threads more : List Come) (x y : Counts) (line : Line) (o : Option LineRefusal)
    → n < length lines → slice_get lines n ≡ Some line → AreHeard l lines n threads x → (((why : LineRefusal) → o ≡ Some why → ⊥)) → o ≡ refusal_of_line l (reverse (take n lines)) line
    → more ≡ threads_after line threads → y ≡ counted_after line x → AreHeard l lines (n + 1) more y
heard_more l lines n threads more x y line o lt here h never why m c = record {
  come = subst (λ (ls : List Line). HaveCome ls more) (sym next)
      (subst (λ (ts : List Come). HaveCome (line ∷ before) ts) (sym m) (come line before threads h.come
      (added_while l before threads line h.come (running (comes_while (halted_by before) line) (refusal_while_running l before line) (sym none)))));
  counted = subst (λ (ls : List Line). IsCounted ls y) (sym next)
      (subst (λ (z : Counts). IsCounted (line ∷ before) z) (sym c) (counted line before x h.counted));
  taken = λ k less one there. taken_at k one there (cases_eq k n) less;
}
  where
    before : List Line
    before = reverse (take n lines)

    is : line ≡ get_or lines n line
    is = same_Some line (get_or lines n line) (sym here ∙ slice_get-get_or lines n line lt)

    no_reason : (p : Option LineRefusal) → ((why : LineRefusal) → p ≡ Some why → ⊥) → p ≡ None
    no_reason None f = refl
    no_reason (Some r) f = absurd (f r refl)

    none : None ≡ refusal_of_line l before line
    none = sym (no_reason o never) ∙ why

    next : reverse (take (n + 1) lines) ≡ line ∷ before
    next = one_more lines n line lt is

    taken_at : (k : ℕ) (one : Line) → slice_get lines k ≡ Some one → (k ≡ n) ⊎ (k ≢ n) → k < n + 1
        → IsRefusalThere l (take k lines) one None
    taken_at k one there (inl e) less =
        subst (λ (i : ℕ). IsRefusalThere l (take i lines) one None) (sym e)
        (subst (λ (z : Line). None ≡ refusal_of_line l before z)
        (same_Some line one (sym here ∙ subst (λ (i : ℕ). slice_get lines i ≡ Some one) e there)) none)
    taken_at k one there (inr d) less = h.taken k (omega (arith, d, less)) one there

-- the first that is refused
pub refused_at : (l : Bounds) (lines : List Line) (n : ℕ) (threads : List Come) (x : Counts) (line : Line) (o : Option LineRefusal) (why : LineRefusal)
    → n < length lines → slice_get lines n ≡ Some line → AreHeard l lines n threads x → o ≡ Some why
    → o ≡ refusal_of_line l (reverse (take n lines)) line
    → IsRefusedAt l lines (n + 1) why × AreTaken l lines (n + 1 - 1)
refused_at l lines n threads x line o why lt here h is reason = (
  (
    omega arith,
    omega (arith, lt),
    (
      line,
      subst (λ (k : ℕ). slice_get lines k ≡ Some line) back here,
      subst (λ (k : ℕ). IsRefusalThere l (take k lines) line (Some why)) back (sym is ∙ reason),
    ),
  ),
  subst (λ (k : ℕ). AreTaken l lines k) back h.taken,
)
  where
    back : n ≡ n + 1 - 1
    back = omega arith

-- of the lines of a history
pub first_of : (l k : Bounds) (lines shown : List Line) (r : Result (Option Refused) Stop) → l ≡ k → lines ≡ shown
    → IfOk r (IsFirstRefused l lines) → IfOk r (IsFirstRefused k shown)
first_of l k lines shown r a b x =
    subst (λ (j : Bounds). IfOk r (IsFirstRefused j shown)) a (subst (λ (ls : List Line). IfOk r (IsFirstRefused l ls)) b x)

pub each_of : (l : Bounds) (lines : List Line) (r : Result (Option Refused) Stop) → IfOk r (IsFirstRefused l lines)
    → IfOk r (λ o. IfSome o (λ x. IsRefusedAt l lines x.count x.why))
each_of l lines (Ok None) x = tt
each_of l lines (Ok (Some y)) x = x.0
each_of l lines (Err e) x = tt
