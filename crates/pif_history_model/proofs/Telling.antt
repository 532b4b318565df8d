-- What lines tell of the states that they lead to: what is counted and timed, who lives, and who has a call open.
use Rattle.std.proofs.Common.{ℕ, zero, suc, ◌≡◌, ◌≢◌, ◌⊎◌, ◌<◌, ◌+◌, ◌∙◌, Bool, true, false, not, ◌||◌, ◌==◌, nat_lt, List, [], ◌∷◌, length, get_or, Some, None, is_some, refl, sym, ap, subst, inl, inr, arith, if◌then◌else◌}
use Rattle.std.specs.List.{filter}
use Rattle.std.proofs.lemmas.Bool.{cases_eq, cases_Bool, cases_order, true≢false, eq-eqb, ne_eqb, eqb-true, lt-ltb, le-ltb}
use Rattle.std.proofs.lemmas.List.{length-set, get_or-set_same, get_or-set_other}
use Rattle.pif_types.specs.Bounds.{Bounds}
use Rattle.pif_types.specs.declared.errors.AddFault.TheVariants.{TooMany}
use Rattle.pif_model.specs.Refusals.{begin_refused, go_refused, end_refused}
use Rattle.pif_model.specs.Posix.{World, Thread, LivesNot, Ends, nobody, thread_at, is_thread, is_living, after_end, empty_world}
use Rattle.pif_model_lemmas.proofs.Numbers.{within}
use Rattle.pif_model_simulation.proofs.runs.Worlds.{call_of, end_allowed}
use Rattle.pif_history_model.specs.declared.lines.Line.{Line}
use Rattle.pif_history_model.specs.declared.lines.Line.TheVariants as line
use Rattle.pif_history_model.specs.declared.refusals.LineRefusal.TheVariants.{Addition}
use Rattle.pif_history_model.specs.Lines.{is_among, dying_by, dying_after}
use Rattle.pif_history_model.specs.Refused.{threads_in, mutexes_in, conds_in, is_known, time_by, is_open, is_gone, room_refused, event_refused, living_refused}
use Rattle.pif_history_model.proofs.Keeping.{Keeps, stays, keeps_Releases}

-- what lines tell of a state of the search: w, and these threads are dying
pub record Tells (lines : List Line) (w : World) (dying : List ℕ) : Type 0 where
  pub threads : length w.threads ≡ threads_in lines + 1
  pub mutexes : length w.mutexes ≡ mutexes_in lines + 1
  pub conds : length w.variables ≡ conds_in lines + 1
  pub time : w.time ≡ time_by lines
  -- who is not gone lives, if it was added
  pub living : (t : ℕ) → is_gone lines t ≡ false → is_living w t ≡ is_thread w t
  -- who is gone, and not dying, doesn't live
  pub over : (t : ℕ) → is_gone lines t ≡ true → is_among dying t ≡ false → is_living w t ≡ false
  pub calling : (t : ℕ) → is_gone lines t ≡ false → is_some (call_of w t) ≡ is_open lines t
  -- who is dying is gone, and who is gone was added
  pub gone : (t : ℕ) → is_among dying t ≡ true → is_gone lines t ≡ true
  pub added : (t : ℕ) → is_gone lines t ≡ true → is_thread w t ≡ true
  pub dying_is : dying ≡ dying_by lines

-- TESTS

-- as many threads are the same threads
pub same_threads : (v w : World) → length v.threads ≡ length w.threads → (t : ℕ) → is_thread v t ≡ is_thread w t
same_threads v w e t = ap (λ k. if t == 0 then false else nat_lt t k) e

-- one number more
pub one_more_known : (t n : ℕ) → t ≢ n
    → (if t == 0 then false else nat_lt t (n + 1)) ≡ (if t == 0 then false else nat_lt t n)
one_more_known t n d = ap (λ b. if t == 0 then false else b) (by_order (cases_order t n))
  where
    by_order : (t ≡ n) ⊎ ((t < n) ⊎ (n < t)) → nat_lt t (n + 1) ≡ nat_lt t n
    by_order (inl e) = absurd (d e)
    by_order (inr (inl h)) = lt-ltb t (n + 1) (omega arith) ∙ sym (lt-ltb t n h)
    by_order (inr (inr h)) = le-ltb t (n + 1) (omega arith) ∙ sym (le-ltb t n (omega arith))

-- a thread that is said to be gone is this one, or was said to be before
pub gone-cases : (lines : List Line) (u t : ℕ) → (if u == t then true else is_gone lines t) ≡ false
    → (t ≢ u) × (is_gone lines t ≡ false)
gone-cases lines u t e = go (u == t) refl e
  where
    go : (b : Bool) → (u == t) ≡ b → (if b then true else is_gone lines t) ≡ false → (t ≢ u) × (is_gone lines t ≡ false)
    go true k h = absurd (true≢false h)
    go false k h = (λ z. true≢false (sym (eq-eqb u t (sym z)) ∙ k), h)

-- among the threads that are left when t is taken out
left_among : (us : List ℕ) (t u : ℕ) → u ≢ t → is_among (filter (λ x. not (x == t)) us) u ≡ is_among us u
left_among [] t u d = refl
left_among (x ∷ us) t u d = go (left_among us t u d) (x == t) refl
  where
    go : is_among (filter (λ y. not (y == t)) us) u ≡ is_among us u → (b : Bool) → (x == t) ≡ b
        → is_among (if not b then x ∷ filter (λ y. not (y == t)) us else filter (λ y. not (y == t)) us) u
        ≡ is_among (x ∷ us) u
    go ih true e =
        let not_u : (x == u) ≡ false = ne_eqb x u (λ z. d (sym z ∙ eqb-true x t e)) in
        ih ∙ sym (ap (λ b. b || is_among us u) not_u)
    go ih false e = ap (λ b. (x == u) || b) ih

-- STATES

-- nothing was added
pub Tells-start : (l : Bounds) → Tells [] (empty_world l.signals) []
Tells-start l = record {
  threads = refl;
  mutexes = refl;
  conds = refl;
  time = refl;
  living = λ t e. none t;
  over = λ t e. absurd (true≢false (sym e));
  calling = λ t e. no_call t;
  gone = λ t e. absurd (true≢false (sym e));
  added = λ t e. absurd (true≢false (sym e));
  dying_is = refl;
}
  where
    lone : (n : ℕ) → get_or (nobody ∷ []) n nobody ≡ nobody
    lone zero = refl
    lone (suc n) = refl

    no_call : (t : ℕ) → is_some (call_of (empty_world l.signals) t) ≡ false
    no_call t = ap (λ (x : Thread). is_some x.call) (lone t)

    none : (t : ℕ) → is_living (empty_world l.signals) t ≡ is_thread (empty_world l.signals) t
    none t = ap (λ (x : Thread). x.living) (lone t) ∙ sym (nobody_known t)
      where
        nobody_known : (t : ℕ) → (if t == 0 then false else nat_lt t 1) ≡ false
        nobody_known t = by_order (cases_order t 0)
          where
            by_order : (t ≡ 0) ⊎ ((t < 0) ⊎ (0 < t)) → (if t == 0 then false else nat_lt t 1) ≡ false
            by_order (inl e) = ap (λ b. if b then false else nat_lt t 1) (eq-eqb t 0 e)
            by_order (inr (inl h)) = absurd (omega arith)
            by_order (inr (inr h)) =
                ap (λ b. if b then false else nat_lt t 1) (ne_eqb t 0 (λ e. absurd (omega (arith, e, h))))
                ∙ le-ltb t 1 (omega arith)

-- what no move changes
pub Tells-keeps : {lines : List Line} {w v : World} {dying : List ℕ} → Tells lines w dying → Keeps w v
    → Tells lines v dying
Tells-keeps {w = w} {v = v} x k = record {
  threads = k.threads ∙ x.threads;
  mutexes = k.mutexes ∙ x.mutexes;
  conds = k.variables ∙ x.conds;
  time = k.time ∙ x.time;
  living = λ t e. k.living t ∙ (x.living t e ∙ sym (same_threads v w k.threads t));
  over = λ t e d. k.living t ∙ x.over t e d;
  calling = λ t e. k.calling t ∙ x.calling t e;
  gone = x.gone;
  added = λ t e. same_threads v w k.threads t ∙ x.added t e;
  dying_is = x.dying_is;
}

-- other lines tell the same
pub retold : {lines others : List Line} {w : World} {dying : List ℕ} → threads_in others ≡ threads_in lines
    → mutexes_in others ≡ mutexes_in lines → conds_in others ≡ conds_in lines → time_by others ≡ time_by lines
    → ((t : ℕ) → is_gone others t ≡ is_gone lines t) → ((t : ℕ) → is_open others t ≡ is_open lines t)
    → dying_by others ≡ dying_by lines → Tells lines w dying → Tells others w dying
retold a b c d gone calls dies x = record {
  threads = x.threads ∙ ap (λ k. k + 1) (sym a);
  mutexes = x.mutexes ∙ ap (λ k. k + 1) (sym b);
  conds = x.conds ∙ ap (λ k. k + 1) (sym c);
  time = x.time ∙ sym d;
  living = λ t e. x.living t (sym (gone t) ∙ e);
  over = λ t e apart. x.over t (sym (gone t) ∙ e) apart;
  calling = λ t e. x.calling t (sym (gone t) ∙ e) ∙ sym (calls t);
  gone = λ t e. gone t ∙ x.gone t e;
  added = λ t e. x.added t (sym (gone t) ∙ e);
  dying_is = x.dying_is ∙ sym dies;
}

-- ENDS

-- t doesn't live in v, and all else that is told here is as in w
pub record Leaves (t : ℕ) (w v : World) : Type 0 where
  pub threads : length v.threads ≡ length w.threads
  pub mutexes : length v.mutexes ≡ length w.mutexes
  pub variables : length v.variables ≡ length w.variables
  pub time : v.time ≡ w.time
  pub dead : is_living v t ≡ false
  pub living : (u : ℕ) → u ≢ t → is_living v u ≡ is_living w u
  pub calling : (u : ℕ) → u ≢ t → is_some (call_of v u) ≡ is_some (call_of w u)

-- t leaves all that it waits for, and what is told here is kept before that and behind it
pub leaves-from_kept : {t : ℕ} {w u v : World} → is_thread w t ≡ true → Keeps w u → Keeps (after_end t u) v → Leaves t w v
leaves-from_kept {t} {w} {u} {v} known a k = record {
  threads = k.threads ∙ (length-set u.threads t x ∙ a.threads);
  mutexes = k.mutexes ∙ a.mutexes;
  variables = k.variables ∙ a.variables;
  time = k.time ∙ a.time;
  dead = k.living t ∙ ap (λ (y : Thread). y.living) (get_or-set_same u.threads t x nobody place);
  living = λ z d. k.living z ∙ (ap (λ (y : Thread). y.living) (get_or-set_other u.threads t z x nobody d) ∙ a.living z);
  calling = λ z d. k.calling z
      ∙ (ap (λ (y : Thread). is_some y.call) (get_or-set_other u.threads t z x nobody d) ∙ a.calling z);
}
  where
    x : Thread
    x = record (thread_at u t) { living = false; call = None }

    place : t < length u.threads
    place = let h = (within t (length w.threads) known).1 in omega (arith, h, a.threads)

pub leaves-from_ends : {t : ℕ} {w v : World} → Ends t w v → Leaves t w v
leaves-from_ends {t} {w} {v} e = leaves-from_kept (end_allowed w t e.allowed).0 (stays w) (keeps_Releases e.releases)

-- what is told here is kept before t leaves, and behind it
pub leaves_between : {t : ℕ} {w u v z : World} → Keeps w u → Leaves t u v → Keeps v z → Leaves t w z
leaves_between {t} a f k = record {
  threads = k.threads ∙ (f.threads ∙ a.threads);
  mutexes = k.mutexes ∙ (f.mutexes ∙ a.mutexes);
  variables = k.variables ∙ (f.variables ∙ a.variables);
  time = k.time ∙ (f.time ∙ a.time);
  dead = k.living t ∙ f.dead;
  living = λ y d. k.living y ∙ (f.living y d ∙ a.living y);
  calling = λ y d. k.calling y ∙ (f.calling y d ∙ a.calling y);
}

-- one who doesn't live has left
pub leaves-from_dead : {t : ℕ} {w : World} → LivesNot w t → Leaves t w w
leaves-from_dead e = record {
  threads = refl;
  mutexes = refl;
  variables = refl;
  time = refl;
  dead = e;
  living = λ u d. refl;
  calling = λ u d. refl;
}

-- one who is dying ends
pub Tells-ends : {lines : List Line} {w v : World} {dying : List ℕ} {t : ℕ} → Tells lines w dying
    → is_gone lines t ≡ true
    → Leaves t w v → Tells lines v dying
Tells-ends {lines = lines} {w = w} {v = v} {dying = dying} {t = t} x g f = record {
  threads = f.threads ∙ x.threads;
  mutexes = f.mutexes ∙ x.mutexes;
  conds = f.variables ∙ x.conds;
  time = f.time ∙ x.time;
  living = λ u e. f.living u (other_than u e) ∙ (x.living u e ∙ sym (same_threads v w f.threads u));
  over = λ u e d. by_thread u e d (cases_eq u t);
  calling = λ u e. f.calling u (other_than u e) ∙ x.calling u e;
  gone = x.gone;
  added = λ u e. same_threads v w f.threads u ∙ x.added u e;
  dying_is = x.dying_is;
}
  where
    other_than : (u : ℕ) → is_gone lines u ≡ false → u ≢ t
    other_than u e s = true≢false (sym (subst (λ i. is_gone lines i ≡ true) (sym s) g) ∙ e)

    by_thread : (u : ℕ) → is_gone lines u ≡ true → is_among dying u ≡ false → (u ≡ t) ⊎ (u ≢ t) → is_living v u ≡ false
    by_thread u e d (inl s) = subst (λ i. is_living v i ≡ false) (sym s) f.dead
    by_thread u e d (inr n) = f.living u n ∙ x.over u e d

-- a line says that t has ended
pub Tells-said_ended : {lines : List Line} {w v : World} {dying : List ℕ} {t : ℕ} → Tells lines w dying
    → is_thread w t ≡ true
    → Leaves t w v → Tells (line.End t ∷ lines) v (dying_after (line.End t) dying)
Tells-said_ended {lines = lines} {w = w} {v = v} {dying = dying} {t = t} x known f = record {
  threads = f.threads ∙ x.threads;
  mutexes = f.mutexes ∙ x.mutexes;
  conds = f.variables ∙ x.conds;
  time = f.time ∙ x.time;
  living = λ u e.
      let c = gone-cases lines t u e in
      f.living u c.0 ∙ (x.living u c.1 ∙ sym (same_threads v w f.threads u));
  over = λ u e d. over_at u e d (cases_eq u t);
  calling = λ u e. let c = gone-cases lines t u e in f.calling u c.0 ∙ x.calling u c.1;
  gone = λ u e. gone_at u e (cases_eq u t);
  added = λ u e. same_threads v w f.threads u ∙ added_at u e (cases_eq u t);
  dying_is = ap (λ us. dying_after (line.End t) us) x.dying_is;
}
  where
    was_gone : (u : ℕ) → u ≢ t → (if t == u then true else is_gone lines u) ≡ true → is_gone lines u ≡ true
    was_gone u n e = ap (λ b. if b then true else is_gone lines u) (sym (ne_eqb t u (λ z. n (sym z)))) ∙ e

    over_at : (u : ℕ) → is_gone (line.End t ∷ lines) u ≡ true → is_among (dying_after (line.End t) dying) u ≡ false
        → (u ≡ t) ⊎ (u ≢ t) → is_living v u ≡ false
    over_at u e d (inl s) = subst (λ i. is_living v i ≡ false) (sym s) f.dead
    over_at u e d (inr n) = f.living u n ∙ x.over u (was_gone u n e) (sym (left_among dying t u n) ∙ d)

    gone_at : (u : ℕ) → is_among (dying_after (line.End t) dying) u ≡ true → (u ≡ t) ⊎ (u ≢ t)
        → is_gone (line.End t ∷ lines) u ≡ true
    gone_at u e (inl s) = ap (λ b. if b then true else is_gone lines u) (eq-eqb t u (sym s))
    gone_at u e (inr n) = ap (λ b. if b then true else is_gone lines u) (ne_eqb t u (λ z. n (sym z)))
        ∙ x.gone u (sym (left_among dying t u n) ∙ e)

    added_at : (u : ℕ) → is_gone (line.End t ∷ lines) u ≡ true → (u ≡ t) ⊎ (u ≢ t) → is_thread w u ≡ true
    added_at u e (inl s) = subst (λ i. is_thread w i ≡ true) (sym s) known
    added_at u e (inr n) = x.added u (was_gone u n e)

-- WHO MAY DO SOMETHING

-- a thread that lives, and is not dying, is not gone and was added
pub alive : {lines : List Line} {w : World} {dying : List ℕ} → Tells lines w dying → (t : ℕ) → is_among dying t ≡ false
    → is_living w t ≡ true → (is_gone lines t ≡ false) × (is_thread w t ≡ true)
alive {lines} {w} {dying} x t apart lives = go (cases_Bool (is_gone lines t))
  where
    go : (is_gone lines t ≡ true) ⊎ (is_gone lines t ≡ false) → (is_gone lines t ≡ false) × (is_thread w t ≡ true)
    go (inl e) = absurd (true≢false (sym lives ∙ x.over t e apart))
    go (inr e) = (e, sym (x.living t e) ∙ lives)

-- who was added by the lines was added
pub known : {lines : List Line} {w : World} {dying : List ℕ} → Tells lines w dying → (t : ℕ)
    → is_known (threads_in lines) t ≡ is_thread w t
known x t = ap (λ k. if t == 0 then false else nat_lt t k) (sym x.threads)

end_ok : (k g : Bool) → k ≡ true → g ≡ false → event_refused (end_refused k (not g)) ≡ None
end_ok true false a b = refl
end_ok true true a b = absurd (true≢false b)
end_ok false g a b = absurd (true≢false (sym a))

pub go_ok : (k g o : Bool) → k ≡ true → g ≡ false → o ≡ true → event_refused (go_refused k (not g) o) ≡ None
go_ok true false true a b c = refl
go_ok true false false a b c = absurd (true≢false (sym c))
go_ok true true o a b c = absurd (true≢false b)
go_ok false g o a b c = absurd (true≢false (sym a))

pub begin_ok : (k g o n : Bool) → k ≡ true → g ≡ false → o ≡ false → n ≡ true
    → event_refused (begin_refused k (not g) o n) ≡ None
begin_ok true false false true a b c d = refl
begin_ok true false false false a b c d = absurd (true≢false (sym d))
begin_ok true false true n a b c d = absurd (true≢false c)
begin_ok true true o n a b c d = absurd (true≢false b)
begin_ok false g o n a b c d = absurd (true≢false (sym a))

pub living_ok : {lines : List Line} {w : World} {dying : List ℕ} → Tells lines w dying → (t : ℕ)
    → is_among dying t ≡ false
    → is_living w t ≡ true → living_refused lines t ≡ None
living_ok {lines} x t apart lives =
    let a = alive x t apart lives in
    end_ok (is_known (threads_in lines) t) (is_gone lines t) (known x t ∙ a.1) a.0

pub room_ok : (count limit : ℕ) → count < limit → room_refused count limit ≡ None
room_ok count limit h = ap (λ b. if b then None else Some (Addition TooMany)) (lt-ltb count limit h)
