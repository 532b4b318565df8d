-- A ledger beside the state in which a history rests by its lines alone. They agree but for what open calls have done,
-- and for the threads that are dying; and each change keeps that.
use Rattle.std.proofs.Common.{ℕ, ◌≡◌, ◌≢◌, ◌⊎◌, ◌<◌, ◌∙◌, ◌==◌, ◌+◌, false, List, length, get_or, set, refl, sym, ap, inl, inr, arith, if◌then◌else◌}
use Rattle.std.specs.List.{sum_by}
use Rattle.std.proofs.lemmas.Bool.{cases_eq, ne_eqb, eq-eqb}
use Rattle.std.proofs.lemmas.List.{get_or-set_same, get_or-set_other, length-set}
use Rattle.std.proofs.lemmas.List.Sums.{sum_by-set}
use Rattle.pif_model.specs.Posix.{World, Thread, Variable, nobody, no_variable, thread_at, variable_at, is_living, with_base}
use Rattle.pif_model_lemmas.proofs.Places.{kept_at}
use Rattle.pif_history_model.specs.Lines.{is_among}
use Rattle.pif_parts_model.specs.Resting.{with_use}
use Rattle.pif_parts_model.proofs.Ledgers.{Mark, Tag, Ledger, tag_of}
use Rattle.pif_parts_model.proofs.Ledgers.Mark.{NoMark, HasSet, HasUsed}

-- LEDGERS

-- what a ledger has at place 0, and past its end
abbrev pub no_tag : Tag
no_tag = tag_of nobody

abbrev pub tag_at : Ledger → ℕ → Tag
tag_at g t = get_or g.threads t no_tag

abbrev pub variable_in : Ledger → ℕ → Variable
variable_in g c = get_or g.variables c no_variable

abbrev pub with_tag : ℕ → Tag → Ledger → Ledger
with_tag t x g = record g { threads = set g.threads t x }

abbrev pub with_mark : ℕ → Mark → Ledger → Ledger
with_mark t m g = with_tag t (record (tag_at g t) { mark = m }) g

abbrev pub with_base_tag : ℕ → ℕ → Ledger → Ledger
with_base_tag u p g = with_tag u (record (tag_at g u) { base = p }) g

-- c is used once more
abbrev pub with_one_use : ℕ → Ledger → Ledger
with_one_use c g =
    record g { variables = set g.variables c (record (variable_in g c) { uses = (variable_in g c).uses + 1 }) }

-- how often an open call with this mark has used c
abbrev pub times_used : ℕ → Mark → ℕ
times_used c (HasUsed d) = if d == c then 1 else 0
times_used c _ = 0

-- how often open calls have used c
abbrev pub users : ℕ → List Tag → ℕ
users c xs = sum_by (λ (x : Tag). times_used c x.mark) xs

-- a ledger and a state agree, if these threads are dying
pub record Agrees (g : Ledger) (dying : List ℕ) (r : World) : Type 0 where
  pub threads : length g.threads ≡ length r.threads
  pub mutexes : g.mutexes ≡ r.mutexes
  pub count : length g.variables ≡ length r.variables
  pub bound : (c : ℕ) → (variable_in g c).mutex ≡ (variable_at r c).mutex
  pub used : (c : ℕ) → (variable_in g c).uses ≡ (variable_at r c).uses + users c g.threads
  pub living : (t : ℕ) → is_among dying t ≡ false → (tag_at g t).living ≡ is_living r t
  -- who has set a priority lives with it, and is there
  pub set_so : (t u p : ℕ) → (tag_at g t).mark ≡ HasSet u p → (tag_at g u).base ≡ p
  pub placed : (t u p : ℕ) → (tag_at g t).mark ≡ HasSet u p → u < length g.threads
  -- the priorities of others are those that were set last
  pub base : (u : ℕ) → ((t p : ℕ) → (tag_at g t).mark ≡ HasSet u p → ⊥) → (tag_at g u).base ≡ (thread_at r u).base
  pub signals : g.signals ≡ r.signals
  pub time : g.time ≡ r.time

-- MARKS

-- a mark is one thing
no_set : {x : Mark} {u p : ℕ} → x ≡ NoMark → x ≡ HasSet u p → ⊥
no_set e k = cc

no_use_set : {x : Mark} {u p c : ℕ} → x ≡ HasUsed c → x ≡ HasSet u p → ⊥
no_use_set e k = cc

same_set : {x : Mark} {u p v n : ℕ} → x ≡ HasSet u p → x ≡ HasSet v n → (u ≡ v) × (p ≡ n)
same_set e k = (cc, cc)

-- t's mark is written
module _ (g : Ledger) (t : ℕ) (m : Mark) (room : t < length g.threads) where
  abbrev x : Tag
  x = record (tag_at g t) { mark = m }

  pub mark_same : (tag_at (with_mark t m g) t).mark ≡ m
  mark_same = ap (λ (y : Tag). y.mark) (get_or-set_same g.threads t x no_tag room)

  pub mark_other : (u : ℕ) → u ≢ t → (tag_at (with_mark t m g) u).mark ≡ (tag_at g u).mark
  mark_other u d = ap (λ (y : Tag). y.mark) (get_or-set_other g.threads t u x no_tag d)

  pub mark_base : (u : ℕ) → (tag_at (with_mark t m g) u).base ≡ (tag_at g u).base
  mark_base u = kept_at (λ (y : Tag). y.base) g.threads t x no_tag refl u

  pub mark_living : (u : ℕ) → (tag_at (with_mark t m g) u).living ≡ (tag_at g u).living
  mark_living u = kept_at (λ (y : Tag). y.living) g.threads t x no_tag refl u

  pub mark_length : length (with_mark t m g).threads ≡ length g.threads
  mark_length = length-set g.threads t x

  pub mark_users : (c : ℕ) → users c (with_mark t m g).threads + times_used c (tag_at g t).mark ≡ users c g.threads + times_used c m
  mark_users c = sum_by-set (λ (y : Tag). times_used c y.mark) g.threads t x no_tag room

-- u's base priority is written
module _ (g : Ledger) (u p : ℕ) (room : u < length g.threads) where
  abbrev y : Tag
  y = record (tag_at g u) { base = p }

  pub base_same : (tag_at (with_base_tag u p g) u).base ≡ p
  base_same = ap (λ (z : Tag). z.base) (get_or-set_same g.threads u y no_tag room)

  pub base_other : (v : ℕ) → v ≢ u → (tag_at (with_base_tag u p g) v).base ≡ (tag_at g v).base
  base_other v d = ap (λ (z : Tag). z.base) (get_or-set_other g.threads u v y no_tag d)

  pub base_mark : (v : ℕ) → (tag_at (with_base_tag u p g) v).mark ≡ (tag_at g v).mark
  base_mark v = kept_at (λ (z : Tag). z.mark) g.threads u y no_tag refl v

  pub base_living : (v : ℕ) → (tag_at (with_base_tag u p g) v).living ≡ (tag_at g v).living
  base_living v = kept_at (λ (z : Tag). z.living) g.threads u y no_tag refl v

  pub base_length : length (with_base_tag u p g).threads ≡ length g.threads
  base_length = length-set g.threads u y

  pub base_users : (c : ℕ) → users c (with_base_tag u p g).threads ≡ users c g.threads
  base_users c = omega (arith, sum_by-set (λ (z : Tag). times_used c z.mark) g.threads u y no_tag room)

-- how often a mark that is no use of c counts
no_times : (c : ℕ) (x : Mark) → x ≡ NoMark → times_used c x ≡ 0
no_times c x e = ap (times_used c) e

-- A CALL SETS A PRIORITY

module _ (g : Ledger) (dying : List ℕ) (r : World) (a : Agrees g dying r) (t u p : ℕ) (room : t < length g.threads)
    (there : u < length g.threads) (unmarked : (tag_at g t).mark ≡ NoMark)
    (alone : (x n : ℕ) → (tag_at g x).mark ≡ HasSet u n → ⊥) where
  abbrev based : Ledger
  based = with_base_tag u p g

  abbrev after : Ledger
  after = with_mark t (HasSet u p) based

  room_too : t < length based.threads
  room_too = omega (arith, base_length g u p there, room)

  mark_of_other : (v : ℕ) → v ≢ t → (tag_at after v).mark ≡ (tag_at g v).mark
  mark_of_other v d = mark_other based t (HasSet u p) room_too v d ∙ base_mark g u p there v

  mark_of_t : (v : ℕ) → v ≡ t → (tag_at after v).mark ≡ HasSet u p
  mark_of_t v e = ap (λ k. (tag_at after k).mark) e ∙ mark_same based t (HasSet u p) room_too

  base_of_u : (v : ℕ) → v ≡ u → (tag_at after v).base ≡ p
  base_of_u v e = mark_base based t (HasSet u p) room_too v ∙ ap (λ k. (tag_at based k).base) e ∙ base_same g u p there

  base_of_other : (v : ℕ) → v ≢ u → (tag_at after v).base ≡ (tag_at g v).base
  base_of_other v d = mark_base based t (HasSet u p) room_too v ∙ base_other g u p there v d

  users_of : (c : ℕ) → users c after.threads ≡ users c g.threads
  users_of c =
      omega (
        arith,
        mark_users based t (HasSet u p) room_too c,
        base_users g u p there c,
        no_times c (tag_at based t).mark (base_mark g u p there t ∙ unmarked),
      )

  pub agrees_set : Agrees (with_mark t (HasSet u p) (with_base_tag u p g)) dying r
  agrees_set = record {
    threads = mark_length based t (HasSet u p) room_too ∙ base_length g u p there ∙ a.threads;
    mutexes = a.mutexes;
    count = a.count;
    bound = a.bound;
    used = λ c. a.used c ∙ ap (λ n. (variable_at r c).uses + n) (sym (users_of c));
    living = λ v d. mark_living based t (HasSet u p) room_too v ∙ base_living g u p there v ∙ a.living v d;
    set_so = λ v i n e. set_by v i n e (cases_eq v t) (cases_eq i u);
    placed = λ v i n e. place_of v i n e (cases_eq v t);
    base = λ v none. base_by v none (cases_eq v u);
    signals = a.signals;
    time = a.time;
  }
    where
      set_by : (v i n : ℕ) → (tag_at after v).mark ≡ HasSet i n → (v ≡ t) ⊎ (v ≢ t) → (i ≡ u) ⊎ (i ≢ u) → (tag_at after i).base ≡ n
      set_by v i n e (inl s) k = (let b = same_set (mark_of_t v s) e in base_of_u i (sym b.0) ∙ b.1)
      set_by v i n e (inr d) (inl k) =
          absurd (alone v n (sym (mark_of_other v d) ∙ e ∙ ap (λ z. HasSet z n) k))
      set_by v i n e (inr d) (inr k) = base_of_other i k ∙ a.set_so v i n (sym (mark_of_other v d) ∙ e)

      place_of : (v i n : ℕ) → (tag_at after v).mark ≡ HasSet i n → (v ≡ t) ⊎ (v ≢ t) → i < length after.threads
      place_of v i n e (inl s) =
          (let b = same_set (mark_of_t v s) e in
          omega (arith, b.0, there, mark_length based t (HasSet u p) room_too, base_length g u p there))
      place_of v i n e (inr d) =
          omega (arith, a.placed v i n (sym (mark_of_other v d) ∙ e), mark_length based t (HasSet u p) room_too, base_length g u p there)

      base_by : (v : ℕ) → ((x n : ℕ) → (tag_at after x).mark ≡ HasSet v n → ⊥) → (v ≡ u) ⊎ (v ≢ u)
          → (tag_at after v).base ≡ (thread_at r v).base
      base_by v none (inl e) = absurd (none t p (mark_of_t t refl ∙ ap (λ z. HasSet z p) (sym e)))
      base_by v none (inr d) =
          base_of_other v d ∙ a.base v (λ x n e. by_thread x n e (cases_eq x t))
        where
          by_thread : (x n : ℕ) → (tag_at g x).mark ≡ HasSet v n → (x ≡ t) ⊎ (x ≢ t) → ⊥
          by_thread x n e (inl s) = no_set (ap (λ k. (tag_at g k).mark) s ∙ unmarked) e
          by_thread x n e (inr k) = none x n (mark_of_other x k ∙ e)

-- A CALL USES A VARIABLE

module _ (g : Ledger) (dying : List ℕ) (r : World) (a : Agrees g dying r) (t c : ℕ) (room : t < length g.threads)
    (there : c < length g.variables) (unmarked : (tag_at g t).mark ≡ NoMark) where
  abbrev used_more : Ledger
  used_more = with_one_use c g

  abbrev marked : Ledger
  marked = with_mark t (HasUsed c) used_more

  abbrev z : Variable
  z = record (variable_in g c) { uses = (variable_in g c).uses + 1 }

  uses_of : (d : ℕ) → (c ≡ d) ⊎ (c ≢ d) → (variable_in marked d).uses ≡ (variable_at r d).uses + users d marked.threads
  uses_of d (inl e) =
      let more : (variable_in marked d).uses ≡ (variable_in g c).uses + 1 =
      ap (λ k. (variable_in marked k).uses) (sym e) ∙ ap (λ (y : Variable). y.uses) (get_or-set_same g.variables c z no_variable there) in
      let here : times_used d (HasUsed c) ≡ 1 = rw (eq-eqb c d e) refl in
      let before : (variable_in g c).uses ≡ (variable_at r d).uses + users d g.threads = ap (λ k. (variable_in g k).uses) e ∙ a.used d in
      omega (arith, more, here, before, mark_users used_more t (HasUsed c) room d, no_times d (tag_at g t).mark unmarked)
  uses_of d (inr n) =
      let same : (variable_in marked d).uses ≡ (variable_in g d).uses =
      ap (λ (y : Variable). y.uses) (get_or-set_other g.variables c d z no_variable (λ k. n (sym k))) in
      let none : times_used d (HasUsed c) ≡ 0 = rw (ne_eqb c d n) refl in
      omega (arith, same, none, a.used d, mark_users used_more t (HasUsed c) room d, no_times d (tag_at g t).mark unmarked)

  mark_back : (v i n : ℕ) → (tag_at marked v).mark ≡ HasSet i n → (v ≡ t) ⊎ (v ≢ t) → (tag_at g v).mark ≡ HasSet i n
  mark_back v i n e (inl s) =
      absurd (no_use_set (ap (λ k. (tag_at marked k).mark) s ∙ mark_same used_more t (HasUsed c) room) e)
  mark_back v i n e (inr d) = sym (mark_other used_more t (HasUsed c) room v d) ∙ e

  mark_on : (v i n : ℕ) → (tag_at g v).mark ≡ HasSet i n → (v ≡ t) ⊎ (v ≢ t) → (tag_at marked v).mark ≡ HasSet i n
  mark_on v i n e (inl s) = absurd (no_set (ap (λ k. (tag_at g k).mark) s ∙ unmarked) e)
  mark_on v i n e (inr d) = mark_other used_more t (HasUsed c) room v d ∙ e

  pub agrees_use : Agrees (with_mark t (HasUsed c) (with_one_use c g)) dying r
  agrees_use = record {
    threads = mark_length used_more t (HasUsed c) room ∙ a.threads;
    mutexes = a.mutexes;
    count = length-set g.variables c z ∙ a.count;
    bound = λ d. kept_at (λ (y : Variable). y.mutex) g.variables c z no_variable refl d ∙ a.bound d;
    used = λ d. uses_of d (cases_eq c d);
    living = λ v d. mark_living used_more t (HasUsed c) room v ∙ a.living v d;
    set_so = λ v i n e. mark_base used_more t (HasUsed c) room i ∙ a.set_so v i n (mark_back v i n e (cases_eq v t));
    placed = λ v i n e.
        omega (arith, a.placed v i n (mark_back v i n e (cases_eq v t)), mark_length used_more t (HasUsed c) room);
    base = λ v none. mark_base used_more t (HasUsed c) room v ∙ a.base v (λ x n e. none x n (mark_on x v n e (cases_eq x t)));
    signals = a.signals;
    time = a.time;
  }

-- A CALL IS ANSWERED

module _ (g : Ledger) (dying : List ℕ) (r : World) (a : Agrees g dying r) (t : ℕ) (room : t < length g.threads) where
  abbrev closed : Ledger
  closed = with_mark t NoMark g

  open_mark : (v i n : ℕ) → (tag_at closed v).mark ≡ HasSet i n → (v ≡ t) ⊎ (v ≢ t) → (tag_at g v).mark ≡ HasSet i n
  open_mark v i n e (inl s) = absurd (no_set (ap (λ k. (tag_at closed k).mark) s ∙ mark_same g t NoMark room) e)
  open_mark v i n e (inr d) = sym (mark_other g t NoMark room v d) ∙ e

  -- one that has used a variable
  module _ (c : ℕ) (there : c < length g.variables) (mark : (tag_at g t).mark ≡ HasUsed c) where
    abbrev used_once : Variable
    used_once = record (variable_at r c) { uses = (variable_at r c).uses + 1 }

    there_too : c < length r.variables
    there_too = omega (arith, there, a.count)

    counted : (d : ℕ) → (c ≡ d) ⊎ (c ≢ d) → (variable_in g d).uses ≡ (variable_at (with_use c r) d).uses + users d closed.threads
    counted d (inl e) =
        let more : (variable_at (with_use c r) d).uses ≡ (variable_at r d).uses + 1 =
        ap (λ k. (variable_at (with_use c r) k).uses) (sym e) ∙ ap (λ (i : Variable). i.uses) (get_or-set_same r.variables c used_once no_variable there_too)
        ∙ ap (λ k. (variable_at r k).uses + 1) e in
        let here : times_used d (tag_at g t).mark ≡ 1 = ap (times_used d) mark ∙ rw (eq-eqb c d e) refl in
        omega (arith, more, here, a.used d, mark_users g t NoMark room d)
    counted d (inr n) =
        let same : (variable_at (with_use c r) d).uses ≡ (variable_at r d).uses =
        ap (λ (i : Variable). i.uses) (get_or-set_other r.variables c d used_once no_variable (λ k. n (sym k))) in
        let none : times_used d (tag_at g t).mark ≡ 0 = ap (times_used d) mark ∙ rw (ne_eqb c d n) refl in
        omega (arith, same, none, a.used d, mark_users g t NoMark room d)

    pub agrees_used : Agrees (with_mark t NoMark g) dying (with_use c r)
    agrees_used = record {
      threads = mark_length g t NoMark room ∙ a.threads;
      mutexes = a.mutexes;
      count = a.count ∙ sym (length-set r.variables c used_once);
      bound = λ d. a.bound d ∙ sym (kept_at (λ (i : Variable). i.mutex) r.variables c used_once no_variable refl d);
      used = λ d. counted d (cases_eq c d);
      living = λ v d. mark_living g t NoMark room v ∙ a.living v d;
      set_so = λ v i n e. mark_base g t NoMark room i ∙ a.set_so v i n (open_mark v i n e (cases_eq v t));
      placed = λ v i n e. omega (arith, a.placed v i n (open_mark v i n e (cases_eq v t)), mark_length g t NoMark room);
      base = λ v none. mark_base g t NoMark room v ∙ a.base v (λ x n e. none x n (on x v n e (cases_eq x t)));
      signals = a.signals;
      time = a.time;
    }
      where
        on : (x v n : ℕ) → (tag_at g x).mark ≡ HasSet v n → (x ≡ t) ⊎ (x ≢ t) → (tag_at closed x).mark ≡ HasSet v n
        on x v n e (inl s) = absurd (no_use_set (ap (λ k. (tag_at g k).mark) s ∙ mark) e)
        on x v n e (inr d) = mark_other g t NoMark room x d ∙ e

  -- one that has set a priority, and is the only one that sets it
  module _ (u p : ℕ) (mark : (tag_at g t).mark ≡ HasSet u p)
      (alone : (x n : ℕ) → x ≢ t → (tag_at g x).mark ≡ HasSet u n → ⊥) where
    abbrev changed : Thread
    changed = record (thread_at r u) { base = p }

    there_as_well : u < length r.threads
    there_as_well = omega (arith, a.placed t u p mark, a.threads)

    no_times_set : (c : ℕ) → times_used c (tag_at g t).mark ≡ 0
    no_times_set c = ap (times_used c) mark

    pub agrees_changed : Agrees (with_mark t NoMark g) dying (with_base u p r)
    agrees_changed = record {
      threads = mark_length g t NoMark room ∙ a.threads ∙ sym (length-set r.threads u changed);
      mutexes = a.mutexes;
      count = a.count;
      bound = a.bound;
      used = λ c. omega (arith, a.used c, mark_users g t NoMark room c, no_times_set c);
      living = λ v d. mark_living g t NoMark room v ∙ a.living v d
          ∙ sym (kept_at (λ (i : Thread). i.living) r.threads u changed nobody refl v);
      set_so = λ v i n e. mark_base g t NoMark room i ∙ a.set_so v i n (open_mark v i n e (cases_eq v t));
      placed = λ v i n e. omega (arith, a.placed v i n (open_mark v i n e (cases_eq v t)), mark_length g t NoMark room);
      base = λ v none. mark_base g t NoMark room v ∙ by_place v none (cases_eq v u);
      signals = a.signals;
      time = a.time;
    }
      where
        by_place : (v : ℕ) → ((x n : ℕ) → (tag_at closed x).mark ≡ HasSet v n → ⊥) → (v ≡ u) ⊎ (v ≢ u)
            → (tag_at g v).base ≡ (thread_at (with_base u p r) v).base
        by_place v none (inl e) =
            ap (λ i. (tag_at g i).base) e ∙ a.set_so t u p mark
            ∙ sym (ap (λ i. (thread_at (with_base u p r) i).base) e ∙ ap (λ (i : Thread). i.base) (get_or-set_same r.threads u changed nobody there_as_well))
        by_place v none (inr d) =
            a.base v (λ x n e. by_thread x n e (cases_eq x t))
            ∙ sym (ap (λ (i : Thread). i.base) (get_or-set_other r.threads u v changed nobody d))
          where
            by_thread : (x n : ℕ) → (tag_at g x).mark ≡ HasSet v n → (x ≡ t) ⊎ (x ≢ t) → ⊥
            by_thread x n e (inl s) = d (sym (same_set (sym (ap (λ i. (tag_at g i).mark) (sym s)) ∙ mark) e).0)
            by_thread x n e (inr i) = none x n (mark_other g t NoMark room x i ∙ e)
