-- Ends and additions keep that a ledger and the state in which a history rests agree.
use Rattle.std.proofs.Common.{ℕ, ◌≡◌, ◌≢◌, ◌⊎◌, ◌∙◌, ◌==◌, ◌+◌, Bool, true, false, not, List, [], ◌∷◌, ◌++◌, length, get_or, refl, sym, ap, inl, inr, arith, eqb-true}
use Rattle.std.specs.List.{filter}
use Rattle.std.proofs.lemmas.Bool.{cases_eq, ne_eqb}
use Rattle.std.proofs.lemmas.List.{get_or_past, get_or_push, length_push}
use Rattle.std.proofs.lemmas.List.Sums.{sum_by-append}
use Rattle.std.proofs.lemmas.Map.Views.{any-filter_same}
use Rattle.pif_types.specs.declared.requests.Kind.{Kind}
use Rattle.pif_model.specs.Posix.{World, Thread, Mutex, Variable, nobody, no_variable, thread_at, variable_at, new_thread, new_mutex, new_variable}
use Rattle.pif_model_simulation.proofs.runs.Worlds.{push_other, push_same}
use Rattle.pif_history_model.specs.Lines.{is_among}
use Rattle.pif_parts_model.proofs.Ledgers.{Tag, Ledger, tag_of}
use Rattle.pif_parts_model.proofs.Ledgers.Mark.{HasSet}
use Rattle.pif_parts_model.proofs.Agreeing.{Agrees, no_tag, tag_at, variable_in, users, times_used}

-- WHO IS DYING

-- who is not t is among the others if it was among all
pub among_others : (us : List ℕ) (t v : ℕ) → v ≢ t → is_among (filter (λ u. not (u == t)) us) v ≡ is_among us v
among_others us t v d =
    any-filter_same (λ u. u == v) (λ u. not (u == t)) true
    (λ k e. ap not (ne_eqb k t (λ same. d (sym (eqb-true k v e) ∙ same)))) us

-- LIVES

-- threads have the same marks and priorities as before, and those that aren't dying live as the lines say
pub agrees_lives : (g : Ledger) (dying : List ℕ) (r : World) → Agrees g dying r → (xs : List Tag) (ys : List Thread) (us : List ℕ)
    → length xs ≡ length g.threads → length ys ≡ length r.threads
    → ((t : ℕ) → (get_or xs t no_tag).mark ≡ (tag_at g t).mark)
    → ((t : ℕ) → (get_or xs t no_tag).base ≡ (tag_at g t).base)
    → ((t : ℕ) → (get_or ys t nobody).base ≡ (thread_at r t).base)
    → ((c : ℕ) → users c xs ≡ users c g.threads)
    → ((t : ℕ) → is_among us t ≡ false → (get_or xs t no_tag).living ≡ (get_or ys t nobody).living)
    → Agrees (record g { threads = xs }) us (record r { threads = ys })
agrees_lives g dying r a xs ys us longx longy marks bases rest_bases counts lives = record {
  threads = longx ∙ a.threads ∙ sym longy;
  mutexes = a.mutexes;
  count = a.count;
  bound = a.bound;
  used = λ c. a.used c ∙ ap (λ n. (variable_at r c).uses + n) (sym (counts c));
  living = lives;
  set_so = λ t u p e. bases u ∙ a.set_so t u p (sym (marks t) ∙ e);
  placed = λ t u p e. omega (arith, a.placed t u p (sym (marks t) ∙ e), longx);
  base = λ u none. bases u ∙ a.base u (λ t p e. none t p (marks t ∙ e)) ∙ sym (rest_bases u);
  signals = a.signals;
  time = a.time;
}

-- ADDITIONS

module _ (g : Ledger) (dying : List ℕ) (r : World) (a : Agrees g dying r) where
  pub agrees_thread : (p : ℕ)
      → Agrees (record g { threads = g.threads ++ tag_of (new_thread p) ∷ [] }) dying (record r { threads = r.threads ++ new_thread p ∷ [] })
  agrees_thread p = record {
    threads = length_push g.threads x ∙ ap (λ n. n + 1) a.threads ∙ sym (length_push r.threads y);
    mutexes = a.mutexes;
    count = a.count;
    bound = a.bound;
    used = λ c. a.used c ∙ ap (λ n. (variable_at r c).uses + n) (sym (counts c));
    living = λ t d. lives t d (cases_eq t (length g.threads));
    set_so = λ t u n e. at_old u (older t u n e) ∙ a.set_so t u n (sym (marks t) ∙ e);
    placed = λ t u n e. omega (arith, a.placed t u n (sym (marks t) ∙ e), length_push g.threads x);
    base = λ u none. bases u none (cases_eq u (length g.threads));
    signals = a.signals;
    time = a.time;
  }
    where
      x : Tag
      x = tag_of (new_thread p)

      y : Thread
      y = new_thread p

      after : Ledger
      after = record g { threads = g.threads ++ x ∷ [] }

      marks : (t : ℕ) → (tag_at after t).mark ≡ (tag_at g t).mark
      marks t = push_same (λ (z : Tag). z.mark) g.threads x no_tag t refl

      counts : (c : ℕ) → users c after.threads ≡ users c g.threads
      counts c = sum_by-append (λ (z : Tag). times_used c z.mark) g.threads (x ∷ []) ∙ omega arith

      older : (t u n : ℕ) → (tag_at after t).mark ≡ HasSet u n → u ≢ length g.threads
      older t u n e same = omega (arith, a.placed t u n (sym (marks t) ∙ e), same)

      at_old : (u : ℕ) → u ≢ length g.threads → (tag_at after u).base ≡ (tag_at g u).base
      at_old u d = ap (λ (z : Tag). z.base) (push_other g.threads x no_tag u d)

      -- behind the end of one there is the end of the other
      new_too : (t : ℕ) → t ≡ length g.threads → length r.threads ≡ t
      new_too t e = sym a.threads ∙ sym e

      lives : (t : ℕ) → is_among dying t ≡ false → (t ≡ length g.threads) ⊎ (t ≢ length g.threads)
          → (tag_at after t).living ≡ (get_or (r.threads ++ y ∷ []) t nobody).living
      lives t d (inl e) =
          ap (λ (z : Tag). z.living) (get_or_push g.threads x no_tag t (sym e))
          ∙ sym (ap (λ (z : Thread). z.living) (get_or_push r.threads y nobody t (new_too t e)))
      lives t d (inr n) =
          ap (λ (z : Tag). z.living) (push_other g.threads x no_tag t n) ∙ a.living t d
          ∙ sym (ap (λ (z : Thread). z.living) (push_other r.threads y nobody t (λ e. n (e ∙ sym a.threads))))

      bases : (u : ℕ) → ((t n : ℕ) → (tag_at after t).mark ≡ HasSet u n → ⊥) → (u ≡ length g.threads) ⊎ (u ≢ length g.threads)
          → (tag_at after u).base ≡ (get_or (r.threads ++ y ∷ []) u nobody).base
      bases u none (inl e) =
          ap (λ (z : Tag). z.base) (get_or_push g.threads x no_tag u (sym e))
          ∙ sym (ap (λ (z : Thread). z.base) (get_or_push r.threads y nobody u (new_too u e)))
      bases u none (inr n) =
          at_old u n ∙ a.base u (λ t i e. none t i (marks t ∙ e))
          ∙ sym (ap (λ (z : Thread). z.base) (push_other r.threads y nobody u (λ e. n (e ∙ sym a.threads))))

  pub agrees_mutex : (k : Kind) (b : Bool)
      → Agrees (record g { mutexes = g.mutexes ++ new_mutex k b ∷ [] }) dying (record r { mutexes = r.mutexes ++ new_mutex k b ∷ [] })
  agrees_mutex k b = record {
    threads = a.threads;
    mutexes = ap (λ (zs : List Mutex). zs ++ new_mutex k b ∷ []) a.mutexes;
    count = a.count;
    bound = a.bound;
    used = a.used;
    living = a.living;
    set_so = a.set_so;
    placed = a.placed;
    base = a.base;
    signals = a.signals;
    time = a.time;
  }

  pub agrees_variable : (m : ℕ)
      → Agrees (record g { variables = g.variables ++ new_variable m ∷ [] }) dying (record r { variables = r.variables ++ new_variable m ∷ [] })
  agrees_variable m = record {
    threads = a.threads;
    mutexes = a.mutexes;
    count = length_push g.variables x ∙ ap (λ n. n + 1) a.count ∙ sym (length_push r.variables x);
    bound = λ c. bounds c (cases_eq c (length g.variables));
    used = λ c. counts c (cases_eq c (length g.variables));
    living = a.living;
    set_so = a.set_so;
    placed = a.placed;
    base = a.base;
    signals = a.signals;
    time = a.time;
  }
    where
      x : Variable
      x = new_variable m

      new_too : (c : ℕ) → c ≡ length g.variables → length r.variables ≡ c
      new_too c e = sym a.count ∙ sym e

      bounds : (c : ℕ) → (c ≡ length g.variables) ⊎ (c ≢ length g.variables)
          → (get_or (g.variables ++ x ∷ []) c no_variable).mutex ≡ (get_or (r.variables ++ x ∷ []) c no_variable).mutex
      bounds c (inl e) =
          ap (λ (z : Variable). z.mutex) (get_or_push g.variables x no_variable c (sym e))
          ∙ sym (ap (λ (z : Variable). z.mutex) (get_or_push r.variables x no_variable c (new_too c e)))
      bounds c (inr n) =
          ap (λ (z : Variable). z.mutex) (push_other g.variables x no_variable c n) ∙ a.bound c
          ∙ sym (ap (λ (z : Variable). z.mutex) (push_other r.variables x no_variable c (λ e. n (e ∙ sym a.count))))

      counts : (c : ℕ) → (c ≡ length g.variables) ⊎ (c ≢ length g.variables)
          → (get_or (g.variables ++ x ∷ []) c no_variable).uses ≡ (get_or (r.variables ++ x ∷ []) c no_variable).uses + users c g.threads
      counts c (inl e) =
          let mine : (get_or (g.variables ++ x ∷ []) c no_variable).uses ≡ 0 =
          ap (λ (z : Variable). z.uses) (get_or_push g.variables x no_variable c (sym e)) in
          let theirs : (get_or (r.variables ++ x ∷ []) c no_variable).uses ≡ 0 =
          ap (λ (z : Variable). z.uses) (get_or_push r.variables x no_variable c (new_too c e)) in
          let before : (variable_in g c).uses ≡ 0 =
          ap (λ (z : Variable). z.uses) (get_or_past g.variables c no_variable (omega (arith, e))) in
          omega (arith, mine, theirs, before, a.used c)
      counts c (inr n) =
          ap (λ (z : Variable). z.uses) (push_other g.variables x no_variable c n) ∙ a.used c
          ∙ ap (λ k. k + users c g.threads)
          (sym (ap (λ (z : Variable). z.uses) (push_other r.variables x no_variable c (λ e. n (e ∙ sym a.count)))))

  pub agrees_time : (n : ℕ) → Agrees (record g { time = n }) dying (record r { time = n })
  agrees_time n = record {
    threads = a.threads;
    mutexes = a.mutexes;
    count = a.count;
    bound = a.bound;
    used = a.used;
    living = a.living;
    set_so = a.set_so;
    placed = a.placed;
    base = a.base;
    signals = a.signals;
    time = refl;
  }
