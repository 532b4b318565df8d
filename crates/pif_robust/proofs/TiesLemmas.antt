-- Lemmas on fields that hold robust lists: what the fields show, and what stays when one thread's row changes.
use Rattle.std.proofs.Common.{◌≡◌, ℕ, zero, suc, ◌-◌, ◌≤◌, ◌<◌, true, List, Some, None, refl, sym, ◌∙◌, ap, subst, ⊎_elim, arith, length, map, unwrap_or}
use Rattle.std.proofs.lemmas.Bool.{cases_eq, false_from_ne_true}
use Rattle.std.proofs.lemmas.Option.{same_Some}
use Rattle.std.proofs.lemmas.List.{ext_get_or, get_or-map, length-map, get_or-set_same, get_or-set_other, length-set}
use Rattle.pif_model.specs.RobustList.{Robust, RobustRow, no_robust_row, robust_at, has_entry, is_listed, with_robust, HasNoRepeats, IsRobust}
use Rattle.pif_robust.specs.declared.links.Link.{Link}
use Rattle.pif_robust.specs.declared.links.Head.{Head}
use Rattle.pif_model_lemmas.specs.RobustWalks.{first_or}
use Rattle.pif_robust.specs.Links.{unlinked, empty_head, link_at, head_at, path, row_from, robust_from, IsChain, FieldsHold}
use Rattle.pif_robust.specs.Robust.{named_mutex}
use Rattle.pif_model_lemmas.proofs.RobustEntries.{length-mutexes}
use Rattle.pif_robust.proofs.ChainLemmas.{chain-holder, chain-same, path-chain, held_within}

-- the number of a mutex that has one
pub unwrap_or-named_mutex : (m : ℕ) → unwrap_or (named_mutex m) 0 ≡ m
unwrap_or-named_mutex zero = refl
unwrap_or-named_mutex (suc m) = refl

pub named_mutex-some : (m : ℕ) → 1 ≤ m → named_mutex m ≡ Some m
named_mutex-some zero h = absurd (omega arith)
named_mutex-some (suc m) h = refl

same_row : (xs ys : List ℕ) (h i p q : ℕ) → xs ≡ ys → h ≡ i → p ≡ q →
    ◌≡◌ {A = RobustRow} (record { listed = xs; half_linked = h; pending = p })
    (record { listed = ys; half_linked = i; pending = q })
same_row xs ys h i p q e f g = cc

same_robust : (xs ys : List RobustRow) (m n : ℕ) → xs ≡ ys → m ≡ n →
    ◌≡◌ {A = Robust} (record { threads = xs; mutexes = m }) (record { threads = ys; mutexes = n })
same_robust xs ys m n e f = cc

module _ (ns : List Link) (hs : List Head) (v : Robust) (t : FieldsHold ns hs v) where
  held : (u m : ℕ) → is_listed v u m ≡ true → (link_at ns m).holder ≡ Some u
  held u m h = chain-holder ns u None (robust_at v u).listed None m (t.chain u) h

  pub listed_in : (u m : ℕ) → is_listed v u m ≡ true → m < length ns
  listed_in u m h = held_within ns m u (held u m h)

  some_listed : (u m : ℕ) → is_listed v u m ≡ true → 1 ≤ m
  some_listed u zero h = let e : None ≡ Some u = sym (ap (λ (l : Link). l.holder) t.no_mutex) ∙ held u 0 h in absurd cc
  some_listed u (suc m) h = omega arith

  -- a list has at most as many mutexes as there are
  pub short : (u : ℕ) → length (robust_at v u).listed ≤ v.mutexes
  short u = length-mutexes (robust_at v u).listed v.mutexes (t.once u) (some_listed u)
      (λ m h. omega (arith, listed_in u m h, t.mutexes))

  row_is : (u : ℕ) → row_from ns (head_at hs u) ≡ robust_at v u
  row_is u = same_row (path (length ns) ns (head_at hs u).first) (robust_at v u).listed
      (unwrap_or (head_at hs u).half_linked 0) (robust_at v u).half_linked (unwrap_or (head_at hs u).pending 0)
      (robust_at v u).pending
      (ap (path (length ns) ns) (t.first u) ∙ path-chain ns u None (robust_at v u).listed (length ns)
      (omega (arith, short u, t.mutexes)) (t.chain u))
      (ap (λ o. unwrap_or o 0) (t.half_linked u) ∙ unwrap_or-named_mutex (robust_at v u).half_linked)
      (ap (λ o. unwrap_or o 0) (t.pending u) ∙ unwrap_or-named_mutex (robust_at v u).pending)

  -- the fields show the lists that they hold
  pub robust_from_is : robust_from ns hs ≡ v
  unfolding robust_from
  robust_from_is = same_robust (map (row_from ns) hs) v.threads (length ns - 1) v.mutexes
      (ext_get_or no_robust_row (map (row_from ns) hs) v.threads (length-map hs (row_from ns) ∙ t.threads)
      (λ u u_in. let in' : u < length hs = omega (arith, length-map hs (row_from ns)) in
      get_or-map (row_from ns) hs u empty_head no_robust_row in' ∙ row_is u))
      (omega (arith, t.mutexes))

  -- what holds of lists that fields hold
  pub IsRobust-from_Ties : IsRobust v
  IsRobust-from_Ties = record {
    nobody = t.nobody;
    most = t.most;
    some_listed = some_listed;
    most_listed = λ u m h. omega (arith, listed_in u m h, t.mutexes);
    half_linked = t.half_in;
    pending = t.pending_in;
    once = t.once;
    alone = λ u w m h k. same_Some u w (sym (held u m h) ∙ held w m k);
    unlisted = λ u m some is w. false_from_ne_true (is_listed v w m)
        (λ h. let e : None ≡ Some w = sym (ap (λ (l : Link). l.holder) (t.written u m some is)) ∙ held w m h in cc);
    one_half = λ u m some is w g. t.one_half u w m some is g;
  }

-- one thread's row changes, and with it the entry of one mutex, and the neighbours of entries on that thread's list
pub record Change (ns now : List Link) (hs then : List Head) (v : Robust) (t m : ℕ) (x : RobustRow) : Type 0 where
  pub links : length now ≡ length ns
  pub heads : length then ≡ length hs
  pub thread : 1 ≤ t
  pub thread_in : t < length hs
  pub no_mutex : link_at now 0 ≡ unlinked
  -- the row
  pub first : (head_at then t).first ≡ first_or x.listed None
  pub half_linked : (head_at then t).half_linked ≡ named_mutex x.half_linked
  pub pending : (head_at then t).pending ≡ named_mutex x.pending
  pub chain : IsChain now t None x.listed None
  pub once : HasNoRepeats x.listed
  pub written : (k : ℕ) → 1 ≤ k → x.half_linked ≡ k →
      link_at now k ≡ record { next = first_or x.listed None; previous = None; holder = None }
  pub one_half : (u : ℕ) → (u ≡ t → ⊥) → 1 ≤ x.half_linked → (robust_at v u).half_linked ≡ x.half_linked → ⊥
  pub half_in : x.half_linked ≤ v.mutexes
  pub pending_in : x.pending ≤ v.mutexes
  -- the mutex
  pub was : (u : ℕ) → (u ≡ t → ⊥) → (link_at ns m).holder ≡ Some u → ⊥
  pub becomes : (u : ℕ) → (link_at now m).holder ≡ Some u → u ≡ t
  pub mine : (link_at now m).holder ≡ Some t → has_entry x.listed m ≡ true
  pub half_else : (u : ℕ) → (u ≡ t → ⊥) → 1 ≤ m → (robust_at v u).half_linked ≡ m → ⊥
  -- all others
  pub other_heads : (u : ℕ) → (u ≡ t → ⊥) → head_at then u ≡ head_at hs u
  pub others : (k : ℕ) → (k ≡ m → ⊥) → ((link_at ns k).holder ≡ Some t → ⊥) → link_at now k ≡ link_at ns k
  pub holders : (k : ℕ) → (k ≡ m → ⊥) → (link_at now k).holder ≡ (link_at ns k).holder
  pub keeps : (k : ℕ) → (k ≡ m → ⊥) → is_listed v t k ≡ true → has_entry x.listed k ≡ true

-- the row of a thread that changes, and those of the others
module _ (v : Robust) (t : ℕ) (x : RobustRow) (t_in : t < length v.threads) where
  pub robust_at-same : robust_at (with_robust t x v) t ≡ x
  robust_at-same = get_or-set_same v.threads t x no_robust_row t_in

  pub robust_at-other : (u : ℕ) → (u ≡ t → ⊥) → robust_at (with_robust t x v) u ≡ robust_at v u
  robust_at-other u ne = get_or-set_other v.threads t u x no_robust_row ne

  pub by_row : (P : ℕ → RobustRow → Type 0) → P t x → ((u : ℕ) → (u ≡ t → ⊥) → P u (robust_at v u)) → (u : ℕ) →
      P u (robust_at (with_robust t x v) u)
  by_row P here other u = ⊎_elim
      (λ e. subst (λ (k : ℕ). P k (robust_at (with_robust t x v) k)) (sym e) (subst (P t) (sym robust_at-same) here))
      (λ ne. subst (P u) (sym (robust_at-other u ne)) (other u ne))
      (cases_eq u t)

module _ (ns now : List Link) (hs then : List Head) (v : Robust) (t m : ℕ) (x : RobustRow) (ties : FieldsHold ns hs v)
    (c : Change ns now hs then v t m x) where
  t_in : t < length v.threads
  t_in = omega (arith, c.thread_in, ties.threads)

  rows : (P : ℕ → RobustRow → Type 0) → P t x → ((u : ℕ) → (u ≡ t → ⊥) → P u (robust_at v u)) → (u : ℕ) →
      P u (robust_at (with_robust t x v) u)
  rows P here other u = by_row v t x t_in P here other u

  other_chain : (u : ℕ) → (u ≡ t → ⊥) → IsChain now u None (robust_at v u).listed None
  other_chain u ne = chain-same ns now u None (robust_at v u).listed None
      (λ k h. let by : (link_at ns k).holder ≡ Some u = chain-holder ns u None (robust_at v u).listed None k
      (ties.chain u) h in
      c.others k (λ e. c.was u ne (ap (λ j. (link_at ns j).holder) (sym e) ∙ by))
      (λ g. ne (same_Some u t (sym by ∙ g))))
      (ties.chain u)

  holder_here : (k : ℕ) → (link_at now k).holder ≡ Some t → has_entry x.listed k ≡ true
  holder_here k h = ⊎_elim
      (λ e. subst (λ (j : ℕ). has_entry x.listed j ≡ true) (sym e)
      (c.mine (ap (λ j. (link_at now j).holder) (sym e) ∙ h)))
      (λ ne. c.keeps k ne (ties.holder t k (sym (c.holders k ne) ∙ h)))
      (cases_eq k m)

  holder_else : (u : ℕ) → (u ≡ t → ⊥) → (k : ℕ) → (link_at now k).holder ≡ Some u → is_listed v u k ≡ true
  holder_else u other k h = ⊎_elim
      (λ e. absurd (other (c.becomes u (ap (λ j. (link_at now j).holder) (sym e) ∙ h))))
      (λ ne. ties.holder u k (sym (c.holders k ne) ∙ h))
      (cases_eq k m)

  written_else : (u : ℕ) → (u ≡ t → ⊥) → (k : ℕ) → 1 ≤ k → (robust_at v u).half_linked ≡ k →
      link_at now k ≡ record { next = first_or (robust_at v u).listed None; previous = None; holder = None }
  written_else u ne k some is =
      let was = ties.written u k some is in
      c.others k (λ e. c.half_else u ne (subst (λ (j : ℕ). 1 ≤ j) e some) (is ∙ e))
      (λ g. let wrong : None ≡ Some t = sym (ap (λ (l : Link). l.holder) was) ∙ g in cc)
      ∙ was

  one_half : (a b k : ℕ) → 1 ≤ k → (robust_at (with_robust t x v) a).half_linked ≡ k →
      (robust_at (with_robust t x v) b).half_linked ≡ k → b ≡ a
  one_half a b k some =
      rows (λ a y. y.half_linked ≡ k → (robust_at (with_robust t x v) b).half_linked ≡ k → b ≡ a)
      (λ is. rows (λ b z. z.half_linked ≡ k → b ≡ t) (λ g. refl)
      (λ u ne g. absurd (c.one_half u ne (subst (λ (j : ℕ). 1 ≤ j) (sym is) some) (g ∙ sym is))) b)
      (λ u ne is. rows (λ b z. z.half_linked ≡ k → b ≡ u)
      (λ g. absurd (c.one_half u ne (subst (λ (j : ℕ). 1 ≤ j) (sym g) some) (is ∙ sym g)))
      (λ w other g. ties.one_half u w k some is g) b)
      a

  zero_apart : 0 ≡ t → ⊥
  zero_apart e = omega (arith, c.thread)

  pub FieldsHold-changed : FieldsHold now then (with_robust t x v)
  FieldsHold-changed = record {
    threads = c.heads ∙ ties.threads ∙ sym (length-set v.threads t x);
    mutexes = c.links ∙ ties.mutexes;
    most = ties.most;
    some_thread = omega (arith, c.heads, ties.some_thread);
    no_mutex = c.no_mutex;
    nobody = robust_at-other v t x t_in 0 zero_apart ∙ ties.nobody;
    first = rows (λ u y. (head_at then u).first ≡ first_or y.listed None) c.first
        (λ u ne. ap (λ (h : Head). h.first) (c.other_heads u ne) ∙ ties.first u);
    half_linked = rows (λ u y. (head_at then u).half_linked ≡ named_mutex y.half_linked) c.half_linked
        (λ u ne. ap (λ (h : Head). h.half_linked) (c.other_heads u ne) ∙ ties.half_linked u);
    pending = rows (λ u y. (head_at then u).pending ≡ named_mutex y.pending) c.pending
        (λ u ne. ap (λ (h : Head). h.pending) (c.other_heads u ne) ∙ ties.pending u);
    chain = rows (λ u y. IsChain now u None y.listed None) c.chain other_chain;
    once = rows (λ u y. HasNoRepeats y.listed) c.once (λ u ne. ties.once u);
    holder = rows (λ u y. (k : ℕ) → (link_at now k).holder ≡ Some u → has_entry y.listed k ≡ true) holder_here
        holder_else;
    written = rows (λ u y. (k : ℕ) → 1 ≤ k → y.half_linked ≡ k →
        link_at now k ≡ record { next = first_or y.listed None; previous = None; holder = None })
        c.written written_else;
    one_half = one_half;
    half_in = rows (λ u y. y.half_linked ≤ v.mutexes) c.half_in (λ u ne. ties.half_in u);
    pending_in = rows (λ u y. y.pending ≤ v.mutexes) c.pending_in (λ u ne. ties.pending_in u);
  }
