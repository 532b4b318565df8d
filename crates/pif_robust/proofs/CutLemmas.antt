-- Lemmas on what fields hold once no link leads to the entry of a mutex any more.
use Rattle.std.proofs.Common.{◌≡◌, ℕ, ◌≤◌, ◌<◌, true, false, List, ◌∷◌, ◌++◌, Option, Some, None, sym, ◌∙◌, ap, subst, ⊎_elim, arith, length, set}
use Rattle.std.proofs.lemmas.Bool.{cases_lt, cases_eq, both_ways}
use Rattle.std.proofs.lemmas.Option.{same_Some}
use Rattle.std.proofs.lemmas.List.{get_or-set_same, get_or-set_other, length-set, get_or_past}
use Rattle.pif_model.specs.RobustList.{Robust, RobustRow, no_robust_row, robust_at, has_entry, without_entry, is_listed, without_listed, HasNoRepeats}
use Rattle.pif_robust.specs.declared.links.Link.{Link}
use Rattle.pif_robust.specs.declared.links.Head.{Head}
use Rattle.pif_model_lemmas.specs.RobustWalks.{first_or, last_or}
use Rattle.pif_robust.specs.Links.{unlinked, empty_head, link_at, head_at, IsChain, FieldsHold, with_next_mutex, with_first_mutex, links_cut, heads_cut}
use Rattle.pif_model_lemmas.proofs.RobustEntries.{Apart, Apart-from_once, has_split, has-left, has-right, has-tail, apart, without-split, has-without, HasNoRepeats-without, last_or-has, first_or-has}
use Rattle.pif_robust.proofs.ChainLemmas.{chain-holder, chain-refirst, chain-relast, chain-front, chain-back, chain-append, with_next_mutex-at, with_next_mutex-other, with_next_mutex-holder, length-with_next_mutex, with_previous-at, with_previous-other, with_previous-holder, length-with_previous, with_first_mutex-at, with_first_mutex-other, length-with_first_mutex, first_or-back, first_or-front}
use Rattle.pif_robust.proofs.TiesLemmas.{FieldsHold-changed, IsRobust-from_Ties, listed_in}
use Rattle.pif_robust.proofs.WriteLemmas.{no_holder}

module _ (ns : List Link) (hs : List Head) (v : Robust) (ties : FieldsHold ns hs v) (t m : ℕ)
    (listed : is_listed v t m ≡ true) where
  abbrev xs : List ℕ
  xs = (robust_at v t).listed

  -- the mutexes before m and behind it
  abbrev front : List ℕ
  front = (has_split m xs listed).0

  abbrev back : List ℕ
  back = (has_split m xs listed).1

  split : xs ≡ front ++ m ∷ back
  split = (has_split m xs listed).2

  whole : IsChain ns t None (front ++ m ∷ back) None
  whole = subst (λ (zs : List ℕ). IsChain ns t None zs None) split (ties.chain t)

  sep : Apart front back m
  sep = Apart-from_once front back m (subst HasNoRepeats split (ties.once t))

  behind : IsChain ns t (last_or None front) (m ∷ back) None
  behind = chain-back ns t None front (m ∷ back) None whole

  abbrev p : Option ℕ
  p = (link_at ns m).previous

  abbrev n : Option ℕ
  n = (link_at ns m).next

  previous_is : p ≡ last_or None front
  previous_is = ap (λ (l : Link). l.previous) behind.0

  next_is : n ≡ first_or back None
  next_is = ap (λ (l : Link). l.next) behind.0

  holder_is : (link_at ns m).holder ≡ Some t
  holder_is = ap (λ (l : Link). l.holder) behind.0

  in_front : (k : ℕ) → has_entry front k ≡ true → is_listed v t k ≡ true
  in_front k h = ap (λ zs. has_entry zs k) split ∙ has-left k front (m ∷ back) h

  in_back : (k : ℕ) → has_entry back k ≡ true → is_listed v t k ≡ true
  in_back k h = ap (λ zs. has_entry zs k) split ∙ has-right k front (m ∷ back) (has-tail k m back h)

  previous_in : (k : ℕ) → p ≡ Some k → has_entry front k ≡ true
  previous_in k h = last_or-has front k (sym previous_is ∙ h)

  next_in : (k : ℕ) → n ≡ Some k → has_entry back k ≡ true
  next_in k h = first_or-has back k (sym next_is ∙ h)

  pub mutex_within : m < length ns
  mutex_within = listed_in ns hs v ties t m listed

  pub previous_within : (k : ℕ) → p ≡ Some k → k < length ns
  previous_within k h = listed_in ns hs v ties t k (in_front k (previous_in k h))

  pub next_within : (k : ℕ) → n ≡ Some k → k < length ns
  next_within k h = listed_in ns hs v ties t k (in_back k (next_in k h))

  -- a thread outside the limits, or nobody, has no list
  some_list : robust_at v t ≡ no_robust_row → ⊥
  some_list e = let none : false ≡ true = sym (ap (λ (x : RobustRow). has_entry x.listed m) e) ∙ listed in cc

  pub thread_within : t < length hs
  thread_within = ⊎_elim
      (λ in'. in')
      (λ out. absurd (some_list (get_or_past v.threads t no_robust_row (omega (arith, ties.threads)))))
      (cases_lt t (length hs))

  thread_some : 1 ≤ t
  thread_some = ⊎_elim
      (λ e. absurd (some_list (ap (robust_at v) e ∙ ties.nobody)))
      (λ ne. omega arith)
      (cases_eq t 0)

  abbrev mid : List Link
  mid = set ns m unlinked

  abbrev mid_next : List Link
  mid_next = with_next_mutex mid p n

  mid_else : (k : ℕ) → (k ≡ m → ⊥) → link_at mid k ≡ link_at ns k
  mid_else k ne = get_or-set_other ns m k unlinked unlinked ne

  now_here : link_at (links_cut ns m) m ≡ unlinked
  now_here = with_previous-other mid_next n p m (λ e. both_ways (has_entry back m) sep.back_lacks (next_in m e))
      ∙ with_next_mutex-other mid p n m (λ e. both_ways (has_entry front m) sep.front_lacks (previous_in m e))
      ∙ get_or-set_same ns m unlinked unlinked mutex_within

  now_last : (k : ℕ) → last_or None front ≡ Some k → has_entry front k ≡ true →
      link_at (links_cut ns m) k ≡ record (link_at ns k) { next = first_or back None }
  now_last k e h =
      let ne : k ≡ m → ⊥ = apart k m front h sep.front_lacks in
      with_previous-other mid_next n p k (λ g. both_ways (has_entry back k) (sep.sides k h) (next_in k g))
      ∙ with_next_mutex-at mid p n k (previous_is ∙ e)
      (omega (arith, length-set ns m unlinked, listed_in ns hs v ties t k (in_front k h)))
      ∙ ap (λ (l : Link). record l { next = n }) (mid_else k ne) ∙ ap (λ o. record (link_at ns k) { next = o }) next_is

  now_front : (k : ℕ) → (last_or None front ≡ Some k → ⊥) → has_entry front k ≡ true →
      link_at (links_cut ns m) k ≡ link_at ns k
  now_front k not h =
      with_previous-other mid_next n p k (λ g. both_ways (has_entry back k) (sep.sides k h) (next_in k g))
      ∙ with_next_mutex-other mid p n k (λ g. not (sym previous_is ∙ g))
      ∙ mid_else k (apart k m front h sep.front_lacks)

  not_front : (k : ℕ) → has_entry back k ≡ true → p ≡ Some k → ⊥
  not_front k h g = both_ways (has_entry back k) (sep.sides k (previous_in k g)) h

  now_first : (k : ℕ) → first_or back None ≡ Some k → has_entry back k ≡ true →
      link_at (links_cut ns m) k ≡ record (link_at ns k) { previous = last_or None front }
  now_first k e h =
      with_previous-at mid_next n p k (next_is ∙ e)
      (omega (arith, length-with_next_mutex mid p n, length-set ns m unlinked, listed_in ns hs v ties t k (in_back k h)))
      ∙ ap (λ (l : Link). record l { previous = p })
      (with_next_mutex-other mid p n k (not_front k h) ∙ mid_else k (apart k m back h sep.back_lacks))
      ∙ ap (λ o. record (link_at ns k) { previous = o }) previous_is

  now_back : (k : ℕ) → (first_or back None ≡ Some k → ⊥) → has_entry back k ≡ true →
      link_at (links_cut ns m) k ≡ link_at ns k
  now_back k not h =
      with_previous-other mid_next n p k (λ g. not (sym next_is ∙ g))
      ∙ with_next_mutex-other mid p n k (not_front k h)
      ∙ mid_else k (apart k m back h sep.back_lacks)

  now_others : (k : ℕ) → (k ≡ m → ⊥) → ((link_at ns k).holder ≡ Some t → ⊥) → link_at (links_cut ns m) k ≡ link_at ns k
  now_others k ne not =
      let mine = λ (h : is_listed v t k ≡ true). not (chain-holder ns t None xs None k (ties.chain t) h) in
      with_previous-other mid_next n p k (λ g. mine (in_back k (next_in k g)))
      ∙ with_next_mutex-other mid p n k (λ g. mine (in_front k (previous_in k g)))
      ∙ mid_else k ne

  now_holder : (k : ℕ) → (k ≡ m → ⊥) → (link_at (links_cut ns m) k).holder ≡ (link_at ns k).holder
  now_holder k ne = with_previous-holder mid_next n p k ∙ with_next_mutex-holder mid p n k
      ∙ ap (λ (l : Link). l.holder) (mid_else k ne)

  no_one : (u : ℕ) → (link_at (links_cut ns m) m).holder ≡ Some u → ⊥
  no_one u h = let e : None ≡ Some u = sym (ap (λ (l : Link). l.holder) now_here) ∙ h in cc

  m_some : 1 ≤ m
  m_some = (IsRobust-from_Ties ns hs v ties).some_listed t m listed

  rest_is : without_entry xs m ≡ front ++ back
  rest_is = ap (λ zs. without_entry zs m) split ∙ without-split front back m sep.front_lacks sep.back_lacks

  rest_chain : IsChain (links_cut ns m) t None (without_entry xs m) None
  rest_chain = subst (λ (zs : List ℕ). IsChain (links_cut ns m) t None zs None) (sym rest_is)
      (chain-append (links_cut ns m) t None front back None
      (chain-relast ns (links_cut ns m) t None front (Some m) (first_or back None) sep.front_once now_last now_front
      (chain-front ns t None front (m ∷ back) None whole))
      (chain-refirst ns (links_cut ns m) t (Some m)
      (last_or None front) back None sep.back_once now_first now_back behind.1))

  -- the heads
  abbrev mid_heads : List Head
  mid_heads = with_first_mutex hs t p n

  abbrev cut_head : Head
  cut_head = record (head_at mid_heads t) { half_linked = None }

  head_here : head_at (heads_cut ns hs t m) t ≡ record (head_at hs t)
      { first = first_or (without_entry xs m) None; half_linked = None }
  head_here = get_or-set_same mid_heads t cut_head empty_head (omega (arith, length-with_first_mutex hs t p n, thread_within))
      ∙ ap (λ (h : Head). record h { half_linked = None })
      (with_first_mutex-at hs t p n (first_or (without_entry xs m) None) thread_within
      (λ e. next_is ∙ sym (first_or-back front back (sym previous_is ∙ e)) ∙ ap (λ zs. first_or zs None) (sym rest_is))
      (λ k e. ties.first t ∙ ap (λ zs. first_or zs None) split
      ∙ first_or-front front (m ∷ back) back k (sym previous_is ∙ e) ∙ ap (λ zs. first_or zs None) (sym rest_is)))

  pub FieldsHold-cut : FieldsHold (links_cut ns m) (heads_cut ns hs t m) (without_listed t m v)
  FieldsHold-cut = FieldsHold-changed ns (links_cut ns m) hs (heads_cut ns hs t m) v t m
      (record (robust_at v t) { listed = without_entry xs m; half_linked = 0 }) ties (record {
        links = length-with_previous mid_next n p ∙ length-with_next_mutex mid p n ∙ length-set ns m unlinked;
        heads = length-set mid_heads t cut_head ∙ length-with_first_mutex hs t p n;
        thread = thread_some;
        thread_in = thread_within;
        no_mutex = now_others 0 (λ e. omega (arith, m_some)) (no_holder ns hs v ties t) ∙ ties.no_mutex;
        first = ap (λ (h : Head). h.first) head_here;
        half_linked = ap (λ (h : Head). h.half_linked) head_here;
        pending = ap (λ (h : Head). h.pending) head_here ∙ ties.pending t;
        chain = rest_chain;
        once = HasNoRepeats-without m xs (ties.once t);
        written = λ k some e. absurd (omega arith);
        one_half = λ u ne some e. absurd (omega arith);
        half_in = omega arith;
        pending_in = ties.pending_in t;
        was = λ u ne h. ne (same_Some u t (sym h ∙ holder_is));
        becomes = λ u h. absurd (no_one u h);
        mine = λ h. absurd (no_one t h);
        half_else = λ u ne some e.
            let wrong : None ≡ Some t = sym (ap (λ (l : Link). l.holder) (ties.written u m some e)) ∙ holder_is in cc;
        other_heads = λ u ne. get_or-set_other mid_heads t u cut_head empty_head ne ∙ with_first_mutex-other hs t p n u ne;
        others = now_others;
        holders = now_holder;
        keeps = λ k ne h. has-without k m xs ne h;
      })
