-- Lemmas on what fields hold after a write of the head of a list, so that it names the half-linked mutex.
use Rattle.std.proofs.Common.{◌≡◌, ℕ, ◌≤◌, ◌<◌, true, false, List, ◌∷◌, Some, None, refl, sym, ◌∙◌, ap, ⊎_elim, arith, length, set}
use Rattle.std.proofs.lemmas.Bool.{cases_lt, cases_eq}
use Rattle.std.proofs.lemmas.Option.{same_Some}
use Rattle.std.proofs.lemmas.List.{get_or-set_same, get_or-set_other, length-set, get_or_past}
use Rattle.pif_model.specs.RobustList.{Robust, RobustRow, no_robust_row, robust_at, has_entry, is_listed, with_listed}
use Rattle.pif_robust.specs.declared.links.Link.{Link}
use Rattle.pif_robust.specs.declared.links.Head.{Head}
use Rattle.pif_model_lemmas.specs.RobustWalks.{first_or}
use Rattle.pif_robust.specs.Links.{unlinked, empty_head, link_at, head_at, FieldsHold, links_joined, heads_joined}
use Rattle.pif_model_lemmas.proofs.RobustEntries.{has-head, has-tail, apart, first_or-has}
use Rattle.pif_robust.proofs.ChainLemmas.{chain-holder, chain-refirst, with_previous-at, with_previous-other, with_previous-holder, length-with_previous}
use Rattle.pif_robust.proofs.TiesLemmas.{FieldsHold-changed, IsRobust-from_Ties, listed_in}
use Rattle.pif_robust.proofs.WriteLemmas.{no_holder}

module _ (ns : List Link) (hs : List Head) (v : Robust) (ties : FieldsHold ns hs v) (t m : ℕ) (m_some : 1 ≤ m)
    (is : (robust_at v t).half_linked ≡ m) where
  abbrev xs : List ℕ
  xs = (robust_at v t).listed

  -- a thread outside the limits, or nobody, has nothing half-linked
  some_half : robust_at v t ≡ no_robust_row → ⊥
  some_half e = let none : 0 ≡ m = sym (ap (λ (x : RobustRow). x.half_linked) e) ∙ is in omega arith

  pub thread_within : t < length hs
  thread_within = ⊎_elim
      (λ in'. in')
      (λ out. absurd (some_half (get_or_past v.threads t no_robust_row (omega (arith, ties.threads)))))
      (cases_lt t (length hs))

  thread_some : 1 ≤ t
  thread_some = ⊎_elim
      (λ e. absurd (some_half (ap (robust_at v) e ∙ ties.nobody)))
      (λ ne. omega arith)
      (cases_eq t 0)

  was_link : link_at ns m ≡ record { next = first_or xs None; previous = None; holder = None }
  was_link = ties.written t m m_some is

  next_is : (link_at ns m).next ≡ first_or xs None
  next_is = ap (λ (l : Link). l.next) was_link

  free : (u : ℕ) → is_listed v u m ≡ false
  free u = (IsRobust-from_Ties ns hs v ties).unlisted t m m_some is u

  pub m_in : m < length ns
  m_in = omega (arith, ties.mutexes, ties.half_in t, is)

  pub next_within : (k : ℕ) → (link_at ns m).next ≡ Some k → k < length ns
  next_within k h = listed_in ns hs v ties t k (first_or-has xs k (sym next_is ∙ h))

  abbrev held_link : Link
  held_link = record (link_at ns m) { holder = Some t }

  abbrev mid : List Link
  mid = set ns m held_link

  abbrev joined_head : Head
  joined_head = record (head_at hs t) { first = Some m; half_linked = None }

  mid_else : (k : ℕ) → (k ≡ m → ⊥) → link_at mid k ≡ link_at ns k
  mid_else k ne = get_or-set_other ns m k held_link unlinked ne

  -- the first of the list until now isn't m
  next_apart : (k : ℕ) → (link_at ns m).next ≡ Some k → k ≡ m → ⊥
  next_apart k h e = apart k m xs (first_or-has xs k (sym next_is ∙ h)) (free t) e

  now_here : link_at (links_joined ns t m (link_at ns m).next) m
      ≡ record { next = first_or xs None; previous = None; holder = Some t }
  now_here = with_previous-other mid (link_at ns m).next (Some m) m (λ e. next_apart m e refl)
      ∙ get_or-set_same ns m held_link unlinked m_in ∙ ap (λ (l : Link). record l { holder = Some t }) was_link

  now_first : (k : ℕ) → first_or xs None ≡ Some k → has_entry xs k ≡ true →
      link_at (links_joined ns t m (link_at ns m).next) k ≡ record (link_at ns k) { previous = Some m }
  now_first k e h = with_previous-at mid (link_at ns m).next (Some m) k (next_is ∙ e)
      (omega (arith, length-set ns m held_link, listed_in ns hs v ties t k h))
      ∙ ap (λ (l : Link). record l { previous = Some m }) (mid_else k (apart k m xs h (free t)))

  now_else : (k : ℕ) → (k ≡ m → ⊥) → (first_or xs None ≡ Some k → ⊥) →
      link_at (links_joined ns t m (link_at ns m).next) k ≡ link_at ns k
  now_else k ne not = with_previous-other mid (link_at ns m).next (Some m) k (λ e. not (sym next_is ∙ e))
      ∙ mid_else k ne

  now_others : (k : ℕ) → (k ≡ m → ⊥) → ((link_at ns k).holder ≡ Some t → ⊥) →
      link_at (links_joined ns t m (link_at ns m).next) k ≡ link_at ns k
  now_others k ne not = now_else k ne (λ e. not (chain-holder ns t None xs None k (ties.chain t) (first_or-has xs k e)))

  head_here : head_at (heads_joined hs t m) t ≡ joined_head
  head_here = get_or-set_same hs t joined_head empty_head thread_within

  pub FieldsHold-joined : FieldsHold (links_joined ns t m (link_at ns m).next) (heads_joined hs t m) (with_listed t m v)
  FieldsHold-joined = FieldsHold-changed ns (links_joined ns t m (link_at ns m).next) hs (heads_joined hs t m) v t m
      (record (robust_at v t) { listed = m ∷ xs; half_linked = 0 }) ties (record {
        links = length-with_previous mid (link_at ns m).next (Some m) ∙ length-set ns m held_link;
        heads = length-set hs t joined_head;
        thread = thread_some;
        thread_in = thread_within;
        no_mutex = now_others 0 (λ e. omega (arith, m_some)) (no_holder ns hs v ties t) ∙ ties.no_mutex;
        first = ap (λ (h : Head). h.first) head_here;
        half_linked = ap (λ (h : Head). h.half_linked) head_here;
        pending = ap (λ (h : Head). h.pending) head_here ∙ ties.pending t;
        chain = (
          now_here,
          chain-refirst ns (links_joined ns t m (link_at ns m).next) t None (Some m) xs None (ties.once t) now_first
              (λ k not h. now_else k (apart k m xs h (free t)) not) (ties.chain t),
        );
        once = (free t, ties.once t);
        written = λ k some e. absurd (omega arith);
        one_half = λ u ne some e. absurd (omega arith);
        half_in = omega arith;
        pending_in = ties.pending_in t;
        was = λ u ne h. let e : None ≡ Some u = sym (ap (λ (l : Link). l.holder) was_link) ∙ h in cc;
        becomes = λ u h. same_Some u t (sym h ∙ ap (λ (l : Link). l.holder) now_here);
        mine = λ h. has-head m xs;
        half_else = λ u ne some e. ne (ties.one_half t u m some is e);
        other_heads = λ u ne. get_or-set_other hs t u joined_head empty_head ne;
        others = now_others;
        holders = λ k ne. with_previous-holder mid (link_at ns m).next (Some m) k
            ∙ ap (λ (l : Link). l.holder) (mid_else k ne);
        keeps = λ k ne h. has-tail k m xs h;
      })
