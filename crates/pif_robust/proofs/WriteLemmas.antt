-- Lemmas on what fields hold after a write of a pending field, or of the link of a new entry.
use Rattle.std.proofs.Common.{◌≡◌, ℕ, ◌≤◌, ◌<◌, List, Option, Some, None, refl, sym, ◌∙◌, ap, subst, arith, length, set}
use Rattle.std.proofs.Math.Seq.{set_out}
use Rattle.std.proofs.lemmas.Bool.{both_ways}
use Rattle.std.proofs.lemmas.List.{get_or-set_same, get_or-set_other, length-set}
use Rattle.pif_model.specs.RobustList.{Robust, RobustRow, robust_at, is_listed, with_robust, with_pending, with_half_linked, IsUnlisted, IsHalfLinkedByNoOther}
use Rattle.pif_robust.specs.declared.links.Link.{Link}
use Rattle.pif_robust.specs.declared.links.Head.{Head}
use Rattle.pif_model_lemmas.specs.RobustWalks.{first_or}
use Rattle.pif_robust.specs.Links.{unlinked, empty_head, link_at, head_at, FieldsHold}
use Rattle.pif_robust.specs.Robust.{named_mutex}
use Rattle.pif_model_lemmas.proofs.RobustEntries.{apart}
use Rattle.pif_robust.proofs.ChainLemmas.{chain-same}
use Rattle.pif_robust.proofs.TiesLemmas.{named_mutex-some, FieldsHold-changed}

-- a row that is outside the limits changes nothing
pub with_robust-out : (v : Robust) (t : ℕ) (x : RobustRow) → length v.threads ≤ t → with_robust t x v ≡ v
with_robust-out v t x out = ap (λ xs. record v { threads = xs }) (set_out v.threads t x out)

module _ (ns : List Link) (hs : List Head) (v : Robust) (ties : FieldsHold ns hs v) where
  -- no thread holds place 0
  pub no_holder : (u : ℕ) → (link_at ns 0).holder ≡ Some u → ⊥
  no_holder u h = let e : None ≡ Some u = sym (ap (λ (l : Link). l.holder) ties.no_mutex) ∙ h in cc

  -- another pending field
  module _ (t m : ℕ) (o : Option ℕ) (t_some : 1 ≤ t) (t_in : t < length hs) (is : o ≡ named_mutex m)
      (m_in : m ≤ v.mutexes) where
    pub FieldsHold-pending : FieldsHold ns (set hs t (record (head_at hs t) { pending = o })) (with_pending t m v)
    FieldsHold-pending =
        let then : List Head = set hs t (record (head_at hs t) { pending = o }) in
        let at : head_at then t ≡ record (head_at hs t) { pending = o } = get_or-set_same hs t
        (record (head_at hs t) { pending = o }) empty_head t_in in
        FieldsHold-changed ns ns hs then v t 0 (record (robust_at v t) { pending = m }) ties (record {
          links = refl;
          heads = length-set hs t (record (head_at hs t) { pending = o });
          thread = t_some;
          thread_in = t_in;
          no_mutex = ties.no_mutex;
          first = ap (λ (h : Head). h.first) at ∙ ties.first t;
          half_linked = ap (λ (h : Head). h.half_linked) at ∙ ties.half_linked t;
          pending = ap (λ (h : Head). h.pending) at ∙ is;
          chain = ties.chain t;
          once = ties.once t;
          written = ties.written t;
          one_half = λ u ne some e. ne (ties.one_half t u (robust_at v t).half_linked some refl e);
          half_in = ties.half_in t;
          pending_in = m_in;
          was = λ u ne h. no_holder u h;
          becomes = λ u h. absurd (no_holder u h);
          mine = λ h. absurd (no_holder t h);
          half_else = λ u ne some e. absurd (omega arith);
          other_heads = λ u ne. get_or-set_other hs t u (record (head_at hs t) { pending = o }) empty_head ne;
          others = λ k ne not. refl;
          holders = λ k ne. refl;
          keeps = λ k ne h. h;
        })

  -- the link of a new entry
  module _ (t m : ℕ) (t_some : 1 ≤ t) (t_in : t < length hs) (m_some : 1 ≤ m) (m_in : m ≤ v.mutexes)
      (free : IsUnlisted v m) (alone : IsHalfLinkedByNoOther v t m) where
    abbrev new_link : Link
    new_link = record { next = (head_at hs t).first; previous = None; holder = None }

    abbrev half_head : Head
    half_head = record (head_at hs t) { half_linked = Some m }

    here : link_at (set ns m new_link) m ≡ new_link
    here = get_or-set_same ns m new_link unlinked (omega (arith, ties.mutexes))

    else : (k : ℕ) → (k ≡ m → ⊥) → link_at (set ns m new_link) k ≡ link_at ns k
    else k ne = get_or-set_other ns m k new_link unlinked ne

    no_one : (u : ℕ) → (link_at (set ns m new_link) m).holder ≡ Some u → ⊥
    no_one u h = let e : None ≡ Some u = sym (ap (λ (l : Link). l.holder) here) ∙ h in cc

    head_here : head_at (set hs t half_head) t ≡ half_head
    head_here = get_or-set_same hs t half_head empty_head t_in

    pub FieldsHold-half_linked : FieldsHold (set ns m new_link) (set hs t half_head) (with_half_linked t m v)
    FieldsHold-half_linked = FieldsHold-changed ns (set ns m new_link) hs (set hs t half_head) v t m
        (record (robust_at v t) { half_linked = m }) ties (record {
          links = length-set ns m new_link;
          heads = length-set hs t half_head;
          thread = t_some;
          thread_in = t_in;
          no_mutex = else 0 (λ e. omega (arith, m_some)) ∙ ties.no_mutex;
          first = ap (λ (h : Head). h.first) head_here ∙ ties.first t;
          half_linked = ap (λ (h : Head). h.half_linked) head_here ∙ sym (named_mutex-some m m_some);
          pending = ap (λ (h : Head). h.pending) head_here ∙ ties.pending t;
          chain = chain-same ns (set ns m new_link) t None (robust_at v t).listed None
              (λ k h. else k (apart k m (robust_at v t).listed h (free t))) (ties.chain t);
          once = ties.once t;
          written = λ k some e. subst (λ (j : ℕ). link_at (set ns m new_link) j
              ≡ record { next = first_or (robust_at v t).listed None; previous = None; holder = None }) e
              (here ∙ ap (λ o. record { next = o; previous = None; holder = None }) (ties.first t));
          one_half = λ u ne some e. ne (alone u e);
          half_in = m_in;
          pending_in = ties.pending_in t;
          was = λ u ne h. both_ways (is_listed v u m) (free u) (ties.holder u m h);
          becomes = λ u h. absurd (no_one u h);
          mine = λ h. absurd (no_one t h);
          half_else = λ u ne some e. ne (alone u e);
          other_heads = λ u ne. get_or-set_other hs t u half_head empty_head ne;
          others = λ k ne not. else k ne;
          holders = λ k ne. ap (λ (l : Link). l.holder) (else k ne);
          keeps = λ k ne h. h;
        })
