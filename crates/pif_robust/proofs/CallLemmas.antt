-- What the fields of a value show once a call has written them: the code's own copies of fields and numbers are each
-- equal to those of the value.
use Rattle.std.proofs.Common.{◌≡◌, ℕ, ◌≤◌, ◌<◌, true, List, ◌++◌, Option, Some, None, refl, sym, ◌∙◌, ap, arith, length, get_or, set, take, drop}
use Rattle.pif_model.specs.RobustList.{Robust, RobustRow, robust_at, is_listed, with_robust, with_pending, with_half_linked, with_listed, without_listed, IsUnlisted, IsHalfLinkedByNoOther, IsRobust}
use Rattle.std.proofs.lemmas.Bool.{false_from_ne_true}
use Rattle.std.proofs.lemmas.List.{get_or_past}
use Rattle.std.specs.Prelude.{IfNone}
use Rattle.pif_robust.specs.declared.links.Link.{Link}
use Rattle.pif_robust.specs.declared.links.Head.{Head}
use Rattle.pif_robust.specs.Links.{unlinked, link_at, head_at, robust_from, FieldsHold, links_joined, heads_joined, links_cut, heads_cut}
use Rattle.pif_robust.specs.Robust.{named_mutex}
use Rattle.pif_robust.proofs.TiesLemmas.{IsRobust-from_Ties}
use Rattle.pif_robust.proofs.WriteLemmas.{FieldsHold-pending, FieldsHold-half_linked, with_robust-out}
use Rattle.pif_robust.proofs.ChainLemmas.{chain-holder}
use Rattle.pif_robust.proofs.JoinLemmas as join
use Rattle.pif_robust.proofs.CutLemmas as cut
use Rattle.pif_robust.proofs.SeenLemmas.{Shows, Shows-ties, Shows-same, FieldsHold-same, Shows-closed, FieldsHold-seen, head_read, link_read}

module _ {ns : List Link} {hs : List Head} {v : Robust} (view : robust_from ns hs ≡ v)
    (invariant : FieldsHold ns hs (robust_from ns hs)) where
  pub ties_seen : FieldsHold ns hs v
  ties_seen = FieldsHold-seen ns hs v view invariant

  pub sound_seen : IsRobust v
  sound_seen = IsRobust-from_Ties ns hs v ties_seen

  pub Shows-seen : Shows ns hs v
  Shows-seen = Shows-ties ns hs v ties_seen

  -- as many threads and mutexes as the fields have
  pub threads_seen : length hs ≡ length v.threads
  threads_seen = ties_seen.threads

  -- a thread within the limits is one of the fields
  pub head_within : {t i : ℕ} → i ≡ t → t < length v.threads → i < length hs
  head_within {t} {i} same t_in = omega (arith, threads_seen)

  -- another pending field
  pub Shows-pending : {t i : ℕ} {o : Option ℕ} {h : Head} (m : ℕ) → 1 ≤ i → i ≡ t → i < length hs → h ≡ get_or hs i h →
      o ≡ named_mutex m → m ≤ v.mutexes →
      Shows ns (set hs i (record { first = h.first; half_linked = h.half_linked; pending = o })) (with_pending t m v)
  Shows-pending {t} {i} {o} {h} m some same i_in read is m_in =
      let e : h ≡ head_at hs t = head_read hs t i h same (omega arith) read in
      Shows-same (λ k. ns)
      (λ k. set hs (same k) (record { first = (e k).first; half_linked = (e k).half_linked; pending = o }))
      (Shows-ties ns (set hs t (record (head_at hs t) { pending = o })) (with_pending t m v)
      (FieldsHold-pending ns hs v ties_seen t m o (omega arith) (omega arith) is m_in))

  -- the link of a new entry
  pub Shows-half_linked : {t m i i2 j : ℕ} {h h2 : Head} → i ≡ t → h ≡ get_or hs i h → 1 ≤ j → j ≡ m → 1 ≤ i2 →
      i2 ≡ t → h2 ≡ get_or hs i2 h2 →
      t < length v.threads → m ≤ v.mutexes → IsUnlisted v m → IsHalfLinkedByNoOther v t m →
      Shows (set ns j (record { next = h.first; previous = None; holder = None }))
      (set hs i2 (record { first = h2.first; half_linked = Some m; pending = h2.pending })) (with_half_linked t m v)
  Shows-half_linked {t} {m} {i} {i2} {j} {h} {h2} same read j_some same_mutex some same2 read2 t_in m_in free alone =
      let in' : t < length hs = omega (arith, threads_seen) in
      let e : h ≡ head_at hs t = head_read hs t i h same in' read in
      let e2 : h2 ≡ head_at hs t = head_read hs t i2 h2 same2 in' read2 in
      Shows-same (λ k. set ns (same_mutex k) (record { next = (e k).first; previous = None; holder = None }))
      (λ k. set hs (same2 k) (record { first = (e2 k).first; half_linked = Some m; pending = (e2 k).pending }))
      (Shows-ties (set ns m (record { next = (head_at hs t).first; previous = None; holder = None }))
      (set hs t (record (head_at hs t) { half_linked = Some m })) (with_half_linked t m v)
      (FieldsHold-half_linked ns hs v ties_seen t m (omega arith) in' (omega arith) m_in free alone))

  -- the head of a list
  module _ (t m : ℕ) {j : ℕ} {l : Link} (is : (robust_at v t).half_linked ≡ m) (j_some : 1 ≤ j) (same : j ≡ m)
      (read : l ≡ get_or ns j l) where
    m_some : 1 ≤ m
    m_some = omega arith

    link_is : l ≡ link_at ns m
    link_is = link_read ns m j l same (join.m_in ns hs v ties_seen t m m_some is) read

    pub join_within : (k : ℕ) → l.next ≡ Some k → k < length ns
    join_within k h = join.next_within ns hs v ties_seen t m m_some is k (sym (ap (λ (x : Link). x.next) link_is) ∙ h)

    pub Shows-joined : {copy now : List Link} {heads_copy heads_now : List Head} {size count : ℕ} → copy ≡ ns →
        heads_copy ≡ hs →
        now ≡ links_joined copy t m l.next → heads_now ≡ heads_joined heads_copy t m → length now ≡ size →
        length heads_now ≡ count →
        Shows (take size (now ++ drop (length now) ns)) (take count (heads_now ++ drop (length heads_now) hs))
        (with_listed t m v)
    Shows-joined {copy} {now} {heads_copy} {heads_now} {size} {count}
        same_links same_heads written heads_written long heads_long =
        Shows-closed size count ns hs now heads_now (with_listed t m v) long heads_long
        (FieldsHold-same (written ∙ (λ k. links_joined (same_links k) t m (link_is k).next))
        (heads_written ∙ (λ k. heads_joined (same_heads k) t m))
        (join.FieldsHold-joined ns hs v ties_seen t m m_some is))

  -- a link that no longer leads to an entry
  module _ (t m : ℕ) (listed : is_listed v t m ≡ true) where
    pub cut_within : m < length ns
    cut_within = cut.mutex_within ns hs v ties_seen t m listed

    pub next_within : (k : ℕ) → (link_at ns m).next ≡ Some k → k < length ns
    next_within k h = cut.next_within ns hs v ties_seen t m listed k h

    pub previous_within : (k : ℕ) → (link_at ns m).previous ≡ Some k → k < length ns
    previous_within k h = cut.previous_within ns hs v ties_seen t m listed k h

    pub Shows-cut : {copy now : List Link} {heads_copy heads_now : List Head} {size count : ℕ} → copy ≡ ns →
        heads_copy ≡ hs →
        now ≡ links_cut copy m → heads_now ≡ heads_cut copy heads_copy t m → length now ≡ size →
        length heads_now ≡ count →
        Shows (take size (now ++ drop (length now) ns)) (take count (heads_now ++ drop (length heads_now) hs))
        (without_listed t m v)
    Shows-cut {copy} {now} {heads_copy} {heads_now} {size} {count}
        same_links same_heads written heads_written long heads_long =
        Shows-closed size count ns hs now heads_now (without_listed t m v) long heads_long
        (FieldsHold-same (written ∙ (λ k. links_cut (same_links k) m))
        (heads_written ∙ (λ k. heads_cut (same_links k) (same_heads k) t m))
        (cut.FieldsHold-cut ns hs v ties_seen t m listed))

  -- a thread outside the limits
  pub with_robust-outside : {t i : ℕ} (x : RobustRow) → i ≡ t → length hs ≤ i → with_robust t x v ≡ v
  with_robust-outside {t} {i} x same out = with_robust-out v t x (omega (arith, threads_seen))

  -- an entry that no thread holds
  pub unlisted_from_holder : (m : ℕ) → (link_at ns m).holder ≡ None → IsUnlisted v m
  unlisted_from_holder m h t = false_from_ne_true (is_listed v t m)
      (λ k. let e : None ≡ Some t = sym h ∙ chain-holder ns t None (robust_at v t).listed None m
      (ties_seen.chain t) k in cc)

  pub unlisted_read : {m i : ℕ} {l : Link} → i ≡ m → i < length ns → l ≡ get_or ns i l →
      IfNone l.holder (IsUnlisted v m)
  unlisted_read {m} {i} {l} same i_in read =
      let e : l ≡ link_at ns m = link_read ns m i l same (omega arith) read in
      if_none l.holder (λ none. unlisted_from_holder m (sym (ap (λ (x : Link). x.holder) e) ∙ none))
    where
      if_none : (o : Option ℕ) → (o ≡ None → IsUnlisted v m) → IfNone o (IsUnlisted v m)
      if_none None f = f refl
      if_none (Some x) f = tt

  pub unlisted_outside : {m i : ℕ} → i ≡ m → length ns ≤ i → IsUnlisted v m
  unlisted_outside {m} {i} same out = unlisted_from_holder m
      (ap (λ (x : Link). x.holder) (get_or_past ns m unlinked (omega arith)))
