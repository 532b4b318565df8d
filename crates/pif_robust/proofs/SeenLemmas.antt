-- Lemmas on robust lists that fields show: what is known of them when a call reads the fields, and once it has written
-- them back.
use Rattle.std.proofs.Common.{◌≡◌, ℕ, ◌+◌, ◌≤◌, ◌<◌, List, ◌++◌, Some, None, sym, ◌∙◌, ap, subst, ⊎_elim, arith, length, get_or, replicate, take, drop}
use Rattle.std.proofs.Math.Seq.{take-append_seam}
use Rattle.std.proofs.lemmas.Bool.{cases_lt}
use Rattle.std.proofs.lemmas.List.{get_or-replicate, get_or_past, length-replicate, get_or_default}
use Rattle.pif_types.specs.Bounds.{Bounds}
use Rattle.pif_model.specs.RobustList.{Robust, RobustRow, no_robust_row, no_robust, robust_at, IsRobust, HasNoRepeats}
use Rattle.pif_robust.specs.declared.links.Link.{Link}
use Rattle.pif_robust.specs.declared.links.Head.{Head}
use Rattle.pif_model_lemmas.specs.RobustWalks.{first_or}
use Rattle.pif_robust.specs.Links.{unlinked, empty_head, link_at, head_at, robust_from, IsChain, FieldsHold}
use Rattle.pif_robust.specs.Robust.{named_mutex}
use Rattle.pif_robust.proofs.TiesLemmas.{robust_from_is, IsRobust-from_Ties}

-- the fields hold these lists, and show them
pub record Shows (ns : List Link) (hs : List Head) (v : Robust) : Type 0 where
  pub view : robust_from ns hs ≡ v
  pub invariant : FieldsHold ns hs (robust_from ns hs)
  pub sound : IsRobust (robust_from ns hs)

pub Shows-ties : (ns : List Link) (hs : List Head) (v : Robust) → FieldsHold ns hs v → Shows ns hs v
Shows-ties ns hs v t =
    let view = robust_from_is ns hs v t in
    record {
      view = view;
      invariant = subst (FieldsHold ns hs) (sym view) t;
      sound = subst IsRobust (sym view)
          (IsRobust-from_Ties ns hs v t);
    }

-- the same of equal fields
pub Shows-same : {ns ms : List Link} {hs gs : List Head} {v : Robust} → ms ≡ ns → gs ≡ hs → Shows ns hs v →
    Shows ms gs v
Shows-same {ns} {ms} {hs} {gs} {v} links heads shows =
    subst (λ (xs : List Link). Shows xs gs v) (sym links) (subst (λ (xs : List Head). Shows ns xs v) (sym heads) shows)

pub FieldsHold-same : {ns ms : List Link} {hs gs : List Head} {v : Robust} → ms ≡ ns → gs ≡ hs → FieldsHold ns hs v → FieldsHold ms gs v
FieldsHold-same {ns} {ms} {hs} {gs} {v} links heads t =
    subst (λ (xs : List Link). FieldsHold xs gs v) (sym links) (subst (λ (xs : List Head). FieldsHold ns xs v) (sym heads) t)

-- the fields of a value hold it
pub FieldsHold-seen : (ns : List Link) (hs : List Head) (v : Robust) → robust_from ns hs ≡ v →
    FieldsHold ns hs (robust_from ns hs) → FieldsHold ns hs v
FieldsHold-seen ns hs v view t = subst (FieldsHold ns hs) view t

-- a list written over a vector's elements, if it is as long
written_over : {X : Type 0} (n : ℕ) (was xs : List X) → length xs ≡ n → take n (xs ++ drop (length xs) was) ≡ xs
written_over n was xs same = ap (λ k. take k (xs ++ drop (length xs) was)) (sym same)
    ∙ take-append_seam xs (drop (length xs) was)

-- fields that go back into the two vectors
pub Shows-closed : (n m : ℕ) (was : List Link) (had : List Head) (ns : List Link) (hs : List Head) (v : Robust) →
    length ns ≡ n → length hs ≡ m → FieldsHold ns hs v →
    Shows (take n (ns ++ drop (length ns) was)) (take m (hs ++ drop (length hs) had)) v
Shows-closed n m was had ns hs v same_links same_heads t =
    subst (λ (xs : List Link). Shows xs (take m (hs ++ drop (length hs) had)) v)
    (sym (written_over n was ns same_links))
    (subst (λ (xs : List Head). Shows ns xs v) (sym (written_over m had hs same_heads)) (Shows-ties ns hs v t))

-- an element of a list of one value, also past its end
replicate_at : {X : Type 0} (k : ℕ) (x : X) (i : ℕ) → get_or (replicate k x) i x ≡ x
replicate_at k x i = ⊎_elim (λ l. get_or-replicate k i x x l)
    (λ l. get_or_past (replicate k x) i x (omega (arith, length-replicate k x))) (cases_lt i k)

-- new fields
pub FieldsHold-new : (l : Bounds) → l.mutexes ≤ 1024 →
    FieldsHold (replicate (l.mutexes + 1) unlinked) (replicate (l.threads + 1) empty_head) (no_robust l)
FieldsHold-new l most =
    let link = λ (m : ℕ). replicate_at (l.mutexes + 1) unlinked m in
    let head = λ (t : ℕ). replicate_at (l.threads + 1) empty_head t in
    let row : (t : ℕ) → robust_at (no_robust l) t ≡ no_robust_row = λ t. replicate_at (l.threads + 1) no_robust_row t in
    record {
      threads = length-replicate (l.threads + 1) empty_head ∙ sym (length-replicate (l.threads + 1) no_robust_row);
      mutexes = length-replicate (l.mutexes + 1) unlinked;
      most = most;
      some_thread = omega (arith, length-replicate (l.threads + 1) empty_head);
      no_mutex = link 0;
      nobody = row 0;
      first = λ t. ap (λ (h : Head). h.first) (head t) ∙ ap (λ (x : RobustRow). first_or x.listed None) (sym (row t));
      half_linked = λ t. ap (λ (h : Head). h.half_linked) (head t)
          ∙ ap (λ (x : RobustRow). named_mutex x.half_linked) (sym (row t));
      pending = λ t. ap (λ (h : Head). h.pending) (head t)
          ∙ ap (λ (x : RobustRow). named_mutex x.pending) (sym (row t));
      chain = λ t. subst (λ (x : RobustRow). IsChain (replicate (l.mutexes + 1) unlinked) t None x.listed None)
          (sym (row t)) (record {});
      once = λ t. subst (λ (x : RobustRow). HasNoRepeats x.listed) (sym (row t)) (record {});
      holder = λ t m h. let e : None ≡ Some t = sym (ap (λ (x : Link). x.holder) (link m)) ∙ h in absurd cc;
      written = λ t m some is. let e : 0 ≡ m = sym (ap (λ (x : RobustRow). x.half_linked) (row t)) ∙ is in
          absurd (omega arith);
      one_half = λ t u m some is g. let e : 0 ≡ m = sym (ap (λ (x : RobustRow). x.half_linked) (row t)) ∙ is in
          absurd (omega arith);
      half_in = λ t. let e : (robust_at (no_robust l) t).half_linked ≡ 0 = ap (λ (x : RobustRow). x.half_linked)
          (row t) in omega arith;
      pending_in = λ t. let e : (robust_at (no_robust l) t).pending ≡ 0 = ap (λ (x : RobustRow). x.pending) (row t) in
          omega arith;
    }

pub Shows-new : {ns : List Link} {hs : List Head} (l : Bounds) → l.mutexes ≤ 1024 →
    ns ≡ replicate (l.mutexes + 1) unlinked → hs ≡ replicate (l.threads + 1) empty_head →
    Shows ns hs (no_robust l)
Shows-new {ns} {hs} l most links heads =
    Shows-same links heads (Shows-ties (replicate (l.mutexes + 1) unlinked) (replicate (l.threads + 1) empty_head)
    (no_robust l) (FieldsHold-new l most))

-- an element that was read in bounds
pub head_read : (hs : List Head) (t i : ℕ) (h : Head) → i ≡ t → t < length hs → h ≡ get_or hs i h → h ≡ head_at hs t
head_read hs t i h same t_in read = read ∙ ap (λ k. get_or hs k h) same ∙ get_or_default hs t h empty_head t_in

pub link_read : (ns : List Link) (m i : ℕ) (l : Link) → i ≡ m → m < length ns → l ≡ get_or ns i l → l ≡ link_at ns m
link_read ns m i l same m_in read = read ∙ ap (λ k. get_or ns k l) same ∙ get_or_default ns m l unlinked m_in
