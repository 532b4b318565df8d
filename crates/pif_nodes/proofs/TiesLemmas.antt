-- Lemmas on links that hold some lists: what changes if one of the lists does.
use Rattle.std.proofs.Common.{◌≡◌, ℕ, ◌<◌, true, List, [], Option, Some, None, option_and_then, refl, sym, ◌∙◌, ap, subst, ⊎_elim, arith, length, get_or, set, IsSome}
use Rattle.std.proofs.Math.Seq.{set_out}
use Rattle.std.proofs.lemmas.Bool.{cases_eq, cases_lt}
use Rattle.std.proofs.lemmas.Option.{same_Some}
use Rattle.std.proofs.lemmas.List.{get_or-set_same, get_or-set_other, get_or_past, length-set}
use Rattle.pif_nodes.specs.declared.slots.Slot.{Slot}
use Rattle.pif_nodes.specs.declared.slots.Ends.{Ends}
use Rattle.pif_nodes_model.specs.Lists.{has, first_of, last_of, next_in_list, prev_in_list, HasNoRepeats}
use Rattle.pif_nodes_model.specs.Table.{list_with}
use Rattle.pif_nodes.specs.Links.{free_slot, empty_ends, slot_at, ends_at, with_next, with_prev, with_first, with_last, with_place, Ties}
use Rattle.pif_nodes_model.proofs.ListLemmas.{Move}
use Rattle.pif_nodes.proofs.HolderLemmas.{list_with-same}

-- a write of an element that f can't tell from the old one leaves f of each element
pub kept : {X Y : Type 0} (f : X → Y) (xs : List X) (i : ℕ) (y d : X) (m : ℕ) → f y ≡ f (get_or xs i d) → f (get_or (set xs i y) m d) ≡ f (get_or xs m d)
kept f xs i y d m same = ⊎_elim
    (λ e. ⊎_elim
    (λ l. ap (λ k. f (get_or (set xs i y) k d)) e ∙ ap f (get_or-set_same xs i y d l) ∙ same ∙ ap (λ k. f (get_or xs k d)) (sym e))
    (λ l. ap (λ zs. f (get_or zs m d)) (set_out xs i y l))
    (cases_lt i (length xs)))
    (λ ne. ap f (get_or-set_other xs i m y d ne))
    (cases_eq m i)

-- what an option that is some has
pub some_of : (o : Option ℕ) → IsSome o → (m : ℕ) × (o ≡ Some m)
some_of None h = absurd cc
some_of (Some m) h = (m, refl)

-- what is `Some m` or is not
pub some_cases : (o : Option ℕ) (m : ℕ) (P : Type 0) → (o ≡ Some m → P) → ((o ≡ Some m → ⊥) → P) → P
some_cases None m P same other = other (λ h. cc)
some_cases (Some k) m P same other = ⊎_elim (λ e. same (ap Some e)) (λ ne. other (λ h. ne (same_Some k m h))) (cases_eq k m)

-- a new `next` leaves the other fields
pub with_next_list : (ns : List Slot) (p to : Option ℕ) (m : ℕ) → (slot_at (with_next ns p to) m).list ≡ (slot_at ns m).list
with_next_list ns None to m = refl
with_next_list ns (Some p) to m = kept (λ s. s.list) ns p (record (slot_at ns p) { next = to }) free_slot m refl

pub with_next_prev : (ns : List Slot) (p to : Option ℕ) (m : ℕ) → (slot_at (with_next ns p to) m).prev ≡ (slot_at ns m).prev
with_next_prev ns None to m = refl
with_next_prev ns (Some p) to m = kept (λ s. s.prev) ns p (record (slot_at ns p) { next = to }) free_slot m refl

-- a new `next` is there, at its place alone
pub with_next_at : (ns : List Slot) (p to : Option ℕ) (m : ℕ) → p ≡ Some m → m < length ns → (slot_at (with_next ns p to) m).next ≡ to
with_next_at ns None to m e l = absurd cc
with_next_at ns (Some p) to m e l =
    let at : p ≡ m = same_Some p m e in
    subst (λ (k : ℕ). (slot_at (with_next ns (Some k) to) m).next ≡ to) (sym at)
    (ap (λ (s : Slot). s.next) (get_or-set_same ns m (record (slot_at ns m) { next = to }) free_slot l))

pub with_next_other : (ns : List Slot) (p to : Option ℕ) (m : ℕ) → (p ≡ Some m → ⊥) → (slot_at (with_next ns p to) m).next ≡ (slot_at ns m).next
with_next_other ns None to m other = refl
with_next_other ns (Some p) to m other = ap (λ (s : Slot). s.next) (get_or-set_other ns p m (record (slot_at ns p) { next = to }) free_slot (λ e. other (ap Some (sym e))))

pub length-with_next : (ns : List Slot) (p to : Option ℕ) → length (with_next ns p to) ≡ length ns
length-with_next ns None to = refl
length-with_next ns (Some p) to = length-set ns p (record (slot_at ns p) { next = to })

-- a new `prev` leaves the other fields
pub with_prev_list : (ns : List Slot) (p to : Option ℕ) (m : ℕ) → (slot_at (with_prev ns p to) m).list ≡ (slot_at ns m).list
with_prev_list ns None to m = refl
with_prev_list ns (Some p) to m = kept (λ s. s.list) ns p (record (slot_at ns p) { prev = to }) free_slot m refl

pub with_prev_next : (ns : List Slot) (p to : Option ℕ) (m : ℕ) → (slot_at (with_prev ns p to) m).next ≡ (slot_at ns m).next
with_prev_next ns None to m = refl
with_prev_next ns (Some p) to m = kept (λ s. s.next) ns p (record (slot_at ns p) { prev = to }) free_slot m refl

-- a new `prev` is there, at its place alone
pub with_prev_at : (ns : List Slot) (p to : Option ℕ) (m : ℕ) → p ≡ Some m → m < length ns → (slot_at (with_prev ns p to) m).prev ≡ to
with_prev_at ns None to m e l = absurd cc
with_prev_at ns (Some p) to m e l =
    let at : p ≡ m = same_Some p m e in
    subst (λ (k : ℕ). (slot_at (with_prev ns (Some k) to) m).prev ≡ to) (sym at)
    (ap (λ (s : Slot). s.prev) (get_or-set_same ns m (record (slot_at ns m) { prev = to }) free_slot l))

pub with_prev_other : (ns : List Slot) (p to : Option ℕ) (m : ℕ) → (p ≡ Some m → ⊥) → (slot_at (with_prev ns p to) m).prev ≡ (slot_at ns m).prev
with_prev_other ns None to m other = refl
with_prev_other ns (Some p) to m other = ap (λ (s : Slot). s.prev) (get_or-set_other ns p m (record (slot_at ns p) { prev = to }) free_slot (λ e. other (ap Some (sym e))))

-- new ends: the other end stays, and so do the ends of other lists
pub with_first_last : (es : List Ends) (l : ℕ) (p to : Option ℕ) (k : ℕ) → (ends_at (with_first es l p to) k).last ≡ (ends_at es k).last
with_first_last es l None to k = kept (λ e. e.last) es l (record (ends_at es l) { first = to }) empty_ends k refl
with_first_last es l (Some p) to k = refl

pub with_first_other : (es : List Ends) (l : ℕ) (p to : Option ℕ) (k : ℕ) → (k ≡ l → ⊥) → (ends_at (with_first es l p to) k).first ≡ (ends_at es k).first
with_first_other es l None to k ne = ap (λ (e : Ends). e.first) (get_or-set_other es l k (record (ends_at es l) { first = to }) empty_ends ne)
with_first_other es l (Some p) to k ne = refl

pub length-with_first : (es : List Ends) (l : ℕ) (p to : Option ℕ) → length (with_first es l p to) ≡ length es
length-with_first es l None to = length-set es l (record (ends_at es l) { first = to })
length-with_first es l (Some p) to = refl

pub with_last_first : (es : List Ends) (l : ℕ) (p to : Option ℕ) (k : ℕ) → (ends_at (with_last es l p to) k).first ≡ (ends_at es k).first
with_last_first es l None to k = kept (λ e. e.first) es l (record (ends_at es l) { last = to }) empty_ends k refl
with_last_first es l (Some p) to k = refl

pub with_last_other : (es : List Ends) (l : ℕ) (p to : Option ℕ) (k : ℕ) → (k ≡ l → ⊥) → (ends_at (with_last es l p to) k).last ≡ (ends_at es k).last
with_last_other es l None to k ne = ap (λ (e : Ends). e.last) (get_or-set_other es l k (record (ends_at es l) { last = to }) empty_ends ne)
with_last_other es l (Some p) to k ne = refl

pub length-with_last : (es : List Ends) (l : ℕ) (p to : Option ℕ) → length (with_last es l p to) ≡ length es
length-with_last es l None to = length-set es l (record (ends_at es l) { last = to })
length-with_last es l (Some p) to = refl

-- the ends of the list itself
pub with_first_at : (es : List Ends) (l : ℕ) (p to want : Option ℕ) → l < length es → (p ≡ None → want ≡ to) → ((m : ℕ) → p ≡ Some m → want ≡ (ends_at es l).first) → (ends_at (with_first es l p to) l).first ≡ want
with_first_at es l None to want l_in head else = ap (λ (e : Ends). e.first) (get_or-set_same es l (record (ends_at es l) { first = to }) empty_ends l_in) ∙ sym (head refl)
with_first_at es l (Some p) to want l_in head else = sym (else p refl)

pub with_last_at : (es : List Ends) (l : ℕ) (p to want : Option ℕ) → l < length es → (p ≡ None → want ≡ to) → ((m : ℕ) → p ≡ Some m → want ≡ (ends_at es l).last) → (ends_at (with_last es l p to) l).last ≡ want
with_last_at es l None to want l_in head else = ap (λ (e : Ends). e.last) (get_or-set_same es l (record (ends_at es l) { last = to }) empty_ends l_in) ∙ sym (head refl)
with_last_at es l (Some p) to want l_in head else = sym (else p refl)

-- a node that is in a list is one of the table
pub within_from_Ties : (ns : List Slot) (es : List Ends) (ls : List (List ℕ)) (n l : ℕ) → Ties ns es ls → list_with ls n ≡ Some l → n < length ns
within_from_Ties ns es ls n l t h = ⊎_elim
    (λ in'. in')
    (λ out. let e : slot_at ns n ≡ free_slot = get_or_past ns n free_slot out in
    let none_there : None ≡ Some l = sym (ap (λ (s : Slot). s.list) e) ∙ t.owner n ∙ h in
    absurd cc)
    (cases_lt n (length ns))

-- what f says of a number in its list, if one list has changed to `now` without changing that
at_moved : (f : List ℕ → ℕ → Option ℕ) (ls : List (List ℕ)) (l : ℕ) (now : List ℕ) (m : ℕ) (o : Option ℕ) → l < length ls → f now m ≡ f (get_or ls l []) m →
    option_and_then (λ k. f (get_or (set ls l now) k []) m) o ≡ option_and_then (λ k. f (get_or ls k []) m) o
at_moved f ls l now m None l_in same = refl
at_moved f ls l now m (Some k) l_in same = ⊎_elim
    (λ e. subst (λ (j : ℕ). f (get_or (set ls l now) j []) m ≡ f (get_or ls j []) m) (sym e)
    (ap (λ zs. f zs m) (get_or-set_same ls l now [] l_in) ∙ same))
    (λ ne. ap (λ zs. f zs m) (get_or-set_other ls l k now [] ne))
    (cases_eq k l)

-- what f says of a number in the list that has changed
at_here : (f : List ℕ → ℕ → Option ℕ) (ls : List (List ℕ)) (l : ℕ) (now : List ℕ) (m : ℕ) (o : Option ℕ) → l < length ls → o ≡ Some l →
    option_and_then (λ k. f (get_or (set ls l now) k []) m) o ≡ f now m
at_here f ls l now m None l_in e = absurd cc
at_here f ls l now m (Some k) l_in e =
    let at : k ≡ l = same_Some k l e in
    ap (λ j. f (get_or (set ls l now) j []) m) at ∙ ap (λ zs. f zs m) (get_or-set_same ls l now [] l_in)

-- a list of the table changes from `was` to `now`, and one node, n, gets another place: the links hold the new lists
module _ (ns : List Slot) (es : List Ends) (ls : List (List ℕ)) (l n : ℕ) (was now : List ℕ) (before after then_next then_prev : Option ℕ) (list prev next : Option ℕ)
    (ties : Ties ns es ls) (n_in : n < length ns) (l_in : l < length ls) (at : get_or ls l [] ≡ was) (move : Move was now n before after then_next then_prev)
    (holds : list_with (set ls l now) n ≡ list)
    (next_is : option_and_then (λ k. next_in_list (get_or (set ls l now) k []) n) list ≡ next)
    (prev_is : option_and_then (λ k. prev_in_list (get_or (set ls l now) k []) n) list ≡ prev)
    (alone : (k : ℕ) → has n (get_or (set ls l now) k []) ≡ true → list ≡ Some k) where
  abbrev placed : List Slot
  placed = with_place ns n list prev next

  abbrev joined : List Slot
  joined = with_next placed before then_next

  abbrev after_move : List Slot
  after_move = with_prev joined after then_prev

  abbrev ends_after : List Ends
  ends_after = with_last (with_first es l before then_next) l after then_prev

  abbrev slot : Slot
  slot = record (slot_at ns n) { prev = prev; next = next; list = list }

  -- which list another node is in stays
  same_list : (m : ℕ) → (m ≡ n → ⊥) → list_with (set ls l now) m ≡ list_with ls m
  same_list m ne = list_with-same ls m l now (move.same m ne ∙ ap (has m) (sym at))

  -- a node of the list is in it
  in_list : (m : ℕ) → has m was ≡ true → list_with ls m ≡ Some l
  in_list m h = ties.alone l m (ap (has m) at ∙ h)

  placed_at : slot_at placed n ≡ slot
  placed_at = get_or-set_same ns n slot free_slot n_in

  placed_other : (m : ℕ) → (m ≡ n → ⊥) → slot_at placed m ≡ slot_at ns m
  placed_other m ne = get_or-set_other ns n m slot free_slot ne

  length_placed : length placed ≡ length ns
  length_placed = length-set ns n slot

  length_joined : length joined ≡ length ns
  length_joined = length-with_next placed before then_next ∙ length_placed

  owner_at : (m : ℕ) → (slot_at placed m).list ≡ list_with (set ls l now) m
  owner_at m = ⊎_elim
      (λ e. subst (λ (k : ℕ). (slot_at placed k).list ≡ list_with (set ls l now) k) (sym e) (ap (λ (s : Slot). s.list) placed_at ∙ sym holds))
      (λ ne. ap (λ (s : Slot). s.list) (placed_other m ne) ∙ ties.owner m ∙ sym (same_list m ne))
      (cases_eq m n)

  abbrev next_goal : ℕ → Type 0
  next_goal m = (slot_at joined m).next ≡ option_and_then (λ k. next_in_list (get_or (set ls l now) k []) m) (list_with (set ls l now) m)

  next_at : (m : ℕ) → next_goal m
  next_at m = ⊎_elim
      (λ e. subst next_goal (sym e)
      (with_next_other placed before then_next n (λ h. (move.before_in n h).0 refl) ∙ ap (λ (s : Slot). s.next) placed_at
      ∙ sym next_is ∙ ap (λ o. option_and_then (λ k. next_in_list (get_or (set ls l now) k []) n) o) (sym holds)))
      (λ ne. some_cases before m (next_goal m)
      (λ h. let mine = in_list m (move.before_in m h).1 in
      let m_in : m < length placed = omega (arith, length_placed, within_from_Ties ns es ls m l ties mine) in
      with_next_at placed before then_next m h m_in ∙ sym (move.nexts m h)
      ∙ sym (at_here next_in_list ls l now m (list_with (set ls l now) m) l_in (same_list m ne ∙ mine)))
      (λ other. with_next_other placed before then_next m other ∙ ap (λ (s : Slot). s.next) (placed_other m ne) ∙ ties.next m
      ∙ sym (at_moved next_in_list ls l now m (list_with ls m) l_in (move.nexts_else m ne other ∙ ap (λ zs. next_in_list zs m) (sym at)))
      ∙ ap (λ o. option_and_then (λ k. next_in_list (get_or (set ls l now) k []) m) o) (sym (same_list m ne))))
      (cases_eq m n)

  abbrev prev_goal : ℕ → Type 0
  prev_goal m = (slot_at after_move m).prev ≡ option_and_then (λ k. prev_in_list (get_or (set ls l now) k []) m) (list_with (set ls l now) m)

  prev_at : (m : ℕ) → prev_goal m
  prev_at m = ⊎_elim
      (λ e. subst prev_goal (sym e)
      (with_prev_other joined after then_prev n (λ h. (move.after_in n h).0 refl) ∙ with_next_prev placed before then_next n ∙ ap (λ (s : Slot). s.prev) placed_at
      ∙ sym prev_is ∙ ap (λ o. option_and_then (λ k. prev_in_list (get_or (set ls l now) k []) n) o) (sym holds)))
      (λ ne. some_cases after m (prev_goal m)
      (λ h. let mine = in_list m (move.after_in m h).1 in
      let m_in : m < length joined = omega (arith, length_joined, within_from_Ties ns es ls m l ties mine) in
      with_prev_at joined after then_prev m h m_in ∙ sym (move.prevs m h)
      ∙ sym (at_here prev_in_list ls l now m (list_with (set ls l now) m) l_in (same_list m ne ∙ mine)))
      (λ other. with_prev_other joined after then_prev m other ∙ with_next_prev placed before then_next m ∙ ap (λ (s : Slot). s.prev) (placed_other m ne) ∙ ties.prev m
      ∙ sym (at_moved prev_in_list ls l now m (list_with ls m) l_in (move.prevs_else m ne other ∙ ap (λ zs. prev_in_list zs m) (sym at)))
      ∙ ap (λ o. option_and_then (λ k. prev_in_list (get_or (set ls l now) k []) m) o) (sym (same_list m ne))))
      (cases_eq m n)

  l_ends : l < length es
  l_ends = omega (arith, ties.lists)

  now_at : get_or (set ls l now) l [] ≡ now
  now_at = get_or-set_same ls l now [] l_in

  first_at : (k : ℕ) → (ends_at ends_after k).first ≡ first_of (get_or (set ls l now) k [])
  first_at k = with_last_first (with_first es l before then_next) l after then_prev k ∙ ⊎_elim
      (λ e. subst (λ (j : ℕ). (ends_at (with_first es l before then_next) j).first ≡ first_of (get_or (set ls l now) j [])) (sym e)
      (with_first_at es l before then_next (first_of now) l_ends move.heads
      (λ m h. move.heads_else m h ∙ ap first_of (sym at) ∙ sym (ties.first l)) ∙ ap first_of (sym now_at)))
      (λ ne. with_first_other es l before then_next k ne ∙ ties.first k ∙ ap first_of (sym (get_or-set_other ls l k now [] ne)))
      (cases_eq k l)

  last_at : (k : ℕ) → (ends_at ends_after k).last ≡ last_of (get_or (set ls l now) k [])
  last_at k = ⊎_elim
      (λ e. subst (λ (j : ℕ). (ends_at ends_after j).last ≡ last_of (get_or (set ls l now) j [])) (sym e)
      (with_last_at (with_first es l before then_next) l after then_prev (last_of now) (omega (arith, l_ends, length-with_first es l before then_next)) move.lasts
      (λ m h. move.lasts_else m h ∙ ap last_of (sym at) ∙ sym (ties.last l) ∙ sym (with_first_last es l before then_next l)) ∙ ap last_of (sym now_at)))
      (λ ne. with_last_other (with_first es l before then_next) l after then_prev k ne ∙ with_first_last es l before then_next k ∙ ties.last k
      ∙ ap last_of (sym (get_or-set_other ls l k now [] ne)))
      (cases_eq k l)

  once_at : (k : ℕ) → HasNoRepeats (get_or (set ls l now) k [])
  once_at k = ⊎_elim
      (λ e. subst (λ (j : ℕ). HasNoRepeats (get_or (set ls l now) j [])) (sym e) (subst HasNoRepeats (sym now_at) move.once))
      (λ ne. subst HasNoRepeats (sym (get_or-set_other ls l k now [] ne)) (ties.once k))
      (cases_eq k l)

  has_still : (k m : ℕ) → (m ≡ n → ⊥) → has m (get_or (set ls l now) k []) ≡ has m (get_or ls k [])
  has_still k m ne = ⊎_elim
      (λ e. subst (λ (j : ℕ). has m (get_or (set ls l now) j []) ≡ has m (get_or ls j [])) (sym e)
      (ap (has m) now_at ∙ move.same m ne ∙ ap (has m) (sym at)))
      (λ other. ap (has m) (get_or-set_other ls l k now [] other))
      (cases_eq k l)

  alone_at : (k m : ℕ) → has m (get_or (set ls l now) k []) ≡ true → list_with (set ls l now) m ≡ Some k
  alone_at k m h = ⊎_elim
      (λ e. let mine : has n (get_or (set ls l now) k []) ≡ true = subst (λ (j : ℕ). has j (get_or (set ls l now) k []) ≡ true) e h in
      ap (list_with (set ls l now)) e ∙ holds ∙ alone k mine)
      (λ ne. same_list m ne ∙ ties.alone k m (sym (has_still k m ne) ∙ h))
      (cases_eq m n)

  pub Ties-moved : Ties after_move ends_after (set ls l now)
  Ties-moved = record {
    lists = length-with_last (with_first es l before then_next) l after then_prev ∙ length-with_first es l before then_next ∙ ties.lists ∙ sym (length-set ls l now);
    owner = λ m. with_prev_list joined after then_prev m ∙ with_next_list placed before then_next m ∙ owner_at m;
    next = λ m. with_prev_next joined after then_prev m ∙ next_at m;
    prev = prev_at;
    first = first_at;
    last = last_at;
    once = once_at;
    alone = alone_at;
  }
