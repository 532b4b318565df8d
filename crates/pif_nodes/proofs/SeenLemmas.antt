-- Lemmas on a table that its fields show.
use Rattle.std.proofs.Common.{◌≡◌, ℕ, ◌<◌, cond, eqb, List, [], Option, Some, None, option_and_then, refl, sym, ◌∙◌, ap, subst, arith, length, get_or, set, true, take, drop, ◌++◌}
use Rattle.pif_nodes_model.specs.declared.keys.Key.{Key}
use Rattle.pif_nodes.specs.declared.slots.Slot.{Slot}
use Rattle.pif_nodes.specs.declared.slots.Ends.{Ends}
use Rattle.pif_nodes_model.specs.Lists.{has, next_in_list, prev_in_list, insert_after, list_without}
use Rattle.std.proofs.Math.Seq.{take-append_seam}
use Rattle.std.proofs.lemmas.List.{get_or_default}
use Rattle.pif_nodes_model.proofs.ListLemmas.{first_of-has, next_in_list-has, prev_in_list-has}
use Rattle.pif_nodes_model.specs.Table.{NodeLists, list_at, key_at, list_with, holder, with_list, with_key, IsApart}
use Rattle.pif_nodes.specs.Links.{free_slot, empty_ends, slot_at, ends_at, follower_of, lists_of, keys_of, slots_after_link, ends_after_link, slots_after_unlink, ends_after_unlink, with_slot_key, Ties}
use Rattle.pif_nodes.proofs.TiesLemmas.{within_from_Ties}
use Rattle.pif_nodes.proofs.MoveLemmas.{Holds-put, Holds-taken}
use Rattle.pif_nodes.proofs.ViewLemmas.{lists_of_is, length-keys_of, key_of_slot, keys_of-linked, keys_of-unlinked, keys_of-renamed, Ties-renamed, IsApart-from_Ties}

-- what the fields show
abbrev pub seen : List Slot → List Ends → NodeLists
seen ns es = record { lists = lists_of ns es; keys = keys_of ns }

-- the fields show this table, and their links hold its lists
pub record Shows (ns : List Slot) (es : List Ends) (t : NodeLists) : Type 0 where
  pub view : seen ns es ≡ t
  pub ties : Ties ns es t.lists

-- the fields of a value show it
pub Shows-from : (ns : List Slot) (es : List Ends) (t : NodeLists) → seen ns es ≡ t → Ties ns es (lists_of ns es) → Shows ns es t
Shows-from ns es t view ties = record { view = view; ties = subst (λ (ls : List (List ℕ)). Ties ns es ls) (ap (λ (x : NodeLists). x.lists) view) ties }

-- two tables with the same lists and keys
same_table : (xs ys : List (List ℕ)) (ks js : List Key) → xs ≡ ys → ks ≡ js → ◌≡◌ {A = NodeLists} (record { lists = xs; keys = ks }) (record { lists = ys; keys = js })
same_table xs ys ks js p q = cc

-- fields show the table of the lists that their links hold
pub shows_lists : (ns : List Slot) (es : List Ends) (ls : List (List ℕ)) (keys : List Key) → Ties ns es ls → keys_of ns ≡ keys → Shows ns es (record { lists = ls; keys = keys })
shows_lists ns es ls keys t same = record { view = same_table (lists_of ns es) ls (keys_of ns) keys (lists_of_is ns es ls t) same; ties = t }

-- a list written over a vector's elements, if it is as long
written_over : {X : Type 0} (n : ℕ) (was xs : List X) → length xs ≡ n → take n (xs ++ drop (length xs) was) ≡ xs
written_over n was xs same = ap (λ k. take k (xs ++ drop (length xs) was)) (sym same) ∙ take-append_seam xs (drop (length xs) was)

-- fields that go back into the two vectors of a table show the same
pub Shows-closed : (n m : ℕ) (was : List Slot) (had : List Ends) (ns : List Slot) (es : List Ends) (t : NodeLists) → length ns ≡ n → length es ≡ m → Shows ns es t →
    Shows (take n (ns ++ drop (length ns) was)) (take m (es ++ drop (length es) had)) t
Shows-closed n m was had ns es t same_nodes same_ends shows =
    subst (λ (xs : List Slot). Shows xs (take m (es ++ drop (length es) had)) t) (sym (written_over n was ns same_nodes))
    (subst (λ (xs : List Ends). Shows ns xs t) (sym (written_over m had es same_ends)) shows)

-- the same if only the nodes were written
pub Shows-closed-nodes : (n : ℕ) (was ns : List Slot) (es : List Ends) (t : NodeLists) → length ns ≡ n → Shows ns es t → Shows (take n (ns ++ drop (length ns) was)) es t
Shows-closed-nodes n was ns es t same shows = subst (λ (xs : List Slot). Shows xs es t) (sym (written_over n was ns same)) shows

-- the same of equal fields
pub Shows-same : (ns ms : List Slot) (es fs : List Ends) (t : NodeLists) → ms ≡ ns → fs ≡ es → Shows ns es t → Shows ms fs t
Shows-same ns ms es fs t same_nodes same_ends shows =
    subst (λ (xs : List Slot). Shows xs fs t) (sym same_nodes) (subst (λ (xs : List Ends). Shows ns xs t) (sym same_ends) shows)

module _ (ns : List Slot) (es : List Ends) (t : NodeLists) (shows : Shows ns es t) where
  -- the invariant of the fields
  pub Ties-shown : Ties ns es (lists_of ns es)
  Ties-shown = subst (λ (ls : List (List ℕ)). Ties ns es ls) (sym (ap (λ (x : NodeLists). x.lists) shows.view)) shows.ties

  keys_same : keys_of ns ≡ t.keys
  keys_same = ap (λ (x : NodeLists). x.keys) shows.view

  -- as many nodes and lists as the table has
  pub length_nodes : length ns ≡ length t.keys
  length_nodes = sym (length-keys_of ns) ∙ ap length keys_same

  pub length_ends : length es ≡ length t.lists
  length_ends = shows.ties.lists

  -- a node in a list is one of the fields
  pub held_in : (n l : ℕ) → holder t n ≡ Some l → n < length ns
  held_in n l h = within_from_Ties ns es t.lists n l shows.ties h

  pub apart_shown : IsApart t
  apart_shown = IsApart-from_Ties ns es t.lists shows.ties t.keys (sym length_nodes)

  pub key_shown : (n : ℕ) → n < length ns → ◌≡◌ {A = Key} (record { prio = (slot_at ns n).prio; ticket = (slot_at ns n).ticket }) (key_at t n)
  key_shown n n_in = sym (key_of_slot ns n n_in) ∙ ap (λ (ks : List Key). get_or ks n (record { prio = 0; ticket = 0 })) keys_same

  -- a neighbour in a list is one of the fields
  neighbour_in : (o : Option ℕ) (n m : ℕ) (f : List ℕ → ℕ → Option ℕ) → ((xs : List ℕ) → f xs n ≡ Some m → has m xs ≡ true) → option_and_then (λ l. f (get_or t.lists l []) n) o ≡ Some m → m < length ns
  neighbour_in None n m f in_list h = absurd cc
  neighbour_in (Some l) n m f in_list h = held_in m l (shows.ties.alone l m (in_list (get_or t.lists l []) h))

  -- the node that follows a place is one of the fields
  pub follower_in : (l : ℕ) (place : Option ℕ) (m : ℕ) → ((p : ℕ) → place ≡ Some p → holder t p ≡ Some l) → follower_of ns es l place ≡ Some m → m < length ns
  follower_in l None m held h = held_in m l (shows.ties.alone l m (first_of-has (list_at t l) m (sym (shows.ties.first l) ∙ h)))
  follower_in l (Some p) m held h = neighbour_in (list_with t.lists p) p m next_in_list (λ xs. next_in_list-has xs p m) (sym (shows.ties.next p) ∙ h)

  pub prev_in_fields : (n m : ℕ) → (slot_at ns n).prev ≡ Some m → m < length ns
  prev_in_fields n m h = neighbour_in (list_with t.lists n) n m prev_in_list (λ xs. prev_in_list-has xs n m) (sym (shows.ties.prev n) ∙ h)

  pub next_in_fields : (n m : ℕ) → (slot_at ns n).next ≡ Some m → m < length ns
  next_in_fields n m h = neighbour_in (list_with t.lists n) n m next_in_list (λ xs. next_in_list-has xs n m) (sym (shows.ties.next n) ∙ h)

  -- a node is put into a list
  pub Shows-put : (l n : ℕ) (after next : Option ℕ) → n < length ns → l < length t.lists → holder t n ≡ None → ((p : ℕ) → after ≡ Some p → holder t p ≡ Some l) → next ≡ follower_of ns es l after →
      Shows (slots_after_link ns l after next n) (ends_after_link es l after next n)
      (with_list t l (insert_after after n (list_at t l)))
  Shows-put l n after next n_in l_in out place next_is =
      let held = Holds-put ns es t.lists l n after next shows.ties n_in l_in out place next_is in
      shows_lists (slots_after_link ns l after next n) (ends_after_link es l after next n)
      (set t.lists l (insert_after after n (list_at t l))) t.keys held.ties
      (keys_of-linked ns l after next n ∙ keys_same)

  pub holders-put : (l n : ℕ) (after next : Option ℕ) → n < length ns → l < length t.lists → holder t n ≡ None → ((p : ℕ) → after ≡ Some p → holder t p ≡ Some l) → next ≡ follower_of ns es l after →
      (m : ℕ) → holder (with_list t l (insert_after after n (list_at t l))) m ≡ cond (eqb m n) (Some l) (holder t m)
  holders-put l n after next n_in l_in out place next_is = (Holds-put ns es t.lists l n after next shows.ties n_in l_in out place next_is).holders

  -- a node is taken out of its list
  pub Shows-taken : (l n : ℕ) (prev next : Option ℕ) → holder t n ≡ Some l → prev ≡ (slot_at ns n).prev → next ≡ (slot_at ns n).next →
      Shows (slots_after_unlink ns prev next n) (ends_after_unlink es l prev next)
      (with_list t l (list_without n (list_at t l)))
  Shows-taken l n prev next h prev_is next_is =
      let held = Holds-taken ns es t.lists l n prev next shows.ties (held_in n l h) h prev_is next_is in
      shows_lists (slots_after_unlink ns prev next n) (ends_after_unlink es l prev next)
      (set t.lists l (list_without n (list_at t l))) t.keys held.ties (keys_of-unlinked ns prev next n ∙ keys_same)

  pub holders-taken : (l n : ℕ) → holder t n ≡ Some l → (m : ℕ) → holder (with_list t l (list_without n (list_at t l))) m ≡ cond (eqb m n) None (holder t m)
  holders-taken l n h = (Holds-taken ns es t.lists l n (slot_at ns n).prev (slot_at ns n).next shows.ties (held_in n l h) h refl refl).holders

  -- a node gets another key
  pub Shows-renamed : (n prio ticket : ℕ) → Shows (with_slot_key ns n prio ticket) es (with_key t n (record { prio = prio; ticket = ticket }))
  Shows-renamed n prio ticket =
      shows_lists (with_slot_key ns n prio ticket) es t.lists (set t.keys n (record { prio = prio; ticket = ticket })) (Ties-renamed ns es t.lists n prio ticket shows.ties)
      (keys_of-renamed ns n prio ticket ∙ ap (λ (ks : List Key). set ks n (record { prio = prio; ticket = ticket })) keys_same)

  -- a read of a node's fields, in bounds
  pub slot_read : (n i : ℕ) (s : Slot) → i ≡ n → n < length t.keys → s ≡ get_or ns i s → s ≡ slot_at ns n
  slot_read n i s same n_in read = read ∙ ap (λ (k : ℕ). get_or ns k s) same ∙ get_or_default ns n s free_slot (omega (arith, length_nodes))

  pub ends_read : (l i : ℕ) (e : Ends) → i ≡ l → l < length t.lists → e ≡ get_or es i e → e ≡ ends_at es l
  ends_read l i e same l_in read = read ∙ ap (λ (k : ℕ). get_or es k e) same ∙ get_or_default es l e empty_ends (omega (arith, length_ends))
