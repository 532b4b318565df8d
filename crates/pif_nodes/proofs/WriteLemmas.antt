-- What the fields of a value show once a call has written them: the code's own copies of the fields and numbers, each
-- equal to that of the value, go into `linked`, `unlinked` or `with_slot_key`, and the result back into the vectors.
use Rattle.std.proofs.Common.{◌≡◌, ℕ, ◌<◌, List, [], Option, Some, None, IsSome, sym, ◌∙◌, ap, arith, length, get_or, take, drop, ◌++◌, replicate}
use Rattle.pif_nodes.specs.declared.slots.Slot.{Slot}
use Rattle.pif_nodes.specs.declared.slots.Ends.{Ends}
use Rattle.pif_nodes_model.specs.Lists.{insert_after, list_without}
use Rattle.pif_nodes_model.specs.Table.{NodeLists, no_key, list_at, holder, with_list, with_key}
use Rattle.pif_nodes.specs.Links.{free_slot, empty_ends, slot_at, follower_of, lists_of, slots_after_link, ends_after_link, slots_after_unlink, ends_after_unlink, with_slot_key, Ties}
use Rattle.pif_nodes.proofs.TiesLemmas.{some_of}
use Rattle.pif_nodes.proofs.SeenLemmas.{seen, Shows, Shows-from, shows_lists, Shows-put, Shows-taken, Shows-renamed, Shows-same, Shows-closed, Shows-closed-nodes, prev_in_fields, next_in_fields}
use Rattle.pif_nodes.proofs.ViewLemmas.{Ties-new, keys_of-new}
use Rattle.pif_nodes.proofs.ReadLemmas.{apart_seen, nodes_seen, ends_seen, owner_seen, slot_seen}

-- fields in the place of two vectors' elements
abbrev pub put_back : {X : Type 0} → List X → List X → ℕ → List X
put_back was now size = take size (now ++ drop (length now) was)

-- a new table
pub Shows-new : {ns : List Slot} {es : List Ends} (nodes lists : ℕ) → ns ≡ replicate nodes free_slot → es ≡ replicate lists empty_ends →
    Shows ns es (record { lists = replicate lists []; keys = replicate nodes no_key })
Shows-new {ns} {es} nodes lists same_nodes same_ends =
    let made : NodeLists = record { lists = replicate lists []; keys = replicate nodes no_key } in
    Shows-same (replicate nodes free_slot) ns (replicate lists empty_ends) es made same_nodes same_ends
    (shows_lists (replicate nodes free_slot) (replicate lists empty_ends) made.lists made.keys (Ties-new nodes lists) (keys_of-new nodes))

module _ {ns : List Slot} {es : List Ends} {t : NodeLists} (view : seen ns es ≡ t) (ties : Ties ns es (lists_of ns es)) where
  abbrev shows : Shows ns es t
  shows = Shows-from ns es t view ties

  -- a node gets another key
  pub Shows-rekeyed : {copy now : List Slot} {n i size : ℕ} (prio ticket : ℕ) → copy ≡ ns → i ≡ n → now ≡ with_slot_key copy i prio ticket → length now ≡ size →
      Shows (put_back ns now size) es (with_key t n (record { prio = prio; ticket = ticket }))
  Shows-rekeyed {copy} {now} {n} {i} {size} prio ticket same_nodes same written long =
      Shows-closed-nodes size ns now es (with_key t n (record { prio = prio; ticket = ticket })) long
      (Shows-same (with_slot_key ns n prio ticket) now es es (with_key t n (record { prio = prio; ticket = ticket })) (written ∙ (λ k. with_slot_key (same_nodes k) (same k) prio ticket)) (λ k. es)
      (Shows-renamed ns es t shows n prio ticket))

  -- a node is put into a list
  pub Shows-attached : {copy now : List Slot} {ends_copy ends_now : List Ends} {l l2 n n2 size count : ℕ} {after prev next : Option ℕ} →
      n < length t.keys → l < length t.lists → holder t n ≡ None → ((p : ℕ) → after ≡ Some p → holder t p ≡ Some l) → next ≡ follower_of ns es l after →
      copy ≡ ns → ends_copy ≡ es → l2 ≡ l → prev ≡ after → n2 ≡ n → now ≡ slots_after_link copy l2 prev next n2
      → ends_now ≡ ends_after_link ends_copy l2 prev next n2 → length now ≡ size → length ends_now ≡ count →
      Shows (put_back ns now size) (put_back es ends_now count) (with_list t l (insert_after after n (list_at t l)))
  Shows-attached {copy} {now} {ends_copy} {ends_now} {l} {l2} {n} {n2} {size} {count} {after} {prev} {next} n_in l_in out place next_is same_nodes same_ends same_list same_place same written ends_written long ends_long =
      let then : NodeLists = with_list t l (insert_after after n (list_at t l)) in
      Shows-closed size count ns es now ends_now then long ends_long
      (Shows-same (slots_after_link ns l after next n) now (ends_after_link es l after next n) ends_now then
      (written ∙ (λ k. slots_after_link (same_nodes k) (same_list k) (same_place k) next (same k)))
      (ends_written ∙ (λ k. ends_after_link (same_ends k) (same_list k) (same_place k) next (same k)))
      (Shows-put ns es t shows l n after next (omega (arith, nodes_seen ns es t view ties)) l_in out place next_is))

  -- a node, whose fields were read, is taken out of its list
  module _ {n i list : ℕ} {s : Slot} (held : IsSome (holder t n)) (same_read : i ≡ n) (read : s ≡ get_or ns i s) (is : s.list ≡ Some list) where
    node_in : n < length t.keys
    node_in = let some = some_of (holder t n) held in (apart_seen ns es t view ties).nodes some.0 n some.1

    fields : s ≡ slot_at ns n
    fields = slot_seen ns es t view ties n i s same_read node_in read

    pub holder_is : holder t n ≡ Some list
    holder_is = sym (owner_seen ns es t view ties n i s same_read node_in read) ∙ is

    pub list_within : list < length es
    list_within = omega (arith, ends_seen ns es t view ties, (apart_seen ns es t view ties).lists list n holder_is)

    pub prev_within : (x : ℕ) → s.prev ≡ Some x → x < length ns
    prev_within x h = prev_in_fields ns es t shows n x (sym (ap (λ (x : Slot). x.prev) fields) ∙ h)

    pub next_within : (x : ℕ) → s.next ≡ Some x → x < length ns
    next_within x h = next_in_fields ns es t shows n x (sym (ap (λ (x : Slot). x.next) fields) ∙ h)

    pub Shows-detached : {copy now : List Slot} {ends_copy ends_now : List Ends} {n2 size count : ℕ} →
        copy ≡ ns → ends_copy ≡ es → n2 ≡ n → now ≡ slots_after_unlink copy s.prev s.next n2
        → ends_now ≡ ends_after_unlink ends_copy list s.prev s.next → length now ≡ size → length ends_now ≡ count →
        Shows (put_back ns now size) (put_back es ends_now count) (with_list t list (list_without n (list_at t list)))
    Shows-detached {copy} {now} {ends_copy} {ends_now} {n2} {size} {count} same_nodes same_ends same written ends_written long ends_long =
        let then : NodeLists = with_list t list (list_without n (list_at t list)) in
        Shows-closed size count ns es now ends_now then long ends_long
        (Shows-same (slots_after_unlink ns s.prev s.next n) now (ends_after_unlink es list s.prev s.next) ends_now then
        (written ∙ (λ k. slots_after_unlink (same_nodes k) s.prev s.next (same k)))
        (ends_written ∙ (λ k. ends_after_unlink (same_ends k) list s.prev s.next))
        (Shows-taken ns es t shows list n s.prev s.next holder_is (ap (λ (x : Slot). x.prev) fields) (ap (λ (x : Slot). x.next) fields)))
