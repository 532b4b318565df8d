-- How the fields of a table hold its lists: each node has its neighbours and its list, each list its two ends.
use Rattle.std.specs.Prelude.{◌≡◌, ℕ, suc, zero, true, List, [], ◌∷◌, length, map, Option, Some, None, slice_index_or, slice_set, option_and_then}
use Rattle.pif_nodes_model.specs.declared.keys.Key.{Key}
use Rattle.pif_nodes.specs.declared.slots.Slot.{Slot}
use Rattle.pif_nodes.specs.declared.slots.Ends.{Ends}
use Rattle.pif_nodes_model.specs.Lists.{first_of, last_of, next_in_list, prev_in_list, has, HasNoRepeats}
use Rattle.pif_nodes_model.specs.Table.{list_with}

-- the fields of a node that is in no list
abbrev pub free_slot : Slot
free_slot = record { prev = None; next = None; list = None; prio = 0; ticket = 0 }

-- the ends of an empty list
abbrev pub empty_ends : Ends
empty_ends = record { first = None; last = None }

-- the fields of a node
abbrev pub slot_at : List Slot → ℕ → Slot
slot_at ns n = slice_index_or ns n free_slot

-- the ends of a list
abbrev pub ends_at : List Ends → ℕ → Ends
ends_at es l = slice_index_or es l empty_ends

-- the nodes from a node on, along `next`, as many as `most` at most
abbrev pub walk : ℕ → List Slot → Option ℕ → List ℕ
walk zero ns from = []
walk (suc most) ns None = []
walk (suc most) ns (Some n) = n ∷ walk most ns (slot_at ns n).next

-- the lists that the links make
unfoldable pub lists_of : List Slot → List Ends → List (List ℕ)
lists_of ns es = map (λ e. walk (length ns) ns e.first) es

-- the keys of the nodes
unfoldable pub keys_of : List Slot → List Key
keys_of ns = map (λ s. record { prio = s.prio; ticket = s.ticket }) ns

-- the nodes with another `next` at a place, if there is one
abbrev pub with_next : List Slot → Option ℕ → Option ℕ → List Slot
with_next ns None to = ns
with_next ns (Some p) to = slice_set ns p (record (slot_at ns p) { next = to })

-- the ends with another first node of a list, if no place stands before it
abbrev pub with_first : List Ends → ℕ → Option ℕ → Option ℕ → List Ends
with_first es l None to = slice_set es l (record (ends_at es l) { first = to })
with_first es l (Some p) to = es

-- the nodes with another `prev` at a place, if there is one
abbrev pub with_prev : List Slot → Option ℕ → Option ℕ → List Slot
with_prev ns None to = ns
with_prev ns (Some p) to = slice_set ns p (record (slot_at ns p) { prev = to })

-- the ends with another last node of a list, if no place stands after it
abbrev pub with_last : List Ends → ℕ → Option ℕ → Option ℕ → List Ends
with_last es l None to = slice_set es l (record (ends_at es l) { last = to })
with_last es l (Some p) to = es

-- the links and ends are those of these lists
pub record Ties (ns : List Slot) (es : List Ends) (ls : List (List ℕ)) : Type 0 where
  pub lists : length es ≡ length ls
  pub owner : (n : ℕ) → (slot_at ns n).list ≡ list_with ls n
  pub next : (n : ℕ) → (slot_at ns n).next ≡ option_and_then (λ l. next_in_list (slice_index_or ls l []) n) (list_with ls n)
  pub prev : (n : ℕ) → (slot_at ns n).prev ≡ option_and_then (λ l. prev_in_list (slice_index_or ls l []) n) (list_with ls n)
  pub first : (l : ℕ) → (ends_at es l).first ≡ first_of (slice_index_or ls l [])
  pub last : (l : ℕ) → (ends_at es l).last ≡ last_of (slice_index_or ls l [])
  pub once : (l : ℕ) → HasNoRepeats (slice_index_or ls l [])
  pub alone : (l n : ℕ) → has n (slice_index_or ls l []) ≡ true → list_with ls n ≡ Some l

-- the nodes with one of them in another place: its list, and its neighbours there
abbrev pub with_place : List Slot → ℕ → Option ℕ → Option ℕ → Option ℕ → List Slot
with_place ns n list prev next = slice_set ns n (record (slot_at ns n) { prev = prev; next = next; list = list })

-- the node after a place in a list, or the first of the list if no place is given
abbrev pub follower_of : List Slot → List Ends → ℕ → Option ℕ → Option ℕ
follower_of ns es l None = (ends_at es l).first
follower_of ns es l (Some p) = (slot_at ns p).next

-- the nodes once n stands between `prev` and `next` in list l
abbrev pub slots_after_link : List Slot → ℕ → Option ℕ → Option ℕ → ℕ → List Slot
slots_after_link ns l prev next n = with_prev (with_next (with_place ns n (Some l) prev next) prev (Some n)) next
    (Some n)

-- the ends of the lists then
abbrev pub ends_after_link : List Ends → ℕ → Option ℕ → Option ℕ → ℕ → List Ends
ends_after_link es l prev next n = with_last (with_first es l prev (Some n)) l next (Some n)

-- the nodes once n, which stood between `prev` and `next`, is in no list
abbrev pub slots_after_unlink : List Slot → Option ℕ → Option ℕ → ℕ → List Slot
slots_after_unlink ns prev next n = with_prev (with_next (with_place ns n None None None) prev next) next prev

-- the ends of the lists then
abbrev pub ends_after_unlink : List Ends → ℕ → Option ℕ → Option ℕ → List Ends
ends_after_unlink es l prev next = with_last (with_first es l prev next) l next prev

-- the nodes with another key of one of them
abbrev pub with_slot_key : List Slot → ℕ → ℕ → ℕ → List Slot
with_slot_key ns n prio ticket = slice_set ns n (record (slot_at ns n) { prio = prio; ticket = ticket })
