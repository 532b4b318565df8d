-- What a value's fields, read in bounds, say of the table that they show.
use Rattle.std.proofs.Common.{◌≡◌, ℕ, ◌<◌, List, ◌∙◌, ap, arith, length, get_or}
use Rattle.pif_nodes_model.specs.declared.keys.Key.{Key}
use Rattle.pif_nodes.specs.declared.slots.Slot.{Slot}
use Rattle.pif_nodes.specs.declared.slots.Ends.{Ends}
use Rattle.pif_nodes_model.specs.Lists.{first_of, last_of}
use Rattle.pif_nodes_model.specs.Table.{NodeLists, list_at, key_at, holder, next_node, prev_node, IsApart}
use Rattle.pif_nodes.specs.Links.{slot_at, ends_at, lists_of, Ties}
use Rattle.pif_nodes.proofs.SeenLemmas.{seen, Shows, Shows-from, length_nodes, length_ends, apart_shown, key_shown, slot_read, ends_read}

module _ (ns : List Slot) (es : List Ends) (t : NodeLists) (view : seen ns es ≡ t) (ties : Ties ns es (lists_of ns es)) where
  shows : Shows ns es t
  shows = Shows-from ns es t view ties

  pub apart_seen : IsApart t
  apart_seen = apart_shown ns es t shows

  pub nodes_seen : length ns ≡ length t.keys
  nodes_seen = length_nodes ns es t shows

  pub ends_seen : length es ≡ length t.lists
  ends_seen = length_ends ns es t shows

  -- the fields of a node
  module _ (n i : ℕ) (s : Slot) (same : i ≡ n) (n_in : n < length t.keys) (read : s ≡ get_or ns i s) where
    pub slot_seen : s ≡ slot_at ns n
    slot_seen = slot_read ns es t shows n i s same n_in read

    pub next_seen : s.next ≡ next_node t n
    next_seen = ap (λ (x : Slot). x.next) slot_seen ∙ shows.ties.next n

    pub prev_seen : s.prev ≡ prev_node t n
    prev_seen = ap (λ (x : Slot). x.prev) slot_seen ∙ shows.ties.prev n

    pub owner_seen : s.list ≡ holder t n
    owner_seen = ap (λ (x : Slot). x.list) slot_seen ∙ shows.ties.owner n

    pub key_seen : ◌≡◌ {A = Key} (record { prio = s.prio; ticket = s.ticket }) (key_at t n)
    key_seen = ap (λ (x : Slot). record { prio = x.prio; ticket = x.ticket }) slot_seen ∙ key_shown ns es t shows n (omega (arith, nodes_seen))

  -- the ends of a list
  module _ (l i : ℕ) (e : Ends) (same : i ≡ l) (l_in : l < length t.lists) (read : e ≡ get_or es i e) where
    ends : e ≡ ends_at es l
    ends = ends_read ns es t shows l i e same l_in read

    pub first_seen : e.first ≡ first_of (list_at t l)
    first_seen = ap (λ (x : Ends). x.first) ends ∙ shows.ties.first l

    pub last_seen : e.last ≡ last_of (list_at t l)
    last_seen = ap (λ (x : Ends). x.last) ends ∙ shows.ties.last l

pub ruleset reads = (apart_seen, nodes_seen, ends_seen, next_seen, prev_seen, owner_seen, key_seen, first_seen, last_seen)
