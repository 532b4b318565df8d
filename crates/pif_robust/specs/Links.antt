-- How the fields of robust lists hold them: the entry of each mutex has its neighbours and the thread whose list it is
-- on, and each thread the first mutex of its list.
use Rattle.std.specs.Prelude.{◌≡◌, ℕ, suc, zero, ◌+◌, ◌-◌, ◌≤◌, true, List, [], ◌∷◌, length, map, Option, Some, None, slice_index_or, slice_set, unwrap_or, ⊤}
use Rattle.pif_robust.specs.declared.links.Link.{Link}
use Rattle.pif_robust.specs.declared.links.Head.{Head}
use Rattle.pif_model.specs.RobustList.{Robust, RobustRow, no_robust_row, robust_at, has_entry, HasNoRepeats}
use Rattle.pif_model_lemmas.specs.RobustWalks.{first_or}
use Rattle.pif_robust.specs.Robust.{named_mutex}

-- the entry of a mutex that is on no list
abbrev pub unlinked : Link
unlinked = record { next = None; previous = None; holder = None }

-- the head of an empty list
abbrev pub empty_head : Head
empty_head = record { first = None; half_linked = None; pending = None }

abbrev pub link_at : List Link → ℕ → Link
link_at ns m = slice_index_or ns m unlinked

abbrev pub head_at : List Head → ℕ → Head
head_at hs t = slice_index_or hs t empty_head

-- the mutexes from one on, along `next`, as many as `most` at most
abbrev pub path : ℕ → List Link → Option ℕ → List ℕ
path zero ns from = []
path (suc most) ns None = []
path (suc most) ns (Some m) = m ∷ path most ns (link_at ns m).next

-- what the head of a thread shows
abbrev pub row_from : List Link → Head → RobustRow
row_from ns h = record {
  listed = path (length ns) ns h.first;
  half_linked = unwrap_or h.half_linked 0;
  pending = unwrap_or h.pending 0;
}

-- what the fields show
unfoldable pub robust_from : List Link → List Head → Robust
robust_from ns hs = record { threads = map (row_from ns) hs; mutexes = length ns - 1 }

-- the entries of these mutexes are linked in this order, on the list of t, between two others
abbrev pub IsChain : List Link → ℕ → Option ℕ → List ℕ → Option ℕ → Type 0
IsChain ns t before [] after = ⊤
IsChain ns t before (m ∷ ms) after =
    (link_at ns m ≡ record { next = first_or ms after; previous = before; holder = Some t })
    × IsChain ns t (Some m) ms after

-- the fields hold these lists
pub record FieldsHold (ns : List Link) (hs : List Head) (v : Robust) : Type 0 where
  pub threads : length hs ≡ length v.threads
  pub mutexes : length ns ≡ v.mutexes + 1
  pub most : v.mutexes ≤ 1024
  pub some_thread : 1 ≤ length hs
  -- place 0 of both lists
  pub no_mutex : link_at ns 0 ≡ unlinked
  pub nobody : robust_at v 0 ≡ no_robust_row
  -- the heads
  pub first : (t : ℕ) → (head_at hs t).first ≡ first_or (robust_at v t).listed None
  pub half_linked : (t : ℕ) → (head_at hs t).half_linked ≡ named_mutex (robust_at v t).half_linked
  pub pending : (t : ℕ) → (head_at hs t).pending ≡ named_mutex (robust_at v t).pending
  -- the entries of the mutexes on a list
  pub chain : (t : ℕ) → IsChain ns t None (robust_at v t).listed None
  pub once : (t : ℕ) → HasNoRepeats (robust_at v t).listed
  pub holder : (t m : ℕ) → (link_at ns m).holder ≡ Some t → has_entry (robust_at v t).listed m ≡ true
  -- the entry of a half-linked mutex leads to the first of the list
  pub written : (t m : ℕ) → 1 ≤ m → (robust_at v t).half_linked ≡ m →
      link_at ns m ≡ record { next = first_or (robust_at v t).listed None; previous = None; holder = None }
  pub one_half : (t u m : ℕ) → 1 ≤ m → (robust_at v t).half_linked ≡ m → (robust_at v u).half_linked ≡ m → u ≡ t
  pub half_in : (t : ℕ) → (robust_at v t).half_linked ≤ v.mutexes
  pub pending_in : (t : ℕ) → (robust_at v t).pending ≤ v.mutexes

-- the entries with another `next` at a place, if there is one
abbrev pub with_next_mutex : List Link → Option ℕ → Option ℕ → List Link
with_next_mutex ns None to = ns
with_next_mutex ns (Some p) to = slice_set ns p (record (link_at ns p) { next = to })

-- the heads with another first mutex of t, if no place stands before it
abbrev pub with_first_mutex : List Head → ℕ → Option ℕ → Option ℕ → List Head
with_first_mutex hs t None to = slice_set hs t (record (head_at hs t) { first = to })
with_first_mutex hs t (Some p) to = hs

-- the entries with another `previous` at a place, if there is one
abbrev pub with_previous : List Link → Option ℕ → Option ℕ → List Link
with_previous ns None to = ns
with_previous ns (Some p) to = slice_set ns p (record (link_at ns p) { previous = to })

-- the entries once the half-linked m, which leads to `next`, is at the head of the list of t
abbrev pub links_joined : List Link → ℕ → ℕ → Option ℕ → List Link
links_joined ns t m next = with_previous (slice_set ns m (record (link_at ns m) { holder = Some t })) next (Some m)

-- the heads then
abbrev pub heads_joined : List Head → ℕ → ℕ → List Head
heads_joined hs t m = slice_set hs t (record (head_at hs t) { first = Some m; half_linked = None })

-- the entries once m is off its list
abbrev pub links_cut : List Link → ℕ → List Link
links_cut ns m =
    with_previous (with_next_mutex (slice_set ns m unlinked) (link_at ns m).previous (link_at ns m).next)
    (link_at ns m).next (link_at ns m).previous

-- the heads once m is off the list of t
abbrev pub heads_cut : List Link → List Head → ℕ → ℕ → List Head
heads_cut ns hs t m =
    let now = with_first_mutex hs t (link_at ns m).previous (link_at ns m).next in
    slice_set now t (record (head_at now t) { half_linked = None })
