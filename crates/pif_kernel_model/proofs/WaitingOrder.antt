-- Who stands at a place, of those that wait for one thing.
use Rattle.std.proofs.Common.{◌≡◌, ℕ, zero, suc, ◌+◌, ◌-◌, ◌<◌, ◌==◌, List, [], ◌++◌, length, filter, Some, refl, sym, ap, ◌∙◌, arith}
use Rattle.std.specs.List.{slice_get}
use Rattle.std.proofs.Math.Path.{fun_ext}
use Rattle.pif_model.specs.Graph.{by_greatest, waiting_order}
use Rattle.pif_model.specs.PiKernel.{level_at, levels_below, parked_pairs, parked_in}
use Rattle.pif_nodes_model.specs.Levels.{all_below}
use Rattle.pif_nodes_model.proofs.Places.{slice_get-front, slice_get-behind, all_below-none, all_below-more}
use Rattle.pif_kernel_model.specs.Boosts.{local_of}
use Rattle.pif_kernel_model.specs.Inside.{Inside, IsSoundInside, kernel_of}
use Rattle.pif_kernel_model.proofs.Picked.{levels_seen}
use Rattle.pif_kernel_model.proofs.Seats.{parked_seen}
use Rattle.pif_kernel_model.proofs.Standing.{level_same}

module _ (f : ℕ → ℕ) where
  module _ (us : List ℕ) (above k : ℕ) (l : above < 100) where
    -- those of the greatest level that is left stand before the others
    split : by_greatest f (100 - above) us ≡ filter (λ u. f u == (99 - above)) us ++ by_greatest f (99 - above) us
    unfolding by_greatest
    split = let e : 100 - above ≡ suc (99 - above) = omega arith in ap (λ (n : ℕ). by_greatest f n us) e

    -- one of that level
    pub by_greatest-found : (t : ℕ) → Some t ≡ slice_get (filter (λ u. f u == (99 - above)) us) k
        → slice_get (by_greatest f (100 - above) us) k ≡ Some t
    by_greatest-found t e =
        ap (λ (vs : List ℕ). slice_get vs k) split
        ∙ slice_get-front (filter (λ (u : ℕ). f u == (99 - above)) us) (by_greatest f (99 - above) us) k t (sym e)

    -- one behind those of that level
    pub by_greatest-passed : (left : ℕ) → left + length (filter (λ u. f u == (99 - above)) us) ≡ k
        → slice_get (by_greatest f (100 - above) us) k ≡ slice_get (by_greatest f (100 - (above + 1)) us) left
    by_greatest-passed left e =
        ap (λ (vs : List ℕ). slice_get vs k) split
        ∙ slice_get-behind (filter (λ (u : ℕ). f u == (99 - above)) us) (by_greatest f (99 - above) us) k left e
        ∙ ap (λ (n : ℕ). slice_get (by_greatest f n us) left) (omega arith)

  -- nobody is left
  pub by_greatest-none : (us : List ℕ) → by_greatest f 0 us ≡ []
  unfolding by_greatest
  by_greatest-none us = refl

-- the parked threads of a variable in their order, by those that are kept
pub parked_in_order : (p : Inside) → IsSoundInside p → (c k : ℕ)
    → slice_get (waiting_order (local_of p.owners) (parked_pairs p.parked) c) k
    ≡ slice_get (parked_in (kernel_of p) c) k
parked_in_order p h c k = λ i. slice_get (waiting_order (fun_ext h.local i) (parked_pairs (sym (parked_seen p) i)) c) k

-- a level, and those below it
levels_below-more : (levels : List (List ℕ)) (n : ℕ) → levels_below levels (suc n) ≡ level_at levels n ++ levels_below levels n
unfolding levels_below
levels_below-more levels n = refl

-- below level 0 is nobody
levels_below-none : (levels : List (List ℕ)) → levels_below levels 0 ≡ []
unfolding levels_below
levels_below-none levels = refl

-- the ready threads, by the run queue
pub all_below-seen : (p : Inside) (n : ℕ) → n < 100
    → all_below p.queue p.table (suc n) ≡ levels_below (kernel_of p).levels (suc n)
all_below-seen p zero l =
    all_below-none p.queue p.table
    ∙ sym (levels_below-more (kernel_of p).levels 0
    ∙ (λ i. levels_seen p 0 i ++ levels_below-none (kernel_of p).levels i))
all_below-seen p (suc n) l =
    all_below-more p.queue p.table (suc n) (omega arith)
    ∙ (λ i. sym (level_same p (suc n) (omega arith, omega arith)) i ++ all_below-seen p n (omega arith) i)
    ∙ sym (levels_below-more (kernel_of p).levels (suc n))
