-- What the users of the node table of linked chains leave of one another.
use Rattle.std.proofs.Common.{◌≡◌, ℕ, length, Option, sym, subst, ap, ◌∙◌, inl, inr, arith}
use Rattle.std.specs.Prelude.{map}
use Rattle.std.specs.List.{range_with_len}
use Rattle.pif_nodes_model.specs.Table.{NodeLists, IsApart}
use Rattle.pif_nodes_model.specs.Levels.{Queue, KeepsQueue}
use Rattle.pif_kernel_model.specs.Owners.{Owners}
use Rattle.pif_kernel_model.specs.States.{States, top_node}
use Rattle.pif_kernel_model.specs.Frames.{KeepsLists, KeepsOwn}
use Rattle.pif_kernel_model.specs.BoostFrames.{SameBeyond}
use Rattle.pif_kernel_model.specs.Entries.{Found, found_in}
use Rattle.pif_kernel_model.specs.QueueFrames.{KeepsOthers, KeepsUser}
use Rattle.pif_kernel_model.specs.Parked.{Parked, parked_at}
use Rattle.pif_kernel_model.specs.Buckets.{Buckets, HoldsBuckets}
use Rattle.pif_kernel_model.proofs.EntryFrames.{found-framed, entries-framed}
use Rattle.pif_kernel_model.proofs.ParkedFrames.{seen-framed, parked-framed}
use Rattle.pif_chains_linked.specs.Parkings.{parkings_by, parkings_in}
use Rattle.pif_chains_linked.specs.Linked.{key_count, key_of, keys_in, IsLaidOut, FitsWords, FitsParked}

-- a change by others left what words and parked threads have in the table
pub record KeepsBuckets (b : Buckets) (was now : NodeLists) : Type 0 where
  pub words : KeepsUser b.entries.first_list 64 b.entries.first_node (length b.entries.items) was now
  pub parked : KeepsLists b.parked.first_list b.parked.conds was now

module _ (m : States) (q : Queue) (b : Buckets) (was now : NodeLists) (l : IsLaidOut m q b) where
  -- owner states and run queue leave all that the buckets have
  pub beyond_keeps : SameBeyond m q was now → KeepsBuckets b was now
  beyond_keeps same = record {
    words = record {
      kept = record {
        lists = λ k low high. same.lists k (inr (omega (arith, l.waiters, l.buckets, low)))
            (inr (omega (arith, l.levels, l.buckets, low)));
        keys = λ k n low high there. same.keys k n (inr (omega (arith, l.waiters, l.buckets, low)))
            (inr (omega (arith, l.levels, l.buckets, low))) there;
        list_count = same.list_count;
        node_count = same.node_count;
      };
      free = λ n low high none. same.holders n (inr (omega (arith, l.wait_nodes, l.row_nodes, low)))
          (inr (omega (arith, l.ready_nodes, l.ready, l.row_nodes, low))) ∙ none;
    };
    parked = record {
      lists = λ k low high. same.lists k (inr (omega (arith, l.waiters, l.variables, low)))
          (inr (omega (arith, l.levels, l.variables, low)));
      keys = λ k n low high there. same.keys k n (inr (omega (arith, l.waiters, l.variables, low)))
          (inr (omega (arith, l.levels, l.variables, low))) there;
      list_count = same.list_count;
      node_count = same.node_count;
    };
  }

  -- a change of words leaves what owner states and run queue have
  module _ (k : KeepsOthers b.entries.first_list 64 b.entries.first_node (length b.entries.items) was now) where
    pub words_leave_owners : KeepsOwn m was now
    words_leave_owners = record {
      lists = record {
        lists = λ j low high. k.lists j (inl (omega (arith, l.waiters, l.buckets, high)));
        keys = λ j n low high there. k.keys j n (inl (omega (arith, l.waiters, l.buckets, high))) there;
        list_count = k.list_count;
        node_count = k.node_count;
      };
      free = λ u th none. k.holders (top_node m u) (inl (omega (arith, l.wait_nodes, l.row_nodes, th.0, th.1))) ∙ none;
    }

    pub words_leave_queue : KeepsQueue q was now
    words_leave_queue = record {
      lists = λ j own. k.lists j (inl (omega (arith, l.levels, l.buckets, own.1)));
      count = k.list_count;
      nodes = k.node_count;
      free = λ n own none. k.holders n (inl (omega (arith, l.ready_nodes, l.ready, l.row_nodes, own.1))) ∙ none;
    }

  -- and so does a change of parked threads
  module _ (k : KeepsOthers b.parked.first_list b.parked.conds b.parked.first_node b.parked.threads was now) where
    pub parked_leave_owners : KeepsOwn m was now
    parked_leave_owners = record {
      lists = record {
        lists = λ j low high. k.lists j (inl (omega (arith, l.waiters, l.variables, high)));
        keys = λ j n low high there. k.keys j n (inl (omega (arith, l.waiters, l.variables, high))) there;
        list_count = k.list_count;
        node_count = k.node_count;
      };
      free = λ u th none. k.holders (top_node m u) (inr (omega (arith, l.wait_nodes, l.parked_nodes, l.parked, th.0))) ∙ none;
    }

    pub parked_leave_queue : KeepsQueue q was now
    parked_leave_queue = record {
      lists = λ j own. k.lists j (inl (omega (arith, l.levels, l.variables, own.1)));
      count = k.list_count;
      nodes = k.node_count;
      free = λ n own none. k.holders n (inr (omega (arith, l.ready_nodes, l.parked_nodes, l.parked, own.0))) ∙ none;
    }

-- words and parked threads are what they were if their lists and nodes were left
module _ (b : Buckets) (was now : NodeLists) (keeps : KeepsBuckets b was now) (h : HoldsBuckets b was) where
  pub found_there : (w : ℕ) → found_in b.entries now w ≡ found_in b.entries was w
  found_there = found-framed b.entries was now keeps.words

  pub parked_there : (u : ℕ) → parked_at b.parked now u ≡ parked_at b.parked was u
  parked_there = seen-framed b.parked was now keeps.parked h.parked

  pub buckets_there : IsApart now → HoldsBuckets b now
  buckets_there apart = record {
    apart = h.apart;
    entries = entries-framed b.entries was now keeps.words h.entries apart;
    parked = parked-framed b.parked was now keeps.parked h.parked apart;
  }

  pub keys_there : keys_in b.entries now ≡ keys_in b.entries was
  keys_there =
      ap (λ (f : ℕ → Option Found). map (λ w. key_of (f w)) (range_with_len 0 key_count)) (λ i w. found_there w i)

  pub parkings_there : parkings_in b.parked now ≡ parkings_in b.parked was
  parkings_there = ap (λ (f : ℕ → Option Parked). parkings_by f b.parked.threads) (λ i u. parked_there u i)

  pub words_there : (m : States) → FitsWords m b.entries was → FitsWords m b.entries now
  words_there m fits w f e = fits w f (sym (found_there w) ∙ e)

  pub fits_there : (v : Owners) (n next : ℕ) → FitsParked v (parked_at b.parked was) n next
      → FitsParked v (parked_at b.parked now) n next
  fits_there v n next = subst (λ (f : ℕ → Option Parked). FitsParked v f n next) (λ i u. sym (parked_there u) i)
