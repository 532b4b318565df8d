-- Parked threads stand as they stood once others changed the table and kept what is theirs.
use Rattle.std.proofs.Common.{◌≡◌, ℕ, Option, Some, None, option_map, refl, sym, ◌∙◌, ap, arith}
use Rattle.pif_nodes_model.specs.declared.keys.Key.{Key}
use Rattle.pif_nodes_model.specs.Lists.{has}
use Rattle.pif_nodes_model.specs.Table.{NodeLists, list_at, key_at, IsApart}
use Rattle.pif_kernel_model.specs.Frames.{KeepsLists}
use Rattle.pif_kernel_model.proofs.FrameLemmas.{held-kept, sorted-kept}
use Rattle.pif_kernel_model.specs.Differences.{differences}
use Rattle.pif_kernel_model.specs.Parked.{Place, ParkedLists, place_at, IsCond, variable_list, parking_node, target_of, parked_with, parked_at, StandsIn, HoldsParked}

module _ (p : ParkedLists) (was now : NodeLists) (keeps : KeepsLists p.first_list p.conds was now) (h : HoldsParked p was) where
  list-kept : (c : ℕ) → IsCond p c → list_at now (variable_list p c) ≡ list_at was (variable_list p c)
  list-kept c is = keeps.lists (variable_list p c) (omega arith) (omega (arith, is))

  -- each thread is parked where it was, with the key that it had
  pub seen-framed : (u : ℕ) → parked_at p now u ≡ parked_at p was u
  seen-framed u = by_place (place_at p u) refl
    where
      by_place : (o : Option Place) → place_at p u ≡ o
          → option_map (parked_with (key_at now (parking_node p u))) o ≡ option_map (parked_with (key_at was (parking_node p u))) o
      by_place None e = refl
      by_place (Some x) e =
          let at : StandsIn p was u x = h.stand.parked u x e in
          ap (λ (k : Key). Some (parked_with k x))
          (keeps.keys (variable_list p x.cond) (parking_node p u) (omega arith) (omega (arith, at.is_cond))
          (h.stand.apart.listed (variable_list p x.cond) (parking_node p u) at.held))

  pub parked-framed : IsApart now → HoldsParked p now
  parked-framed apart =
      record {
        stand =
            record {
              apart = apart;
              lists = omega (arith, h.stand.lists, keeps.list_count);
              nodes = omega (arith, h.stand.nodes, keeps.node_count);
              places = h.stand.places;
              counts = h.stand.counts;
              parked = λ u x e.
                  let at : StandsIn p was u x = h.stand.parked u x e in
                  record {
                    is_thread = at.is_thread;
                    is_cond = at.is_cond;
                    held =
                        held-kept p.first_list p.conds was now (variable_list p x.cond) (parking_node p u) keeps h.stand.apart apart
                        (omega arith) (omega (arith, at.is_cond)) at.held;
                  };
              others = λ c n is there. h.stand.others c n is (ap (has n) (sym (list-kept c is)) ∙ there);
              sorted = λ c is. sorted-kept p.first_list p.conds was now (variable_list p c) keeps (omega arith)
                  (omega (arith, is)) (h.stand.sorted c is);
            };
        counted = λ c is. h.counted c is ∙ ap (differences (target_of p)) (sym (list-kept c is));
      }
