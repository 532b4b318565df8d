-- Parked threads once one thread comes to a variable, goes from it, or gets another key there.
use Rattle.std.proofs.Common.{◌≡◌, ◌≢◌, ◌⊎◌, ℕ, true, eqb, cond, Option, Some, None, option_map, refl, sym, ◌∙◌, ap, subst, inl, inr, arith}
use Rattle.std.proofs.lemmas.Bool.{cases_eq, eq-eqb, ne_eqb}
use Rattle.std.proofs.lemmas.List.{get_or-set_same, get_or-set_other, length-set}
use Rattle.pif_nodes_model.specs.declared.keys.Key.{Key}
use Rattle.pif_nodes_model.specs.Lists.{has}
use Rattle.pif_nodes_model.specs.Table.{NodeLists, list_at, key_at, holder}
use Rattle.pif_nodes_model.specs.Order.{IsSorted}
use Rattle.pif_kernel_model.specs.Frames.{IsBeyond, ChangesList}
use Rattle.pif_kernel_model.proofs.ListChanges.{had-other}
use Rattle.pif_kernel_model.specs.QueueFrames.{KeepsOthers}
use Rattle.pif_kernel_model.specs.Differences.{differences}
use Rattle.pif_kernel_model.specs.Parked.{Place, ParkedLists, place_at, differing_at, IsThread, IsCond, KeepsNodes, variable_list, parking_node, thread_of_node, target_in, target_of, parked_with, parked_at, with_place_at, with_differing, IsParkedNode, StandsIn, StandParked, IsCounted, HoldsParked}
use Rattle.pif_queue.proofs.Differing.{differences-same}

-- thread u has the place x then, of which only the variable c may be, and of the table the list of c and the node of u
-- changed
pub record IsParking (p : ParkedLists) (x : Option Place) (t now : NodeLists) (c u : ℕ) : Type 0 where
  pub thread : IsThread p u
  pub cond : IsCond p c
  pub changes : ChangesList (variable_list p c) (parking_node p u) t now
  -- u was parked on no other variable, and its node in no list of others
  pub before : (y : Place) → place_at p u ≡ Some y → y.cond ≡ c
  pub from : (j : ℕ) → holder t (parking_node p u) ≡ Some j → j ≡ variable_list p c
  pub parks : (y : Place) → x ≡ Some y → (y.cond ≡ c) × (holder now (parking_node p u) ≡ Some (variable_list p c))
  pub stands : holder now (parking_node p u) ≡ Some (variable_list p c) → (y : Place) × (x ≡ Some y)

module _ (p : ParkedLists) (x : Option Place) (t now : NodeLists) (c u : ℕ) (h : StandParked p t)
    (a : IsParking p x t now c u) where
  abbrev next : ParkedLists
  next = with_place_at u x p

  at-here : place_at next u ≡ x
  at-here = get_or-set_same p.places u x None (omega (arith, a.thread, h.places))

  at-other : (v : ℕ) → v ≢ u → place_at next v ≡ place_at p v
  at-other v ne = get_or-set_other p.places u v x None ne

  other-node : (v : ℕ) → IsThread p v → v ≢ u → parking_node p v ≢ parking_node p u
  other-node v is ne e = ne (omega (arith, is, a.thread, e))

  -- the lists of other variables stay
  other-list : (d : ℕ) → IsCond p d → d ≢ c → list_at now (variable_list p d) ≡ list_at t (variable_list p d)
  other-list d is ne = a.changes.lists (variable_list p d) (λ e. ne (omega (arith, is, a.cond, e)))

  pub parking-nodes : KeepsNodes p u t now
  parking-nodes v is ne = a.changes.holders (parking_node p v) (other-node v is ne)

  pub parking-outside : KeepsOthers p.first_list p.conds p.first_node p.threads t now
  parking-outside =
      record {
        lists = λ l beyond. a.changes.lists l (λ e. out l beyond e);
        keys = λ l n beyond there. a.changes.keys n (λ e. own l n beyond there e);
        holders = λ n beyond. a.changes.holders n (λ e. out_node n beyond e);
        list_count = a.changes.list_count;
        node_count = a.changes.node_count;
      }
    where
      out : (l : ℕ) → IsBeyond p.first_list p.conds l → l ≡ variable_list p c → ⊥
      out l (inl low) e = absurd (omega (arith, low, e))
      out l (inr high) e = absurd (omega (arith, high, e, a.cond))

      own : (l n : ℕ) → IsBeyond p.first_list p.conds l → has n (list_at t l) ≡ true → n ≡ parking_node p u → ⊥
      own l n beyond there e = out l beyond (a.from l (ap (holder t) (sym e) ∙ a.changes.before.alone l n there))

      out_node : (n : ℕ) → IsBeyond p.first_node p.threads n → n ≡ parking_node p u → ⊥
      out_node n (inl low) e = absurd (omega (arith, low, e))
      out_node n (inr high) e = absurd (omega (arith, high, e, a.thread))

  parked : (v : ℕ) (y : Place) → place_at next v ≡ Some y → ((v ≡ u) ⊎ (v ≡ u → ⊥)) → StandsIn next now v y
  parked v y e (inl same) =
      let at : (y.cond ≡ c) × (holder now (parking_node p u) ≡ Some (variable_list p c)) =
      a.parks y (sym at-here ∙ ap (place_at next) (sym same) ∙ e) in
      record {
        is_thread = subst (IsThread p) (sym same) a.thread;
        is_cond = subst (IsCond p) (sym at.0) a.cond;
        held = ap (λ w. holder now (parking_node p w)) same ∙ at.1 ∙ ap (λ d. Some (variable_list p d)) (sym at.0);
      }
  parked v y e (inr ne) =
      let was : StandsIn p t v y = h.parked v y (sym (at-other v ne) ∙ e) in
      record {
        is_thread = was.is_thread;
        is_cond = was.is_cond;
        held = parking-nodes v was.is_thread ne ∙ was.held;
      }

  others : (d n : ℕ) → IsCond p d → has n (list_at now (variable_list p d)) ≡ true
      → ((n ≡ parking_node p u) ⊎ (n ≡ parking_node p u → ⊥)) → ((d ≡ c) ⊎ (d ≡ c → ⊥)) → IsParkedNode next d n
  others d n is there (inl same) (inl cond) =
      let held : holder now (parking_node p u) ≡ Some (variable_list p c) =
      ap (holder now) (sym same) ∙ a.changes.apart.alone (variable_list p d) n there ∙ ap (λ e. Some (variable_list p e)) cond in
      let at : (y : Place) × (x ≡ Some y) = a.stands held in
      record {
        thread = u;
        is_thread = a.thread;
        node = same;
        place = at.0;
        at = at-here ∙ at.1;
        cond = (a.parks at.0 at.1).0 ∙ sym cond;
      }
  others d n is there (inl same) (inr ne) =
      let was : has n (list_at t (variable_list p d)) ≡ true = ap (has n) (sym (other-list d is ne)) ∙ there in
      let list : variable_list p d ≡ variable_list p c =
      a.from (variable_list p d) (ap (holder t) (sym same) ∙ h.apart.alone (variable_list p d) n was) in
      absurd (ne (omega (arith, is, a.cond, list)))
  others d n is there (inr ne) cond =
      let was : IsParkedNode p d n =
      h.others d n is (had-other t now (variable_list p c) (parking_node p u) (variable_list p d) n a.changes ne there) in
      record {
        thread = was.thread;
        is_thread = was.is_thread;
        node = was.node;
        place = was.place;
        at = at-other was.thread (λ e. ne (was.node ∙ ap (parking_node p) e)) ∙ was.at;
        cond = was.cond;
      }

  sorted : (d : ℕ) → IsCond p d → ((d ≡ c) ⊎ (d ≡ c → ⊥)) → IsSorted now (variable_list p d)
  sorted d is (inl same) = subst (λ e. IsSorted now (variable_list p e)) (sym same) a.changes.own
  sorted d is (inr ne) =
      a.changes.sorted (variable_list p d) (λ e. ne (omega (arith, is, a.cond, e))) (h.sorted d is)

  pub parking-stands : StandParked next now
  parking-stands =
      record {
        apart = a.changes.apart;
        lists = omega (arith, h.lists, a.changes.list_count);
        nodes = omega (arith, h.nodes, a.changes.node_count);
        places = length-set p.places u x ∙ h.places;
        counts = h.counts;
        parked = λ v y e. parked v y e (cases_eq v u);
        others = λ d n is there. others d n is there (cases_eq n (parking_node p u)) (cases_eq d c);
        sorted = λ d is. sorted d is (cases_eq d c);
      }

  -- what is known of each thread then
  pub parking-seen : (k : Key) → key_at now (parking_node p u) ≡ k → (v : ℕ)
      → parked_at next now v ≡ cond (eqb v u) (option_map (parked_with k) x) (parked_at p t v)
  parking-seen k key v = by_thread (cases_eq v u)
    where
      kept : v ≢ u → (o : Option Place) → place_at p v ≡ o
          → option_map (parked_with (key_at now (parking_node p v))) o ≡ option_map (parked_with (key_at t (parking_node p v))) o
      kept ne None e = refl
      kept ne (Some y) e =
          ap (λ z. Some (parked_with z y))
          (a.changes.keys (parking_node p v) (other-node v (h.parked v y e).is_thread ne))

      by_thread : ((v ≡ u) ⊎ (v ≡ u → ⊥))
          → parked_at next now v ≡ cond (eqb v u) (option_map (parked_with k) x) (parked_at p t v)
      by_thread (inl same) =
          ap (parked_at next now) same
          ∙ (λ i. option_map (parked_with (key i)) (at-here i))
          ∙ ap (λ b. cond b (option_map (parked_with k) x) (parked_at p t v)) (sym (eq-eqb v u same))
      by_thread (inr ne) =
          ap (option_map (parked_with (key_at now (parking_node p v)))) (at-other v ne)
          ∙ kept ne (place_at p v) refl
          ∙ ap (λ b. cond b (option_map (parked_with k) x) (parked_at p t v)) (sym (ne_eqb v u ne))

  -- the targets of other nodes stay
  pub target-other : (d n : ℕ) → IsCond p d → has n (list_at t (variable_list p d)) ≡ true → n ≢ parking_node p u
      → target_of p n ≡ target_of next n
  target-other d n is there ne =
      let was : IsParkedNode p d n = h.others d n is there in
      ap target_in (sym (at-other (thread_of_node p n) (λ e. ne (omega (arith, was.node, was.is_thread, a.thread, e)))))

  -- and so do the differences in the list of another variable
  pub counted-other : (d : ℕ) → IsCond p d → d ≢ c → IsCounted p t d → IsCounted next now d
  counted-other d is ne counted =
      counted
      ∙ differences-same (target_of p) (target_of next) (list_at t (variable_list p d))
      (λ n there. target-other d n is there (λ e. apart n there e))
      ∙ ap (differences (target_of next)) (sym (other-list d is ne))
    where
      apart : (n : ℕ) → has n (list_at t (variable_list p d)) ≡ true → n ≡ parking_node p u → ⊥
      apart n there e =
          let list : variable_list p d ≡ variable_list p c =
          a.from (variable_list p d) (ap (holder t) (sym e) ∙ h.apart.alone (variable_list p d) n there) in
          ne (omega (arith, is, a.cond, list))

-- another number of differences changes nothing of where the parked threads stand
pub stand-recounted : (p : ParkedLists) (t : NodeLists) (c n : ℕ) → StandParked p t → StandParked (with_differing c n p) t
stand-recounted p t c n h =
    record {
      apart = h.apart;
      lists = h.lists;
      nodes = h.nodes;
      places = h.places;
      counts = length-set p.differing c n ∙ h.counts;
      parked = λ u x e. let at : StandsIn p t u x = h.parked u x e in
          record { is_thread = at.is_thread; is_cond = at.is_cond; held = at.held };
      others = λ d m is there. let at : IsParkedNode p d m = h.others d m is there in
          record {
            thread = at.thread;
            is_thread = at.is_thread;
            node = at.node;
            place = at.place;
            at = at.at;
            cond = at.cond;
          };
      sorted = h.sorted;
    }

-- once the differences of a variable are counted again, and right for all others, the parked threads stand in the table
pub recounted : (p : ParkedLists) (t : NodeLists) (c n : ℕ) → StandParked p t → IsCond p c
    → n ≡ differences (target_of p) (list_at t (variable_list p c))
    → ((d : ℕ) → IsCond p d → d ≢ c → IsCounted p t d) → HoldsParked (with_differing c n p) t
recounted p t c n h is counted others =
    record { stand = stand-recounted p t c n h; counted = λ d in'. by_cond d in' (cases_eq d c) }
  where
    by_cond : (d : ℕ) → IsCond p d → ((d ≡ c) ⊎ (d ≡ c → ⊥)) → IsCounted (with_differing c n p) t d
    by_cond d in' (inl same) =
        ap (differing_at (with_differing c n p)) same
        ∙ get_or-set_same p.differing c n 0 (omega (arith, is, h.counts)) ∙ counted
        ∙ ap (λ e. differences (target_of p) (list_at t (variable_list p e))) (sym same)
    by_cond d in' (inr ne) = get_or-set_other p.differing c d n 0 ne ∙ others d in' ne

-- the differences of a variable are those that were counted, and those of others stay
pub counted-here : (p : ParkedLists) (t : NodeLists) (c n : ℕ) → StandParked p t → IsCond p c
    → differing_at (with_differing c n p) c ≡ n
counted-here p t c n h is = get_or-set_same p.differing c n 0 (omega (arith, is, h.counts))

pub counted-elsewhere : (p : ParkedLists) (t : NodeLists) (c n d : ℕ) → d ≢ c → IsCounted p t d
    → IsCounted (with_differing c n p) t d
counted-elsewhere p t c n d ne counted = get_or-set_other p.differing c d n 0 ne ∙ counted
