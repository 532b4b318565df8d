-- Owner states whose lists and nodes are where those of others were.
use Rattle.std.proofs.Common.{◌≡◌, ap}
use Rattle.pif_kernel_model.specs.States.{States}

-- the lists and nodes of these owner states are where those of the others were
pub record SamePlace (m now : States) : Type 0 where
  pub list : now.first_list ≡ m.first_list
  pub node : now.first_node ≡ m.first_node
  pub threads : now.threads ≡ m.threads

pub unmoved : (m now : States) → now ≡ m → SamePlace m now
unmoved m now e = record {
  list = ap (λ (x : States). x.first_list) e;
  node = ap (λ (x : States). x.first_node) e;
  threads = ap (λ (x : States). x.threads) e;
}

-- if a call gave threads other rows
pub same_place : (m now : States) → now ≡ record m { rows = now.rows } → SamePlace m now
same_place m now e = record {
  list = ap (λ (x : States). x.first_list) e;
  node = ap (λ (x : States). x.first_node) e;
  threads = ap (λ (x : States). x.threads) e;
}

-- if it made a state, or ended one
pub same_place_made : (m now : States) → now ≡ record m { free = now.free; owners = now.owners; places = now.places }
    → SamePlace m now
same_place_made m now e = record {
  list = ap (λ (x : States). x.first_list) e;
  node = ap (λ (x : States). x.first_node) e;
  threads = ap (λ (x : States). x.threads) e;
}

-- and if it handed one over
pub same_place_handed : (m now : States) → now ≡ record m { rows = now.rows; owners = now.owners } → SamePlace m now
same_place_handed m now e = record {
  list = ap (λ (x : States). x.first_list) e;
  node = ap (λ (x : States). x.first_node) e;
  threads = ap (λ (x : States). x.threads) e;
}
