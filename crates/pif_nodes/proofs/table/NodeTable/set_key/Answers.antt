use Rattle.std.proofs.Common.{arith, ◌≡◌, sym, subst, length}
use Rattle.pif_nodes_model.specs.Table.{IsApart}
use Rattle.pif_nodes.proofs.SeenLemmas.{Ties-shown, apart_shown}
use Rattle.pif_nodes.proofs.ReadLemmas.{nodes_seen}
use Rattle.pif_nodes.proofs.WriteLemmas.{Shows-rekeyed}
use Rattle.pif_nodes.proofs.table.NodeTable.set_key.Goals as goal

pub write_key-requires : goal.write_key-requires
write_key-requires c = omega (
  arith,
  nodes_seen _ _ _ c.self.view_is c.self.invariant,
  c.get.ensures,
  c.deref_mut.ensures.len,
  c.self.inside.nodes.ok.0,
)

pub invariant_of-self : goal.invariant_of-self
invariant_of-self c =
    let size : length c.write_key.new.nodes ≡ c.self.inside.nodes.len =
    omega (arith, c.write_key.auto.nodes, c.deref_mut.ensures.len) in
    Ties-shown _ _ _ (Shows-rekeyed c.self.view_is c.self.invariant c.args.prio c.args.ticket
    c.deref_mut.ensures.value c.get.ensures c.write_key.ensures size)

pub returns-clause-renamed : goal.returns-clause-renamed
returns-clause-renamed c =
    let size : length c.write_key.new.nodes ≡ c.self.inside.nodes.len =
    omega (arith, c.write_key.auto.nodes, c.deref_mut.ensures.len) in
    (Shows-rekeyed c.self.view_is c.self.invariant c.args.prio c.args.ticket c.deref_mut.ensures.value c.get.ensures
    c.write_key.ensures size).view

pub returns-clause-apart : goal.returns-clause-apart
returns-clause-apart c =
    let size : length c.write_key.new.nodes ≡ c.self.inside.nodes.len =
    omega (arith, c.write_key.auto.nodes, c.deref_mut.ensures.len) in
    let shows = Shows-rekeyed c.self.view_is c.self.invariant c.args.prio c.args.ticket c.deref_mut.ensures.value
    c.get.ensures c.write_key.ensures size in
    subst IsApart (sym shows.view) (apart_shown _ _ _ shows)
