use Rattle.std.proofs.Common.{◌≡◌, ◌∙◌, ap, false, sym, Some}
use Rattle.pif_nodes_model.specs.Lists.{last_of}
use Rattle.pif_nodes_model.specs.Table.{list_at}
use Rattle.pif_nodes_model.proofs.ListLemmas.{last_of-has}
use Rattle.pif_nodes_model.specs.Order.{comes_before, key_in}
use Rattle.pif_nodes_model.proofs.WalkLemmas.{place_at_end}
use Rattle.pif_plist.proofs.plist.PList.place.Goals as goal

pub key-requires : goal.key-requires
key-requires c =
    let apart = c.last.ensures.apart in
    let last : last_of (list_at c.args.table.now c.args.self.now) ≡ Some c.in-Some.last = ap (λ l. last_of (list_at c.args.table.now l)) (sym c.self.view_is) ∙ sym c.last.ensures.end ∙ c.in-Some.is in
    apart.nodes c.args.self.now c.in-Some.last (apart.alone c.args.self.now c.in-Some.last (last_of-has (list_at c.args.table.now c.args.self.now) c.in-Some.last last))

pub returns-in-Some-clause-place : goal.returns-in-Some-clause-place
returns-in-Some-clause-place c =
    let last : last_of (list_at c.args.table.now c.args.self.now) ≡ Some c.in-Some.last = ap (λ l. last_of (list_at c.args.table.now l)) (sym c.self.view_is) ∙ sym c.last.ensures.end ∙ c.in-Some.is in
    let no_later : comes_before c.args.key (key_in c.args.table.now.keys c.in-Some.last) ≡ false = ap (λ z. comes_before c.args.key z) (sym c.key.ensures) ∙ sym c.precedes.ensures ∙ c.if-not-precedes.true in
    place_at_end c.args.table.now.keys c.args.key (list_at c.args.table.now c.args.self.now) c.in-Some.last c.requires.sorted last no_later
