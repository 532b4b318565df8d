use Rattle.std.proofs.Common.{◌≡◌, ◌∙◌, ◌<◌, ap, ℕ, false, sym, subst, Option, Some}
use Rattle.pif_nodes_model.specs.Lists.{next_in_list}
use Rattle.pif_nodes_model.specs.Table.{list_at}
use Rattle.pif_nodes_model.specs.Order.{comes_before, key_in}
use Rattle.pif_nodes_model.proofs.WalkLemmas.{IsWalked, left, walk_has, walk_step, walk_smaller, next_of_is}
use Rattle.pif_plist.proofs.plist.PList.walk.Goals as goal

pub key-requires : goal.key-requires
key-requires c =
    let walked : IsWalked c.args.table.now.keys c.args.key (list_at c.args.table.now c.args.self.now) c.loop-next.place (Some c.in-Some.node) = subst (λ (o : Option ℕ). IsWalked c.args.table.now.keys c.args.key (list_at c.args.table.now c.args.self.now) c.loop-next.place o) c.in-Some.is c.loop-next.invariant in
    let in' = walk_has c.args.table.now.keys c.args.key (list_at c.args.table.now c.args.self.now) c.loop-next.place c.in-Some.node walked in
    c.top-next.ensures.apart.nodes c.args.self.now c.in-Some.node (c.top-next.ensures.apart.alone c.args.self.now c.in-Some.node in')

pub next-next-requires : goal.next-next-requires
next-next-requires c =
    let walked : IsWalked c.args.table.now.keys c.args.key (list_at c.args.table.now c.args.self.now) c.loop-next.place (Some c.in-Some.node) = subst (λ (o : Option ℕ). IsWalked c.args.table.now.keys c.args.key (list_at c.args.table.now c.args.self.now) c.loop-next.place o) c.in-Some.is c.loop-next.invariant in
    let in' = walk_has c.args.table.now.keys c.args.key (list_at c.args.table.now c.args.self.now) c.loop-next.place c.in-Some.node walked in
    c.top-next.ensures.apart.nodes c.args.self.now c.in-Some.node (c.top-next.ensures.apart.alone c.args.self.now c.in-Some.node in')

pub loop-next-smaller : goal.loop-next-smaller
loop-next-smaller c =
    let walked : IsWalked c.args.table.now.keys c.args.key (list_at c.args.table.now c.args.self.now) c.loop-next.place (Some c.in-Some.node) = subst (λ (o : Option ℕ). IsWalked c.args.table.now.keys c.args.key (list_at c.args.table.now c.args.self.now) c.loop-next.place o) c.in-Some.is c.loop-next.invariant in
    let in' = walk_has c.args.table.now.keys c.args.key (list_at c.args.table.now c.args.self.now) c.loop-next.place c.in-Some.node walked in
    let apart = c.top-next.ensures.apart in
    let next : c.next-next.result ≡ next_in_list (list_at c.args.table.now c.args.self.now) c.in-Some.node = c.next-next.ensures.neighbour ∙ next_of_is c.args.table.now c.args.self.now c.in-Some.node apart in' in
    subst (λ (o : Option ℕ). left c.next-next.result (list_at c.args.table.now c.args.self.now) < left o (list_at c.args.table.now c.args.self.now)) (sym c.in-Some.is) (walk_smaller c.args.table.now.keys c.args.key (list_at c.args.table.now c.args.self.now) c.loop-next.place c.in-Some.node walked c.next-next.result (apart.once c.args.self.now) next)

pub loop-next-preserved : goal.loop-next-preserved
loop-next-preserved c =
    let walked : IsWalked c.args.table.now.keys c.args.key (list_at c.args.table.now c.args.self.now) c.loop-next.place (Some c.in-Some.node) = subst (λ (o : Option ℕ). IsWalked c.args.table.now.keys c.args.key (list_at c.args.table.now c.args.self.now) c.loop-next.place o) c.in-Some.is c.loop-next.invariant in
    let in' = walk_has c.args.table.now.keys c.args.key (list_at c.args.table.now c.args.self.now) c.loop-next.place c.in-Some.node walked in
    let apart = c.top-next.ensures.apart in
    let next : c.next-next.result ≡ next_in_list (list_at c.args.table.now c.args.self.now) c.in-Some.node = c.next-next.ensures.neighbour ∙ next_of_is c.args.table.now c.args.self.now c.in-Some.node apart in' in
    let no_later : comes_before c.args.key (key_in c.args.table.now.keys c.in-Some.node) ≡ false = ap (λ z. comes_before c.args.key z) (sym c.key.ensures) ∙ sym c.precedes.ensures ∙ c.if-precedes.false in
    walk_step c.args.table.now.keys c.args.key (list_at c.args.table.now c.args.self.now) c.loop-next.place c.in-Some.node walked c.next-next.result (apart.once c.args.self.now) no_later next
