use Rattle.std.proofs.Common.{◌≡◌, ◌∙◌, ap, sym, subst, rules}
use Rattle.pif_kernel_model.specs.Parked.{ParkedLists, no_parked, parked_at, HoldsParked, HasRoomForParked}
use Rattle.pif_queue.proofs.ParkedLemmas.{holds-no_parked, nobody-parked}
use Rattle.pif_queue.proofs.parked_lists.ParkedLists.new.Goals as goal

pub returns-clause-holds : goal.returns-clause-holds
returns-clause-holds c = λ t room.
    let now : record {
      first_list = c.args.first_list;
      first_node = c.args.first_node;
      threads = c.args.threads;
      conds = c.args.conds;
      places = c.in_ok-places.places.items;
      differing = c.in_ok-differing.differing.items;
    } ≡ no_parked c.args.first_list c.args.first_node c.args.threads c.args.conds = search rules in
    subst (λ (p : ParkedLists). HoldsParked p t) (sym now)
    (holds-no_parked c.args.first_list c.args.first_node c.args.threads c.args.conds t
    (subst (λ (p : ParkedLists). HasRoomForParked p t) now room))

pub returns-clause-nobody : goal.returns-clause-nobody
returns-clause-nobody c = λ t u.
    let now : record {
      first_list = c.args.first_list;
      first_node = c.args.first_node;
      threads = c.args.threads;
      conds = c.args.conds;
      places = c.in_ok-places.places.items;
      differing = c.in_ok-differing.differing.items;
    } ≡ no_parked c.args.first_list c.args.first_node c.args.threads c.args.conds = search rules in
    ap (λ (p : ParkedLists). parked_at p t u) now
    ∙ nobody-parked c.args.first_list c.args.first_node c.args.threads c.args.conds t u
