-- Those are left that rest.
use Rattle.std.proofs.Common.{◌≡◌, ◌∙◌, filter, sym, ap, subst, arith, rules}
use Rattle.std.proofs.lemmas.Fn.{filter_same}
use Rattle.pif_desk.specs.Sleeping.{AreSleepers, rests_in}
use Rattle.pif_desk.proofs.Sleeping.{sleepers_left}
use Rattle.pif_desk.proofs.sleepers.Sleepers.wake.Goals as goal

-- what was kept
left : (c : goal.After-retain) → c.retain.new.self.items ≡ filter (rests_in c.args.room.now.core) c.self.inside.threads.items
left c = filter_same _ _ _ (λ x b f' k. search rules) _ _ c.retain.ensures.filtered

pub invariant_of-self : goal.invariant_of-self
invariant_of-self c = (
  subst AreSleepers (sym (left c))
      (sleepers_left (rests_in c.args.room.now.core) c.self.inside.threads.items c.self.invariant.0),
  omega (arith, c.self.invariant.1, c.retain.ensures.capacity),
)

pub returns : goal.returns
returns c = left c ∙ ap (filter (rests_in c.args.room.now.core)) c.self.view_is
