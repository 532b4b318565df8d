use Rattle.pif_robust.proofs.CallLemmas.{Shows-half_linked}
use Rattle.pif_robust.proofs.lists.RobustLists.link_next.Goals as goal

pub invariant_of-self : goal.invariant_of-self
invariant_of-self c = (Shows-half_linked c.self.view_is c.self.invariant
    c.get.ensures.value c.index.ensures c.get-2.ensures.range c.get-2.ensures.value c.get-3.ensures.range
    c.get-3.ensures.value c.index_mut-2.ensures.value
    c.requires.thread c.requires.mutex c.requires.unlisted c.requires.half_linked).invariant

pub returns : goal.returns
returns c =
    let now = Shows-half_linked c.self.view_is c.self.invariant
    c.get.ensures.value c.index.ensures c.get-2.ensures.range c.get-2.ensures.value c.get-3.ensures.range
    c.get-3.ensures.value c.index_mut-2.ensures.value
    c.requires.thread c.requires.mutex c.requires.unlisted c.requires.half_linked in
    record { half_linked = now.view; sound = now.sound }
