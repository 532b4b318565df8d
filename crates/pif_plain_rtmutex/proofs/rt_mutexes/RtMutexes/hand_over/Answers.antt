use Rattle.std.proofs.Common.{◌≡◌, None, ap, ◌∙◌}
use Rattle.pif_kernel_model.specs.Owners.{Owners, waits_on}
use Rattle.pif_kernel_model.proofs.OwnersLemmas.{sound-free, sound-handed, waits_on-freed}
use Rattle.pif_plain_rtmutex.proofs.rt_mutexes.RtMutexes.hand_over.Goals as goal

pub set_wait-requires : goal.set_wait-requires
set_wait-requires c = λ one s. sound-free c.in-Some.next c.args.self.now one s

pub set_owner-requires-clause-sound : goal.set_owner-requires-clause-sound
set_owner-requires-clause-sound c = λ s.
    let free : waits_on c.set_wait.new.self c.in-Some.next ≡ None = ap (λ (v : Owners). waits_on v c.in-Some.next) c.set_wait.ensures.put ∙ waits_on-freed c.in-Some.next c.args.self.now in
    sound-handed c.args.key c.in-Some.next c.set_wait.new.self free s
