use Rattle.std.proofs.Common.{◌≡◌, Ok, ◌+◌, ap, ◌∙◌}
use Rattle.pif_model.specs.PiKernel.{System, after_takings, after_requeue}
use Rattle.pif_word.specs.WordMap.{words_of}
use Rattle.pif_kernel_model.specs.Inside.{Inside, kernel_of}
use Rattle.pif_kernel.specs.Systems.{system_of}
use Rattle.pif_kernel.proofs.TakingSound.{requeued_is}
use Rattle.pif_kernel.proofs.kernel_on.KernelOnPiKernel.cmp_requeue_pi.Goals.{After-take_all}
use Rattle.pif_kernel.proofs.kernel_on.KernelOnPiKernel.cmp_requeue_pi.Goals as goal

-- words and kernel then
after : (g : _) (c : After-take_all g) → system_of c.take_all.new.words c.take_all.new.parts
    ≡ after_requeue c.args.c c.args.m c.args.more (Ok c.take_all.result) (words_of c.args.words.now)
    (kernel_of c.args.self.now)
after g c =
    c.take_all.ensures.after
    ∙ ap (λ (p : Inside). after_takings (c.args.more + 1) c.args.c c.args.m (system_of c.args.words.now p))
    c.self.view_is
    ∙ requeued_is c.args.c c.args.m c.args.more c.take_all.result (words_of c.args.words.now)
    (kernel_of c.args.self.now)

pub returns-clause-words : goal.returns-clause-words
returns-clause-words g c =
    ap (λ (x : System). x.words) (after g (goal.at.returns-clause-words g c).After-take_all)

pub returns-clause-after : goal.returns-clause-after
returns-clause-after g c =
    ap (λ (x : System). x.kernel) (after g (goal.at.returns-clause-after g c).After-take_all)
