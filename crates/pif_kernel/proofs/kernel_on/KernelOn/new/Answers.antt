use Rattle.pif_kernel.proofs.kernel_on.KernelOn.new.Goals as goal

pub invariant_of-result : goal.invariant_of-result
invariant_of-result g c = c.in_ok-parts.ensures.sound

pub returns-clause-kept : goal.returns-clause-kept
returns-clause-kept g c = c.in_ok-parts.ensures.sound.kernel
