use Rattle.std.proofs.Common.{◌≡◌, ℕ, ◌+◌, true}
use Rattle.pif_model.specs.PiKernel.{has_parked, parked_count, after_takings}
use Rattle.pif_word.specs.declared.cells.Cell.TheVariants.{Mutex}
use Rattle.pif_word.specs.WordMap.{HasCell}
use Rattle.pif_kernel_model.specs.Inside.{IsSoundInside, kernel_of}
use Rattle.pif_kernel.specs.Systems.{system_of}
use Rattle.pif_kernel_model.specs.Takings.{FitsWord}
use Rattle.pif_kernel.proofs.requeueing.take_all.Given as goal

-- the takings that are left lead to what all lead to, and each that was done took one that was parked
abbrev pub invariant-loop-taken : goal.invariant-loop-taken
invariant-loop-taken g l = record {
  sound : IsSoundInside l.parts;
  word : HasCell l.words (Mutex l.m);
  fits : has_parked (kernel_of l.parts) l.c ≡ true → FitsWord l.m (system_of l.words l.parts);
  count : parked_count (kernel_of l.parts) l.c + l.taken ≡ parked_count (kernel_of l.initial.parts) l.c;
  after : (n : ℕ) → n + l.taken ≡ l.more + 1
      → after_takings n l.c l.m (system_of l.words l.parts)
      ≡ after_takings (l.more + 1) l.c l.m (system_of l.initial.words l.initial.parts);
}
