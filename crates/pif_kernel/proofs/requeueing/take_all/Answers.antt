use Rattle.std.proofs.Common.{◌≡◌, ℕ, suc, ◌+◌, ◌-◌, true, false, sym, ap, ◌∙◌, arith}
use Rattle.pif_model.specs.declared.lines.Status.TheVariants.{Parked}
use Rattle.pif_model.specs.PiKernel.{System, seat_at, is_parked, has_parked, top_parked, parked_count, after_taking, after_takings}
use Rattle.pif_model_lemmas.proofs.kernel.Woken.{top-parked}
use Rattle.pif_model_lemmas.proofs.kernel.Taken.{takings-none, takings-more}
use Rattle.pif_kernel_model.specs.Inside.{kernel_of}
use Rattle.pif_kernel.specs.Systems.{system_of}
use Rattle.pif_kernel_model.proofs.RequeueAnswers.{count_none}
use Rattle.pif_kernel.proofs.TakingSound.{taken_cell, taken_fits, taken_count, count_few, min_first, takings_zero, next_some, next_none}
use Rattle.pif_kernel.proofs.requeueing.take_all.Goals.{In-Some, In-None}
use Rattle.pif_kernel.proofs.requeueing.take_all.Goals as goal

-- who is next
next : (g : _) (c : In-Some g) → (has_parked (kernel_of c.loop-taken.parts) c.args.c ≡ true)
    × (c.in-Some.u ≡ top_parked (kernel_of c.loop-taken.parts) c.args.c)
next g c =
    next_some (has_parked (kernel_of c.loop-taken.parts) c.args.c) (top_parked (kernel_of c.loop-taken.parts) c.args.c)
    c.in-Some.u c.next_parked.result c.in-Some.is c.next_parked.ensures.next

-- it is parked on the variable
was : (g : _) (c : In-Some g) → (seat_at (kernel_of c.loop-taken.parts) c.in-Some.u).status ≡ Parked c.args.c
was g c =
    ap (λ (v : ℕ). (seat_at (kernel_of c.loop-taken.parts) v).status) (next g c).1
    ∙ top-parked (kernel_of c.loop-taken.parts) c.loop-taken.invariant.sound.kernel c.args.c (next g c).0

-- nobody is next
nobody : (g : _) (c : In-None g) → has_parked (kernel_of c.loop-taken.parts) c.args.c ≡ false
nobody g c =
    next_none (has_parked (kernel_of c.loop-taken.parts) c.args.c) (top_parked (kernel_of c.loop-taken.parts) c.args.c)
    c.next_parked.result c.in-None.is c.next_parked.ensures.next

pub take-requires-clause-parked : goal.take-requires-clause-parked
take-requires-clause-parked g c = ap is_parked (was g (goal.at.take-requires-clause-parked g c).In-Some)

pub loop-taken-preserved : goal.loop-taken-preserved
loop-taken-preserved g c =
    let a = goal.at.loop-taken-preserved g c in
    let n = next g a.In-Some in
    let parked = was g a.In-Some in
    let x : System = system_of c.loop-taken.words c.loop-taken.parts in
    let after : system_of c.take.new.words c.take.new.parts
    ≡ after_taking (top_parked (kernel_of c.loop-taken.parts) c.args.c) c.args.m x
    = c.take.ensures.after ∙ ap (λ (u : ℕ). after_taking u c.args.m x) n.1 in
    let fewer : parked_count (kernel_of c.take.new.parts) c.args.c + 1
    ≡ parked_count (kernel_of c.loop-taken.parts) c.args.c
    = ap (λ (y : System). parked_count y.kernel c.args.c + 1) after
    ∙ taken_count x c.args.c c.args.m c.loop-taken.invariant.sound.kernel n.0 in
    record {
      sound = c.take.ensures.sound;
      word = taken_cell c.loop-taken.words c.loop-taken.parts c.loop-taken.invariant.sound c.in-Some.u c.args.c c.args.m
          parked c.take.new.words c.take.new.parts c.loop-taken.invariant.word c.take.ensures.after;
      fits = λ e. taken_fits c.loop-taken.words c.loop-taken.parts c.loop-taken.invariant.sound c.in-Some.u c.args.c
          c.args.m parked c.take.new.words c.take.new.parts
          (λ z. absurd (omega (arith, c.loop-taken.invariant.word.0, z))) c.take.ensures.mutex
          (c.loop-taken.invariant.fits n.0) c.take.ensures.after;
      count = omega (arith, fewer, c.loop-taken.invariant.count);
      after = λ k e. ap (after_takings k c.args.c c.args.m) after
          ∙ sym (takings-more k c.args.c c.args.m x n.0)
          ∙ c.loop-taken.invariant.after (suc k) (omega (arith, e));
    }

pub returns-in-None-clause-count : goal.returns-in-None-clause-count
returns-in-None-clause-count g c =
    let none = nobody g (goal.at.returns-in-None-clause-count g c).In-None in
    let all : c.loop-taken.taken ≡ parked_count (kernel_of c.args.parts.now) c.args.c
    = omega (
      arith,
      c.loop-taken.invariant.count,
      count_none (kernel_of c.loop-taken.parts).parked c.args.c none,
    ) in
    all
    ∙ min_first (parked_count (kernel_of c.args.parts.now) c.args.c) (c.args.more + 1)
    (omega (arith, all, c.loop-taken-test.true, c.from-taken-end.ensures))

pub returns-in-None-clause-after : goal.returns-in-None-clause-after
returns-in-None-clause-after g c =
    let none = nobody g (goal.at.returns-in-None-clause-after g c).In-None in
    let x : System = system_of c.loop-taken.words c.loop-taken.parts in
    let left : ℕ = c.args.more + 1 - c.loop-taken.taken in
    sym (takings-none left c.args.c c.args.m x none)
    ∙ c.loop-taken.invariant.after left (omega (arith, c.loop-taken-test.true, c.from-taken-end.ensures))

pub overflow_add-result : goal.overflow_add-result
overflow_add-result g c =
    omega (
      arith,
      c.loop-taken-test.false,
      c.from-taken-end.ensures,
      c.loop-taken.invariant.count,
      count_few c.args.parts.now c.requires.sound c.args.c,
    )

pub returns-clause-after : goal.returns-clause-after
returns-clause-after g c =
    let x : System = system_of c.loop-taken.words c.loop-taken.parts in
    sym (takings_zero c.args.c c.args.m x)
    ∙ c.loop-taken.invariant.after 0
    (omega (arith, c.loop-taken-test.false, c.loop-taken.auto.taken-end, c.from-taken-end.ensures))
