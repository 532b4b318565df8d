use Rattle.std.proofs.Common.{ℕ, List, sym, ap, ◌∙◌}
use Rattle.pif_model.specs.PiKernel.{System, after_deaths}
use Rattle.pif_model.specs.RobustList.{robust_at, walk_of}
use Rattle.pif_model_lemmas.proofs.kernel.Exit.{deaths-none, deaths-more}
use Rattle.pif_model_lemmas.specs.RobustWalks.{behind, ahead}
use Rattle.pif_model_lemmas.proofs.RobustWalks.{first-ahead, first-on, next-ahead, next-on, next-smaller}
use Rattle.pif_kernel.specs.Systems.{system_of}
use Rattle.pif_kernel.proofs.dying.pass_all_on.Goals as goal

pub loop-next-init : goal.loop-next-init
loop-next-init g c =
    let sound = c.walk_first-next.ensures.sound in
    let first = c.walk_first-next.ensures.first in
    record {
      on = first-on c.args.lists.now c.args.t sound first;
      after = ap (λ (ms : List ℕ). after_deaths c.args.t ms (system_of c.args.words.now c.args.parts.now))
          (first-ahead c.args.lists.now c.args.t sound first);
      sound = c.requires.sound;
      ended = c.requires.ended;
    }

pub walk_next-next-requires : goal.walk_next-next-requires
walk_next-next-requires g c = c.loop-next.invariant.on c.in-Some.m c.in-Some.is

pub loop-next-smaller : goal.loop-next-smaller
loop-next-smaller g c = next-smaller c.args.lists.now c.args.t c.walk_first-next.ensures.sound c.in-Some.m
    c.walk_next-next.ensures.next c.in-Some.is

pub loop-next-preserved : goal.loop-next-preserved
loop-next-preserved g c =
    let x : System = system_of c.loop-next.words c.loop-next.parts in
    let y : System = system_of c.pass_on.new.words c.pass_on.new.parts in
    let ms : List ℕ = walk_of (robust_at c.args.lists.now c.args.t) in
    let sound = c.walk_first-next.ensures.sound in
    let next = c.walk_next-next.ensures.next in
    record {
      on = next-on c.args.lists.now c.args.t sound c.in-Some.m next;
      after = ap (λ (ks : List ℕ). after_deaths c.args.t ks y)
          (next-ahead c.args.lists.now c.args.t sound c.in-Some.m next)
          ∙ ap (after_deaths c.args.t (behind c.in-Some.m ms)) c.pass_on.ensures.after
          ∙ sym (deaths-more c.args.t c.in-Some.m (behind c.in-Some.m ms) x)
          ∙ ap (λ o. after_deaths c.args.t (ahead o ms) x) (sym c.in-Some.is)
          ∙ c.loop-next.invariant.after;
      sound = c.pass_on.ensures.sound;
      ended = c.pass_on.ensures.ended;
    }

pub returns-clause-after : goal.returns-clause-after
returns-clause-after g c =
    let x : System = system_of c.loop-next.words c.loop-next.parts in
    let ms : List ℕ = walk_of (robust_at c.args.lists.now c.args.t) in
    sym (deaths-none c.args.t x) ∙ ap (λ o. after_deaths c.args.t (ahead o ms) x) (sym c.in_default.is)
    ∙ c.loop-next.invariant.after
