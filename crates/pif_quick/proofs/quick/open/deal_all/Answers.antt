use Rattle.std.proofs.Common.{◌≡◌, ℕ, ◌+◌, arith, ap, ◌∙◌, sym, subst, length, slice_get}
use Rattle.pif_quick.specs.Quick.{IsDealtPass}
use Rattle.pif_quick.proofs.Steps.{Known}
use Rattle.pif_quick.proofs.Opening.{page_allowed, each_got}
use Rattle.pif_quick.proofs.quick.open.deal_all.Goals as goal

pub load-requires : goal.load-requires
load-requires g c =
    let d = c.in_ok-pass.ensures.dealer in
    (d.0, omega (arith, c.requires.sized), page_allowed _ _ _ _ _ c.deal.new.dealer d.1)

pub loop-index-preserved : goal.loop-index-preserved
loop-index-preserved g c =
    let h = c.loop-index.invariant in
    let d = c.in_ok-pass.ensures.dealer in
    let starts = c.args.shelf.now.key.value.items in
    let last : length c.loop-index.dealt.items ≡ c.loop-index.index = sym c.loop-index.dealt.ok.0 ∙ h.counted in
    record {
      table = c.load.ensures.0 ∙ d.0;
      dealer = c.load.ensures.2
          ∙ ap (λ (m : Known g.row.T.Denot). (record m.0 { pass = m.0.pass + 1; word = 0 }, m.1)) d.1;
      counted = c.push_within.ensures.len ∙ ap (λ (n : ℕ). n + 1) h.counted;
      room = omega arith;
      dealt = λ k p e. each_got (λ j x. IsDealtPass starts c.args.shelf.now.table_id c.args.count (j + 1) x)
          c.loop-index.dealt.items c.in_ok-pass.pass h.dealt
          (subst (λ (j : ℕ). IsDealtPass starts c.args.shelf.now.table_id c.args.count (j + 1) c.in_ok-pass.pass)
          (sym last) c.in_ok-pass.ensures.dealt)
          k p (ap (λ l. slice_get l k) (sym c.push_within.ensures.items) ∙ e);
    }
