use Rattle.std.proofs.Common.{ℕ, ◌∙◌, ◌++◌, ◌∷◌, [], List, sym, ap, nat_le, map, take, arith}
use Rattle.std.specs.List.{filter, list_all}
use Rattle.pif_model.specs.Posix.{World, effective_of}
use Rattle.pif_posix_steps.specs.Doing.{woken}
use Rattle.pif_posix.proofs.Loops.{kept_same, kept_more}
use Rattle.pif_posix.proofs.state.State.wake_one.Goals as goal

pub loop-i-preserved-then-not-is_none_above : goal.loop-i-preserved-then-not-is_none_above
loop-i-preserved-then-not-is_none_above c =
    c.loop-i.invariant
    ∙ sym (kept_same (λ u. woken c.args.thread u c.args.self.now) (λ u. list_all (λ p. nat_le p (effective_of c.args.self.now u)) c.args.left.now) c.args.blocked.now c.loop-i.i
    (omega arith)
    (ap (λ (n : ℕ). list_all (λ p. nat_le p n) c.args.left.now) (sym c.effective.ensures) ∙ sym c.is_none_above.ensures ∙ c.if-not-is_none_above.true))

pub loop-i-preserved : goal.loop-i-preserved
loop-i-preserved c =
    c.in_ok-push.ensures ∙ ap (λ (zs : List World). zs ++ c.in_ok-next.next ∷ []) c.loop-i.invariant
    ∙ ap (λ (x : World). map (λ u. woken c.args.thread u c.args.self.now) (filter (λ u. list_all (λ p. nat_le p (effective_of c.args.self.now u)) c.args.left.now) (take c.loop-i.i c.args.blocked.now)) ++ x ∷ []) c.in_ok-next.ensures
    ∙ sym (kept_more (λ u. woken c.args.thread u c.args.self.now) (λ u. list_all (λ p. nat_le p (effective_of c.args.self.now u)) c.args.left.now) c.args.blocked.now c.loop-i.i
    (omega arith)
    (ap (λ (n : ℕ). list_all (λ p. nat_le p n) c.args.left.now) (sym c.effective.ensures) ∙ sym c.is_none_above.ensures ∙ c.if-not-is_none_above.false))
