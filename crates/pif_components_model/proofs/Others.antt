-- The other side: the sides don't meet seen from either, and moves of two sides come in either order.
use Rattle.std.proofs.Common.{ℕ, ◌≡◌, true, false, not, ap}
use Rattle.pif_model.specs.Posix.{World}
use Rattle.pif_posix_steps.specs.Once.{MovesOnce}
use Rattle.pif_components_model.specs.Components.{Side, others}
use Rattle.pif_components_model.specs.Components.Name.{OfThread}
use Rattle.pif_components_model.specs.Sides.{Agrees, IsSplit}
use Rattle.pif_components_model.proofs.Frames.{agrees_then, agrees_back}
use Rattle.pif_components_model.proofs.FramedMoves.{passes_move}
use Rattle.pif_components_model.proofs.Echoes.{Echo, echo_move}

-- the sides don't meet seen from the other one
pub split_others : (x : Side) (w : World) → IsSplit x w → IsSplit (others x) w
split_others x w s = record {
  calls = λ t q e. record {
    sides = λ n k. ap not ((s.calls t q e).sides n k);
    mutex = (s.calls t q e).mutex;
    variable = (s.calls t q e).variable;
  };
  waiters = λ u m h. (ap not (s.waiters u m h).0, (s.waiters u m h).1);
  owners = λ m h. (ap not (s.owners m h).0, (s.owners m h).1);
}

-- a move of each side is possible behind that of the other, and what comes of either order agrees on both sides
pub moves_commute : (x : Side) (t u : ℕ) (w v z : World) → IsSplit x w → x (OfThread t) ≡ true → x (OfThread u) ≡ false
    → MovesOnce t w v → MovesOnce u w z
    → (k : World) × (l : World) × MovesOnce u v k × MovesOnce t z l × Agrees x k l × Agrees (others x) k l
moves_commute x t u w v z s on off a b =
    let s' : IsSplit (others x) w = split_others x w s in
    let p = passes_move x t w s a in
    let q = passes_move x u w s b in
    let p' = passes_move (others x) t w s' a in
    let q' = passes_move (others x) u w s' b in
    let e : Echo x (MovesOnce t z) v = echo_move x w z s q.split (q.frame off) t on a in
    let f : Echo (others x) (MovesOnce u v) z = echo_move (others x) w v s' p'.split (p'.frame (ap not on)) u (ap not off) b in
    let last = passes_move x u v p.split f.step in
    let last' = passes_move (others x) t z q'.split e.step in (
      f.after,
      e.after,
      f.step,
      e.step,
      agrees_then x (agrees_back x (last.frame off)) e.agrees,
      agrees_then (others x) (agrees_back (others x) f.agrees) (last'.frame (ap not on)),
    )
