-- From threads that are alike to states that are.
use Rattle.std.proofs.Common.{ℕ, refl, sym, subst}
use Rattle.pif_types.specs.Bounds.{Bounds}
use Rattle.pif_types.specs.declared.requests.Request.{Request}
use Rattle.pif_model.specs.declared.events.Event.TheVariants.{Begin, Go, End, Tick}
use Rattle.pif_model.specs.declared.events.Seen.TheVariants.{Begun, Answered, Ended, Ticked}
use Rattle.pif_model.specs.declared.events.Entry.TheVariants.{Step as Happened}
use Rattle.pif_model.specs.Posix.{World}
use Rattle.pif_posix_steps.specs.Once.{MovesOnce, Enters}
use Rattle.pif_posix_steps.specs.Alike.{IsAlike}
use Rattle.pif_posix_steps.proofs.AlikeMoves.{other, Follows, follows_move}
use Rattle.pif_posix_steps.proofs.AlikeEntries.{follows_begin, follows_answer, follows_tick, follows_end}

followed : (P : World → World → Type 0) (w v u : World) → IsAlike w v → Follows P w v.threads u → (o : World) × P v o × IsAlike u o
followed P w v u a f =
    (other f.threads u, subst (λ (x : World). P x (other f.threads u)) (sym a.others) f.step, record { others = refl; threads = f.alike })

pub same_move : (t : ℕ) (w v u : World) → IsAlike w v → MovesOnce t w u → (o : World) × MovesOnce t v o × IsAlike u o
same_move t w v u a x = followed (MovesOnce t) w v u a (follows_move w v.threads a.threads t x)

pub same_begin : (l : Bounds) (t : ℕ) (q : Request) (w v u : World) → IsAlike w v → Enters l w (Happened (Begin t q) Begun) u
    → (o : World) × Enters l v (Happened (Begin t q) Begun) o × IsAlike u o
same_begin l t q w v u a x =
    followed (λ y z. Enters l y (Happened (Begin t q) Begun) z) w v u a (follows_begin l w v.threads a.threads t q x)

pub same_answer : (l : Bounds) (t r : ℕ) (w v u : World) → IsAlike w v → Enters l w (Happened (Go t) (Answered r)) u
    → (o : World) × Enters l v (Happened (Go t) (Answered r)) o × IsAlike u o
same_answer l t r w v u a x =
    followed (λ y z. Enters l y (Happened (Go t) (Answered r)) z) w v u a (follows_answer l w v.threads a.threads t r x)

pub same_tick : (l : Bounds) (n : ℕ) (w v u : World) → IsAlike w v → Enters l w (Happened (Tick n) Ticked) u
    → (o : World) × Enters l v (Happened (Tick n) Ticked) o × IsAlike u o
same_tick l n w v u a x =
    followed (λ y z. Enters l y (Happened (Tick n) Ticked) z) w v u a (follows_tick l w v.threads a.threads n x)

pub same_end : (l : Bounds) (t : ℕ) (w v u : World) → IsAlike w v → Enters l w (Happened (End t) Ended) u
    → (o : World) × Enters l v (Happened (End t) Ended) o × IsAlike u o
same_end l t w v u a x =
    followed (λ y z. Enters l y (Happened (End t) Ended) z) w v u a (follows_end l w v.threads a.threads t x)
