-- The walk goes mutex by mutex.
use Rattle.std.proofs.Common.{◌≡◌, ℕ, List, ◌∷◌, Option, None, sym, ap, ◌∙◌, subst}
use Rattle.pif_model.specs.RobustList.{Robust, robust_at, walk_of, has_entry, IsRobust}
use Rattle.pif_model.specs.Table.{Table}
use Rattle.pif_model_lemmas.specs.RobustWalks.{first_or, behind, ahead}
use Rattle.pif_model_lemmas.proofs.RobustWalks.{first-ahead, first-on, next-ahead, next-on, next-smaller}
use Rattle.pif_mutex.proofs.EndedCounts.{held_once_first, held_once_more, held_once_last, held_once_lists}
use Rattle.pif_mutex.proofs.state.State.reset_counts.Goals as goal

pub loop-next-init : goal.loop-next-init
loop-next-init g c =
    let s : Table = c.args.self.now in
    let ms : List ℕ = walk_of (robust_at s.lists c.args.t) in
    let sound : IsRobust s.lists
    = subst IsRobust (ap (λ (v : Table). v.lists) c.self.view_is) c.walk_first-next.ensures.sound in
    let first : c.walk_first-next.result ≡ first_or ms None
    = c.walk_first-next.ensures.first
    ∙ ap (λ (v : Table). first_or (walk_of (robust_at v.lists c.args.t)) None) c.self.view_is in
    record {
      on = first-on s.lists c.args.t sound first;
      held = held_once_first c.args.t (ahead c.walk_first-next.result ms) ms s
          (first-ahead s.lists c.args.t sound first);
    }

pub walk_next-next-requires : goal.walk_next-next-requires
walk_next-next-requires g c =
    let s : Table = c.args.self.now in
    let ms : List ℕ = walk_of (robust_at s.lists c.args.t) in
    ap (λ (v : Table). has_entry (walk_of (robust_at v.lists c.args.t)) c.in-Some.m) c.self-in-Some.view_is
    ∙ ap (λ (r : Robust). has_entry (walk_of (robust_at r c.args.t)) c.in-Some.m)
    (held_once_lists c.args.t c.in-Some.m (ahead c.loop-next.next ms) ms s c.loop-next.self c.reset_count.new.self
    c.loop-next.invariant.held c.reset_count.ensures)
    ∙ c.loop-next.invariant.on c.in-Some.m c.in-Some.is

pub loop-next-smaller : goal.loop-next-smaller
loop-next-smaller g c =
    let s : Table = c.args.self.now in
    let ms : List ℕ = walk_of (robust_at s.lists c.args.t) in
    let sound : IsRobust s.lists
    = subst IsRobust (ap (λ (v : Table). v.lists) c.self.view_is) c.walk_first-next.ensures.sound in
    let next : c.walk_next-next.result ≡ first_or (behind c.in-Some.m ms) None
    = c.walk_next-next.ensures.next
    ∙ ap (λ (v : Table). first_or (behind c.in-Some.m (walk_of (robust_at v.lists c.args.t))) None)
    c.self-in-Some.view_is
    ∙ ap (λ (r : Robust). first_or (behind c.in-Some.m (walk_of (robust_at r c.args.t))) None)
    (held_once_lists c.args.t c.in-Some.m (ahead c.loop-next.next ms) ms s c.loop-next.self c.reset_count.new.self
    c.loop-next.invariant.held c.reset_count.ensures) in
    next-smaller s.lists c.args.t sound c.in-Some.m next c.in-Some.is

pub loop-next-preserved : goal.loop-next-preserved
loop-next-preserved g c =
    let s : Table = c.args.self.now in
    let ms : List ℕ = walk_of (robust_at s.lists c.args.t) in
    let sound : IsRobust s.lists
    = subst IsRobust (ap (λ (v : Table). v.lists) c.self.view_is) c.walk_first-next.ensures.sound in
    let next : c.walk_next-next.result ≡ first_or (behind c.in-Some.m ms) None
    = c.walk_next-next.ensures.next
    ∙ ap (λ (v : Table). first_or (behind c.in-Some.m (walk_of (robust_at v.lists c.args.t))) None)
    c.self-in-Some.view_is
    ∙ ap (λ (r : Robust). first_or (behind c.in-Some.m (walk_of (robust_at r c.args.t))) None)
    (held_once_lists c.args.t c.in-Some.m (ahead c.loop-next.next ms) ms s c.loop-next.self c.reset_count.new.self
    c.loop-next.invariant.held c.reset_count.ensures) in
    record {
      on = next-on s.lists c.args.t sound c.in-Some.m next;
      held = held_once_more c.args.t c.in-Some.m (ahead c.loop-next.next ms) (ahead c.walk_next-next.result ms) ms s
          c.loop-next.self c.reset_count.new.self
          (ap (λ (o : Option ℕ). ahead o ms) c.in-Some.is
          ∙ ap (λ (ks : List ℕ). c.in-Some.m ∷ ks) (sym (next-ahead s.lists c.args.t sound c.in-Some.m next)))
          c.loop-next.invariant.held c.reset_count.ensures;
    }

pub returns : goal.returns
returns g c =
    let s : Table = c.args.self.now in
    let ms : List ℕ = walk_of (robust_at s.lists c.args.t) in
    held_once_last c.args.t (ahead c.loop-next.next ms) ms s c.loop-next.self
    (ap (λ (o : Option ℕ). ahead o ms) c.in_default.is) c.loop-next.invariant.held
