use Rattle.std.proofs.Common.{ℕ, suc, ◌≡◌, ◌+◌, ◌∙◌, List, [], ◌∷◌, ◌++◌, ap, arith}
use Rattle.pif_types.specs.declared.requests.Health.{Health}
use Rattle.pif_job_explore.specs.Cores.{Stand}
use Rattle.pif_job_explore.specs.Looking.{health_of, owner_of, standings}
use Rattle.pif_job_explore.proofs.player.Player.standings.Goals as goal

standing_more : (s : Stand) (n : ℕ) (old new : List (ℕ × Health)) (o : ℕ) (h : Health) → old ≡ standings s n → o ≡ owner_of s (n + 1)
    → h ≡ health_of s (n + 1) → new ≡ old ++ (o, h) ∷ [] → new ≡ standings s (n + 1)
standing_more s n old new o h e f g more =
    let next : suc n ≡ n + 1 = omega arith in
    more ∙ (λ i. e i ++ (f i, g i) ∷ []) ∙ ap (standings s) next

pub loop-before-preserved : goal.loop-before-preserved
loop-before-preserved c =
    standing_more c.args.self.now c.loop-before.before c.loop-before.all.items c.push-in-loop-before.new.items.items c.owner.result c.health.result
    c.loop-before.invariant (c.owner.ensures ∙ ap (owner_of c.args.self.now) c.mutex_at-mutex.ensures)
    (c.health.ensures ∙ ap (health_of c.args.self.now) c.mutex_at-mutex.ensures) c.in_ok-push-2.ensures
