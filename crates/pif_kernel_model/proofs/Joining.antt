-- If nothing is left to repair but at one thread, and each thread of the run queue waits for nobody and is on the
-- level of its effective priority, at most one thread joins another level.
use Rattle.std.proofs.Common.{◌≡◌, ◌≢◌, ◌⊎◌, ◌≤◌, ℕ, suc, true, false, ◌==◌, not, Option, Some, None, length, refl, sym, ap, ◌∙◌, subst, inl, inr}
use Rattle.std.proofs.lemmas.Bool.{cases_Bool, and_parts, eqb-true, eq-eqb, true≢false}
use Rattle.pif_nodes_model.specs.Lists.{has}
use Rattle.pif_nodes_model.specs.Table.{NodeLists}
use Rattle.pif_model.specs.Graph.{reaches_within, Reaches}
use Rattle.pif_model.specs.Graph.Reaches.{here, hop}
use Rattle.pif_model_lemmas.proofs.Following.{Follows}
use Rattle.pif_model_lemmas.proofs.Hops.{alone}
use Rattle.pif_nodes_model.specs.Levels.{Queue, IsLevel, level_of, level_with, Holds, IsQueued}
use Rattle.pif_nodes_model.proofs.LevelLemmas.{queued_on}
use Rattle.pif_nodes_model.proofs.LevelWithLemmas.{listed-from_level_with}
use Rattle.pif_kernel_model.specs.Owners.{Owners, waits_on, waits_for, WaitsFor, AreSoundOwners}
use Rattle.pif_kernel_model.specs.Boosts.{IsThread, base_of, local_of, greatest_base, is_other, joins, IsRepairedBut}
use Rattle.pif_kernel_model.proofs.Greatest.{closes, waits_for-none, local_is_greatest}
use Rattle.pif_kernel_model.proofs.Walks.{admitted_row}

-- two ends of chains from one thread are one
ends_same : (w : ℕ → ℕ) {s x y : ℕ} → Reaches (Follows w) s x → w x ≡ 0 → Reaches (Follows w) s y → w y ≡ 0 → x ≡ y
ends_same w (here e) zx r zy = sym e ∙ alone w (ap w e ∙ zx) r
ends_same w (hop a r) zx (here e) zy = absurd (a.1 (sym a.0 ∙ ap w e ∙ zy))
ends_same w {y = y} (hop a r) zx (hop b f) zy =
    ends_same w r zx (subst (λ (z : ℕ). Reaches (Follows w) z y) (sym b.0 ∙ a.0) f) zy

-- a level that is another one
other_level : (p : ℕ) (o : Option ℕ) → is_other p o ≡ true → (l : ℕ) × (o ≡ Some l) × (l ≢ p)
other_level p None e = absurd cc
other_level p (Some l) e = (l, refl, λ s. true≢false (sym e ∙ ap not (eq-eqb l p s)))

module _ (v : Owners) (q : Queue) (t : NodeLists) (start : ℕ) (sound : AreSoundOwners v) (repaired : IsRepairedBut start v)
    (holds : Holds q t)
    (ready : (u : ℕ) → IsQueued q t u → 1 ≤ base_of v u) (running : (u : ℕ) → IsQueued q t u → waits_on v u ≡ None)
    (level : (u p : ℕ) → IsLevel p → has u (level_of q t p) ≡ true → p ≡ local_of v u) where
  -- who joins a level is reached from `start`, and waits for nobody
  joining_end : (p u : ℕ) → joins v q t p u ≡ true → Reaches (WaitsFor v) start u × (waits_for v u ≡ 0)
  joining_end p u e =
      let parts = and_parts (greatest_base v u == p) (is_other p (level_with q t u)) e in
      let l = other_level p (level_with q t u) parts.1 in
      let on = listed-from_level_with q t u l.0 holds l.1 in
      let queued : IsQueued q t u = (l.0, on.0, on.1) in
      let th : IsThread v u = ((queued_on q t u holds queued).some, admitted_row v u (ready u queued)) in
      let differs : local_of v u ≢ greatest_base v u =
      λ s. l.2 (level u l.0 on.0 on.1 ∙ s ∙ eqb-true (greatest_base v u) p parts.0) in (
        reached th differs (cases_Bool (reaches_within (suc (length v.seats)) (waits_for v) start u)),
        waits_for-none v
            u (running u queued),
      )
    where
      reached : IsThread v u → local_of v u ≢ greatest_base v u
          → ((reaches_within (suc (length v.seats)) (waits_for v) start u ≡ true)
          ⊎ (reaches_within (suc (length v.seats)) (waits_for v) start u ≡ false))
          → Reaches (WaitsFor v) start u
      reached th differs (inl found) = (closes v start u _ refl).0 found
      reached th differs (inr missed) =
          absurd (differs (local_is_greatest v start sound repaired u th
          (λ r. true≢false (sym ((closes v start u _ refl).1 r) ∙ missed))))

  -- so at most one does
  pub one_joins : (p r x y : ℕ) → joins v q t p x ≡ true → joins v q t r y ≡ true → x ≡ y
  one_joins p r x y a b =
      let first = joining_end p x a in
      let second = joining_end r y b in
      ends_same (waits_for v) first.0 first.1 second.0 second.1
