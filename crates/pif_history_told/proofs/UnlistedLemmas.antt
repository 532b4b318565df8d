-- The first answer of a run that no page has, step by step.
use Rattle.std.proofs.Common.{◌≡◌, ℕ, ◌==◌, ◌||◌, ◌+◌, Bool, true, false, not, List, [], ◌∷◌, Option, Some, None, refl, sym, subst}
use Rattle.std.specs.Prelude.{if◌then◌else◌}
use Rattle.std.specs.List.{list_any}
use Rattle.pif_types.specs.Bounds.{Bounds}
use Rattle.pif_types.specs.declared.requests.Request.{Request}
use Rattle.pif_types.specs.declared.requests.Request.TheVariants.{Consistent, Wait, Signal, Broadcast}
use Rattle.pif_model.specs.NamedNumbers.{EPERM, EINVAL, EDEADLK}
use Rattle.pif_model.specs.World.{Call, World, thread_at}
use Rattle.pif_search.specs.Runs.{Runs}
use Rattle.pif_rules_model.specs.declared.rules.Rules.{Rules}
use Rattle.pif_history_model.specs.declared.labels.Label.{Label}
use Rattle.pif_history_model.specs.declared.labels.Label.TheVariants.{Shown, Moves, Ends}
use Rattle.pif_history_model.specs.declared.lines.Line.{Line}
use Rattle.pif_history_model.specs.declared.lines.Line.TheVariants.{Answer}
use Rattle.pif_history_model.specs.Searched.{Configuration, Advances, start_of}
use Rattle.pif_history_told.specs.Steps.{IsStepBy}
use Rattle.pif_history_told.specs.Ways.{IsRun}
use Rattle.pif_history_told.specs.declared.unlisted.Sought.{Sought}
use Rattle.pif_history_told.specs.declared.unlisted.Unlisted.{Unlisted}
use Rattle.pif_history_told.specs.Unlisted.{HasFirst, IsFirstUnlisted, first_of, is_suspect, is_suspect_line, is_torn, is_unlisted, may_be_unlisted, nothing_sought, unlisted_at, unlisted_call, with_step}
use Rattle.pif_history_told.specs.Unlisted.HasFirst.{start as has_start, then as has_then}
use Rattle.pif_history_told.proofs.Splitting.{by_set}

-- one step more
pub HasFirst-step : (r : Rules) (l : Bounds) (xs ys : List Label) (x : Label) (q : Rules) (s to : Configuration) (u v : Sought)
    → ys ≡ x ∷ xs → IsStepBy r l s x q to → v ≡ with_step x s.wide.world u → HasFirst r l xs s u → HasFirst r l ys to v
HasFirst-step r l xs ys x q s to u v more by grown told =
    subst (λ (zs : List Label). HasFirst r l zs to v) (sym more)
    (subst (λ (b : Sought). HasFirst r l (x ∷ xs) to b) (sym grown) (has_then x q to told by))

-- before the first step
pub HasFirst-start : (r : Rules) (l : Bounds) (xs : List Label) (s : Configuration) (u : Sought) → xs ≡ [] → s ≡ start_of l
    → u ≡ nothing_sought → HasFirst r l xs s u
HasFirst-start r l xs s u none first nothing =
    subst (λ (ys : List Label). HasFirst r l ys s u) (sym none)
    (subst (λ (b : Sought). HasFirst r l [] s b) (sym nothing)
    (subst (λ (z : Configuration). HasFirst r l [] z nothing_sought) (sym first) has_start))

-- OF A RUN THAT SHOWS NO ANSWER THAT MAY BE ONE

left_false : (a b : Bool) → (a || b) ≡ false → a ≡ false
left_false false b e = refl
left_false true b e = absurd (cc)

right_false : (a b : Bool) → (a || b) ≡ false → b ≡ false
right_false false b e = e
right_false true b e = absurd (cc)

else_false : (b x y : Bool) → b ≡ false → y ≡ false → (if b then x else y) ≡ false
else_false false x y e f = f
else_false true x y e f = absurd (cc)

is_listed : (w : World) (q : Request) (a : ℕ) → may_be_unlisted a ≡ false → is_unlisted w q a ≡ false
is_listed w (Consistent m) a e = left_false (a == EPERM) _ e
is_listed w (Wait c m) a e =
    let rest = right_false (a == EPERM) _ e in
    let more = right_false (a == EINVAL) _ rest in
    else_false (a == EINVAL) (not (is_torn w c m)) (a == EDEADLK) (left_false (a == EINVAL) _ rest) (left_false (a == EDEADLK) _ more)
is_listed w (Signal c) a e = right_false (a == EDEADLK) _ (right_false (a == EINVAL) _ (right_false (a == EPERM) _ e))
is_listed w (Broadcast c) a e = right_false (a == EDEADLK) _ (right_false (a == EINVAL) _ (right_false (a == EPERM) _ e))
is_listed w q a e = refl

none_if : (b : Bool) (x : Unlisted) → b ≡ false → (if b then Some x else None) ≡ None
none_if false x e = refl
none_if true x e = absurd (cc)

no_call : (w : World) (a line : ℕ) (call : Option Call) → may_be_unlisted a ≡ false → unlisted_call w a line call ≡ None
no_call w a line None e = refl
no_call w a line (Some x) e = none_if (is_unlisted w x.request a) _ (is_listed w x.request a e)

none_at : (w : World) (shown : Line) (line : ℕ) → is_suspect_line shown ≡ false → unlisted_at w shown line ≡ None
none_at w (Answer t a) line e = no_call w a line (thread_at w t).call e
none_at w other line e = refl

none_first : (one two : Option Unlisted) → one ≡ None → two ≡ None → first_of one two ≡ None
none_first None two e f = f
none_first (Some x) two e f = absurd (cc)

none_more : (x : Label) (w : World) (u : Sought) → is_suspect x ≡ false → u.first ≡ None → (with_step x w u).first ≡ None
none_more (Shown line) w u e f = none_first u.first _ f (none_at w line (u.lines + 1) e)
none_more (Moves t) w u e f = f
none_more (Ends t) w u e f = f

quiet : (r : Rules) (l : Bounds) (xs : List Label) (s : Configuration) → Runs (Advances r l) (start_of l) xs s
    → list_any is_suspect xs ≡ false → (u : Sought) × HasFirst r l xs s u × (u.first ≡ None)
quiet r l [] s run e =
    (nothing_sought, subst (λ (z : Configuration). HasFirst r l [] z nothing_sought) run has_start, refl)
quiet r l (x ∷ xs) s run e =
    let before = quiet r l xs run.0 run.1 (right_false (is_suspect x) _ e) in
    let step = by_set r l run.0 x s run.2 in (
      with_step x run.0.wide.world before.0,
      has_then x step.0 s before.1 step.1,
      none_more x run.0.wide.world before.0 (left_false (is_suspect x) _ e) before.2,
    )

pub nothing_suspect : (r : Rules) (l : Bounds) (xs : List Label) → IsRun r l xs → list_any is_suspect xs ≡ false
    → IsFirstUnlisted r l xs None
nothing_suspect r l xs run e = let q = quiet r l xs run.0 run.1 e in (run.0, q.0, q.1, q.2)
