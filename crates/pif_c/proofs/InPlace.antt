-- Steps in place lead to the one state that is listed.
use Rattle.std.proofs.Common.{◌≡◌, ◌==◌, ◌++◌, ℕ, Bool, true, false, refl, sym, ap, ◌∙◌, List, [], ◌∷◌, map, Option, Some, None, subst}
use Rattle.std.specs.Prelude.{IfSome, not, ◌||◌, if◌then◌else◌}
use Rattle.std.specs.List.{list_any}
use Rattle.std.proofs.lemmas.Bool.{and_parts, eqb-true}
use Rattle.pif_types.specs.declared.requests.Request.{Request}
use Rattle.pif_types.specs.declared.requests.Request.TheVariants.{Lock, Wait}
use Rattle.pif_model.specs.declared.events.Event.TheVariants.{Go}
use Rattle.pif_model.specs.World.Progress.{Fresh, Reacquiring}
use Rattle.pif_model.specs.Posix.{World, Call, Progress, is_orphaned, leads_to, mutex_at, named_by, thread_at}
use Rattle.pif_posix_steps.specs.Doing.{is_allowed, moved}
use Rattle.pif_rules_model.specs.Lending.{looking_free, not_named, owned_as_in, with_owner}
use Rattle.pif_rules_model.specs.Rules.{Wide, locked_next_by, of_call, owned_as_before, seen_by_lending}
use Rattle.pif_rules_model.specs.Ruled.{beside, closes_unseen_with, moved_by_rule, moved_or_waiting, plainly_moved, seeing_lending, waiting_unseen, widely_moved}
use Rattle.pif_rules_model.specs.Sets.{no_rules}
use Rattle.pif_c_numbers.specs.declared.numbers.PifNumber.{PifNumber}
use Rattle.pif_c_numbers.specs.Codes as pif
use Rattle.pif_c.specs.declared.machines.Ask.{Ask}
use Rattle.pif_c.specs.Running.{Running}
use Rattle.pif_c.specs.Machines.{ClosesNone, HappensInPlace, MovesUnseen, are_owned_alike, opens_no_cycle, result_in}
use Rattle.pif_c.specs.Going.{Happens, IsAnswered, answer_of}
use Rattle.pif_c.specs.Going.Happens.{happened}
use Rattle.pif_c.specs.Going.IsAnswered.{answered}
use Rattle.pif_c.proofs.MachineSteps.{leads_at}

-- two that are alone in one list are the same
pub both_alone : {X : Type 0} (xs : List X) (a b : X) → xs ≡ a ∷ [] → xs ≡ b ∷ [] → a ≡ b
both_alone xs a b e f = cc

-- MOVES

-- a mutex that is locked next is the one that the call names
locked_is_named : (q : Request) (p : Progress) (m : ℕ) → locked_next_by q p ≡ Some m → named_by q ≡ m
locked_is_named (Lock k) Fresh m e = cc
locked_is_named (Wait c k) Reacquiring m e = cc
locked_is_named _ _ m e = absurd cc

-- whether another holds a mutex, by whether it is one's own or free
own_or_free : (own free : Bool) (b : Bool) → (free || own) ≡ true
    → (if own then false else (if free then false else b)) ≡ false
own_or_free true free b e = refl
own_or_free false true b e = refl
own_or_free false false b e = absurd cc

none_closed : (lends held closes : Bool) → held ≡ false → (if lends then (if held then closes else false) else false) ≡ false
none_closed true held closes e = ap (λ (b : Bool). if b then closes else false) e
none_closed false held closes e = refl

none_at_all : (lends held : Bool) → (if lends then (if held then false else false) else false) ≡ false
none_at_all true true = refl
none_at_all true false = refl
none_at_all false held = refl

or_true : (b : Bool) → (b || false) ≡ true → b ≡ true
or_true true e = refl
or_true false e = e

-- who holds a mutex that is free or one's own, or whose owner doesn't wait for one, closes no cycle
closed_by : (lends own free b leads : Bool) → ((free || own) || not leads) ≡ true
    → (if lends then (if (if own then false else (if free then false else b)) then leads else false) else false) ≡ false
closed_by lends own free b true e =
    none_closed lends (if own then false else (if free then false else b)) true (own_or_free own free b (or_true (free || own) e))
closed_by lends own free b false e = none_at_all lends (if own then false else (if free then false else b))

-- a lock of a mutex that opens no cycle closes none
lock_closes_none : (none : List ℕ) (t : ℕ) (w : World) (m : ℕ) → opens_no_cycle t w m ≡ true
    → closes_unseen_with none t w m ≡ false
lock_closes_none none t w m e =
    closed_by (list_any (λ x. x == m) none) ((mutex_at w m).owner == t) ((mutex_at w m).owner == 0)
    (if is_orphaned w m then false else true) (leads_to w (mutex_at w m).owner t) e

closes_none_by : (none : List ℕ) (t : ℕ) (w : World) (locks : Option ℕ)
    → ((m : ℕ) → locks ≡ Some m → opens_no_cycle t w m ≡ true)
    → elim locks [ None ↦ false | Some m ↦ closes_unseen_with none t w m ] ≡ false
closes_none_by none t w None h = refl
closes_none_by none t w (Some m) h = lock_closes_none none t w m (h m refl)

-- nor does a call that names such a mutex
pub closes_no_cycle : (t : ℕ) (w : World) (x : Call) (m : ℕ) → (thread_at w t).call ≡ Some x → m ≡ named_by x.request
    → opens_no_cycle t w m ≡ true → ClosesNone t w
closes_no_cycle t w x m is named free none =
    closes_none_by none t w (of_call locked_next_by w t) (λ k locks.
    subst (λ (n : ℕ). opens_no_cycle t w n ≡ true)
    (named ∙ locked_is_named x.request x.progress k
    (sym (ap (λ (c : Option Call). elim c [ None ↦ None | Some y ↦ locked_next_by y.request y.progress ]) is) ∙ locks)) free)

plainly : (none : List ℕ) (t : ℕ) (w : World) → ClosesNone t w → moved_or_waiting none t w ≡ moved t w
plainly [] t w e = refl
plainly (m ∷ ms) t w e = ap (λ (b : Bool). if b then waiting_unseen t w else moved t w) (e (m ∷ ms))

by_no_rule : (b : Bool) (t : ℕ) (s : Wide) (xs : List Wide) → xs ++ (if b then moved_by_rule no_rules t s else []) ≡ xs ++ []
by_no_rule true t s xs = refl
by_no_rule false t s xs = refl

-- what one function makes alone of a list, others do in two steps
alone_by : {A B C D : Type 0} (f : A → B) (g : B → C) (h : A → D) (k : D → C) (xs : List A) (y : B)
    → ((x : A) → k (h x) ≡ g (f x)) → map f xs ≡ y ∷ [] → map k (map h xs) ++ [] ≡ g y ∷ []
alone_by f g h k [] y e is = absurd cc
alone_by f g h k (x ∷ []) y e is = ap (λ z. z ∷ []) (e x ∙ ap g (both_alone (f x ∷ []) (f x) y refl is))
alone_by f g h k (x ∷ z ∷ zs) y e is = absurd cc

-- likewise in one step
alone_once : {A B C : Type 0} (f : A → B) (g : B → C) (h : A → C) (xs : List A) (y : B)
    → ((x : A) → h x ≡ g (f x)) → map f xs ≡ y ∷ [] → map h xs ++ [] ≡ g y ∷ []
alone_once f g h [] y e is = absurd cc
alone_once f g h (x ∷ []) y e is = ap (λ z. z ∷ []) (e x ∙ ap g (both_alone (f x ∷ []) (f x) y refl is))
alone_once f g h (x ∷ z ∷ zs) y e is = absurd cc

-- what moves alone by the plain machine moves alone by it with mutexes that lend nothing
seen_alone : (hidden none : List ℕ) (t : ℕ) (s : Wide) (n : World) → MovesUnseen hidden t s.world s.world n
    → seeing_lending hidden (plainly_moved t none) s ++ [] ≡ beside s n ∷ []
seen_alone [] none t s n h =
    ap (λ (ws : List World). map (beside s) ws ++ []) (plainly none t s.world h.0)
    ∙ alone_once (owned_as_in s.world []) (beside s) (beside s) (moved t s.world) n (λ v. refl) h.1
seen_alone (m ∷ ms) none t s n h =
    let seen : Wide = seen_by_lending (m ∷ ms) s in
    ap (λ (ws : List World). map (owned_as_before (m ∷ ms) s) (map (beside seen) ws) ++ []) (plainly none t seen.world h.0)
    ∙ alone_by (owned_as_in s.world (m ∷ ms)) (beside s) (beside seen) (owned_as_before (m ∷ ms) s) (moved t seen.world) n
    (λ v. refl) h.1

pub moved_alone : (t : ℕ) (s n : Wide) (hidden : List ℕ) → hidden ≡ not_named s.world t s.prio_none
    → MovesUnseen hidden t s.world s.world n.world → n ≡ beside s n.world → widely_moved no_rules t s ≡ n ∷ []
moved_alone t s n hidden is h same =
    ap (λ (ms : List ℕ). seeing_lending ms (plainly_moved t s.prio_none) s
    ++ (if is_allowed s.world (Go t) then moved_by_rule no_rules t s else [])) (sym is)
    ∙ by_no_rule (is_allowed s.world (Go t)) t s (seeing_lending hidden (plainly_moved t s.prio_none) s)
    ∙ seen_alone hidden s.prio_none t s n.world h
    ∙ ap (λ (x : Wide). x ∷ []) (sym same)

-- TWO COPIES

-- owners are the same, whichever of two states they are taken from that have the same
same_owners : (ms : List ℕ) (w o v : World) → are_owned_alike ms w o ≡ true → owned_as_in w ms v ≡ owned_as_in o ms v
same_owners [] w o v e = refl
same_owners (m ∷ ms) w o v e =
    let p = and_parts ((mutex_at w m).owner == (mutex_at o m).owner) (are_owned_alike ms w o) e in
    ap (λ (u : ℕ). owned_as_in w ms (with_owner m u v)) (eqb-true _ _ p.0)
    ∙ same_owners ms w o (with_owner m (mutex_at o m).owner v) p.1

two_alone : {A B : Type 0} (f g : A → B) (xs : List A) (y z : B) → ((x : A) → f x ≡ g x) → map f xs ≡ y ∷ [] → map g xs ≡ z ∷ []
    → y ≡ z
two_alone f g [] y z e a b = absurd cc
two_alone f g (x ∷ []) y z e a b =
    sym (both_alone (f x ∷ []) (f x) y refl a) ∙ e x ∙ both_alone (g x ∷ []) (g x) z refl b
two_alone f g (x ∷ k ∷ xs) y z e a b = absurd cc

-- two states that are the same move alike, if both can
pub in_step : (t : ℕ) (hidden : List ℕ) (w n : World) (second : Option World)
    → are_owned_alike hidden n w ≡ true → MovesUnseen hidden t w w n
    → IfSome second (λ x. MovesUnseen hidden t w n x) → IfSome second (λ x. x ≡ n)
in_step t hidden w n None e h m = tt
in_step t hidden w n (Some x) e h m =
    two_alone (owned_as_in n hidden) (owned_as_in w hidden) (moved t (looking_free hidden w)) x n
    (λ v. same_owners hidden n w v e) m.1 h.1

-- a move of a copy is one of the state
pub moves_alike : (hidden : List ℕ) (t : ℕ) (w o n v m : World) → w ≡ v → o ≡ v → n ≡ m → MovesUnseen hidden t w o n
    → MovesUnseen hidden t v v m
moves_alike hidden t w o n v m a b e h =
    subst (λ (x : World). MovesUnseen hidden t x v m) a
    (subst (λ (x : World). MovesUnseen hidden t w x m) b (subst (λ (x : World). MovesUnseen hidden t w o x) e h))

-- STEPS

-- what happens in place happens
pub happens_in_place : (x : Ask) (place : ℕ) (s n : Running) (did : Bool) → HappensInPlace x place s n did → did ≡ true
    → Happens (Some x) place (Some s) (Some n) pif.ok
happens_in_place x place s n true h e =
    subst (λ (m : Running). Happens (Some x) place (Some s) (Some m) pif.ok) (sym h.1)
    (happened x place s n.wide h.0 (leads_at x s place n.wide h.0))
happens_in_place x place s n false h e = absurd cc

-- if it doesn't, what happens next happens to the machine as it was
pub happens_otherwise : (x : Ask) (place : ℕ) (s m n : Running) (told : ℕ) (did : Bool) → HappensInPlace x place s m did → did ≡ false
    → Happens (Some x) place (Some m) (Some n) told → Happens (Some x) place (Some s) (Some n) told
happens_otherwise x place s m n told true h e next = absurd cc
happens_otherwise x place s m n told false h e next =
    subst (λ (y : Running). Happens (Some x) place (Some y) (Some n) told) h next

-- likewise an answer
pub answers_in_place : (t a : ℕ) (s n : Running) (did : Bool) → HappensInPlace (answer_of t a) 0 s n did → did ≡ true
    → result_in s.wide.world t ≡ Some a → IsAnswered t (Some s) (Some n) (record { result = pif.ok; number = a })
answers_in_place t a s n true h e has =
    subst (λ (m : Running). IsAnswered t (Some s) (Some m) (record { result = pif.ok; number = a })) (sym h.1)
    (answered s a n.wide has (leads_at (answer_of t a) s 0 n.wide h.0))
answers_in_place t a s n false h e has = absurd cc

pub answers_otherwise : (t a : ℕ) (s m n : Running) (told : PifNumber) (did : Bool) → HappensInPlace (answer_of t a) 0 s m did
    → did ≡ false → (result_in m.wide.world t ≡ Some a → IsAnswered t (Some m) (Some n) told)
    → result_in s.wide.world t ≡ Some a → IsAnswered t (Some s) (Some n) told
answers_otherwise t a s m n told true h e next has = absurd cc
answers_otherwise t a s m n told false h e next has =
    subst (λ (y : Running). result_in y.wide.world t ≡ Some a → IsAnswered t (Some y) (Some n) told) h next has
