use Rattle.std.proofs.Common.{ℕ, ◌≡◌, ◌∙◌, Bool, true, false, List, [], ◌++◌, Option, sym, ap, append-nil, if◌then◌else◌}
use Rattle.std.specs.Prelude.{is_some}
use Rattle.std.proofs.lemmas.Result.{IfOk-weaker}
use Rattle.pif_types.specs.declared.errors.Refusal.{Refusal}
use Rattle.pif_model.specs.declared.events.Event.TheVariants.{Go}
use Rattle.pif_model.specs.Posix.{World, refusal_of}
use Rattle.pif_posix_steps.specs.Doing.{is_allowed}
use Rattle.pif_rules_model.specs.declared.rules.Rules.{Rules}
use Rattle.pif_rules_model.specs.Lending.{not_named}
use Rattle.pif_rules_model.specs.Rules.{Wide}
use Rattle.pif_rules_model.specs.Ruled.{seeing_lending, plainly_moved, moved_by_rule, widely_moved}
use Rattle.pif_posix.proofs.wide.Wide.widely_moved.Goals as goal

abbrev plain_ones : ℕ → Wide → List Wide
plain_ones t s = seeing_lending (not_named s.world t s.prio_none) (plainly_moved t s.prio_none) s

-- whether a go is allowed, by its refusal
allowed_by : (w v : World) (t : ℕ) (o : Option Refusal) (b : Bool) → w ≡ v → o ≡ refusal_of w (Go t) → is_some o ≡ b
    → is_allowed v (Go t) ≡ (if b then false else true)
allowed_by w v t o b same e f =
    ap (λ (u : World). is_allowed u (Go t)) (sym same) ∙ ap (λ (q : Option Refusal). if is_some q then false else true) (sym e)
    ∙ ap (λ (x : Bool). if x then false else true) f

-- the moves by rules come behind the plain ones, if a go of the thread is allowed
moved_if : (r : Rules) (t : ℕ) (s : Wide) (b : Bool) (ns : List Wide) → is_allowed s.world (Go t) ≡ b
    → ns ≡ plain_ones t s ++ (if b then moved_by_rule r t s else []) → ns ≡ widely_moved r t s
moved_if r t s b ns e h = h ∙ sym (ap (λ (x : Bool). plain_ones t s ++ (if x then moved_by_rule r t s else [])) e)

pub returns-then-is_some : goal.returns-then-is_some
returns-then-is_some c =
    let r = c.args.rules.now in
    let t = c.args.thread in
    let s = c.args.self.now in
    IfOk-weaker c.moved_seeing_lending-plain.result (λ v. v.items ≡ plain_ones t s) (λ v. v.items ≡ widely_moved r t s)
    (λ v h. moved_if r t s false v.items
    (allowed_by c.self.inside.state s.world t c.go_refusal.result true (ap (λ (x : Wide). x.world) c.self.view_is) c.go_refusal.ensures (sym c.is_some.ensures ∙ c.if-is_some.true))
    (h ∙ sym (append-nil (plain_ones t s))))
    c.moved_seeing_lending-plain.ensures

pub returns : goal.returns
returns c =
    let r = c.args.rules.now in
    let t = c.args.thread in
    let s = c.args.self.now in
    IfOk-weaker c.joined.result (λ v. v.items ≡ plain_ones t s ++ moved_by_rule r t s) (λ v. v.items ≡ widely_moved r t s)
    (λ v h. moved_if r t s true v.items
    (allowed_by c.self.inside.state s.world t c.go_refusal.result false (ap (λ (x : Wide). x.world) c.self.view_is) c.go_refusal.ensures (sym c.is_some.ensures ∙ c.if-is_some.false))
    h)
    (c.joined.ensures _ _ c.moved_seeing_lending-plain.ensures c.moved_by_rule.ensures)
