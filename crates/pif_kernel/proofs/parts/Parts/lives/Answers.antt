use Rattle.std.proofs.Common.{◌≡◌, ◌≢◌, ◌≤◌, ◌<◌, List, not, true, false, length, get_or, nat_lt, subst, sym, ap, ◌∙◌, inl, inr, arith}
use Rattle.std.proofs.lemmas.Bool.Decides.{nat_tests}
use Rattle.std.proofs.lemmas.List.{get_or_default}
use Rattle.pif_model.specs.declared.lines.Status.{Status}
use Rattle.pif_model.specs.declared.lines.Status.TheVariants.{Ready}
use Rattle.pif_model.specs.declared.lines.Woken.TheVariants.{Fresh}
use Rattle.pif_model.specs.PiKernel.{is_living}
use Rattle.pif_kernel_model.specs.Inside.{Inside, IsSoundInside, kernel_of, status_at}
use Rattle.pif_kernel.specs.declared.parts.Parts.TheView.{view}
use Rattle.pif_kernel_model.proofs.Seats.{living_by, unadded_dead}
use Rattle.pif_kernel_model.proofs.Standing.{fits}
use Rattle.pif_kernel.proofs.parts.Parts.lives.Goals as goal
use Rattle.pif_kernel.proofs.parts.Parts.lives.Goals.{in-Ended, in_default}

pub returns-after-matches : goal.returns-after-matches
returns-after-matches g c =
    let p : Inside = view _ g.C.Chains c.self.inside in
    let h : IsSoundInside p = subst IsSoundInside (sym c.self.view_is) c.requires in
    let inside : nat_lt c.get.result (length p.statuses) ≡ true
    = ap (λ (l : List Status). nat_lt c.get.result (length l)) (sym c.deref.ensures.value)
    ∙ sym c.in-Some.ensures.lookup.0 in
    let l : c.get.result < length p.statuses = grind (arith, nat_tests) in
    let some : c.get.result ≢ 0 = omega (arith, c.get.ensures.range) in
    let is : status_at p c.get.result ≡ c.in-Some.status.now
    = sym (c.in-Some.ensures.lookup.1
    ∙ ap (λ (xs : List Status). get_or xs c.get.result c.in-Some.status.now) c.deref.ensures.value
    ∙ get_or_default p.statuses c.get.result c.in-Some.status.now (Ready Fresh) l) in
    let same : is_living (kernel_of p) c.get.result ≡ is_living (kernel_of c.args.self.now) c.args.t
    = ap (λ (x : Inside). is_living (kernel_of x) c.get.result) c.self.view_is
    ∙ ap (is_living (kernel_of c.args.self.now)) c.get.ensures.value in
    living_by p (fits p h) c.get.result some l c.in-Some.status.now is (not c.match-matches.matches)
    (elim c.match-matches.branch [
      | in-Ended w ↦ inl (w.in-Ended.is, ap not w.matches-is)
      | in_default w ↦ inr (w.in_default.not-Ended, ap not w.matches-is)
    ])
    ∙ same

pub returns-in-None : goal.returns-in-None
returns-in-None g c =
    let p : Inside = view _ g.C.Chains c.self.inside in
    let h : IsSoundInside p = subst IsSoundInside (sym c.self.view_is) c.requires in
    let outside : nat_lt c.get.result (length p.statuses) ≡ false
    = ap (λ (l : List Status). nat_lt c.get.result (length l)) (sym c.deref.ensures.value)
    ∙ sym c.in-None.ensures.lookup.0 in
    let past : length p.statuses ≤ c.get.result = grind (arith, nat_tests) in
    sym (unadded_dead p (fits p h) c.get.result past)
    ∙ ap (λ (x : Inside). is_living (kernel_of x) c.get.result) c.self.view_is
    ∙ ap (is_living (kernel_of c.args.self.now)) c.get.ensures.value
