use Rattle.std.proofs.Common.{◌≡◌, true, false, subst, sym, ap, ◌∙◌}
use Rattle.pif_model.specs.PiKernel.{is_living, IsPathIn}
use Rattle.pif_kernel_model.specs.Inside.{Inside, IsSoundInside, kernel_of}
use Rattle.pif_kernel.specs.declared.parts.Parts.TheView.{view}
use Rattle.pif_kernel_model.proofs.Standing.{path_below, path_answer, path_none}
use Rattle.pif_kernel.proofs.parts.Parts.path.Goals as goal

pub path-requires : goal.path-requires
path-requires g c =
    path_below (view _ g.C.Chains c.self.inside) (subst IsSoundInside (sym c.self.view_is) c.requires)

pub returns-then-lives : goal.returns-then-lives
returns-then-lives g c =
    let lives : is_living (kernel_of (view _ g.C.Chains c.self.inside)) c.args.t ≡ true
    = ap (λ (x : Inside). is_living (kernel_of x) c.args.t) c.self.view_is ∙ sym c.lives.ensures ∙ c.if-lives.true in
    subst (λ (p : Inside). IsPathIn (kernel_of p) c.args.t c.path.result.items) c.self.view_is
    (path_answer (view _ g.C.Chains c.self.inside) (subst IsSoundInside (sym c.self.view_is) c.requires) c.args.t
    c.path.result.items lives c.path.ensures)

pub returns-else-lives : goal.returns-else-lives
returns-else-lives g c =
    path_none c.args.self.now c.args.t c.new.result.items (sym c.lives.ensures ∙ c.if-lives.false) c.new.ensures
