use Rattle.std.proofs.Common.{◌≡◌, ℕ, ◌==◌, Option, unwrap_or, ne_eqb, refl, sym, ap, ◌∙◌, arith}
use Rattle.std.proofs.lemmas.Bool.Decides.{nat_tests}
use Rattle.pif_kernel_model.specs.Owners.{owner_at}
use Rattle.pif_kernel_model.specs.Inside.{Inside, owner_under}
use Rattle.pif_kernel.proofs.parts.Parts.is_state_of.Goals as goal

pub returns-in-Some : goal.returns-in-Some
returns-in-Some g c =
    let named : owner_under c.args.self.now.owners c.args.key ≡ c.owner.result
    = ap (owner_under c.args.self.now.owners) c.in-Some.is
    ∙ ap (λ (o : Option ℕ). unwrap_or o 0)
    (ap (λ (x : Inside). owner_at x.owners c.in-Some.key) (sym c.self.view_is) ∙ c.owner.ensures.value) in
    let same : c.eq.result ≡ (c.owner.result == c.args.owner) = grind (arith, nat_tests, c.eq.ensures) in
    rw (named, ne_eqb c.owner.result 0 (λ z. absurd (omega (arith, c.owner.type_inv, z)))) same

pub returns-in-None : goal.returns-in-None
returns-in-None g c = rw c.in-None.is refl
