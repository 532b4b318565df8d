use Rattle.std.proofs.Common.{ℕ, List, [], ◌∷◌, ◌++◌, subst, sym, ap, ◌∙◌}
use Rattle.pif_model.specs.declared.lines.Status.{Status}
use Rattle.pif_model.specs.declared.lines.Status.TheVariants.{Ready}
use Rattle.pif_model.specs.declared.lines.Woken.TheVariants.{Fresh}
use Rattle.pif_kernel_model.specs.Inside.{IsSoundInside, kernel_of}
use Rattle.pif_kernel_model.specs.Chained.{Chained, IsUnused}
use Rattle.pif_kernel_model.specs.Fields.{inside_from}
use Rattle.pif_kernel_model.proofs.NewSound.{new_in_chains}
use Rattle.pif_kernel.proofs.parts.Parts.new.Goals as goal

pub returns-clause-made : goal.returns-clause-made
returns-clause-made g c =
    let threads = c.threads-threads.ensures.value in
    let x : Chained = g.C.Chains.seen c.in_ok-chains.chains in
    ap (λ (xs : List Status). kernel_of (inside_from c.args.limits xs x c.args.first_ticket))
    (c.push_within.ensures.items ∙ ap (λ (xs : List Status). xs ++ Ready Fresh ∷ []) c.in_ok-statuses.ensures.items)
    ∙ (new_in_chains c.args.limits c.args.first_ticket x c.threads-threads.ensures.range c.requires
    (subst (λ (n : ℕ). IsUnused n x) threads c.in_ok-chains.ensures)).0

pub returns-clause-sound : goal.returns-clause-sound
returns-clause-sound g c =
    let threads = c.threads-threads.ensures.value in
    let x : Chained = g.C.Chains.seen c.in_ok-chains.chains in
    subst (λ (xs : List Status). IsSoundInside (inside_from c.args.limits xs x c.args.first_ticket))
    (sym (c.push_within.ensures.items
    ∙ ap (λ (xs : List Status). xs ++ Ready Fresh ∷ []) c.in_ok-statuses.ensures.items))
    (new_in_chains c.args.limits c.args.first_ticket x c.threads-threads.ensures.range c.requires
    (subst (λ (n : ℕ). IsUnused n x) threads c.in_ok-chains.ensures)).1
