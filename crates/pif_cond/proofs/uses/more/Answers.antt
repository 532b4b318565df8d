-- Only a broadcast takes more.
use Rattle.std.proofs.Common.{◌≡◌, ◌≢◌, ℕ, refl, ap, ◌∙◌}
use Rattle.pif_model.specs.declared.plain.Plain.{Plain}
use Rattle.pif_model.specs.declared.plain.Plain.TheVariants.{Broadcast}
use Rattle.pif_model.specs.Plain.{request_of}
use Rattle.pif_model.specs.Lines.{more_in}
use Rattle.pif_cond.proofs.uses.more.Goals as goal

no_more : (x : Plain) → ((c : ℕ) → x ≢ Broadcast c) → 0 ≡ more_in (request_of x)
no_more (Broadcast c) other = absurd (other c refl)
no_more _ other = refl

pub returns-in_default : goal.returns-in_default
returns-in_default c = no_more c.get.result c.in_default.not-Broadcast ∙ ap more_in c.get.ensures
