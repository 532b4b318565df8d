use Rattle.std.proofs.Common.{◌-◌, refl, subst, sym}
use Rattle.pif_parts.specs.Parts.{AreParts}
use Rattle.pif_parts.proofs.PartLemmas.{cut_more}
use Rattle.pif_parts.proofs.parts.Cutting.ended.Goals as goal

pub returns : goal.returns
returns c =
    λ limits lines len x. subst (λ n. AreParts limits lines 0 c.push.new.items.items n) (sym len)
    (cut_more limits lines c.args.self c.args.count c.requires
    (record { first = c.args.self.first; count = c.args.count - c.args.self.first; before = c.args.self.before }) refl refl refl
    c.push.new.items.items c.in_ok-push.ensures x)
