use Rattle.std.proofs.Common.{◌-◌, ap, refl, subst, sym}
use Rattle.std.specs.Global.{Vec}
use Rattle.pif_history_model.specs.declared.lines.Line.{Line}
use Rattle.pif_parts.specs.Parts.{StandForFirst}
use Rattle.pif_parts.proofs.PartLemmas.{cut_more}
use Rattle.pif_parts.proofs.parts.Cutting.cut.Goals as goal

pub returns : goal.returns
returns c = (
  refl,
  λ limits lines x s. record {
    parts = cut_more limits lines c.args.self.now c.args.place c.requires
        (record { first = c.args.self.now.first; count = c.args.place - c.args.self.now.first; before = c.replace-before.result })
        refl refl (ap (λ (v : Vec Line). v.items) c.replace-before.ensures.value) c.push.new.items.items c.in_ok-push.ensures x;
    before = subst (λ ys. StandForFirst limits lines c.args.place ys) (sym (ap (λ (v : Vec Line). v.items) c.replace-before.ensures.after)) s;
  },
)
