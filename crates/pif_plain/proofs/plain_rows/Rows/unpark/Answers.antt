use Rattle.std.proofs.Common.{◌≡◌, ◌==◌, true, false, if◌then◌else◌, ap, rules, tests}
use Rattle.std.proofs.lemmas.Fn.{filter_same}
use Rattle.pif_model.specs.PiKernel.{Parking, parkings_without}
use Rattle.pif_plain.specs.Rows.{PlainRows}
use Rattle.pif_plain.proofs.RowLemmas.{parked_without}
use Rattle.pif_plain.proofs.plain_rows.Rows.unpark.Goals.{After-retain}
use Rattle.pif_plain.proofs.plain_rows.Rows.unpark.Goals as goal

others : (c : After-retain) → c.retain.new.self.items ≡ parkings_without c.self.inside.parked.items c.args.t
others c =
    filter_same _ (λ (x : Parking). if x.thread == c.args.t then false else true) _
    (λ x b f' k. (search (rules, tests), search rules)) _ _ c.retain.ensures.filtered

pub invariant_of-self : goal.invariant_of-self
invariant_of-self c =
    rw (others (goal.at.invariant_of-self c).After-retain, c.retain.ensures.capacity)
    (parked_without _ _ c.self.invariant c.args.t)

pub returns : goal.returns
returns c =
    rw (others (goal.at.returns c).After-retain, c.retain.ensures.capacity)
    (ap (λ (x : PlainRows). record x { parked = parkings_without x.parked c.args.t }) c.self.view_is)
