use Rattle.std.proofs.Common.{◌∙◌, ◌&&◌, sym}
use Rattle.pif_parts.specs.Watching.{is_none}
use Rattle.pif_parts.proofs.WatchLemmas.{quiet, quiet_told}
use Rattle.pif_parts.proofs.watch.Watch.is_quiet.Goals as goal

pub returns-clause-quiet : goal.returns-clause-quiet
returns-clause-quiet c = λ lines h e. quiet lines c.args.self.now h
    (sym (c.is_still.ensures ∙ (λ i. c.args.self.now.orderly
    && (is_none (c.as_slice.ensures.value i) && (is_none (c.as_slice-2.ensures.value i) && is_none (c.as_slice-3.ensures.value i))))) ∙ e)

pub returns-clause-told : goal.returns-clause-told
returns-clause-told c = λ lines h q. c.is_still.ensures
    ∙ (λ i. c.args.self.now.orderly
    && (is_none (c.as_slice.ensures.value i) && (is_none (c.as_slice-2.ensures.value i) && is_none (c.as_slice-3.ensures.value i))))
    ∙ quiet_told lines c.args.self.now h q
