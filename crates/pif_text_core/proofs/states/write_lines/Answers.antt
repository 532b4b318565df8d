use Rattle.std.proofs.Common.{append-nil}
use Rattle.std.specs.Prelude.{option_copied}
use Rattle.pif_text_core.specs.Changes.{lines_text}
use Rattle.pif_text_core.proofs.TellingLemmas.{on_ok, same, then, whole}
use Rattle.pif_text_core.proofs.states.write_lines.Goals as goal

pub returns-clause-stays : goal.returns-clause-stays
returns-clause-stays g c = (then c.show_lines.ensures c.finish.ensures.told).stays

pub returns-clause-told : goal.returns-clause-told
returns-clause-told g c =
    let text = lines_text c.args.names.now (option_copied c.args.before) c.args.core.now in
    let told = same (append-nil text) (then c.show_lines.ensures c.finish.ensures.told) in
    on_ok c.finish.result (λ all. whole _ _ _ _ text c.new-page.ensures all told) c.finish.ensures.all
