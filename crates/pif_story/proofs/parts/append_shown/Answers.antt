use Rattle.std.proofs.Common.{◌≡◌, ◌++◌, List, OnOk, ℕ, subst}
use Rattle.pif_script_model.proofs.OrderLemmas.{shown_whole}
use Rattle.pif_story.proofs.parts.append_shown.Goals as goal

pub returns : goal.returns
returns c =
    subst (λ (l : List ℕ). OnOk c.append_printable.result (c.append_printable.new.text.items ≡ c.args.text.now.items ++ l))
    (shown_whole c.args.bytes.now c.min.result c.min.ensures) c.append_printable.ensures
