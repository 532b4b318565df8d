use Rattle.std.proofs.Common.{◌≡◌, ◌++◌, ◌∙◌, ap}
use Rattle.std.specs.Prelude.{codes}
use Rattle.pif_text_model.specs.CommandTexts.{request_text}
use Rattle.pif_text_core.proofs.TellingLemmas.{same, then}
use Rattle.pif_text_core.proofs.calls.show_call.Goals as goal

pub returns : goal.returns
returns g c =
    let told : c.as_slice.result.now ≡ request_text c.args.request =
    c.as_slice.ensures.value ∙ c.append_request.ensures.items ∙ ap (λ l. l ++ request_text c.args.request) c.new-text.ensures
    in
    same (ap (λ l. codes "; in " ++ l) told) (then c.words.ensures c.bytes.ensures)
