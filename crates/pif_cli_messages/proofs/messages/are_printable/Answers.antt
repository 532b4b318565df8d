use Rattle.std.proofs.Common.{sym, ◌∙◌}
use Rattle.std.proofs.lemmas.Str.{IsUtf8-past_char, chars_past_char}
use Rattle.pif_cli_messages.proofs.ShownLemmas.{none_in}
use Rattle.pif_cli_messages.proofs.messages.are_printable.Goals as goal

pub returns-then-not-is_printable : goal.returns-then-not-is_printable
returns-then-not-is_printable c =
    let held = c.loop-character.invariant in
    let step = chars_past_char _ _ c.in-Some.character held.0 c.in-Some.ensures.steps.0 in
    let hidden = sym c.is_printable.ensures ∙ c.if-not-is_printable.true in
    rw (step, hidden) at held.1

pub loop-character-preserved : goal.loop-character-preserved
loop-character-preserved c =
    let held = c.loop-character.invariant in
    let parts = c.in-Some.ensures.steps.0 in
    let shown = sym c.is_printable.ensures ∙ c.if-not-is_printable.false in (
      IsUtf8-past_char _ _ c.in-Some.character held.0 parts,
      rw (chars_past_char _ _ c.in-Some.character held.0 parts, shown) at held.1,
    )

pub returns : goal.returns
returns c = rw (none_in _ c.in-None.ensures.steps.0.0) at c.loop-character.invariant.1
