use Rattle.std.proofs.Common.{◌≡◌, IsUtf8, chars}
use Rattle.std.specs.List.{list_all}
use Rattle.std.specs.Str.Iter.{chars_rest}
use Rattle.pif_cli_messages.specs.Messages.{are_printable, is_printable}
use Rattle.pif_cli_messages.proofs.messages.are_printable.Given as goal

-- the characters that are left say it
abbrev pub invariant-loop-character : goal.invariant-loop-character
invariant-loop-character l =
    IsUtf8 (chars_rest l.character-iterator)
    × (list_all is_printable (chars (chars_rest l.character-iterator)) ≡ are_printable l.fn.text)
