-- How the name of an input is told.
use Rattle.std.specs.Prelude.{List, map, if◌then◌else◌}
use Rattle.clap.specs.Words.{Text}
use Rattle.pif_script_model.specs.Verdicts.{printable}
use Rattle.pif_cli_messages.specs.Messages.{are_printable}

-- a name as it stands in a verdict: `?` for each byte that is no printable ASCII
unfoldable pub shown_name : Text → Text
shown_name name = map printable name

-- a name as it stands in a note: as it is, if each of its characters is printable
unfoldable pub noted_name : Text → Text
noted_name name = if are_printable name then name else shown_name name
