-- What a handle of a machine holds.
use Rattle.std.specs.Prelude.{Option, Some, None, if◌then◌else◌}
use Rattle.pif_c.specs.Running.{Running}
use Rattle.pif_c.specs.declared.machine_handles.PifMachine.{PifMachine}

-- the machine that a handle holds, or none
abbrev pub running : PifMachine → Option Running
running handle = if handle.full then Some handle.loose.running else None
