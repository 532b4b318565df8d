-- What a handle holds.
use Rattle.std.specs.Prelude.{Option, Some, None, if◌then◌else◌}
use Rattle.pif_model.specs.Table.{Table}
use Rattle.pif_c.specs.declared.handles.PifCore.{PifCore}

-- the core that a handle holds, as its table, or none
abbrev pub held : PifCore → Option Table
held handle = if handle.full then Some handle.loose.table else None
