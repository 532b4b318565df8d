use Rattle.std.proofs.Common.{◌≡◌, drop, map}
use Rattle.pif_explore_text.specs.Aliases.{meant_by}
use Rattle.pif_explore_text.specs.Views.{alias_of}
use Rattle.pif_explore_text.proofs.aliases.meant_by.Given as goal

abbrev pub invariant-loop-alias : goal.invariant-loop-alias
invariant-loop-alias l =
    meant_by (map alias_of l.aliases) l.word ≡ meant_by (map alias_of (drop l.alias-index l.aliases)) l.word
