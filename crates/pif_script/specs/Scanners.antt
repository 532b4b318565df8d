-- Where a scanner stands.
use Rattle.pif_script.specs.declared.scanner.Scanner.{Scanner}
use Rattle.pif_script_model.specs.Scripts.{Scan}

-- where the script stands that a scanner reads
abbrev pub scan_of : {S : Type 0} → Scanner S → Scan S
scan_of s = record {
  listener = s.listener;
  version = s.version;
  line = s.line.items;
  number = s.number;
  taken = s.taken;
}
