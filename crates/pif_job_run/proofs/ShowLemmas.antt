-- A script that is shown as a run over its bytes, but for a write that fails.
use Rattle.std.proofs.Common.{◌≡◌, ℕ, List, [], Option, Some, None, Result, Ok, Err, refl, sym, subst, append-nil}
use Rattle.std.specs.Io.KnownBytes.{Consumes}
use Rattle.pif_model.specs.Table.{Table}
use Rattle.pif_script_model.specs.declared.faults.CliFault.{CliFault}
use Rattle.pif_script_model.specs.declared.faults.CliFault.TheVariants.{Read, Write, NoMemory, Script, Differs}
use Rattle.pif_script_model.specs.declared.ending.End.{End}
use Rattle.pif_script_model.specs.Scripts.{Scan, closed_at, start}
use Rattle.pif_script_model.specs.Runs.{Feeds, RunsFrom, Stops}
use Rattle.pif_script_model.specs.Running.{RunsTo, script}
use Rattle.pif_script_model.specs.Showing.{OrUnwritten}
use Rattle.pif_script_model.proofs.DifferenceLemmas.{RunsTo-from}
use Rattle.pif_script_model.proofs.FeedLemmas.{RunsFrom-fed}
use Rattle.pif_script_model.proofs.RunLemmas.{Goes-ends, RunsPart-closed}

-- all of a script's bytes are read
read_whole : (bytes : List ℕ) → Consumes (Some bytes) (Some []) bytes
read_whole bytes = sym (append-nil bytes)

fed : (t : Scan Table) (bytes : List ℕ) (e : CliFault) → Feeds script start bytes t None None (Err e)
    → RunsTo (Some bytes) (Some []) None None (Err e)
fed t bytes e f =
    RunsTo-from (Some bytes) (Some []) None None (Err e)
    (RunsFrom-fed script start t bytes (Some bytes) (Some []) None None e (read_whole bytes) f)

ended : (t : Scan Table) (bytes : List ℕ) (x : Unit {0}) (result : Result (Unit {0}) CliFault)
    → Feeds script start bytes t None None (Ok x) → RunsFrom script t (Some []) (Some []) None None result
    → RunsTo (Some bytes) (Some []) None None result
ended t bytes x result f r =
    RunsTo-from (Some bytes) (Some []) None None result
    (Goes-ends script start t (Some bytes) (Some []) (Some []) None None None result
    (bytes, read_whole bytes, f.0, f.1) r)

-- the script ends here, which is a fault that was told
pub closed_shown : (t : Scan Table) (text : List ℕ) (h k : Option (List ℕ)) (x : End) (e : CliFault)
    → closed_at script t ≡ Err x → Stops h k text (script.said_of x) x e
    → OrUnwritten {A = Unit {0}} (RunsFrom script t (Some []) (Some []) None None) (Err e)
closed_shown t text h k x (Script l c) p w =
    RunsPart-closed script t (Some []) (Some []) None None (Err (Script l c)) refl refl (rw p (w.0, tt))
closed_shown t text h k x (Differs l) p w =
    RunsPart-closed script t (Some []) (Some []) None None (Err (Differs l)) refl refl (rw p (w.0, tt))
closed_shown t text h k x Write p w = tt
closed_shown t text h k x Read p w = absurd w
closed_shown t text h k x NoMemory p w = absurd w

unwritten_fed : (t : Scan Table) (bytes : List ℕ) (e : CliFault)
    → OrUnwritten {A = Unit {0}} (Feeds script start bytes t None None) (Err e)
    → OrUnwritten {A = Unit {0}} (RunsTo (Some bytes) (Some []) None None) (Err e)
unwritten_fed t bytes Read f = fed t bytes Read f
unwritten_fed t bytes Write f = tt
unwritten_fed t bytes NoMemory f = fed t bytes NoMemory f
unwritten_fed t bytes (Script l c) f = fed t bytes (Script l c) f
unwritten_fed t bytes (Differs l) f = fed t bytes (Differs l) f

unwritten_ended : (t : Scan Table) (bytes : List ℕ) (x : Unit {0}) (result : Result (Unit {0}) CliFault)
    → Feeds script start bytes t None None (Ok x)
    → OrUnwritten (RunsFrom script t (Some []) (Some []) None None) result
    → OrUnwritten (RunsTo (Some bytes) (Some []) None None) result
unwritten_ended t bytes x (Ok y) f r = ended t bytes x (Ok y) f r
unwritten_ended t bytes x (Err Read) f r = ended t bytes x (Err Read) f r
unwritten_ended t bytes x (Err Write) f r = tt
unwritten_ended t bytes x (Err NoMemory) f r = ended t bytes x (Err NoMemory) f r
unwritten_ended t bytes x (Err (Script l c)) f r = ended t bytes x (Err (Script l c)) f r
unwritten_ended t bytes x (Err (Differs l)) f r = ended t bytes x (Err (Differs l)) f r

-- one of the bytes ended a script that began with them
pub fed_shown : (s t : Scan Table) (bytes : List ℕ) (e : CliFault) → s ≡ start
    → OrUnwritten {A = Unit {0}} (Feeds script s bytes t None None) (Err e)
    → OrUnwritten {A = Unit {0}} (RunsTo (Some bytes) (Some []) None None) (Err e)
fed_shown s t bytes e p f =
    unwritten_fed t bytes e (subst (λ s. OrUnwritten {A = Unit {0}} (Feeds script s bytes t None None) (Err e)) p f)

-- all of the bytes were read, and then it ended so
pub ended_shown : (s t : Scan Table) (bytes : List ℕ) (x : Unit {0}) (result : Result (Unit {0}) CliFault) → s ≡ start
    → Feeds script s bytes t None None (Ok x) → OrUnwritten (RunsFrom script t (Some []) (Some []) None None) result
    → OrUnwritten (RunsTo (Some bytes) (Some []) None None) result
ended_shown s t bytes x result p f r =
    unwritten_ended t bytes x result (subst (λ s. Feeds script s bytes t None None (Ok x)) p f) r
