-- Runs that leave a script behind the last of its bytes.
use Rattle.std.proofs.Common.{◌≡◌, ℕ, Bool, true, false, List, [], ◌++◌, Option, Result, Ok, Err, refl, sym, ap, ◌∙◌, subst, append-nil}
use Rattle.std.proofs.lemmas.Bool.{false≢true}
use Rattle.std.proofs.KnownBytes.{Appends-trans, Consumes-trans}
use Rattle.std.specs.Io.KnownBytes.{Appends, Consumes, IsAtEnd}
use Rattle.std.specs.Prelude.{is_ok}
use Rattle.pif_script_model.specs.declared.faults.CliFault.{CliFault}
use Rattle.pif_script_model.specs.declared.ending.End.{End}
use Rattle.pif_script_model.specs.Leaving.{GoesOn, RunsOn}
use Rattle.pif_script_model.specs.Runs.{RunsFrom, WritesEnd}
use Rattle.pif_script_model.specs.Scripts.{Hearing, Scan, closed_at, ended_by, reading_of}
use Rattle.pif_script_model.proofs.RunLemmas.{Goes, RunsFrom-more, RunsPart-closed}

module _ {S : Type 0} (hearing : Hearing S) where
  closes : (s : Scan S) (a b h k : Option (List ℕ)) (told : Result (List ℕ) End) (more : Bool)
      → closed_at hearing s ≡ told → Consumes a b [] → IsAtEnd b
      → WritesEnd h k hearing.said_of told (Ok more) → GoesOn hearing s s a b h k (Ok more)
  closes s a b h k (Ok text) true e p end w = absurd (false≢true (sym w.0))
  closes s a b h k (Ok text) false e p end w = (text, e, p, end, w.1, refl)
  closes s a b h k (Err x) more e p end w = absurd w

  -- the input ended
  pub GoesOn-closed : (s : Scan S) (a b h k : Option (List ℕ)) (result : Result Bool CliFault) → Consumes a b []
      → IsAtEnd b → WritesEnd h k hearing.said_of (closed_at hearing s) result → GoesOn hearing s s a b h k result
  GoesOn-closed s a b h k (Ok more) p end w = closes s a b h k (closed_at hearing s) more refl p end w
  GoesOn-closed s a b h k (Err e) p end w = RunsPart-closed hearing s a b h k (Err e) p end w

  -- and the script with it, behind what had no fault
  pub RunsOn-ended : (s t u : Scan S) (a b c h k l : Option (List ℕ)) → Goes hearing s t a b h k
      → GoesOn hearing t u b c k l (Ok false) → RunsOn hearing s u a c h l (Ok tt)
  RunsOn-ended s t u a b c h k l p q =
      let ends = ap (ended_by hearing) p.2 ∙ q.1 in (
        p.0,
        subst (λ l. Consumes a c l) (append-nil p.0) (Consumes-trans a b c _ _ p.1 q.2),
        p.2 ∙ ap Ok (sym q.5),
        (ap is_ok ends, q.3, rw ends (Appends-trans h k l _ _ p.3 q.4)),
      )

  -- a fault ended it
  pub RunsOn-failed : (s t u : Scan S) (a b c h k l : Option (List ℕ)) (e : CliFault) → Goes hearing s t a b h k
      → GoesOn hearing t u b c k l (Err e) → RunsOn hearing s u a c h l (Err e)
  RunsOn-failed s t u a b c h k l e p r = RunsFrom-more hearing p.0 s t a b c h k l (Err e) p.1 p.2 p.3 r

  -- where it leaves the script is passed over
  pub RunsOn-run : (s t : Scan S) (a b h k : Option (List ℕ)) (result : Result (Unit {0}) CliFault)
      → RunsOn hearing s t a b h k result → RunsFrom hearing s a b h k result
  RunsOn-run s t a b h k (Ok x) r = (r.0, r.1, r.3)
  RunsOn-run s t a b h k (Err e) r = r
