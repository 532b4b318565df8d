-- Pictures of stories that were read, and whose commands were handed on with their answers.
use Rattle.std.proofs.Common.{◌≡◌, ℕ, Bool, List, ◌++◌, Option, Result, Ok, Err, IfOk, inl}
use Rattle.std.proofs.KnownBytes.{Keeps-refl}
use Rattle.pif_script_model.specs.declared.faults.CliFault.{CliFault}
use Rattle.pif_script_model.specs.declared.faults.CliFault.TheVariants.{Differs, NoMemory, Read, Script, Write}
use Rattle.pif_script_model.specs.declared.pictures.Picture.{Picture}
use Rattle.pif_script_model.specs.Migrating.{FailsToRead, ReadsTo}
use Rattle.pif_script_model.specs.Runs.{Writes}
use Rattle.pif_job_check.specs.Rows.{FailsToFill, FillsRows}
use Rattle.pif_job_draw.specs.Pictures.{DrawsTo, FailsOrLarge, FillsOrLarge, Holds, IsDrawn, IsPictureOf, PicturesTo}

-- not all was read
pub unread : (picture : Picture) (a b h : Option (List ℕ)) (fault : CliFault) → FailsToRead a b fault → PicturesTo picture a b h h (Err fault)
unread picture a b h Read r = (r.0, r.1, r.2, Keeps-refl h)
unread picture a b h NoMemory r = (r.0, r.1, r.2, Keeps-refl h)
unread picture a b h Write r = absurd r
unread picture a b h (Script line cause) r = absurd r
unread picture a b h (Differs line) r = absurd r

-- all was read, and there is no picture of it
pub unpictured : (picture : Picture) (a b h : Option (List ℕ)) (story seen : List ℕ) (fault : CliFault) → ReadsTo a b story → seen ≡ story
    → FillsRows {A = Unit {0}} seen (Err fault) → PicturesTo picture a b h h (Err fault)
unpictured picture a b h story seen (Script line cause) r e f = (story, r.0, r.1, ((rw e at f, r.2), Keeps-refl h))
unpictured picture a b h story seen (Differs line) r e f = (story, r.0, r.1, ((rw e at f, r.2), Keeps-refl h))
unpictured picture a b h story seen NoMemory r e f = (story, r.0, r.1, Keeps-refl h)
unpictured picture a b h story seen Read r e f = absurd f
unpictured picture a b h story seen Write r e f = absurd f

-- a text was written, or a part of it
pub pictured : {A : Type 0} (picture : Picture) (a b h k : Option (List ℕ)) (story seen text : List ℕ) (x : A)
    (result : Result (Unit {0}) CliFault) → ReadsTo a b story → seen ≡ story → FillsRows {A = A} seen (Ok x)
    → IsPictureOf picture seen text → Writes h k text result → PicturesTo picture a b h k result
pictured picture a b h k story seen text x (Ok y) r e f s w =
    (story, r.0, r.1, ((rw e at f, r.2), text, rw e at s, w))
pictured picture a b h k story seen text x (Err Write) r e f s w =
    (story, r.0, r.1, ((rw e at f, r.2), text, rw e at s, w))
pictured picture a b h k story seen text x (Err NoMemory) r e f s w = absurd w
pictured picture a b h k story seen text x (Err Read) r e f s w = absurd w
pictured picture a b h k story seen text x (Err (Script line cause)) r e f s w = absurd w
pictured picture a b h k story seen text x (Err (Differs line)) r e f s w = absurd w

-- ---- pages

-- a page that is joined of its parts holds the states
pub holds_joined : {T E : Type 0} (items : T → List ℕ) (head drawing middle states end : List ℕ) (page : Result T E)
    → IfOk page (λ p. items p ≡ head ++ drawing ++ middle ++ states ++ end) → IfOk page (λ p. Holds states (items p))
holds_joined items head drawing middle states end (Ok p) e = (head ++ drawing ++ middle, end, e)
holds_joined items head drawing middle states end (Err error) e = e

-- ---- drawings

-- filling in ends with a fault
pub fault_filled : (story : List ℕ) (fault : CliFault) → FailsToFill story fault → FailsOrLarge story fault
fault_filled story (Script line cause) f = inl f
fault_filled story (Differs line) f = f
fault_filled story NoMemory f = tt
fault_filled story Read f = absurd f
fault_filled story Write f = absurd f

-- not all was read
pub undrawn : (page : Bool) (a b h : Option (List ℕ)) (fault : CliFault) → FailsToRead a b fault
    → DrawsTo page a b h h (Err fault)
undrawn page a b h Read r = (r.0, r.1, r.2, Keeps-refl h)
undrawn page a b h NoMemory r = (r.0, r.1, r.2, Keeps-refl h)
undrawn page a b h Write r = absurd r
undrawn page a b h (Script line cause) r = absurd r
undrawn page a b h (Differs line) r = absurd r

-- all was read, and nothing is drawn of it
pub faulty_drawn : (page : Bool) (a b h : Option (List ℕ)) (story seen : List ℕ) (fault : CliFault) → ReadsTo a b story
    → seen ≡ story → FailsOrLarge seen fault → DrawsTo page a b h h (Err fault)
faulty_drawn page a b h story seen (Script line cause) r e f = (story, r.0, r.1, (rw e at f, r.2, Keeps-refl h))
faulty_drawn page a b h story seen (Differs line) r e f = (story, r.0, r.1, ((rw e at f, r.2), Keeps-refl h))
faulty_drawn page a b h story seen NoMemory r e f = (story, r.0, r.1, Keeps-refl h)
faulty_drawn page a b h story seen Read r e f = absurd f
faulty_drawn page a b h story seen Write r e f = absurd f

-- a text was written, or a part of it
pub drawn : {A : Type 0} (page : Bool) (a b h k : Option (List ℕ)) (story seen text : List ℕ) (x : A)
    (result : Result (Unit {0}) CliFault) → ReadsTo a b story → seen ≡ story → FillsOrLarge {A = A} seen (Ok x)
    → IsDrawn page seen text → Writes h k text result → DrawsTo page a b h k result
drawn page a b h k story seen text x (Ok y) r e f s w =
    (story, r.0, r.1, ((rw e at f, r.2), text, rw e at s, w))
drawn page a b h k story seen text x (Err Write) r e f s w =
    (story, r.0, r.1, ((rw e at f, r.2), text, rw e at s, w))
drawn page a b h k story seen text x (Err NoMemory) r e f s w = absurd w
drawn page a b h k story seen text x (Err Read) r e f s w = absurd w
drawn page a b h k story seen text x (Err (Script line cause)) r e f s w = absurd w
drawn page a b h k story seen text x (Err (Differs line)) r e f s w = absurd w
