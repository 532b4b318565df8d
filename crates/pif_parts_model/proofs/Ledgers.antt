-- What stays of calls, and what of a state no call changes. A ledger has of each thread its base priority, whether it
-- lives, and a mark: what its open call has done that stays once it is answered. Of mutexes it has what they are, and
-- not who owns them. Most changes of a state keep its ledger.
use Rattle.std.proofs.Common.{ℕ, zero, suc, ◌≡◌, ◌∙◌, ◌==◌, Bool, List, [], ◌∷◌, get_or, set, map, Option, Some, None, refl, sym, ap, if◌then◌else◌}
use Rattle.pif_types.specs.declared.requests.Request.{Request}
use Rattle.pif_types.specs.declared.requests.Request.TheVariants.{Signal, Broadcast, SetPrio}
use Rattle.pif_model.specs.Posix.{World, Thread, Mutex, Variable, Call, Progress, nobody, no_mutex, thread_at, mutex_at, with_thread, with_mutex, with_progress, at_progress, HasCome}
use Rattle.pif_model.specs.World.Health.{Fine}
use Rattle.pif_model.specs.World.Progress.{Has, Used}
use Rattle.pif_model_simulation.proofs.runs.Worlds.{call_of}

-- MARKS

-- what an open call has done that stays
pub data Mark : Type 0 where
  NoMark : Mark
  -- it has set the base priority of the first thread to the second number
  HasSet : ℕ → ℕ → Mark
  -- it has used this variable
  HasUsed : ℕ → Mark

-- a mark, if the result is 0
abbrev pub if_done : ℕ → Mark → Mark
if_done a x = if a == 0 then x else NoMark

-- the mark of a call of this request that has come this far
abbrev pub mark_of : Request → Progress → Mark
mark_of (SetPrio u p) (Has a) = if_done a (HasSet u p)
mark_of (Signal c) Used = HasUsed c
mark_of (Signal c) (Has a) = if_done a (HasUsed c)
mark_of (Broadcast c) Used = HasUsed c
mark_of (Broadcast c) (Has a) = if_done a (HasUsed c)
mark_of _ _ = NoMark

abbrev pub call_mark : Option Call → Mark
call_mark None = NoMark
call_mark (Some c) = mark_of c.request c.progress

-- a call of this request never has a mark
abbrev pub IsUnmarked : Request → Type 0
IsUnmarked q = (p : Progress) → mark_of q p ≡ NoMark

-- LEDGERS

-- what a ledger has of a thread
pub record Tag : Type 0 where
  pub base : ℕ
  pub living : Bool
  pub mark : Mark

abbrev pub tag_of : Thread → Tag
tag_of x = record { base = x.base; living = x.living; mark = call_mark x.call }

-- a mutex that nobody owns, and that is in order
abbrev pub free_of : Mutex → Mutex
free_of z = record { kind = z.kind; robust = z.robust; owner = 0; count = 1; health = Fine }

pub record Ledger : Type 0 where
  pub threads : List Tag
  pub mutexes : List Mutex
  pub variables : List Variable
  pub signals : ℕ
  pub time : ℕ

abbrev pub ledger_of : World → Ledger
ledger_of w = record {
  threads = map tag_of w.threads;
  mutexes = map free_of w.mutexes;
  variables = w.variables;
  signals = w.signals;
  time = w.time;
}

-- from w to v the ledger stays
abbrev pub Keeps : World → World → Type 0
Keeps w v = ledger_of v ≡ ledger_of w

-- LISTS

-- a place is written with what is the same in the part that matters
pub map_kept : {A B : Type 0} (f : A → B) (l : List A) (n : ℕ) (y d : A) → f y ≡ f (get_or l n d)
    → map f (set l n y) ≡ map f l
map_kept f [] n y d h = refl
map_kept f (x ∷ xs) zero y d h = ap (λ z. z ∷ map f xs) h
map_kept f (x ∷ xs) (suc n) y d h = ap (λ zs. f x ∷ zs) (map_kept f xs n y d h)

-- CHANGES THAT KEEP A LEDGER

-- a thread is written that has the same tag
pub keeps_thread : (w : World) (t : ℕ) (y : Thread) → tag_of y ≡ tag_of (thread_at w t) → Keeps w (with_thread t y w)
keeps_thread w t y h = ap (λ (xs : List Tag). record (ledger_of w) { threads = xs }) (map_kept tag_of w.threads t y nobody h)

-- a mutex is written that is of the same kind
pub keeps_mutex : (w : World) (m : ℕ) (z : Mutex) → free_of z ≡ free_of (mutex_at w m) → Keeps w (with_mutex m z w)
keeps_mutex w m z h = ap (λ (zs : List Mutex). record (ledger_of w) { mutexes = zs }) (map_kept free_of w.mutexes m z no_mutex h)

-- a call comes further, and has the same mark
pub keeps_progress : (w : World) (t : ℕ) (o : Progress) → call_mark (at_progress o (call_of w t)) ≡ call_mark (call_of w t)
    → Keeps w (with_progress t o w)
keeps_progress w t o h =
    keeps_thread w t (record (thread_at w t) { call = at_progress o (call_of w t) })
    (ap (λ (x : Mark). record (tag_of (thread_at w t)) { mark = x }) h)

pub keeps_comes : (w : World) (t : ℕ) (q : Request) (p o : Progress) → HasCome w t q p → mark_of q o ≡ mark_of q p
    → Keeps w (with_progress t o w)
keeps_comes w t q p o c h =
    keeps_progress w t o (ap (λ (k : Option Call). call_mark (at_progress o k)) c ∙ h ∙ sym (ap call_mark c))
