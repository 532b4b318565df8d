-- The entries that a script makes have numbers that a line can write: what is asked by the grammar of the lines, and
-- what is answered by the limits and by the table machine.
use Rattle.std.proofs.Common.{◌≡◌, ℕ, ◌<◌, ◌≤◌, ◌==◌, zero, suc, nat_lt, Bool, cond, true, false, List, [], ◌∷◌, length, Option, Some, None, Result, Ok, Err, inl, inr, refl, sym, subst, arith, if◌then◌else◌}
use Rattle.std.specs.Prelude.{All}
use Rattle.std.proofs.lemmas.Bool.Decides.{nat_tests}
use Rattle.std.proofs.lemmas.List.Elements.{All-append, All-cons, All-nil}
use Rattle.pif_types.specs.Bounds.{Bounds, IsWithin}
use Rattle.pif_types.specs.declared.errors.AddFault.{AddFault}
use Rattle.pif_types.specs.declared.requests.Kind.{Kind}
use Rattle.pif_types.specs.declared.requests.Request.{Request}
use Rattle.pif_model.specs.declared.events.Entry.{Entry}
use Rattle.pif_model.specs.declared.events.Entry.TheVariants.{Thread as AddedThread, Mutex as AddedMutex, Cond as AddedCond, Step}
use Rattle.pif_model.specs.declared.events.Event.TheVariants.{Begin as BeginEvent, Go as GoEvent}
use Rattle.pif_model.specs.Calls.{add_thread_answer, add_mutex_answer, add_cond_answer}
use Rattle.pif_model.specs.Graph.{is_priority}
use Rattle.pif_model.specs.Lines.{event_outcome}
use Rattle.pif_model.specs.Soundness.{IsSound}
use Rattle.pif_model.specs.Table.{Table, new_table, has_thread_room, has_mutex_room, has_cond_room, has_mutex, thread_added, mutex_added, cond_added}
use Rattle.pif_model_simulation.proofs.additions.Additions.{new_sound}
use Rattle.pif_model_simulation.proofs.additions.ThreadAdded.{thread_added_kept}
use Rattle.pif_model_simulation.proofs.additions.MutexAdded.{mutex_added_kept}
use Rattle.pif_model_simulation.proofs.additions.CondAdded.{cond_added_kept}
use Rattle.pif_model_simulation.proofs.Simulation.{event_kept}
use Rattle.pif_model_simulation.proofs.CallLemmas.{is_refused, is_went}
use Rattle.pif_text_model.specs.declared.commands.Addition.{Addition}
use Rattle.pif_text_model.specs.declared.commands.Addition.TheVariants.{Thread, Mutex, Cond}
use Rattle.pif_text_model.specs.declared.commands.Command.{Command}
use Rattle.pif_text_model.specs.declared.commands.Command.TheVariants as command
use Rattle.pif_text_model.specs.Commands.{command_in}
use Rattle.pif_text_model.specs.CommandTexts.{IsAdditionWritten, IsRequestWritten, IsRunWritten, IsWritten}
use Rattle.pif_text_model.specs.Numbers.{IsName, IsNumber}
use Rattle.pif_text_model.specs.Traces.{IsSeenTraced, IsTraced}
use Rattle.pif_text_model.proofs.Written.{command_in-written}
use Rattle.pif_script_model.specs.Running.{script}
use Rattle.pif_script_model.specs.Scripts.{Scan, byte_taken}
use Rattle.pif_script_model.specs.Traces.{IsEntryWritten, IsHistory, entry_command, entry_reply}
use Rattle.pif_script_model.specs.Transcripts.{addition_entries, call_entries, command_entries, cond_entries, entries_by, event_entry, first_limits, going_entries, line_entries, mutex_entries, run_entries, script_entries, thread_entries}
use Rattle.pif_script_model.proofs.AnswerLemmas.{AreSmall, added-small, event-fits, none-small}
use Rattle.pif_script_model.proofs.EntryLemmas.{call-entries-begun, call-entries-refused, going-other, going-went, going-zero}
use Rattle.pif_script_model.proofs.ScriptLemmas.{by_cases}
use Rattle.pif_script_model.proofs.TranscriptLemmas.{entries-err, entries-nil, entries-ok}

-- ---- what is asked

-- a line can write what an entry asks
abbrev IsAsked : Entry → Type 0
IsAsked e = IsWritten (entry_command e)

-- one entry
one-asked : (e : Entry) → IsAsked e → All IsAsked (e ∷ [])
one-asked e h = All-cons IsAsked e [] h (All-nil IsAsked)

-- the entries of a thread that goes on
going-asked : (n t : ℕ) (s : Table) → IsName t → All IsAsked (going_entries n t s)
going-asked zero t s h = subst (All IsAsked) (sym (going-zero t s)) (one-asked (event_entry (GoEvent t) s) h)
going-asked (suc n) t s h =
    elim (is_went (event_outcome (GoEvent t) s).seen) [
      | inl e ↦
          let after = (event_outcome (GoEvent t) s).after in
          subst (All IsAsked) (sym (going-went n t s e))
          (All-cons IsAsked (event_entry (GoEvent t) s) (going_entries n t after) h (going-asked n t after h))
      | inr e ↦ subst (All IsAsked) (sym (going-other (suc n) t s e)) (one-asked (event_entry (GoEvent t) s) h)
    ]

-- of a whole call
call-asked : (t : ℕ) (q : Request) (s : Table) → IsName t → IsRequestWritten q → All IsAsked (call_entries t q s)
call-asked t q s h w =
    let begun = event_entry (BeginEvent t q) s in
    let after = (event_outcome (BeginEvent t q) s).after in
    elim (is_refused (event_outcome (BeginEvent t q) s).seen) [
      | inl r ↦ subst (All IsAsked) (sym (call-entries-refused t q s r.0 r.1)) (one-asked begun (h, w))
      | inr n ↦
          subst (All IsAsked) (sym (call-entries-begun t q s n))
          (All-cons IsAsked begun (going_entries 23 t after) (h, w) (going-asked 23 t after h))
    ]

-- of an addition
thread-asked : (p : ℕ) (a : Result ℕ AddFault) → IsNumber p → All IsAsked (thread_entries p a)
thread-asked p (Ok t) h = one-asked (AddedThread t p) h
thread-asked p (Err e) h = All-nil IsAsked

mutex-asked : (k : Kind) (robust : Bool) (a : Result ℕ AddFault) → All IsAsked (mutex_entries k robust a)
mutex-asked k robust (Ok m) = one-asked (AddedMutex m k robust) tt
mutex-asked k robust (Err e) = All-nil IsAsked

cond-asked : (m : ℕ) (a : Result ℕ AddFault) → IsName m → All IsAsked (cond_entries m a)
cond-asked m (Ok c) h = one-asked (AddedCond c m) h
cond-asked m (Err e) h = All-nil IsAsked

addition-asked : (a : Addition) (s : Table) → IsAdditionWritten a → All IsAsked (addition_entries a s)
unfolding addition_entries
addition-asked (Thread p) s h = thread-asked p (add_thread_answer p s) h
addition-asked (Mutex k robust) s h = mutex-asked k robust (add_mutex_answer s)
addition-asked (Cond m) s h = cond-asked m (add_cond_answer m s) h

-- of a thread that goes on
run-asked : (t : ℕ) (q : Option Request) (s : Table) → IsRunWritten t q → All IsAsked (run_entries t q s)
run-asked t (Some q) s h = call-asked t q s h.0 h.1
run-asked t None s h = going-asked 23 t s h

-- of a command
command-asked : (c : Command) (s : Table) → IsWritten c → All IsAsked (command_entries c s)
unfolding command_entries
command-asked (command.Limits t m c n) s h = All-nil IsAsked
command-asked (command.Add a) s h = addition-asked a s h
command-asked (command.Event e) s h = one-asked _ h
command-asked (command.Run t q) s h = run-asked t q s h
command-asked (command.Ask q) s h = All-nil IsAsked

-- of a first command
first-asked : (o : Option Bounds) (c : Command) → IsWritten c
    → All IsAsked (elim o as (λ _. List Entry) [ None ↦ [] | Some b ↦ command_entries c (new_table b) ])
first-asked None c h = All-nil IsAsked
first-asked (Some b) c h = command-asked c (new_table b) h

-- of a command of a core, or of the first one
by-asked : (l : Option Table) (c : Command) → IsWritten c → All IsAsked (entries_by l c)
by-asked None c h = first-asked (first_limits c) c h
by-asked (Some s) c h = command-asked c s h

-- of a line
line-asked : (s : Scan Table) → All IsAsked (line_entries s)
unfolding line_entries
line-asked s = asked (command_in s.line) refl
  where
    asked : (o : Option Command) → command_in s.line ≡ o
        → All IsAsked (elim o as (λ _. List Entry) [ None ↦ [] | Some c ↦ entries_by s.listener c ])
    asked None e = All-nil IsAsked
    asked (Some c) e = by-asked s.listener c (command_in-written s.line c e)

-- of a line at its LF
if-asked : (b : Bool) (es : List Entry) → All IsAsked es → All IsAsked (cond b es [])
if-asked true es h = h
if-asked false es h = All-nil IsAsked

-- all that a script asks
script-asked : (bs : List ℕ) (s : Scan Table) → All IsAsked (script_entries s bs)
script-asked [] s = subst (All IsAsked) (sym (entries-nil s)) (All-nil IsAsked)
script-asked (b ∷ bs) s =
    elim (by_cases (byte_taken script s b)) [
      | inl r ↦
          subst (All IsAsked) (sym (entries-ok s b bs r.0 r.1))
          (All-append IsAsked (cond (b == 10) (line_entries s) []) (script_entries r.0.1 bs)
          (if-asked (b == 10) (line_entries s) (line-asked s)) (script-asked bs r.0.1))
      | inr r ↦ subst (All IsAsked) (sym (entries-err s b bs r.0 r.1)) (All-nil IsAsked)
    ]

-- ---- what is answered

-- a line can write what an entry was answered
abbrev IsTold : Entry → Type 0
IsTold e = IsTraced (entry_reply e)

-- an addition that was made had room, and has the next number
added : (b : Bool) (n t : ℕ) (f : AddFault) → ◌≡◌ {A = Result ℕ AddFault} (if b then Ok n else Err f) (Ok t)
    → (b ≡ true) × (n ≡ t)
added true n t f e = (refl, cc)
added false n t f e = cc

-- and another test passed
added-by : (a b : Bool) (n t : ℕ) (f g : AddFault)
    → ◌≡◌ {A = Result ℕ AddFault} (if a then (if b then Ok n else Err f) else Err g) (Ok t)
    → (a ≡ true) × (b ≡ true) × (n ≡ t)
added-by true b n t f g e = let a = added b n t f e in (refl, a.0, a.1)
added-by false b n t f g e = cc

-- there is room below the limit
roomy : (n most : ℕ) → (if nat_lt most n then false else true) ≡ true → n ≤ most
roomy n most e = by_test (nat_lt most n) refl e
  where
    by_test : (b : Bool) → nat_lt most n ≡ b → (if b then false else true) ≡ true → n ≤ most
    by_test true p e = cc
    by_test false p e = grind (arith, nat_tests)

-- all that a core answers that goes on from here
history-told : (es : List Entry) (s : Table) → IsSound s → AreSmall s.lines → IsHistory s es → All IsTold es
history-told [] s k h x = All-nil IsTold
history-told (AddedThread t p ∷ es) s k h x =
    let a = added-by (is_priority p) (has_thread_room s) (length s.lines) t _ _ x.0 in
    let room = roomy (length s.lines) s.limits.threads a.1 in
    let most : s.limits.threads ≤ 1024 = k.all.shape.within.threads in
    let is : length s.lines ≡ t = a.2 in
    let small : t < 4294967296 = omega arith in
    All-cons IsTold (AddedThread t p) es small (history-told es (thread_added p s)
    (thread_added_kept s p k a.1 a.0).sound (added-small s.lines h) x.1)
history-told (AddedMutex m j robust ∷ es) s k h x =
    let a = added (has_mutex_room s) (length s.mutexes) m _ x.0 in
    let room = roomy (length s.mutexes) s.limits.mutexes a.0 in
    let most : s.limits.mutexes ≤ 1024 = k.all.shape.within.mutexes in
    let is : length s.mutexes ≡ m = a.1 in
    let small : m < 4294967296 = omega arith in
    All-cons IsTold (AddedMutex m j robust) es small (history-told es (mutex_added j robust s)
    (mutex_added_kept s j robust k a.0).sound h x.1)
history-told (AddedCond c m ∷ es) s k h x =
    let a = added-by (has_mutex s m) (has_cond_room s) (length s.conds) c _ _ x.0 in
    let room = roomy (length s.conds) s.limits.conds a.1 in
    let most : s.limits.conds ≤ 256 = k.all.shape.within.conds in
    let is : length s.conds ≡ c = a.2 in
    let small : c < 4294967296 = omega arith in
    All-cons IsTold (AddedCond c m) es small (history-told es (cond_added m s)
    (cond_added_kept s m k a.0 a.1).sound h x.1)
history-told (Step e seen ∷ es) s k h x =
    let fits = event-fits e s h in
    All-cons IsTold (Step e seen) es (subst IsSeenTraced x.0 fits.seen)
    (history-told es (event_outcome e s).after (event_kept s e k).sound fits.lines x.1)

-- the entries that a script makes, which are a history of a new core
pub script-written : (bs : List ℕ) (s : Scan Table) (b : Bounds) → IsWithin b
    → IsHistory (new_table b) (script_entries s bs) → All IsEntryWritten (script_entries s bs)
script-written bs s b within history =
    let asked = script-asked bs s in
    let told = history-told (script_entries s bs) (new_table b) (new_sound b within) none-small history in
    λ i d inside. (asked i d inside, told i d inside)
