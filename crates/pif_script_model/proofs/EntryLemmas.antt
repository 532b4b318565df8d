-- The entries that a command makes, and their lines.
use Rattle.std.proofs.Common.{◌≡◌, ℕ, ◌+◌, ◌-◌, ◌<◌, ◌≤◌, suc, cond, Bool, true, false, List, [], ◌∷◌, ◌++◌, Option, Some, None, Result, Ok, Err, refl, sym, ap, ◌∙◌, subst, append_assoc, append-nil, reverse, ◌⊎◌, inl, inr, arith}
use Rattle.std.proofs.lemmas.List.{reverse-append}
use Rattle.pif_types.specs.declared.errors.AddFault.{AddFault}
use Rattle.pif_types.specs.declared.errors.Refusal.{Refusal}
use Rattle.pif_types.specs.declared.requests.Kind.{Kind}
use Rattle.pif_types.specs.declared.requests.Request.{Request}
use Rattle.pif_types.specs.Bounds.{Bounds}
use Rattle.pif_model.specs.declared.events.Entry.{Entry}
use Rattle.pif_model.specs.declared.events.Entry.TheVariants.{Step}
use Rattle.pif_model.specs.declared.events.Event.{Event}
use Rattle.pif_model.specs.declared.events.Event.TheVariants.{Begin as BeginEvent, Go as GoEvent}
use Rattle.pif_model.specs.declared.events.Seen.{Seen}
use Rattle.pif_model.specs.declared.events.Seen.TheVariants.{Went, Refused}
use Rattle.pif_model.specs.Calls.{add_thread_answer, add_mutex_answer, add_cond_answer}
use Rattle.pif_model.specs.Table.{Table, new_table}
use Rattle.pif_model.specs.Lines.{event_outcome, goes_on}
use Rattle.pif_model_simulation.specs.Calls.{call_outcome, after_going}
use Rattle.pif_model_simulation.proofs.CallLemmas.{called-other, called-refused, after_going-below, after_going-other, after_going-went, after_going-zero}
use Rattle.pif_text_model.specs.declared.commands.Addition.{Addition}
use Rattle.pif_text_model.specs.declared.commands.Addition.TheVariants.{Thread, Mutex, Cond}
use Rattle.pif_text_model.specs.declared.commands.Command.{Command}
use Rattle.pif_text_model.specs.declared.commands.Command.TheVariants as command
use Rattle.pif_text_model.specs.declared.replies.Cause.TheVariants.{Limits as LimitsCause}
use Rattle.pif_text_model.specs.declared.replies.Reply.{Reply}
use Rattle.pif_text_model.specs.declared.replies.Reply.TheVariants as reply
use Rattle.pif_text_model.specs.Limits.{default_limits}
use Rattle.pif_script_model.specs.Running.{Answer, IsAnswer, answer_or_fault, command_answer, are_limits, first_answer, limited_answer, limits_in, added_thread, added_mutex, added_cond, addition_answer, run_outcome}
use Rattle.pif_script_model.specs.Traces.{entry_line, entry_text}
use Rattle.pif_script_model.specs.Transcripts.{Transcribed, addition_entries, call_entries, command_entries, cond_entries, entry_lines, event_entry, first_limits, going_entries, mutex_entries, row, single_line, thread_entries}
use Rattle.pif_script_model.proofs.RunningLemmas.{answered-later, first_answer-later}

-- the line of an event
pub step-row : (e : Event) (s : Table) (seen : Seen) → seen ≡ (event_outcome e s).seen
    → row (command.Event e) (reply.Seen seen) ≡ entry_line (event_entry e s)
unfolding entry_text
step-row e s seen p = rw p refl

-- ---- going on

-- a step that went, and those that follow it
pub going-went : (more t : ℕ) (s : Table) → (event_outcome (GoEvent t) s).seen ≡ Went
    → going_entries (suc more) t s
    ≡ event_entry (GoEvent t) s ∷ going_entries more t (event_outcome (GoEvent t) s).after
unfolding going_entries
going-went more t s e =
    let o = event_outcome (GoEvent t) s in
    ap reverse (after_going-went more t s [] e ∙ after_going-below more t o.after [] (Step (GoEvent t) Went ∷ []))
    ∙ reverse-append (after_going more t o.after []) (Step (GoEvent t) Went ∷ [])
    ∙ ap (λ x. Step (GoEvent t) x ∷ reverse (after_going more t o.after [])) (sym e)

-- another, which is the last
pub going-other : (more t : ℕ) (s : Table) → ((event_outcome (GoEvent t) s).seen ≡ Went → ⊥)
    → going_entries more t s ≡ event_entry (GoEvent t) s ∷ []
unfolding going_entries
going-other more t s e = ap reverse (after_going-other more t s [] e)

-- no step more is allowed
pub going-zero : (t : ℕ) (s : Table) → going_entries 0 t s ≡ event_entry (GoEvent t) s ∷ []
unfolding going_entries
going-zero t s = ap reverse (after_going-zero t s [])

one-line : (e : Entry) → entry_lines (e ∷ []) ≡ entry_line e
one-line e = append-nil (entry_line e)

-- one step further in a loop that counts to 23
pub going-turn : (i t : ℕ) (s u : Table) (now next all : List ℕ) → i < 23
    → (event_outcome (GoEvent t) s).seen ≡ Went → u ≡ (event_outcome (GoEvent t) s).after
    → now ++ entry_lines (going_entries (23 - i) t s) ≡ all
    → next ≡ now ++ entry_line (event_entry (GoEvent t) s)
    → next ++ entry_lines (going_entries (23 - (i + 1)) t u) ≡ all
going-turn i t s u now next all h e f told line =
    let n : 23 - i ≡ suc (23 - (i + 1)) = omega arith in
    let rest = going_entries (23 - (i + 1)) t u in
    let same : going_entries (23 - i) t s ≡ event_entry (GoEvent t) s ∷ rest =
    ap (λ k. going_entries k t s) n ∙ going-went (23 - (i + 1)) t s e
    ∙ ap (λ v. event_entry (GoEvent t) s ∷ going_entries (23 - (i + 1)) t v) (sym f) in
    ap (λ l. l ++ entry_lines rest) line
    ∙ append_assoc now (entry_line (event_entry (GoEvent t) s)) (entry_lines rest)
    ∙ ap (λ l. now ++ entry_lines l) (sym same) ∙ told

-- the last step
going-ends : (n t : ℕ) (s : Table) (now next all : List ℕ)
    → going_entries n t s ≡ event_entry (GoEvent t) s ∷ []
    → now ++ entry_lines (going_entries n t s) ≡ all → next ≡ now ++ entry_line (event_entry (GoEvent t) s) → next ≡ all
going-ends n t s now next all e told line =
    line ∙ ap (λ l. now ++ l) (sym (one-line (event_entry (GoEvent t) s))) ∙ ap (λ l. now ++ entry_lines l) (sym e) ∙ told

pub going-stops : (n t : ℕ) (s : Table) (now next old : List ℕ) (u : Table)
    → ((event_outcome (GoEvent t) s).seen ≡ Went → ⊥)
    → now ++ entry_lines (going_entries n t s) ≡ old ++ entry_lines (going_entries 23 t u)
    → next ≡ now ++ entry_line (event_entry (GoEvent t) s) → next ≡ old ++ entry_lines (going_entries 23 t u)
going-stops n t s now next old u e told line = going-ends n t s now next _ (going-other n t s e) told line

pub going-last : (i t : ℕ) (s : Table) (now next old : List ℕ) (u : Table) → 23 ≤ i
    → now ++ entry_lines (going_entries (23 - i) t s) ≡ old ++ entry_lines (going_entries 23 t u)
    → next ≡ now ++ entry_line (event_entry (GoEvent t) s) → next ≡ old ++ entry_lines (going_entries 23 t u)
going-last i t s now next old u h told line =
    let n : 23 - i ≡ 0 = omega arith in
    going-ends (23 - i) t s now next _ (ap (λ k. going_entries k t s) n ∙ going-zero t s) told line

-- ---- a call

-- a refused begin is all
pub call-entries-refused : (t : ℕ) (q : Request) (s : Table) (r : Refusal)
    → (event_outcome (BeginEvent t q) s).seen ≡ Refused r
    → call_entries t q s ≡ event_entry (BeginEvent t q) s ∷ []
unfolding call_entries
call-entries-refused t q s r e = ap reverse (called-refused t q s [] r e)

-- what follows another
pub call-entries-begun : (t : ℕ) (q : Request) (s : Table)
    → ((r : Refusal) → (event_outcome (BeginEvent t q) s).seen ≡ Refused r → ⊥)
    → call_entries t q s
    ≡ event_entry (BeginEvent t q) s ∷ going_entries 23 t (event_outcome (BeginEvent t q) s).after
unfolding call_entries going_entries
call-entries-begun t q s n =
    let after = (event_outcome (BeginEvent t q) s).after in
    let begun = event_entry (BeginEvent t q) s in
    ap reverse (called-other t q s [] n ∙ after_going-below 23 t after [] (begun ∷ []))
    ∙ reverse-append (after_going 23 t after []) (begun ∷ [])

pub call-refused : (t : ℕ) (q : Request) (s : Table) (r : Refusal) (now next : List ℕ)
    → (event_outcome (BeginEvent t q) s).seen ≡ Refused r
    → next ≡ now ++ entry_line (event_entry (BeginEvent t q) s) → next ≡ now ++ entry_lines (call_entries t q s)
call-refused t q s r now next e line =
    line ∙ ap (λ l. now ++ l) (sym (one-line (event_entry (BeginEvent t q) s)))
    ∙ ap (λ l. now ++ entry_lines l) (sym (call-entries-refused t q s r e))

pub call-begun : (t : ℕ) (q : Request) (s u : Table) (now begun next : List ℕ)
    → ((r : Refusal) → (event_outcome (BeginEvent t q) s).seen ≡ Refused r → ⊥)
    → u ≡ (event_outcome (BeginEvent t q) s).after → begun ≡ now ++ entry_line (event_entry (BeginEvent t q) s)
    → next ≡ begun ++ entry_lines (going_entries 23 t u) → next ≡ now ++ entry_lines (call_entries t q s)
call-begun t q s u now begun next n after line more =
    let e = event_entry (BeginEvent t q) s in
    more ∙ ap (λ l. l ++ entry_lines (going_entries 23 t u)) line
    ∙ append_assoc now (entry_line e) (entry_lines (going_entries 23 t u))
    ∙ ap (λ v. now ++ (entry_line e ++ entry_lines (going_entries 23 t v))) after
    ∙ ap (λ l. now ++ entry_lines l) (sym (call-entries-begun t q s n))

-- ---- commands

pub run-answer : (t : ℕ) (q : Option Request) (s u : Table) (seen : Seen) → seen ≡ (run_outcome t q s).seen
    → u ≡ (run_outcome t q s).after → command_answer (command.Run t q) s ≡ Some (reply.Seen seen, u)
unfolding command_answer
run-answer t q s u seen e f = rw (e, f) refl

thread-line : (p : ℕ) (a : Result ℕ AddFault)
    → single_line (command.Add (Thread p)) (reply.Added (added_thread a)) ≡ entry_lines (thread_entries p a)
unfolding entry_text
thread-line p (Ok t) = sym (append-nil _)
thread-line p (Err e) = refl

mutex-line : (k : Kind) (robust : Bool) (a : Result ℕ AddFault)
    → single_line (command.Add (Mutex k robust)) (reply.Added (added_mutex a)) ≡ entry_lines (mutex_entries k robust a)
unfolding entry_text
mutex-line k robust (Ok m) = sym (append-nil _)
mutex-line k robust (Err e) = refl

cond-line : (m : ℕ) (a : Result ℕ AddFault)
    → single_line (command.Add (Cond m)) (reply.Added (added_cond a)) ≡ entry_lines (cond_entries m a)
unfolding entry_text
cond-line m (Ok c) = sym (append-nil _)
cond-line m (Err e) = refl

addition-line : (a : Addition) (s : Table)
    → single_line (command.Add a) (reply.Added (addition_answer a s)) ≡ entry_lines (addition_entries a s)
unfolding addition_answer addition_entries
addition-line (Thread p) s = thread-line p (add_thread_answer p s)
addition-line (Mutex k robust) s = mutex-line k robust (add_mutex_answer s)
addition-line (Cond m) s = cond-line m (add_cond_answer m s)

event-line : (e : Event) (s : Table) → single_line (command.Event e) (reply.Seen (event_outcome e s).seen)
    ≡ entry_lines (event_entry e s ∷ [])
unfolding entry_text
event-line e s = sym (append-nil _)

replied : (x y : Answer) → ◌≡◌ {A = Option Answer} (Some x) (Some y) → x.0 ≡ y.0
replied x y e = let same : x ≡ y = cc in ap (λ (z : Answer). z.0) same

-- the line of a command that makes one entry at most
pub single-lines : (c : Command) (s t : Table) (r : Reply) → ((u : ℕ) (q : Option Request) → c ≡ command.Run u q → ⊥)
    → command_answer c s ≡ Some (r, t) → single_line c r ≡ entry_lines (command_entries c s)
unfolding command_answer command_entries
single-lines (command.Limits a b c d) s t r n e = cc
single-lines (command.Add a) s t r n e = rw (← replied _ _ e) (addition-line a s)
single-lines (command.Event v) s t r n e = rw (← replied _ _ e) (event-line v s)
single-lines (command.Run u q) s t r n e = absurd (n u q refl)
single-lines (command.Ask q) s t r n e = refl

-- ---- first commands

-- a command is `limits`, or makes a core under the default limits
pub limits-or_default : (c : Command) → ((b : Bounds) × (c ≡ command.Limits b.threads b.mutexes b.conds b.signals)
    × (first_limits c ≡ limits_in b))
    ⊎ (((t m v n : ℕ) → c ≡ command.Limits t m v n → ⊥) × (first_limits c ≡ Some default_limits))
unfolding first_limits
limits-or_default (command.Limits t m c n) =
    inl (record { threads = t; mutexes = m; conds = c; signals = n }, refl, refl)
limits-or_default (command.Add a) = inr (λ t m v n e. cc, refl)
limits-or_default (command.Event e) = inr (λ t m v n e. cc, refl)
limits-or_default (command.Run t q) = inr (λ t m v n e. cc, refl)
limits-or_default (command.Ask q) = inr (λ t m v n e. cc, refl)

-- a number out of its range is the fault `limits`
pub first-fault : (c : Command) → first_limits c ≡ None → first_answer c ≡ Err LimitsCause
unfolding first_answer
first-fault c e =
    elim (limits-or_default c) [
      | inl r ↦ rw (r.1) (ap limited_answer (sym r.2 ∙ e))
      | inr r ↦ let bad : Some default_limits ≡ None = sym r.1 ∙ e in cc
    ]

done : (b : Bounds) → limits_in b ≡ Some b → first_answer (command.Limits b.threads b.mutexes b.conds b.signals)
    ≡ Ok (reply.Done, new_table b)
unfolding first_answer
done b e = ap limited_answer e

within : (x : Bool) (b l : Bounds) → ◌≡◌ {A = Option Bounds} (cond x (Some b) None) (Some l) → l ≡ b
within true b l e = let same : b ≡ l = cc in sym same
within false b l e = cc

pub limits_in-same : (b l : Bounds) → limits_in b ≡ Some l → l ≡ b
unfolding limits_in
limits_in-same b l e = within (are_limits b) b l e

limits-none : (b : Bounds) (s : Table)
    → command_answer (command.Limits b.threads b.mutexes b.conds b.signals) s ≡ None
unfolding command_answer
limits-none b s = refl

limits-quiet : (b : Bounds) (s : Table)
    → command_entries (command.Limits b.threads b.mutexes b.conds b.signals) s ≡ []
unfolding command_entries
limits-quiet b s = refl

-- what a core did that was just made for the command `limits`
named-first : (b : Bounds) (t : Table) (old new : List ℕ) (r : Option Reply) → limits_in b ≡ Some b
    → Transcribed (command.Limits b.threads b.mutexes b.conds b.signals) (new_table b) t old new r
    → (x : Reply) × (first_answer (command.Limits b.threads b.mutexes b.conds b.signals) ≡ Ok (x, t))
    × (new ≡ old ++ entry_lines (command_entries (command.Limits b.threads b.mutexes b.conds b.signals) (new_table b)))
named-first b t old new None e w = (
  reply.Done,
  done b e ∙ ap (λ u. Ok (reply.Done, u)) (sym w.1),
  w.2 ∙ sym (append-nil old) ∙ ap (λ l. old ++ entry_lines l) (sym (limits-quiet b (new_table b))),
)
named-first b t old new (Some r) e w =
    let bad : None ≡ Some (r, t) = sym (limits-none b (new_table b)) ∙ w.0 in absurd (none≢some bad)
  where
    none≢some : {A : Type 0} {x : A} → ◌≡◌ {A = Option A} None (Some x) → ⊥
    none≢some e = cc

-- and for another command
later-first : (c : Command) (t : Table) (old new : List ℕ) (r : Option Reply)
    → ((t m v n : ℕ) → c ≡ command.Limits t m v n → ⊥)
    → Transcribed c (new_table default_limits) t old new r
    → (x : Reply) × (first_answer c ≡ Ok (x, t))
    × (new ≡ old ++ entry_lines (command_entries c (new_table default_limits)))
later-first c t old new None n w =
    absurd (subst (λ a. IsAnswer (answer_or_fault a)) w.0 (answered-later c (new_table default_limits) n))
later-first c t old new (Some r) n w =
    (r, first_answer-later c n ∙ ap answer_or_fault w.0, w.1)

-- what a core did that was just made for a first command
pub first-done : (c : Command) (b : Bounds) (t : Table) (old new : List ℕ) (r : Option Reply) → first_limits c ≡ Some b
    → Transcribed c (new_table b) t old new r
    → (x : Reply) × (first_answer c ≡ Ok (x, t)) × (new ≡ old ++ entry_lines (command_entries c (new_table b)))
first-done c b t old new r e w =
    elim (limits-or_default c) [
      | inl l ↦
          let same : b ≡ l.0 = limits_in-same l.0 b (sym l.2 ∙ e) in
          let named = subst (λ d. Transcribed d (new_table b) t old new r) l.1 w in
          let fit = subst (λ d. Transcribed (command.Limits l.0.threads l.0.mutexes l.0.conds l.0.signals)
          (new_table d) t old new r) same named in
          rw (l.1, same) (named-first l.0 t old new r (sym l.2 ∙ e ∙ ap Some same) fit)
      | inr l ↦
          let some : Some default_limits ≡ Some b = sym l.1 ∙ e in
          let same : default_limits ≡ b = cc in
          rw (← same) (later-first c t old new r l.0 (subst (λ d. Transcribed c (new_table d) t old new r) (sym same) w))
    ]

-- a first command that makes a core is answered
pub first-answered : (c : Command) (b : Bounds) → first_limits c ≡ Some b → (a : Answer) × (first_answer c ≡ Ok a)
first-answered c b e =
    elim (limits-or_default c) [
      | inl l ↦
          let same : b ≡ l.0 = limits_in-same l.0 b (sym l.2 ∙ e) in
          ((reply.Done, new_table l.0), ap first_answer l.1 ∙ done l.0 (sym l.2 ∙ e ∙ ap Some same))
      | inr l ↦ answered c l.0 (command_answer c (new_table default_limits)) refl
    ]
  where
    answered : (c : Command) → ((t m v n : ℕ) → c ≡ command.Limits t m v n → ⊥) → (o : Option Answer)
        → command_answer c (new_table default_limits) ≡ o → (a : Answer) × (first_answer c ≡ Ok a)
    answered c n (Some a) e = (a, first_answer-later c n ∙ ap answer_or_fault e)
    answered c n None e =
        absurd (subst (λ a. IsAnswer (answer_or_fault a)) e (answered-later c (new_table default_limits) n))

-- the answer to a first command is `ok`, or that of a core under the default limits
pub first_answer-is : (c : Command) (b : Bounds) → first_limits c ≡ Some b
    → ((first_answer c ≡ Ok (reply.Done, new_table b)) × (command_entries c (new_table b) ≡ []))
    ⊎ (first_answer c ≡ answer_or_fault (command_answer c (new_table b)))
first_answer-is c b e =
    elim (limits-or_default c) [
      | inl l ↦
          let same : b ≡ l.0 = limits_in-same l.0 b (sym l.2 ∙ e) in
          inl (rw (l.1, same) (done l.0 (sym l.2 ∙ e ∙ ap Some same), limits-quiet l.0 (new_table l.0)))
      | inr l ↦
          let some : Some default_limits ≡ Some b = sym l.1 ∙ e in
          let same : default_limits ≡ b = cc in
          inr (rw (← same) (first_answer-later c l.0))
    ]
