-- The entries that a script makes are a history of its core, and its trace is the same when it is replayed.
use Rattle.std.proofs.Common.{◌≡◌, ℕ, ◌≤◌, suc, zero, Bool, cond, true, false, List, [], ◌∷◌, ◌++◌, length, Option, Some, None, Result, Ok, Err, inl, inr, refl, sym, ap, ◌∙◌, subst, arith}
use Rattle.std.specs.Prelude.{option_and_then}
use Rattle.std.proofs.lemmas.Bool.Decides.{nat_tests}
use Rattle.pif_types.specs.Bounds.{Bounds, IsWithin}
use Rattle.pif_types.specs.declared.errors.AddFault.{AddFault}
use Rattle.pif_types.specs.declared.requests.Kind.{Kind}
use Rattle.pif_types.specs.declared.requests.Request.{Request}
use Rattle.pif_model.specs.declared.events.Entry.{Entry}
use Rattle.pif_model.specs.declared.events.Event.{Event}
use Rattle.pif_model.specs.declared.events.Event.TheVariants.{Begin as BeginEvent, Go as GoEvent}
use Rattle.pif_model.specs.declared.events.Seen.TheVariants.{Went}
use Rattle.pif_model.specs.Calls.{add_thread_answer, add_thread_after, add_mutex_answer, add_mutex_after, add_cond_answer, add_cond_after}
use Rattle.pif_model.specs.Table.{Table, new_table}
use Rattle.pif_model.specs.Lines.{Outcome, event_outcome, goes_on}
use Rattle.pif_model_simulation.specs.Calls.{call_outcome}
use Rattle.pif_model_simulation.proofs.CallLemmas.{call_other, call_refused, goes_on-other, goes_on-went, is_refused, is_went}
use Rattle.pif_text_model.specs.declared.commands.Addition.{Addition}
use Rattle.pif_text_model.specs.declared.commands.Addition.TheVariants.{Thread, Mutex, Cond}
use Rattle.pif_text_model.specs.declared.commands.Command.{Command}
use Rattle.pif_text_model.specs.declared.commands.Command.TheVariants as command
use Rattle.pif_text_model.specs.declared.replies.Cause.{Cause}
use Rattle.pif_text_model.specs.declared.replies.Reply.TheVariants as reply
use Rattle.pif_text_model.specs.Commands.{command_in}
use Rattle.pif_script_model.specs.declared.ending.Ending.{Ending}
use Rattle.pif_script_model.specs.Scripts.{Answered as AnsweredLine, Scan, start, byte_taken, line_answer, answer_to_line, answered_first, answered_later}
use Rattle.pif_text_model.specs.Limits.{default_limits}
use Rattle.pif_script_model.specs.Running.{Answer, addition_after, answer_line, answer_or_fault, are_limits, command_answer, first_answer, limits_in, made_by, run_outcome, script}
use Rattle.pif_script_model.specs.Traces.{IsHistory, trace, verdict}
use Rattle.pif_script_model.specs.Transcripts.{SameAsTraced, addition_entries, call_entries, command_entries, cond_entries, entries_by, event_entry, first_limits, going_entries, line_entries, mutex_entries, run_entries, script_entries, script_limits, script_trace, thread_entries}
use Rattle.pif_script_model.proofs.EntryLemmas.{call-entries-begun, call-entries-refused, first_answer-is, going-other, going-went, going-zero, limits-or_default}
use Rattle.pif_script_model.proofs.SameAgainLemmas.{trace_back}
use Rattle.pif_script_model.proofs.ScriptLemmas.{by_cases}
use Rattle.pif_script_model.proofs.TranscriptLemmas.{by_option, byte-same, entries-err, entries-nil, entries-ok, first_line-answered, limits-err, limits-nil, limits-ok, line-answered, line-no_command, none≢some, opened, opened-entries, answered-same}
use Rattle.pif_script_model.proofs.WrittenLemmas.{script-written}

-- ---- commands

-- an event and what follows it
event-history : (e : Event) (s : Table) (es : List Entry) → IsHistory (event_outcome e s).after es
    → IsHistory s (event_entry e s ∷ es)
event-history e s es h = (refl, h)

-- the last of them
going-stop : (n t : ℕ) (s : Table) (es : List Entry) → ((event_outcome (GoEvent t) s).seen ≡ Went → ⊥)
    → IsHistory (goes_on n t s).after es → IsHistory s (going_entries n t s ++ es)
going-stop n t s es other h =
    subst (λ l. IsHistory s (l ++ es)) (sym (going-other n t s other))
    (event-history (GoEvent t) s es (subst (λ (o : Outcome). IsHistory o.after es) (goes_on-other n t s other) h))

going-last : (t : ℕ) (s : Table) (es : List Entry) → IsHistory (goes_on zero t s).after es
    → IsHistory s (going_entries zero t s ++ es)
unfolding goes_on
going-last t s es h =
    subst (λ l. IsHistory s (l ++ es)) (sym (going-zero t s)) (event-history (GoEvent t) s es h)

-- the events of a thread that goes on, and what follows them
going-history : (n t : ℕ) (s : Table) (es : List Entry) → IsHistory (goes_on n t s).after es
    → IsHistory s (going_entries n t s ++ es)
going-history zero t s es h = going-last t s es h
going-history (suc n) t s es h =
    elim (is_went (event_outcome (GoEvent t) s).seen) [
      | inl e ↦
          let after = (event_outcome (GoEvent t) s).after in
          let more = subst (λ (o : Outcome). IsHistory o.after es) (goes_on-went n t s e) h in
          subst (λ l. IsHistory s (l ++ es)) (sym (going-went n t s e))
          (event-history (GoEvent t) s (going_entries n t after ++ es) (going-history n t after es more))
      | inr e ↦ going-stop (suc n) t s es e h
    ]

-- the events of a call, and what follows them
call-history : (t : ℕ) (q : Request) (s : Table) (es : List Entry) → IsHistory (call_outcome t q s).after es
    → IsHistory s (call_entries t q s ++ es)
call-history t q s es h =
    let begun = event_outcome (BeginEvent t q) s in
    elim (is_refused begun.seen) [
      | inl r ↦
          let more = subst (λ (o : Outcome). IsHistory o.after es) (call_refused t q s r.0 r.1) h in
          subst (λ l. IsHistory s (l ++ es)) (sym (call-entries-refused t q s r.0 r.1))
          (event-history (BeginEvent t q) s es more)
      | inr n ↦
          let more = subst (λ (o : Outcome). IsHistory o.after es) (call_other t q s n) h in
          subst (λ l. IsHistory s (l ++ es)) (sym (call-entries-begun t q s n))
          (event-history (BeginEvent t q) s (going_entries 23 t begun.after ++ es)
          (going-history 23 t begun.after es more))
    ]

after-answer : (o : Answer) (x : Answer) → ◌≡◌ {A = Option Answer} (Some o) (Some x) → o.1 ≡ x.1
after-answer o x e = let same : o ≡ x = cc in ap (λ (z : Answer). z.1) same

thread-history : (p : ℕ) (a : Result ℕ AddFault) (s : Table) (es : List Entry) → add_thread_answer p s ≡ a
    → IsHistory (add_thread_after p a s) es → IsHistory s (thread_entries p a ++ es)
thread-history p (Ok t) s es e h = (e, h)
thread-history p (Err f) s es e h = h

mutex-history : (k : Kind) (robust : Bool) (a : Result ℕ AddFault) (s : Table) (es : List Entry)
    → add_mutex_answer s ≡ a → IsHistory (add_mutex_after k robust a s) es
    → IsHistory s (mutex_entries k robust a ++ es)
mutex-history k robust (Ok m) s es e h = (e, h)
mutex-history k robust (Err f) s es e h = h

cond-history : (m : ℕ) (a : Result ℕ AddFault) (s : Table) (es : List Entry) → add_cond_answer m s ≡ a
    → IsHistory (add_cond_after m a s) es → IsHistory s (cond_entries m a ++ es)
cond-history m (Ok c) s es e h = (e, h)
cond-history m (Err f) s es e h = h

-- the entries of an addition, and what follows them
addition-history : (a : Addition) (s : Table) (es : List Entry) → IsHistory (addition_after a s) es
    → IsHistory s (addition_entries a s ++ es)
unfolding addition_after addition_entries
addition-history (Thread p) s es h = thread-history p (add_thread_answer p s) s es refl h
addition-history (Mutex k robust) s es h = mutex-history k robust (add_mutex_answer s) s es refl h
addition-history (Cond m) s es h = cond-history m (add_cond_answer m s) s es refl h

-- the events of a thread that goes on, and what follows them
run-history : (t : ℕ) (q : Option Request) (s : Table) (es : List Entry) → IsHistory (run_outcome t q s).after es
    → IsHistory s (run_entries t q s ++ es)
run-history t (Some q) s es h = call-history t q s es h
run-history t None s es h = going-history 23 t s es h

-- the entries of a command, and what follows them
command-history : (c : Command) (s : Table) (x : Answer) (es : List Entry) → command_answer c s ≡ Some x
    → IsHistory x.1 es → IsHistory s (command_entries c s ++ es)
unfolding command_answer command_entries
command-history (command.Limits t m c n) s x es e h = cc
command-history (command.Add a) s x es e h =
    addition-history a s es (subst (λ u. IsHistory u es) (sym (after-answer _ _ e)) h)
command-history (command.Event v) s x es e h =
    event-history v s es (subst (λ u. IsHistory u es) (sym (after-answer _ _ e)) h)
command-history (command.Run t q) s x es e h =
    run-history t q s es (subst (λ u. IsHistory u es) (sym (after-answer _ _ e)) h)
command-history (command.Ask q) s x es e h = subst (λ u. IsHistory u es) (sym (after-answer _ _ e)) h

-- ---- lines

err≢ok : {f : Ending} {x : List ℕ × Option Table} → ◌≡◌ {A = AnsweredLine Table} (Err f) (Ok x) → ⊥
err≢ok e = cc

answered-core : (m : List ℕ) (t : Table) (v : List ℕ × Option Table)
    → ◌≡◌ {A = AnsweredLine Table} (Ok (m, Some t)) (Ok v) → v.1 ≡ Some t
answered-core m t v e = let q : (m, Some t) ≡ v = cc in sym (ap (λ (z : List ℕ × Option Table). z.1) q)

-- a line that was answered leaves the core as its answer does
later-meant : (a : Result Answer Cause) (v : List ℕ × Option Table) → answered_later (answer_line a) ≡ Ok v
    → (x : Answer) × (a ≡ Ok x) × (v.1 ≡ Some x.1)
later-meant (Ok x) v e = (x, refl, answered-core _ x.1 v e)
later-meant (Err c) v e = absurd (err≢ok e)

first-meant : (a : Result Answer Cause) (v : List ℕ × Option Table) → answered_first (made_by (answer_line a)) ≡ Ok v
    → (x : Answer) × (a ≡ Ok x) × (v.1 ≡ Some x.1)
first-meant (Ok x) v e = (x, refl, answered-core _ x.1 v e)
first-meant (Err c) v e = absurd (err≢ok e)

answer-some : (o : Option Answer) (x : Answer) → answer_or_fault o ≡ Ok x → o ≡ Some x
answer-some (Some y) x e = let q : y ≡ x = cc in ap Some q
answer-some None x e = cc

-- the entries of a line that was answered, and what follows them
heard-line : (s : Scan Table) (t : Table) (v : List ℕ × Option Table) → s.listener ≡ Some t
    → line_answer script s ≡ Ok v
    → (x : Answer) × (v.1 ≡ Some x.1) × ((es : List Entry) → IsHistory x.1 es → IsHistory t (line_entries s ++ es))
unfolding line_entries
heard-line s t v e a =
    let meant = subst (λ l. answer_to_line script l s.version s.line ≡ Ok v) e a in
    elim (by_option (command_in s.line)) [
      | inl n ↦ absurd (err≢ok (sym (ap answered_later (line-no_command t s.line n)) ∙ meant))
      | inr c ↦
          let m = later-meant (answer_or_fault (command_answer c.0 t)) v
          (sym (ap answered_later (line-answered t s.line c.0 c.1)) ∙ meant) in
          let entries : line_entries s ≡ command_entries c.0 t =
          ap (λ l. elim (command_in s.line) as (λ _. List Entry) [ None ↦ [] | Some d ↦ entries_by l d ]) e
          ∙ ap (λ o. elim o as (λ _. List Entry) [ None ↦ [] | Some d ↦ command_entries d t ]) c.1 in (
            m.0,
            m.2,
            λ es h. subst (λ l. IsHistory t (l ++ es)) (sym entries)
                (command-history c.0 t m.0 es (answer-some _ m.0 m.1) h),
          )
    ]

first-line : (s : Scan Table) (v : List ℕ × Option Table) (c : Command) (b : Bounds) → s.listener ≡ None
    → line_answer script s ≡ Ok v → command_in s.line ≡ Some c → first_limits c ≡ Some b
    → (x : Answer) × (v.1 ≡ Some x.1)
    × ((es : List Entry) → IsHistory x.1 es → IsHistory (new_table b) (line_entries s ++ es))
first-line s v c b e a f g =
    let meant = subst (λ l. answer_to_line script l s.version s.line ≡ Ok v) e a in
    let m = first-meant (first_answer c) v (sym (ap answered_first (first_line-answered s.line c f)) ∙ meant) in
    let entries = opened-entries s c b e f g in
    elim (first_answer-is c b g) [
      | inl w ↦
          let x : (reply.Done, new_table b) ≡ m.0 = ok-same _ _ (sym w.0 ∙ m.1) in (
            m.0,
            m.2,
            λ es h. subst (λ l. IsHistory (new_table b) (l ++ es)) (sym (entries ∙ w.1))
                (subst (λ (y : Answer). IsHistory y.1 es) (sym x) h),
          )
      | inr w ↦ (
        m.0,
        m.2,
        λ es h. subst (λ l. IsHistory (new_table b) (l ++ es)) (sym entries)
            (command-history c (new_table b) m.0 es (answer-some _ m.0 (sym w ∙ m.1)) h),
      )
    ]
  where
    ok-same : (x y : Answer) → ◌≡◌ {A = Result Answer Cause} (Ok x) (Ok y) → x ≡ y
    ok-same x y e = cc

-- ---- scripts

history-later : (bs : List ℕ) (s : Scan Table) (t : Table) → s.listener ≡ Some t → IsHistory t (script_entries s bs)
history-later [] s t e = subst (λ l. IsHistory t l) (sym (entries-nil s)) tt
history-later (b ∷ bs) s t e =
    elim (by_cases (byte_taken script s b)) [
      | inl r ↦
          subst (λ l. IsHistory t l) (sym (entries-ok s b bs r.0 r.1)) (elim (byte-same s b r.0 r.1).1 [
            | inl w ↦
                let line = heard-line s t w.1 e w.2 in
                subst (λ y. IsHistory t (cond y (line_entries s) [] ++ script_entries r.0.1 bs)) (sym w.0)
                (line.2 (script_entries r.0.1 bs) (history-later bs r.0.1 line.0.1 (w.3 ∙ line.1)))
            | inr w ↦
                subst (λ y. IsHistory t (cond y (line_entries s) [] ++ script_entries r.0.1 bs)) (sym w.0)
                (history-later bs r.0.1 t (w.1 ∙ e))
          ])
      | inr r ↦ subst (λ l. IsHistory t l) (sym (entries-err s b bs r.0 r.1)) tt
    ]

some-same : {A : Type 0} (x y : A) → ◌≡◌ {A = Option A} (Some x) (Some y) → x ≡ y
some-same x y e = cc

-- limits that a first command names are in their ranges
within-limits : (b : Bounds) → are_limits b ≡ true → IsWithin b
within-limits b e = record {
  some_thread = grind (arith, nat_tests);
  threads = grind (arith, nat_tests);
  mutexes = grind (arith, nat_tests);
  conds = grind (arith, nat_tests);
  some_signal = grind (arith, nat_tests);
  signals = grind (arith, nat_tests);
}

within-by : (x : Bool) (b l : Bounds) → ◌≡◌ {A = Option Bounds} (cond x (Some b) None) (Some l) → (x ≡ true) × (b ≡ l)
within-by true b l e = (refl, some-same b l e)
within-by false b l e = absurd (none≢some e)

limits_in-within : (b l : Bounds) → limits_in b ≡ Some l → IsWithin l
unfolding limits_in
limits_in-within b l e = let w = within-by (are_limits b) b l e in subst IsWithin w.1 (within-limits b w.0)

first-within : (c : Command) (b : Bounds) → first_limits c ≡ Some b → IsWithin b
first-within c b e =
    elim (limits-or_default c) [
      | inl l ↦ limits_in-within l.0 b (sym l.2 ∙ e)
      | inr l ↦ subst IsWithin (some-same _ _ (sym l.1 ∙ e)) (within-limits default_limits refl)
    ]

first-history : (bs : List ℕ) (s : Scan Table) (b : Bounds) → s.listener ≡ None → script_limits s bs ≡ Some b
    → IsHistory (new_table b) (script_entries s bs) × IsWithin b
first-history [] s b e f = absurd (none≢some (sym (limits-nil s) ∙ f))
first-history (y ∷ bs) s b e f =
    elim (by_cases (byte_taken script s y)) [
      | inl r ↦ elim (by_option r.0.1.listener) [
        | inl n ↦ elim (byte-same s y r.0 r.1).1 [
          | inl w ↦ absurd ((answered-same s.listener s.version s.line w.1 w.2).1 (sym w.3 ∙ n))
          | inr w ↦
              let rest = first-history bs r.0.1 b n (sym (limits-ok s y bs r.0 None r.1 n) ∙ f) in (
                subst (λ l. IsHistory (new_table b) l) (sym (entries-ok s y bs r.0 r.1))
                    (subst (λ z. IsHistory (new_table b) (cond z (line_entries s) [] ++ script_entries r.0.1 bs))
                    (sym w.0) rest.0),
                rest.1,
              )
        ]
        | inr u ↦ elim (byte-same s y r.0 r.1).1 [
          | inl w ↦
              let meant = subst (λ l. answer_to_line script l s.version s.line ≡ Ok w.1) e w.2 in
              let c = opened s.line w.1 meant in
              let named = sym (limits-ok s y bs r.0 (Some u.0) r.1 u.1) ∙ f in
              let same : c.1 ≡ b =
              some-same c.1 b (sym c.3 ∙ sym (ap (option_and_then first_limits) c.2) ∙ named) in
              let g = c.3 ∙ ap Some same in
              let line = first-line s w.1 c.0 b e w.2 c.2 g in (
                subst (λ l. IsHistory (new_table b) l) (sym (entries-ok s y bs r.0 r.1))
                    (subst (λ z. IsHistory (new_table b) (cond z (line_entries s) [] ++ script_entries r.0.1 bs))
                    (sym w.0)
                    (line.2 (script_entries r.0.1 bs) (history-later bs r.0.1 line.0.1 (w.3 ∙ line.1)))),
                first-within c.0 b g,
              )
          | inr w ↦ absurd (none≢some (sym (w.1 ∙ e) ∙ u.1))
        ]
      ]
      | inr r ↦ absurd (none≢some (sym (limits-err s y bs r.0 r.1) ∙ f))
    ]

made-trace : (o : Option Bounds) (b : Bounds) (es : List Entry) → o ≡ Some b
    → ◌≡◌ {A = List ℕ} (elim o [ None ↦ [] | Some d ↦ trace d es ]) (trace b es)
made-trace o b es e = ap (λ p. elim p as (λ _. List ℕ) [ None ↦ [] | Some d ↦ trace d es ]) e

script_trace-is : (bytes : List ℕ) (b : Bounds) → script_limits start bytes ≡ Some b
    → script_trace bytes ≡ trace b (script_entries start bytes)
unfolding script_trace
script_trace-is bytes b e = made-trace (script_limits start bytes) b (script_entries start bytes) e

pub script_trace_back : SameAsTraced
script_trace_back bytes b e small =
    let h = first-history bytes start b refl e in
    let is = script_trace-is bytes b e in
    ap verdict is ∙ trace_back b (script_entries start bytes) h.1 (script-written bytes start b h.1 h.0) h.0
    (subst (λ l. length l ≤ 16777216) is small)
