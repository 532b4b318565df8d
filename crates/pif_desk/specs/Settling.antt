-- When a room settles with its clients, and why it does not.
use Rattle.std.specs.Prelude.{ℕ, ◌≡◌, ◌<◌, ⊤, Bool, true, false, ◌==◌, nat_lt, List, [], ◌∷◌, length, take, reverse, slice_get, count_by, Option, Some, None, IfSome, MatchOption, is_some, if◌then◌else◌}
use Rattle.std.specs.List.{All, list_any}
use Rattle.pif_model.specs.declared.events.Event.TheVariants.{Go}
use Rattle.pif_model.specs.declared.events.Seen.TheVariants.{Answered}
use Rattle.pif_model.specs.declared.events.Entry.{Entry}
use Rattle.pif_model.specs.declared.events.Entry.TheVariants.{Thread as AddThread, Step as Happened}
use Rattle.pif_desk.specs.declared.book.Why.{Why}
use Rattle.pif_desk.specs.declared.book.Why.TheVariants.{Count, Stranger, Differs}
use Rattle.pif_desk.specs.declared.walk.Walk.{Walk}
use Rattle.pif_desk.specs.declared.log.Reply.{Reply}
use Rattle.pif_desk.specs.declared.log.Call.{Call}
use Rattle.pif_desk.specs.Logs.{Log, with_reply}
use Rattle.pif_desk.specs.Rooms.{ClientState, IsExact}

-- whether an entry adds a thread
abbrev pub adds_thread : Entry → Bool
adds_thread (AddThread t p) = true
adds_thread _ = false

-- whether an entry is the answer of a call
abbrev pub is_answer : Entry → Bool
is_answer (Happened (Go t) (Answered a)) = true
is_answer _ = false

-- whether an entry adds the thread t
abbrev pub adds : ℕ → Entry → Bool
adds t (AddThread u p) = u == t
adds t _ = false

-- whether a client is a stranger: no entry adds its thread, or two clients have it
abbrev pub is_stranger : List ClientState → List Entry → ClientState → Bool
is_stranger clients journal c =
    if list_any (adds c.thread) journal then nat_lt 1 (count_by (λ d. d.thread == c.thread) clients) else true

-- x is the first of the list of which P holds
pub record IsFirst {A : Type 0} (P : A → Type 0) (xs : List A) (x : A) : Type 0 where
  pub place : ℕ
  pub here : slice_get xs place ≡ Some x
  pub holds : P x
  pub not_before : All (λ y. P y → ⊥) (take place xs)

-- there are as many clients as threads were added
abbrev pub AreAsManyAsThreads : List ClientState → List Entry → Type 0
AreAsManyAsThreads clients journal = length clients ≡ count_by adds_thread journal

-- no client is a stranger
abbrev pub AreKnown : List ClientState → List Entry → Type 0
AreKnown clients journal = All (λ c. is_stranger clients journal c ≡ false) clients

-- each thread that was added has just one client
abbrev pub HasOneClientEach : List ClientState → List Entry → Type 0
HasOneClientEach clients journal =
    (t : ℕ) → list_any (adds t) journal ≡ true → count_by (λ c. c.thread == t) clients ≡ 1

-- why a room doesn't settle: the first of these that holds, of the first client of which it holds
abbrev pub IsFault : List ClientState → List Entry → Why → Type 0
IsFault clients journal Count = AreAsManyAsThreads clients journal → ⊥
IsFault clients journal (Stranger t) =
    AreAsManyAsThreads clients journal
    × ((c : ClientState) × (c.thread ≡ t) × IsFirst (λ d. is_stranger clients journal d ≡ true) clients c)
IsFault clients journal (Differs t) =
    AreAsManyAsThreads clients journal × AreKnown clients journal
    × ((c : ClientState) × (c.thread ≡ t) × IsFirst (λ d. IsExact d journal → ⊥) clients c)

-- a room settles: there are as many clients as threads, no client is a stranger, and each log is just the calls of its
-- client's thread in the journal, each once, in their order
pub record Settles (clients : List ClientState) (journal : List Entry) : Type 0 where
  pub counted : AreAsManyAsThreads clients journal
  pub known : AreKnown clients journal
  pub exact : All (λ c. IsExact c journal) clients

-- RECEIPTS

-- the reply of a call of t, if there is one, is that of the entry at its position
abbrev pub ReplyStandsIn : ℕ → List Entry → Call → Type 0
ReplyStandsIn t journal c = IfSome c.reply (λ r. slice_get journal r.at ≡ Some (Happened (Go t) (Answered r.answer)))

-- the positions of the replies are below n and fall, from the newest call on
abbrev pub Fall : ℕ → List Call → Type 0
Fall n [] = ⊤
Fall n (c ∷ cs) = MatchOption c.reply (Fall n cs) (λ r. (r.at < n) × Fall r.at cs)

-- each reply of a client stands in the journal at its position, and the positions rise from call to call
pub record HasReceipts (c : ClientState) (journal : List Entry) : Type 0 where
  pub stand : All (ReplyStandsIn c.thread journal) c.log.calls
  pub rise : Fall (length journal) c.log.calls

-- how many calls of a log were answered
abbrev pub answered_calls : Log → ℕ
answered_calls l = count_by (λ c. is_some c.reply) l.calls

-- A WALK OVER THE JOURNAL, FROM ITS END

-- calls of which the last has this reply if it is open and a reply is there
abbrev pub with_reply_if_any : Option Reply → List Call → List Call
with_reply_if_any None cs = cs
with_reply_if_any (Some r) cs = with_reply r cs

-- a log is what is left of one with these calls, the oldest first: so many of them are left, this reply was seen and
-- belongs to the last of them, and the end of the thread was seen or not
pub record IsRestOfLog (calls : List Call) (ended : Bool) (left : ℕ) (reply : Option Reply) (end_seen : Bool)
    (l : Log) : Type 0 where
  pub calls_left : with_reply_if_any reply l.calls ≡ reverse (take left calls)
  pub ended_left : (if end_seen then true else l.ended) ≡ ended

-- the same at a point of the walk
abbrev pub IsRestOfLogAt : List Call → Bool → Walk → Log → Type 0
IsRestOfLogAt calls e w l = IsRestOfLog calls e w.left w.reply w.end_seen l
