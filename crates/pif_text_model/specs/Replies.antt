-- The texts of replies and faults.
use Rattle.std.specs.Prelude.{ℕ, List, [], ◌++◌, Option, Some, None, codes, decimal}
use Rattle.pif_types.specs.declared.errors.AddFault.{AddFault}
use Rattle.pif_types.specs.declared.errors.AddFault.TheVariants as add_fault
use Rattle.pif_types.specs.declared.errors.Errno.{Errno}
use Rattle.pif_types.specs.declared.errors.Refusal.{Refusal}
use Rattle.pif_types.specs.declared.errors.Refusal.TheVariants as refusal
use Rattle.pif_types.specs.declared.requests.Health.{Health}
use Rattle.pif_types.specs.declared.requests.Health.TheVariants.{Fine, Inconsistent, Unusable}
use Rattle.pif_model.specs.declared.events.Seen.{Seen}
use Rattle.pif_model.specs.declared.events.Seen.TheVariants as seen
use Rattle.pif_text_model.specs.declared.replies.Reply.{Reply}
use Rattle.pif_text_model.specs.declared.replies.Reply.TheVariants as reply
use Rattle.pif_text_model.specs.declared.replies.Added.{Added}
use Rattle.pif_text_model.specs.declared.replies.Added.TheVariants as added
use Rattle.pif_text_model.specs.declared.replies.Fact.{Fact}
use Rattle.pif_text_model.specs.declared.replies.Fact.TheVariants as fact
use Rattle.pif_text_model.specs.declared.replies.Cause.{Cause}
use Rattle.pif_text_model.specs.declared.replies.Cause.TheVariants as cause
use Rattle.pif_text_model.specs.Errors.{errno_name, error_of}
use Rattle.pif_text_model.specs.Numbers.{hex_digits}

-- Why a thread, a mutex or a condition variable was not added, in one word.
abbrev pub add_fault_word : AddFault → List ℕ
add_fault_word add_fault.TooMany = codes "toomany"
add_fault_word add_fault.BadPrio = codes "badprio"
add_fault_word add_fault.NoSuch = codes "nosuch"

-- Why an event was refused, in one word.
abbrev pub refusal_word : Refusal → List ℕ
refusal_word refusal.Dead = codes "dead"
refusal_word refusal.Busy = codes "busy"
refusal_word refusal.Idle = codes "idle"
refusal_word refusal.NoSuch = codes "nosuch"
refusal_word refusal.Past = codes "past"

-- What is known of the state that a mutex protects, in one word.
abbrev pub health_text : Health → List ℕ
health_text Fine = codes "fine"
health_text Inconsistent = codes "inconsistent"
health_text Unusable = codes "unusable"

-- The name of a thread.
abbrev pub thread_name : ℕ → List ℕ
thread_name thread = codes "t" ++ decimal thread

-- The name of a mutex.
abbrev pub mutex_name : ℕ → List ℕ
mutex_name mutex = codes "m" ++ decimal mutex

-- The name of a condition variable.
abbrev pub cond_name : ℕ → List ℕ
cond_name cond = codes "c" ++ decimal cond

-- A thread, or `none`.
abbrev pub thread_or_none : Option ℕ → List ℕ
thread_or_none (Some thread) = thread_name thread
thread_or_none None = codes "none"

-- The text of what an addition is answered, without a line feed.
unfoldable pub added_text : Added → List ℕ
added_text (added.Thread thread) = thread_name thread
added_text (added.Mutex mutex) = mutex_name mutex
added_text (added.Cond cond) = cond_name cond
added_text (added.Refused why) = codes "refused " ++ add_fault_word why

-- The text of what an event is answered, without a line feed.
unfoldable pub seen_text : Seen → List ℕ
seen_text seen.Begun = codes "begun"
seen_text seen.Went = codes "went"
seen_text seen.Waits = codes "waits"
seen_text (seen.Answered number) = codes "answer " ++ decimal number
seen_text seen.Ended = codes "ended"
seen_text seen.Ticked = codes "ticked"
seen_text (seen.Refused why) = codes "refused " ++ refusal_word why

-- The text of what a question is answered, without a line feed. The word of a mutex is written in eight hexadecimal
-- digits.
unfoldable pub fact_text : Fact → List ℕ
fact_text fact.NoSuch = codes "refused nosuch"
fact_text (fact.Word value) = codes "0x" ++ hex_digits 8 value
fact_text (fact.Health health) = health_text health
fact_text (fact.Uses uses) = decimal uses
fact_text (fact.Priority priority) = decimal priority
fact_text fact.Dead = codes "dead"
fact_text (fact.Thread thread) = thread_or_none thread

-- The text of a reply, without a line feed.
unfoldable pub text_of : Reply → List ℕ
text_of reply.Done = codes "ok"
text_of (reply.Added a) = added_text a
text_of (reply.Seen s) = seen_text s
text_of (reply.Told f) = fact_text f

-- The error that an event was answered.
abbrev pub seen_error : Seen → Option Errno
seen_error seen.Begun = None
seen_error seen.Went = None
seen_error seen.Waits = None
seen_error (seen.Answered number) = error_of number
seen_error seen.Ended = None
seen_error seen.Ticked = None
seen_error (seen.Refused why) = None

-- The error in a reply.
abbrev pub error_in : Reply → Option Errno
error_in reply.Done = None
error_in (reply.Added a) = None
error_in (reply.Seen s) = seen_error s
error_in (reply.Told f) = None

-- The name of an error as it stands behind its number.
abbrev pub error_text : Option Errno → List ℕ
error_text None = []
error_text (Some errno) = codes " " ++ errno_name errno

-- The text of a reply, with the name of the error behind its number if it is one, without a line feed.
abbrev pub named_text : Reply → List ℕ
named_text r = text_of r ++ error_text (error_in r)

-- The cause of a fault, in one word.
abbrev pub cause_word : Cause → List ℕ
cause_word cause.Size = codes "size"
cause_word cause.Long = codes "long"
cause_word cause.Cut = codes "cut"
cause_word cause.Command = codes "command"
cause_word cause.Limits = codes "limits"

-- The text of a fault at a line, without a line feed: the line's number, from 1, and the cause.
unfoldable pub fault_of : ℕ → Cause → List ℕ
fault_of line_number why = codes "fault " ++ decimal line_number ++ codes " " ++ cause_word why
