-- The numbers by which C knows results, states and calls, under the names that include/pif.h gives them behind PIF_.
use Rattle.std.specs.Prelude.{ℕ}

-- `enum pif_result`: why there is no number

-- there is one
abbrev pub ok : ℕ
ok = 0

-- the handle holds no core
abbrev pub no_core : ℕ
no_core = 1

-- there is none: nothing of that number was ever added, or what is asked for there is not
abbrev pub none : ℕ
none = 2

-- the limit is reached
abbrev pub too_many : ℕ
too_many = 3

-- a priority is outside 1 to 99
abbrev pub bad_prio : ℕ
bad_prio = 4

-- the mutex to which a variable is to be bound was never added
abbrev pub no_mutex : ℕ
no_mutex = 5

-- a number is outside its range
abbrev pub invalid : ℕ
invalid = 6

-- the handle holds a core already
abbrev pub full : ℕ
full = 7

-- the heap refused a request
abbrev pub no_memory : ℕ
no_memory = 8

-- `enum pif_state`: what a thread does

abbrev pub ready : ℕ
ready = 0

abbrev pub queued : ℕ
queued = 1

abbrev pub parked : ℕ
parked = 2

-- it waits for good
abbrev pub stopped : ℕ
stopped = 3

-- it has ended
abbrev pub gone : ℕ
gone = 4

-- `enum pif_what`: what became of an event

-- the handle holds no core
abbrev pub nothing : ℕ
nothing = 0

abbrev pub begun : ℕ
begun = 1

abbrev pub went : ℕ
went = 2

abbrev pub waits : ℕ
waits = 3

abbrev pub answered : ℕ
answered = 4

abbrev pub ended : ℕ
ended = 5

abbrev pub ticked : ℕ
ticked = 6

abbrev pub refused : ℕ
refused = 7

-- a number names nothing
abbrev pub unnamed : ℕ
unnamed = 8

-- `enum pif_refusal`: why an event was refused

abbrev pub no_such : ℕ
no_such = 1

abbrev pub dead : ℕ
dead = 2

abbrev pub busy : ℕ
busy = 3

abbrev pub idle : ℕ
idle = 4

abbrev pub past : ℕ
past = 5

-- `enum pif_kind`: the kind of a mutex, by the numbers of pthread.h of Linux

abbrev pub normal : ℕ
normal = 0

abbrev pub recursive : ℕ
recursive = 1

abbrev pub errorcheck : ℕ
errorcheck = 2

-- `enum pif_ended_by`: how a job over texts ended

-- the text was read to its end; a history is legal
abbrev pub whole : ℕ
whole = 0

-- a line is no command, or is not allowed there
abbrev pub fault : ℕ
fault = 1

-- a line has another answer than the core gives; a history is illegal at a line
abbrev pub differs : ℕ
differs = 2

-- the heap refused a request
abbrev pub out_of_memory : ℕ
out_of_memory = 3

-- the text could not be written to its end
abbrev pub unwritten : ℕ
unwritten = 4

-- the text could not be read to its end
abbrev pub unread : ℕ
unread = 5

-- more states were made for a line than may be
abbrev pub undecided : ℕ
undecided = 6

-- a line is a mistake of the log
abbrev pub mistake : ℕ
mistake = 8
