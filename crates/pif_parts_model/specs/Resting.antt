-- The state in which a history rests where it is quiet, by its lines alone: all that was added is there, each thread
-- with the priority that was set last, ended or not, and each variable was used as often as a use of it returned 0.
-- Lines are listed newest first.
use Rattle.std.specs.Prelude.{ℕ, ◌+◌, ◌==◌, List, [], ◌∷◌, ◌++◌, set, Option, Some, None, if◌then◌else◌, false}
use Rattle.pif_types.specs.Bounds.{Bounds}
use Rattle.pif_types.specs.declared.requests.Request.{Request}
use Rattle.pif_types.specs.declared.requests.Request.TheVariants.{Signal, Broadcast, SetPrio}
use Rattle.pif_model.specs.Posix.{World, empty_world, thread_at, variable_at, with_thread, with_base, new_thread, new_mutex, new_variable}
use Rattle.pif_history_model.specs.declared.lines.Line.{Line}
use Rattle.pif_history_model.specs.declared.lines.Line.TheVariants.{Thread, Mutex, Cond, Answer, End, Tick}
use Rattle.pif_history_model.specs.Plain.{PlainConfiguration}
use Rattle.pif_parts_model.specs.Quiet.{call_by}

-- c was used once more
abbrev pub with_use : ℕ → World → World
with_use c w =
    record w { variables = set w.variables c (record (variable_at w c) { uses = (variable_at w c).uses + 1 }) }

-- what stays of a call of this request that returned 0
abbrev pub after_success : Request → World → World
after_success (SetPrio u p) w = with_base u p w
after_success (Signal c) w = with_use c w
after_success (Broadcast c) w = with_use c w
after_success q w = w

-- what stays of a call, if one was open, that was answered so: of one that failed nothing does
abbrev pub after_answer : ℕ → Option Request → World → World
after_answer a None w = w
after_answer a (Some q) w = if a == 0 then after_success q w else w

-- what stays behind one more line
abbrev pub after_line : List Line → Line → World → World
after_line before (Thread p) w = record w { threads = w.threads ++ new_thread p ∷ [] }
after_line before (Mutex k r x) w = record w { mutexes = w.mutexes ++ new_mutex k r ∷ [] }
after_line before (Cond m) w = record w { variables = w.variables ++ new_variable m ∷ [] }
after_line before (Answer t a) w = after_answer a (call_by before t) w
after_line before (End t) w = with_thread t (record (thread_at w t) { living = false }) w
after_line before (Tick n) w = record w { time = n }
after_line before x w = w

-- the state of the POSIX machine in which a history rests behind these lines, if it is quiet there
abbrev pub world_by : Bounds → List Line → World
world_by l [] = empty_world l.signals
world_by l (x ∷ xs) = after_line xs x (world_by l xs)

-- the same of the machine that is searched: nobody is dying
abbrev pub rest_by : Bounds → List Line → PlainConfiguration
rest_by l lines = record { world = world_by l lines; dying = [] }
