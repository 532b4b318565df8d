-- The words of the grammar that are no calls, no errors and no names: none of them names a thread, a mutex, a variable or a
-- cell.
use Rattle.std.specs.Prelude.{ℕ, ◌||◌, Bool, false, List, [], ◌∷◌, bytes_eq, codes}

abbrev pub program_words : List (List ℕ)
program_words =
    -- statements and tests
    codes "if" ∷ codes "else" ∷ codes "while" ∷ codes "break" ∷ codes "set" ∷ codes "add" ∷ codes "choose" ∷
    codes "join" ∷ codes "exit" ∷ codes "start" ∷ codes "not" ∷ codes "and" ∷ codes "or" ∷
    -- what conditions say of threads
    codes "stuck" ∷ codes "ended" ∷ codes "answered" ∷ codes "runs" ∷ codes "at" ∷ codes "least" ∷ codes "waits" ∷
    codes "for" ∷ codes "blocked" ∷ codes "on" ∷ codes "holds" ∷ codes "once" ∷ codes "twice" ∷ codes "times" ∷
    -- what they say of mutexes
    codes "free" ∷ codes "inconsistent" ∷ codes "unusable" ∷ codes "held" ∷ codes "by" ∷
    -- what they say of faults
    codes "race" ∷ codes "misuse" ∷ codes "deadlock" ∷ codes "lost" ∷ codes "wake-up" ∷ codes "livelock" ∷
    -- the first words of lines, and what stands in some of them
    codes "limits" ∷ codes "allow" ∷ codes "thread" ∷ codes "mutex" ∷ codes "cond" ∷ codes "cell" ∷
    codes "schedule" ∷ codes "delay" ∷ codes "do" ∷ codes "ends" ∷ codes "of" ∷ codes "ticks" ∷ codes "never" ∷
    codes "always" ∷ codes "finally" ∷ codes "sometimes" ∷
    -- kinds of mutexes
    codes "normal" ∷ codes "default" ∷ codes "errorcheck" ∷ codes "recursive" ∷ codes "robust" ∷ codes "none" ∷
    []

-- whether a word is one of these
abbrev pub is_among : List (List ℕ) → List ℕ → Bool
is_among [] word = false
is_among (w ∷ more) word = bytes_eq word w || is_among more word

-- whether a word is one of the grammar
abbrev pub is_of_programs : List ℕ → Bool
is_of_programs word = is_among program_words word
