-- Questions, which change nothing: their words, and their texts.
use Rattle.std.specs.Prelude.{ℕ, List, ◌++◌, Option, Some, None, option_map, if◌then◌else◌, bytes_eq, codes}
use Rattle.pif_types.specs.declared.requests.Named.{Named}
use Rattle.pif_text_model.specs.declared.questions.Question.{Question}
use Rattle.pif_text_model.specs.declared.questions.Question.TheVariants.{Word, Health, CondWord, Prio, Pick}
use Rattle.pif_text_model.specs.Numbers.{IsName, thread_in, mutex_in, cond_in}
use Rattle.pif_text_model.specs.Replies.{thread_name, mutex_name, cond_name}

-- What a question names.
abbrev pub asked_names : Question → Named
asked_names (Word m) = record { mutex = Some m; cond = None; thread = None }
asked_names (Health m) = record { mutex = Some m; cond = None; thread = None }
asked_names (CondWord c) = record { mutex = None; cond = Some c; thread = None }
asked_names (Prio t) = record { mutex = None; cond = None; thread = Some t }
asked_names Pick = record { mutex = None; cond = None; thread = None }

-- A question of one word: `pick`.
unfoldable pub question_in_one : List ℕ → Option Question
question_in_one name =
    if bytes_eq name (codes "pick") then Some Pick
    else None

-- A question of two words: `word mN`, `prio tN`, `health mN` or `condword cN`.
unfoldable pub question_in_two : List ℕ → List ℕ → Option Question
question_in_two name word =
    if bytes_eq name (codes "word") then option_map Word (mutex_in word)
    else if bytes_eq name (codes "prio") then option_map Prio (thread_in word)
    else if bytes_eq name (codes "health") then option_map Health (mutex_in word)
    else if bytes_eq name (codes "condword") then option_map CondWord (cond_in word)
    else None

-- The text of a question, without a line feed.
unfoldable pub question_text : Question → List ℕ
question_text (Word m) = codes "word " ++ mutex_name m
question_text (Health m) = codes "health " ++ mutex_name m
question_text (CondWord c) = codes "condword " ++ cond_name c
question_text (Prio t) = codes "prio " ++ thread_name t
question_text Pick = codes "pick"

-- A question whose numbers a line can write.
abbrev pub IsQuestionWritten : Question → Type 0
IsQuestionWritten (Word m) = IsName m
IsQuestionWritten (Health m) = IsName m
IsQuestionWritten (CondWord c) = IsName c
IsQuestionWritten (Prio t) = IsName t
IsQuestionWritten Pick = Unit {0}
