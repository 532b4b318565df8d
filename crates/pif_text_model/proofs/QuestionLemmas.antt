-- Questions: their numbers are such that a line can write, and their texts are read as them and are plain.
use Rattle.std.proofs.Common.{◌≡◌, List, ℕ, Some, refl, arith, codes, bytes_eq}
use Rattle.pif_text_model.specs.declared.commands.Command.TheVariants.{Ask}
use Rattle.pif_text_model.specs.declared.questions.Question.{Question}
use Rattle.pif_text_model.specs.declared.questions.Question.TheVariants.{Word, Health, CondWord, Prio, Pick}
use Rattle.pif_text_model.specs.Commands.{command_in, command_of_one, command_of_two, command_of_words}
use Rattle.pif_text_model.specs.Numbers.{thread_in, mutex_in, cond_in}
use Rattle.pif_text_model.specs.Questions.{IsQuestionWritten, question_in_one, question_in_two, question_text}
use Rattle.pif_text_model.specs.Replies.{thread_name, mutex_name, cond_name}
use Rattle.pif_text_model.specs.Words.{words}
use Rattle.pif_text_model.proofs.Names.{two-words, thread-no_space, mutex-no_space, cond-no_space, thread_back, mutex_back, cond_back}
use Rattle.pif_text_model.proofs.Plain.{IsPlain, behind, plain-cond, plain-more, plain-mutex, plain-thread}
use Rattle.pif_text_model.proofs.Yields.{Yields, if_yields, map_yields, thread-small, mutex-small, cond-small}

-- of one word
pub question_of_one-written : (name : List ℕ) → Yields IsQuestionWritten (question_in_one name)
unfolding question_in_one
question_of_one-written name = if_yields IsQuestionWritten (bytes_eq name (codes "pick")) _ _ tt tt

-- of two words
pub question_of_two-written : (name word : List ℕ) → Yields IsQuestionWritten (question_in_two name word)
unfolding question_in_two
question_of_two-written name word =
    let P = IsQuestionWritten in
    if_yields P (bytes_eq name (codes "word")) _ _ (map_yields P Word (mutex_in word) (mutex-small word))
    (if_yields P (bytes_eq name (codes "prio")) _ _ (map_yields P Prio (thread_in word) (thread-small word))
    (if_yields P (bytes_eq name (codes "health")) _ _ (map_yields P Health (mutex_in word) (mutex-small word))
    (if_yields P (bytes_eq name (codes "condword")) _ _ (map_yields P CondWord (cond_in word) (cond-small word)) tt)))

-- a question is read from its own text
pub question_back : (q : Question) → IsQuestionWritten q → command_in (question_text q) ≡ Some (Ask q)
unfolding command_in command_of_words command_of_one command_of_two question_in_one question_in_two question_text words
question_back (Word m) r =
    rw (two-words (codes "word") (mutex_name m) refl (mutex-no_space m r.1), mutex_back m r.0 r.1) refl
question_back (Health m) r =
    rw (two-words (codes "health") (mutex_name m) refl (mutex-no_space m r.1), mutex_back m r.0 r.1) refl
question_back (CondWord c) r =
    rw (two-words (codes "condword") (cond_name c) refl (cond-no_space c r.1), cond_back c r.0 r.1) refl
question_back (Prio t) r =
    rw (two-words (codes "prio") (thread_name t) refl (thread-no_space t r.1), thread_back t r.0 r.1) refl
question_back Pick r = refl

-- its text is short, and has neither LF nor an equals sign
pub question-plain : (q : Question) → IsQuestionWritten q → IsPlain 62 (question_text q)
unfolding question_text
question-plain (Word m) r =
    plain-more 16 62 _ (omega arith) (behind 5 11 (codes "word ") _ refl refl (omega arith) (plain-mutex m r.1))
question-plain (Health m) r =
    plain-more 18 62 _ (omega arith) (behind 7 11 (codes "health ") _ refl refl (omega arith) (plain-mutex m r.1))
question-plain (CondWord c) r =
    plain-more 20 62 _ (omega arith) (behind 9 11 (codes "condword ") _ refl refl (omega arith) (plain-cond c r.1))
question-plain (Prio t) r =
    plain-more 16 62 _ (omega arith) (behind 5 11 (codes "prio ") _ refl refl (omega arith) (plain-thread t r.1))
question-plain Pick r = record { no_end = refl; no_equals = refl; short = omega arith }
