-- Objects whose members were appended, as the definitions have them.
use Rattle.std.proofs.Common.{◌≡◌, ◌∙◌, ℕ, List, ◌∷◌, ◌++◌, Option, Some, None, refl, ap, append_assoc}
use Rattle.std.specs.Prelude.{codes, decimal, map, option_and_then, option_map}
use Rattle.pif_model.specs.declared.events.Order.TheVariants as order
use Rattle.pif_model.specs.Table.{Table}
use Rattle.pif_model.specs.Calls.{base_answer, bound_answer, cond_word_answer, effective_answer, health_answer, kind_answer, owner_answer, status_answer, word_answer}
use Rattle.pif_text_model.specs.CommandTexts.{kind_word}
use Rattle.pif_text_model.specs.Replies.{health_text}
use Rattle.pif_story.specs.Names.{name_of}
use Rattle.pif_text_core.specs.Waiting.{awaited, order_in, owner_of}
use Rattle.pif_text.specs.Json.{bool_text, name_or_null, name_text, number_or_null, or_null, quoted, separated}
use Rattle.pif_text.specs.Members.{array_member}
use Rattle.pif_story_states.specs.Objects.{call_member, called_object, cond_by, cond_object, doing_members, error_name, holds_member, kind_members, mutex_object, owner_members, priority_members, state_word, thread_object, times, word_members}

-- a member, by its name and the text of its value
abbrev pub member : (name value : List ℕ) → List ℕ
member name value = quoted name ++ codes ":" ++ value

-- the text of a value, or `null`
pub mapped : {A B : Type 0} (text : B → List ℕ) (f : A → B) (o : Option A)
    → or_null text (option_map f o) ≡ or_null (λ x. text (f x)) o
mapped text f None = refl
mapped text f (Some x) = refl

-- ---- answers

nest_called : (l0 a l1 b l2 : List ℕ) → l0 ++ (a ++ (l1 ++ b)) ++ l2 ≡ l0 ++ a ++ l1 ++ b ++ l2
nest_called l0 a l1 b l2 = simp append_assoc

pub called_appended : (number : ℕ) (old new : List ℕ) (error : Option (List ℕ)) → error ≡ error_name number
    → new ≡ old ++ (codes "{" ++ (member (codes "answer") (decimal number)
    ++ 44 ∷ member (codes "error") (or_null quoted error)) ++ codes "}")
    → new ≡ old ++ called_object number
called_appended number old new error e all =
    all
    ∙ ap (λ l. old ++ l) (nest_called (codes "{\"answer\":") (decimal number) (codes ",\"error\":") (or_null quoted error) (codes "}"))
    ∙ ap (λ o. old ++ (codes "{\"answer\":" ++ decimal number ++ codes ",\"error\":" ++ or_null quoted o ++ codes "}")) e

-- ---- threads

nest_thread : (l0 a l1 b l2 c l3 d l4 e l5 f l6 g h i k : List ℕ)
    → (l0 ++ (a ++ (l1 ++ (b ++ (l2 ++ (c ++ (l3 ++ (d ++ (l4 ++ (e ++ (l5 ++ (f ++ (l6 ++ g))))))))))))) ++ h ++ i ++ k
    ≡ l0 ++ a ++ l1 ++ b ++ (l2 ++ c ++ l3 ++ d ++ l4 ++ e) ++ (l5 ++ f ++ l6 ++ g) ++ h ++ i ++ k
nest_thread l0 a l1 b l2 c l3 d l4 e l5 f l6 g h i k = simp append_assoc

thread_pieces : (a b c d e f g h i : List ℕ)
    → (123 ∷ (member (codes "name") a ++ 44 ∷ (member (codes "label") b ++ 44 ∷ (member (codes "state") c
    ++ 44 ∷ (member (codes "waits_for") d ++ 44 ∷ (member (codes "parked_on") e ++ 44 ∷ (member (codes "priority") f
    ++ 44 ∷ member (codes "base") g))))))) ++ h ++ i ++ codes "}"
    ≡ codes "{\"name\":" ++ a ++ codes ",\"label\":" ++ b
    ++ (codes ",\"state\":" ++ c ++ codes ",\"waits_for\":" ++ d ++ codes ",\"parked_on\":" ++ e)
    ++ (codes ",\"priority\":" ++ f ++ codes ",\"base\":" ++ g) ++ h ++ i ++ codes "}"
thread_pieces a b c d e f g h i =
    nest_thread (codes "{\"name\":") a (codes ",\"label\":") b (codes ",\"state\":") c (codes ",\"waits_for\":") d
    (codes ",\"parked_on\":") e (codes ",\"priority\":") f (codes ",\"base\":") g h i (codes "}")

pub thread_appended : (names : List ℕ) (s : Table) (t : ℕ) (old new a b c d e f g : List ℕ)
    → a ≡ name_text 116 t → b ≡ or_null quoted (name_of names t)
    → c ≡ or_null (λ x. quoted (state_word x)) (status_answer t s) → d ≡ name_or_null 109 (awaited t s)
    → e ≡ name_or_null 99 (option_and_then cond_by (status_answer t s)) → f ≡ number_or_null (effective_answer t s)
    → g ≡ number_or_null (base_answer t s)
    → new ≡ old ++ ((123 ∷ (member (codes "name") a ++ 44 ∷ (member (codes "label") b ++ 44 ∷ (member (codes "state") c
    ++ 44 ∷ (member (codes "waits_for") d ++ 44 ∷ (member (codes "parked_on") e ++ 44 ∷ (member (codes "priority") f
    ++ 44 ∷ member (codes "base") g))))))) ++ call_member t s ++ holds_member t s ++ codes "}")
    → new ≡ old ++ thread_object names s t
unfolding thread_object doing_members priority_members
thread_appended names s t old new a b c d e f g an bn cn dn en fn gn all =
    all ∙ ap (λ l. old ++ l) (thread_pieces a b c d e f g (call_member t s) (holds_member t s))
    ∙ rw (an, bn, cn, dn, en, fn, gn) refl

-- ---- mutexes

nest_mutex : (l0 a l1 b l2 c l3 d l4 e l5 f l6 g l7 k1 h k2 k3 : List ℕ)
    → (l0 ++ (a ++ (l1 ++ (b ++ (l2 ++ (c ++ (l3 ++ (d ++ (l4 ++ (e ++ (l5 ++ (f ++ (l6 ++ g)))))))))))))
    ++ (l7 ++ k1 ++ h ++ k2) ++ k3
    ≡ l0 ++ a ++ (l1 ++ b ++ l2 ++ c) ++ (l3 ++ d ++ l4 ++ e) ++ (l5 ++ f ++ l6 ++ g) ++ l7 ++ (k1 ++ h ++ k2) ++ k3
nest_mutex l0 a l1 b l2 c l3 d l4 e l5 f l6 g l7 k1 h k2 k3 = simp append_assoc

mutex_pieces : (a b c d e f g : List ℕ) (waiters : List (List ℕ))
    → (123 ∷ (member (codes "name") a ++ 44 ∷ (member (codes "kind") b ++ 44 ∷ (member (codes "robust") c
    ++ 44 ∷ (member (codes "health") d ++ 44 ∷ (member (codes "word") e ++ 44 ∷ (member (codes "owner") f
    ++ 44 ∷ member (codes "count") g))))))) ++ array_member (codes "waiters") waiters ++ codes "}"
    ≡ codes "{\"name\":" ++ a ++ (codes ",\"kind\":" ++ b ++ codes ",\"robust\":" ++ c)
    ++ (codes ",\"health\":" ++ d ++ codes ",\"word\":" ++ e) ++ (codes ",\"owner\":" ++ f ++ codes ",\"count\":" ++ g)
    ++ codes ",\"waiters\":" ++ (codes "[" ++ separated waiters ++ codes "]") ++ codes "}"
mutex_pieces a b c d e f g waiters =
    nest_mutex (codes "{\"name\":") a (codes ",\"kind\":") b (codes ",\"robust\":") c (codes ",\"health\":") d
    (codes ",\"word\":") e (codes ",\"owner\":") f (codes ",\"count\":") g (codes ",\"waiters\":") (codes "[")
    (separated waiters) (codes "]") (codes "}")

pub mutex_appended : (s : Table) (m : ℕ) (old new a b c d e f g : List ℕ)
    → a ≡ name_text 109 m → b ≡ or_null (λ k. quoted (kind_word k.0)) (kind_answer m s)
    → c ≡ or_null (λ k. bool_text k.1) (kind_answer m s) → d ≡ or_null (λ h. quoted (health_text h)) (health_answer m s)
    → e ≡ number_or_null (word_answer m s) → f ≡ name_or_null 116 (owner_of m s)
    → g ≡ decimal (times (owner_answer m s))
    → new ≡ old ++ ((123 ∷ (member (codes "name") a ++ 44 ∷ (member (codes "kind") b ++ 44 ∷ (member (codes "robust") c
    ++ 44 ∷ (member (codes "health") d ++ 44 ∷ (member (codes "word") e ++ 44 ∷ (member (codes "owner") f
    ++ 44 ∷ member (codes "count") g))))))) ++ array_member (codes "waiters") (map (name_text 116) (order_in (order.Waiters m) s))
    ++ codes "}")
    → new ≡ old ++ mutex_object s m
unfolding mutex_object kind_members word_members owner_members
mutex_appended s m old new a b c d e f g an bn cn dn en fn gn all =
    all ∙ ap (λ l. old ++ l) (mutex_pieces a b c d e f g (map (name_text 116) (order_in (order.Waiters m) s)))
    ∙ rw (an, bn, cn, dn, en, fn, gn) refl

-- ---- condition variables

nest_cond : (l0 a l1 b l2 c l3 k1 h k2 k3 : List ℕ)
    → (l0 ++ (a ++ (l1 ++ (b ++ (l2 ++ c))))) ++ (l3 ++ k1 ++ h ++ k2) ++ k3
    ≡ l0 ++ a ++ l1 ++ b ++ l2 ++ c ++ l3 ++ (k1 ++ h ++ k2) ++ k3
nest_cond l0 a l1 b l2 c l3 k1 h k2 k3 = simp append_assoc

cond_pieces : (a b c : List ℕ) (parked : List (List ℕ))
    → (123 ∷ (member (codes "name") a ++ 44 ∷ (member (codes "mutex") b ++ 44 ∷ member (codes "uses") c)))
    ++ array_member (codes "parked") parked ++ codes "}"
    ≡ codes "{\"name\":" ++ a ++ codes ",\"mutex\":" ++ b ++ codes ",\"uses\":" ++ c ++ codes ",\"parked\":"
    ++ (codes "[" ++ separated parked ++ codes "]") ++ codes "}"
cond_pieces a b c parked =
    nest_cond (codes "{\"name\":") a (codes ",\"mutex\":") b (codes ",\"uses\":") c (codes ",\"parked\":") (codes "[")
    (separated parked) (codes "]") (codes "}")

pub cond_appended : (s : Table) (k : ℕ) (old new a b c : List ℕ)
    → a ≡ name_text 99 k → b ≡ name_or_null 109 (bound_answer k s) → c ≡ number_or_null (cond_word_answer k s)
    → new ≡ old ++ ((123 ∷ (member (codes "name") a ++ 44 ∷ (member (codes "mutex") b ++ 44 ∷ member (codes "uses") c)))
    ++ array_member (codes "parked") (map (name_text 116) (order_in (order.Parked k) s)) ++ codes "}")
    → new ≡ old ++ cond_object s k
unfolding cond_object
cond_appended s k old new a b c an bn cn all =
    all ∙ ap (λ l. old ++ l) (cond_pieces a b c (map (name_text 116) (order_in (order.Parked k) s)))
    ∙ rw (an, bn, cn) refl
