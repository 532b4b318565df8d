-- Lines whose members were appended, as the definitions have them.
use Rattle.std.proofs.Common.{◌≡◌, ◌∙◌, ℕ, true, List, ◌∷◌, ◌++◌, refl, ap, append_assoc}
use Rattle.std.specs.Prelude.{codes, decimal, filter, map}
use Rattle.pif_model.specs.declared.events.Order.TheVariants as order
use Rattle.pif_model.specs.Table.{Table}
use Rattle.pif_model.specs.Calls.{threads_answer}
use Rattle.pif_text_model.specs.declared.replies.Reply.{Reply}
use Rattle.pif_text_core.specs.Waiting.{begins_chain, conds_added, mutexes_added, order_in}
use Rattle.pif_text.specs.Json.{name_text, numbers, quoted, separated}
use Rattle.pif_text.specs.Members.{array_member}
use Rattle.pif_story_states.specs.Objects.{answer_object, chain_array, cond_object, mutex_object, thread_object}
use Rattle.pif_story_states.specs.States.{order_members, state_line, things_members}
use Rattle.pif_story_states.proofs.FilterLemmas.{all_kept}
use Rattle.pif_story_states.proofs.ObjectLemmas.{member}

-- ---- threads, mutexes and condition variables

nest_things : (l0 a l1 b l2 c k : List ℕ)
    → (l0 ++ a ++ k) ++ (l1 ++ b ++ k) ++ (l2 ++ c ++ k) ≡ l0 ++ a ++ (k ++ l1) ++ b ++ (k ++ l2) ++ c ++ k
nest_things l0 a l1 b l2 c k = simp append_assoc

things_pieces : (a b c : List (List ℕ))
    → array_member (codes "threads") a ++ array_member (codes "mutexes") b ++ array_member (codes "conds") c
    ≡ codes ",\"threads\":[" ++ separated a ++ codes "],\"mutexes\":[" ++ separated b ++ codes "],\"conds\":["
    ++ separated c ++ codes "]"
things_pieces a b c =
    nest_things (codes ",\"threads\":[") (separated a) (codes ",\"mutexes\":[") (separated b) (codes ",\"conds\":[") (separated c)
    (codes "]")

-- the texts of things of which all are kept
all_texts : (text : ℕ → List ℕ) (most n : ℕ) → most ≡ n
    → map text (filter (λ (k : ℕ). true) (numbers most)) ≡ map text (numbers n)
all_texts text most n e = ap (map text) (all_kept (numbers most)) ∙ ap (λ k. map text (numbers k)) e

pub things_appended : (names : List ℕ) (s : Table) (old new : List ℕ) (threads mutexes conds : ℕ)
    → threads ≡ threads_answer s → mutexes ≡ mutexes_added s → conds ≡ conds_added s
    → new ≡ old ++ (array_member (codes "threads") (map (thread_object names s) (filter (λ (k : ℕ). true) (numbers threads)))
    ++ array_member (codes "mutexes") (map (mutex_object s) (filter (λ (k : ℕ). true) (numbers mutexes)))
    ++ array_member (codes "conds") (map (cond_object s) (filter (λ (k : ℕ). true) (numbers conds))))
    → new ≡ old ++ things_members names s
unfolding things_members
things_appended names s old new threads mutexes conds ts ms cs all =
    all
    ∙ ap (λ l. old ++ (array_member (codes "threads") l
    ++ array_member (codes "mutexes") (map (mutex_object s) (filter (λ (k : ℕ). true) (numbers mutexes)))
    ++ array_member (codes "conds") (map (cond_object s) (filter (λ (k : ℕ). true) (numbers conds)))))
    (all_texts (thread_object names s) threads (threads_answer s) ts)
    ∙ ap (λ l. old ++ (array_member (codes "threads") (map (thread_object names s) (numbers (threads_answer s)))
    ++ array_member (codes "mutexes") l
    ++ array_member (codes "conds") (map (cond_object s) (filter (λ (k : ℕ). true) (numbers conds)))))
    (all_texts (mutex_object s) mutexes (mutexes_added s) ms)
    ∙ ap (λ l. old ++ (array_member (codes "threads") (map (thread_object names s) (numbers (threads_answer s)))
    ++ array_member (codes "mutexes") (map (mutex_object s) (numbers (mutexes_added s))) ++ array_member (codes "conds") l))
    (all_texts (cond_object s) conds (conds_added s) cs)
    ∙ ap (λ l. old ++ l)
    (things_pieces (map (thread_object names s) (numbers (threads_answer s))) (map (mutex_object s) (numbers (mutexes_added s)))
    (map (cond_object s) (numbers (conds_added s))))

-- ---- orders

nest_orders : (l0 k1 a k2 l1 b : List ℕ) → (l0 ++ k1 ++ a ++ k2) ++ (l1 ++ b ++ k2) ≡ l0 ++ (k1 ++ a ++ k2) ++ l1 ++ b ++ k2
nest_orders l0 k1 a k2 l1 b = simp append_assoc

orders_pieces : (a b : List (List ℕ))
    → array_member (codes "run_queue") a ++ array_member (codes "chains") b
    ≡ codes ",\"run_queue\":" ++ (codes "[" ++ separated a ++ codes "]") ++ codes ",\"chains\":[" ++ separated b ++ codes "]"
orders_pieces a b =
    nest_orders (codes ",\"run_queue\":") (codes "[") (separated a) (codes "]") (codes ",\"chains\":[") (separated b)

pub orders_appended : (s : Table) (old new : List ℕ) (threads : ℕ) → threads ≡ threads_answer s
    → new ≡ old ++ (array_member (codes "run_queue") (map (name_text 116) (order_in order.Ready s))
    ++ array_member (codes "chains") (map (chain_array s) (filter (begins_chain s) (numbers threads))))
    → new ≡ old ++ order_members s
unfolding order_members
orders_appended s old new threads ts all =
    all
    ∙ ap (λ n. old ++ (array_member (codes "run_queue") (map (name_text 116) (order_in order.Ready s))
    ++ array_member (codes "chains") (map (chain_array s) (filter (begins_chain s) (numbers n))))) ts
    ∙ ap (λ l. old ++ l)
    (orders_pieces (map (name_text 116) (order_in order.Ready s))
    (map (chain_array s) (filter (begins_chain s) (numbers (threads_answer s)))))

-- ---- lines

nest_line : (l0 a l1 b l2 c l3 d e f g : List ℕ)
    → (l0 ++ (a ++ (l1 ++ b))) ++ l2 ++ c ++ (l3 ++ d) ++ e ++ f ++ g
    ≡ l0 ++ a ++ l1 ++ b ++ l2 ++ c ++ l3 ++ d ++ e ++ f ++ g
nest_line l0 a l1 b l2 c l3 d e f g = simp append_assoc

line_pieces : (a b c d e f : List ℕ)
    → (123 ∷ (member (codes "line") a ++ 44 ∷ member (codes "command") b)) ++ codes ",\"answer\":" ++ c
    ++ (44 ∷ member (codes "time") d) ++ e ++ f ++ codes "}\n"
    ≡ codes "{\"line\":" ++ a ++ codes ",\"command\":" ++ b ++ codes ",\"answer\":" ++ c ++ codes ",\"time\":" ++ d ++ e ++ f
    ++ codes "}\n"
line_pieces a b c d e f =
    nest_line (codes "{\"line\":") a (codes ",\"command\":") b (codes ",\"answer\":") c (codes ",\"time\":") d e f (codes "}\n")

pub line_appended : (names : List ℕ) (line : ℕ) (words : List ℕ) (reply : Reply) (s : Table) (old new : List ℕ) (time : ℕ)
    → time ≡ s.time
    → new ≡ old ++ ((123 ∷ (member (codes "line") (decimal line) ++ 44 ∷ member (codes "command") (quoted words)))
    ++ codes ",\"answer\":" ++ answer_object reply ++ (44 ∷ member (codes "time") (decimal time)) ++ things_members names s
    ++ order_members s ++ codes "}\n")
    → new ≡ old ++ state_line names line words reply s
unfolding state_line
line_appended names line words reply s old new time there all =
    all
    ∙ ap (λ l. old ++ l)
    (line_pieces (decimal line) (quoted words) (answer_object reply) (decimal time) (things_members names s) (order_members s))
    ∙ rw there refl
