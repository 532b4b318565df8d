-- Texts that grow by pieces.
use Rattle.std.proofs.Common.{ℕ, ◌≡◌, ◌∙◌, true, List, [], ◌++◌, length, ap, append_assoc}
use Rattle.std.proofs.lemmas.List.{append-nil}
use Rattle.std.specs.Prelude.{codes, decimal, flat_map}
use Rattle.std.specs.List.{slice_get}
use Rattle.pif_types.specs.Bounds.{Bounds}
use Rattle.pif_reach.specs.declared.system.Node.{Node}
use Rattle.pif_explore_model.specs.declared.labels.Label.{Label}
use Rattle.pif_explore_model.specs.Situations.{Plan, Situation}
use Rattle.pif_text_model.specs.CommandTexts.{request_text}
use Rattle.pif_explore.specs.declared.exploring.Explored.{Explored}
use Rattle.pif_explore.specs.declared.misuses.Misuse.{Misuse}
use Rattle.pif_explore.specs.declared.stuck_threads.StuckThread.{StuckThread}
use Rattle.pif_explore.specs.declared.exploring.Told.{Told}
use Rattle.pif_explore_orders.specs.declared.all_faults.AllFaults.{AllFaults}
use Rattle.pif_explore_told.specs.declared.delays.Held.{Held}
use Rattle.pif_explore_told.specs.declared.verdicts.Ruling.{Ruling}
use Rattle.pif_explore_told.specs.OutcomeLines.{outcome_line, why_text}
use Rattle.pif_explore_page.specs.Objects.{counts_object, delay_object, fault_objects, limits_told, misuse_object, objects_told, outcome_object, program_object, program_told, ruling_object, scheduled, stuck_object, verdict_members, way_member}
use Rattle.pif_explore_page.specs.Steps.{state_members}
use Rattle.pif_explore_page.specs.Texts.{escaped, without_end}

-- two pieces more, three, four and six
two_more : (out mid new a b : List ℕ) → mid ≡ out ++ a → new ≡ mid ++ b → new ≡ out ++ (a ++ b)
two_more out mid new a b e f = f ∙ ((λ i. e i ++ b) ∙ append_assoc out a b)

three_more : (out one two new a b c : List ℕ) → one ≡ out ++ a → two ≡ one ++ b → new ≡ two ++ c → new ≡ out ++ (a ++ (b ++ c))
three_more out one two new a b c e f g = two_more out one new a (b ++ c) e (two_more one two new b c f g)

pub four_more : (out one two three new a b c d : List ℕ) → one ≡ out ++ a → two ≡ one ++ b → three ≡ two ++ c → new ≡ three ++ d
    → new ≡ out ++ (a ++ (b ++ (c ++ d)))
four_more out one two three new a b c d e f g h = two_more out one new a (b ++ (c ++ d)) e (three_more one two three new b c d f g h)

pub six_more : (out one two three four five new a b c d e f : List ℕ) → one ≡ out ++ a → two ≡ one ++ b → three ≡ two ++ c
    → four ≡ three ++ d → five ≡ four ++ e → new ≡ five ++ f → new ≡ out ++ (a ++ (b ++ (c ++ (d ++ (e ++ f)))))
six_more out one two three four five new a b c d e f g h k l m n =
    two_more out one new a (b ++ (c ++ (d ++ (e ++ f)))) g
    (two_more one two new b (c ++ (d ++ (e ++ f))) h (four_more two three four five new c d e f k l m n))

-- all that was found
pub objects_grown : (program : List ℕ) (p : Plan) (spans : List ℕ) (e : Explored) (rulings : List Ruling) (delays : List Held) (faults : AllFaults)
    (nodes : List (Node Situation Label)) (outcomes : List Told) (count states steps : ℕ) (old one two three four five new : List ℕ)
    → nodes ≡ e.nodes.items → outcomes ≡ e.outcomes.items → count ≡ length outcomes → states ≡ length nodes
    → steps ≡ length e.edges.items → one ≡ old ++ program_told program p (slice_get nodes 0)
    → two ≡ one ++ flat_map (ruling_object p nodes) rulings → three ≡ two ++ flat_map (delay_object p nodes) delays
    → four ≡ three ++ fault_objects p nodes faults → five ≡ four ++ flat_map (outcome_object p spans nodes) outcomes
    → new ≡ five ++ counts_object e.is_whole count states steps
    → new ≡ old ++ objects_told program p spans e rulings delays faults
unfolding objects_told
objects_grown program p spans e rulings delays faults nodes outcomes count states steps old one two three four five new same same_outcomes counts finds edges f g h k l m =
    let outcome_count : count ≡ length e.outcomes.items = counts ∙ ap (λ (xs : List Told). length xs) same_outcomes in
    let state_count : states ≡ length e.nodes.items = finds ∙ ap (λ (xs : List (Node Situation Label)). length xs) same in
    six_more old one two three four five new (program_told program p (slice_get nodes 0)) (flat_map (ruling_object p nodes) rulings)
    (flat_map (delay_object p nodes) delays) (fault_objects p nodes faults) (flat_map (outcome_object p spans nodes) outcomes)
    (counts_object e.is_whole count states steps) f g h k l m
    ∙ (λ i. old
    ++ (program_told program p (slice_get (same i) 0)
    ++ (flat_map (ruling_object p (same i)) rulings
    ++ (flat_map (delay_object p (same i)) delays
    ++ (fault_objects p (same i) faults
    ++ (flat_map (outcome_object p spans (same i)) (same_outcomes i)
    ++ counts_object e.is_whole (outcome_count i) (state_count i) (edges i)))))))

-- limits, by the numbers that stand for theirs
pub limits_grown : (l : Bounds) (a b c d : ℕ) (out new : List ℕ) → a ≡ l.threads → b ≡ l.mutexes → c ≡ l.conds → d ≡ l.signals
    → new ≡ out ++ (codes "{\"threads\":"
    ++ (decimal a
    ++ (codes ",\"mutexes\":"
    ++ (decimal b ++ (codes ",\"conds\":" ++ (decimal c ++ (codes ",\"signals\":" ++ (decimal d ++ codes "}"))))))))
    → new ≡ out ++ limits_told l
limits_grown l a b c d out new e f g h is =
    is
    ∙ (λ i. out
    ++ (codes "{\"threads\":"
    ++ (decimal (e i)
    ++ (codes ",\"mutexes\":"
    ++ (decimal (f i)
    ++ (codes ",\"conds\":" ++ (decimal (g i) ++ (codes ",\"signals\":" ++ (decimal (h i) ++ codes "}")))))))))

-- a program, by its parts
pub program_grown : (program : List ℕ) (p : Plan) (s : Situation) (out one two three new : List ℕ)
    → one ≡ out ++ (codes "{\"program\":\"" ++ (escaped program ++ codes "\",\"limits\":")) → two ≡ one ++ limits_told p.limits
    → three ≡ two ++ state_members true p s s → new ≡ three ++ codes "\n" → new ≡ out ++ program_object program p s
program_grown program p s out one two three new e f g h =
    four_more out one two three new (codes "{\"program\":\"" ++ (escaped program ++ codes "\",\"limits\":")) (limits_told p.limits)
    (state_members true p s s) (codes "\n") e f g h
    ∙ ap (λ (l : List ℕ). out ++ (codes "{\"program\":\"" ++ l))
    (append_assoc (escaped program) (codes "\",\"limits\":") (limits_told p.limits ++ (state_members true p s s ++ codes "\n")))

-- what was found of a claim
pub ruling_grown : (p : Plan) (nodes : List (Node Situation Label)) (r : Ruling) (number : ℕ) (text out one two new : List ℕ)
    → number ≡ r.number → text ≡ r.text.items → one ≡ out ++ (codes "{\"claim\":" ++ (decimal number ++ []))
    → two ≡ one ++ (codes ",\"text\":\"" ++ (escaped text ++ codes "\"")) → new ≡ two ++ verdict_members p nodes r.verdict
    → new ≡ out ++ ruling_object p nodes r
unfolding ruling_object
ruling_grown p nodes r number text out one two new same same_text e f g =
    let verdict = verdict_members p nodes r.verdict in
    three_more out one two new (codes "{\"claim\":" ++ (decimal number ++ [])) (codes ",\"text\":\"" ++ (escaped text ++ codes "\"")) verdict e f g
    ∙ ap (λ (l : List ℕ). out ++ (codes "{\"claim\":" ++ (l ++ (codes ",\"text\":\"" ++ ((escaped text ++ codes "\"") ++ verdict)))))
    (append-nil (decimal number))
    ∙ ap (λ (l : List ℕ). out ++ (codes "{\"claim\":" ++ (decimal number ++ (codes ",\"text\":\"" ++ l))))
    (append_assoc (escaped text) (codes "\"") verdict)
    ∙ (λ i. out
    ++ (codes "{\"claim\":"
    ++ (decimal (same i) ++ (codes ",\"text\":\"" ++ (escaped (same_text i) ++ (codes "\"" ++ verdict))))))

-- a stretch that ends
pub longest_grown : (count : ℕ) (steps all out one new : List ℕ) → steps ≡ all → one ≡ out ++ (codes ",\"steps\":" ++ (decimal count ++ []))
    → new ≡ one ++ scheduled steps → new ≡ out ++ (codes ",\"steps\":" ++ (decimal count ++ scheduled all))
longest_grown count steps all out one new same e f =
    two_more out one new (codes ",\"steps\":" ++ (decimal count ++ [])) (scheduled steps) e f
    ∙ (λ i. out ++ (codes ",\"steps\":" ++ (append-nil (decimal count) i ++ scheduled (same i))))

-- a stretch that goes round
pub endless_grown : (steps all way out one new : List ℕ) → steps ≡ all → one ≡ out ++ (codes ",\"steps\":null,\"again\":[" ++ (steps ++ codes "]"))
    → new ≡ one ++ way → new ≡ out ++ (codes ",\"steps\":null,\"again\":[" ++ (all ++ (codes "]" ++ way)))
endless_grown steps all way out one new same e f =
    two_more out one new (codes ",\"steps\":null,\"again\":[" ++ (steps ++ codes "]")) way e f
    ∙ ap (λ (l : List ℕ). out ++ (codes ",\"steps\":null,\"again\":[" ++ l)) (append_assoc steps (codes "]") way)
    ∙ ap (λ (l : List ℕ). out ++ (codes ",\"steps\":null,\"again\":[" ++ (l ++ (codes "]" ++ way)))) same

-- a misuse
module _ (p : Plan) (nodes : List (Node Situation Label)) where
  pub misuse_grown : (m : Misuse) (out one two three new : List ℕ)
      → one ≡ out ++ (codes "{\"fault\":\"misuse\",\"thread\":\"t" ++ (decimal m.thread ++ codes "\",\"call\":\""))
      → two ≡ one ++ request_text m.request → three ≡ two ++ codes "\"" → new ≡ three ++ way_member p nodes m.place
      → new ≡ out ++ misuse_object p nodes m
  misuse_grown m out one two three new e f g h =
      four_more out one two three new (codes "{\"fault\":\"misuse\",\"thread\":\"t" ++ (decimal m.thread ++ codes "\",\"call\":\"")) (request_text m.request)
      (codes "\"") (way_member p nodes m.place) e f g h
      ∙ ap (λ (l : List ℕ). out ++ (codes "{\"fault\":\"misuse\",\"thread\":\"t" ++ l))
      (append_assoc (decimal m.thread) (codes "\",\"call\":\"") (request_text m.request ++ (codes "\"" ++ way_member p nodes m.place)))

-- a thread that is stuck
pub stuck_grown : (p : Plan) (nodes : List (Node Situation Label)) (k : StuckThread) (out one two three new : List ℕ)
    → one ≡ out ++ (codes "{\"fault\":\"stuck\",\"thread\":\"t" ++ (decimal k.thread ++ (codes "\",\"why\":\"t" ++ (decimal k.thread ++ []))))
    → two ≡ one ++ why_text k.fate → three ≡ two ++ codes "\"" → new ≡ three ++ way_member p nodes k.place
    → new ≡ out ++ stuck_object p nodes k
unfolding stuck_object
stuck_grown p nodes k out one two three new e f g h =
    let d = decimal k.thread in
    let why = codes "\",\"why\":\"t" in
    let rest = why_text k.fate ++ (codes "\"" ++ way_member p nodes k.place) in
    four_more out one two three new (codes "{\"fault\":\"stuck\",\"thread\":\"t" ++ (d ++ (why ++ (d ++ [])))) (why_text k.fate) (codes "\"")
    (way_member p nodes k.place) e f g h
    ∙ ap (λ (l : List ℕ). out ++ (codes "{\"fault\":\"stuck\",\"thread\":\"t" ++ l)) (append_assoc d (why ++ (d ++ [])) rest)
    ∙ ap (λ (l : List ℕ). out ++ (codes "{\"fault\":\"stuck\",\"thread\":\"t" ++ (d ++ (why ++ (l ++ rest))))) (append-nil d)

-- an outcome
pub outcome_grown : (p : Plan) (spans : List ℕ) (nodes : List (Node Situation Label)) (x : Told) (text out one new : List ℕ)
    → text ≡ without_end (outcome_line true p.points spans x.outcome) → one ≡ out ++ (codes "{\"outcome\":\"" ++ (text ++ codes "\""))
    → new ≡ one ++ way_member p nodes x.place → new ≡ out ++ outcome_object p spans nodes x
unfolding outcome_object
outcome_grown p spans nodes x text out one new same e f =
    two_more out one new (codes "{\"outcome\":\"" ++ (text ++ codes "\"")) (way_member p nodes x.place) e f
    ∙ ap (λ (l : List ℕ). out ++ (codes "{\"outcome\":\"" ++ l)) (append_assoc text (codes "\"") (way_member p nodes x.place))
    ∙ ap (λ (l : List ℕ). out ++ (codes "{\"outcome\":\"" ++ (l ++ (codes "\"" ++ way_member p nodes x.place)))) same
