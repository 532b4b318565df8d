-- The same bytes, member by member and as the definitions have them.
use Rattle.std.proofs.Common.{◌≡◌, ◌∙◌, ℕ, List, ◌∷◌, ◌++◌, Option, refl, ap, append_assoc}
use Rattle.std.specs.Prelude.{codes, decimal}
use Rattle.pif_model.specs.World.{World, mutex_at}
use Rattle.pif_text.specs.Json.{name_or_null, name_text, quoted}
use Rattle.pif_history_told.specs.StateObjects.{health_word, holds_of, mutex_object, owner_of}

abbrev member : (name value : List ℕ) → List ℕ
member name value = quoted name ++ codes ":" ++ value

-- Lists, put together otherwise.
nest_thread : (l0 a l1 b l2 c l3 d e f : List ℕ)
    → ((l0 ++ (a ++ (l1 ++ (b ++ (l2 ++ (c ++ (l3 ++ d))))))) ++ e) ++ f
    ≡ ((((((((l0 ++ a) ++ l1) ++ b) ++ l2) ++ c) ++ l3) ++ d) ++ e) ++ f
nest_thread l0 a l1 b l2 c l3 d e f = simp append_assoc

nest_mutex : (l0 a l1 b l2 c l3 d e : List ℕ)
    → (l0 ++ (a ++ (l1 ++ (b ++ (l2 ++ (c ++ (l3 ++ d))))))) ++ e
    ≡ (((((((l0 ++ a) ++ l1) ++ b) ++ l2) ++ c) ++ l3) ++ d) ++ e
nest_mutex l0 a l1 b l2 c l3 d e = simp append_assoc

nest_line : (l0 a l1 b l2 c k l3 d e f g : List ℕ)
    → ((((l0 ++ (a ++ (l1 ++ b))) ++ (l2 ++ ((c ++ k) ++ (l3 ++ d)))) ++ e) ++ f) ++ g
    ≡ (((((((((l0 ++ a) ++ l1) ++ b) ++ l2) ++ c) ++ (k ++ l3)) ++ d) ++ e) ++ f) ++ g
nest_line l0 a l1 b l2 c k l3 d e f g = simp append_assoc

nest_undecided : (l0 a l1 b l2 c l3 d e f : List ℕ)
    → ((l0 ++ (a ++ (l1 ++ (b ++ (l2 ++ (c ++ (l3 ++ d))))))) ++ e) ++ f
    ≡ ((((((((l0 ++ a) ++ l1) ++ b) ++ (l2 ++ c)) ++ l3) ++ d) ++ e) ++ f)
nest_undecided l0 a l1 b l2 c l3 d e f = simp append_assoc

nest_illegal : (l0 a l1 b l2 c d e f g : List ℕ)
    → ((((l0 ++ (a ++ (l1 ++ (b ++ (l2 ++ c))))) ++ d) ++ e) ++ f) ++ g
    ≡ ((((l0 ++ a) ++ l1) ++ b) ++ (l2 ++ c)) ++ (((d ++ e) ++ f) ++ g)
nest_illegal l0 a l1 b l2 c d e f g = simp append_assoc

nest_changes : (l0 a l1 b l2 c k : List ℕ)
    → (((l0 ++ a) ++ k) ++ ((l1 ++ b) ++ k)) ++ ((l2 ++ c) ++ k)
    ≡ (((((l0 ++ a) ++ (k ++ l1)) ++ b) ++ (k ++ l2)) ++ c) ++ k
nest_changes l0 a l1 b l2 c k = simp append_assoc

pub thread_pieces : (a b c d e : List ℕ)
    → ((123 ∷ (member (codes "name") a ++ 44 ∷ (member (codes "living") b
    ++ 44 ∷ (member (codes "priority") c ++ 44 ∷ member (codes "rests") d)))) ++ e) ++ codes "}"
    ≡ codes "{\"name\":" ++ a ++ codes ",\"living\":" ++ b ++ codes ",\"priority\":" ++ c ++ codes ",\"rests\":" ++ d ++ e
    ++ codes "}"
thread_pieces a b c d e =
    nest_thread (codes "{\"name\":") a (codes ",\"living\":") b (codes ",\"priority\":") c (codes ",\"rests\":") d e (codes "}")

pub mutex_pieces : (a b c d : List ℕ)
    → codes "{" ++ (member (codes "name") a ++ 44 ∷ (member (codes "owner") b
    ++ 44 ∷ (member (codes "count") c ++ 44 ∷ member (codes "health") d))) ++ codes "}"
    ≡ codes "{\"name\":" ++ a ++ codes ",\"owner\":" ++ b ++ codes ",\"count\":" ++ c ++ codes ",\"health\":" ++ d ++ codes "}"
mutex_pieces a b c d =
    nest_mutex (codes "{\"name\":") a (codes ",\"owner\":") b (codes ",\"count\":") c (codes ",\"health\":") d (codes "}")

pub line_pieces : (a b c d e f : List ℕ)
    → ((((123 ∷ (member (codes "line") a ++ 44 ∷ member (codes "text") b))
    ++ (44 ∷ (member (codes "moves") (codes "[" ++ c ++ codes "]") ++ 44 ∷ member (codes "whole") d))) ++ e) ++ f) ++ codes "}\n"
    ≡ codes "{\"line\":" ++ a ++ codes ",\"text\":" ++ b ++ codes ",\"moves\":[" ++ c ++ codes "],\"whole\":" ++ d ++ e ++ f
    ++ codes "}\n"
line_pieces a b c d e f =
    nest_line (codes "{\"line\":") a (codes ",\"text\":") b (codes ",\"moves\":[") c (codes "]") (codes ",\"whole\":") d e f (codes "}\n")

pub undecided_pieces : (a b c d e : List ℕ)
    → ((123 ∷ (member (codes "verdict") (quoted (codes "undecided")) ++ 44 ∷ (member (codes "line") a
    ++ 44 ∷ (member (codes "text") b ++ 44 ∷ (member (codes "left_out") c ++ 44 ∷ member (codes "legal_up_to") d))))) ++ e)
    ++ codes "}\n"
    ≡ codes "{\"verdict\":\"undecided\"," ++ (codes "\"line\":" ++ a ++ codes ",\"text\":" ++ b) ++ (codes ",\"left_out\":" ++ c)
    ++ codes ",\"legal_up_to\":" ++ d ++ e ++ codes "}\n"
undecided_pieces a b c d e =
    nest_undecided (codes "{\"verdict\":\"undecided\",\"line\":") a (codes ",\"text\":") b (codes ",\"left_out\":") c
    (codes ",\"legal_up_to\":") d e (codes "}\n")

pub illegal_pieces : (a b c d e f : List ℕ)
    → ((((123 ∷ (member (codes "verdict") (quoted (codes "illegal")) ++ 44 ∷ (member (codes "line") a
    ++ 44 ∷ (member (codes "text") b ++ 44 ∷ member (codes "left_out") c)))) ++ d) ++ e) ++ f) ++ codes "}\n"
    ≡ (codes "{\"verdict\":\"illegal\"," ++ (codes "\"line\":" ++ a ++ codes ",\"text\":" ++ b) ++ (codes ",\"left_out\":" ++ c))
    ++ (d ++ e ++ f ++ codes "}\n")
illegal_pieces a b c d e f =
    nest_illegal (codes "{\"verdict\":\"illegal\",\"line\":") a (codes ",\"text\":") b (codes ",\"left_out\":") c d e f (codes "}\n")

pub changes_pieces : (a b c : List ℕ)
    → ((((44 ∷ quoted (codes "threads") ++ codes ":[") ++ a ++ codes "]") ++ ((44 ∷ quoted (codes "mutexes") ++ codes ":[") ++ b ++ codes "]"))
    ++ ((44 ∷ quoted (codes "conds") ++ codes ":[") ++ c ++ codes "]"))
    ≡ codes ",\"threads\":[" ++ a ++ codes "],\"mutexes\":[" ++ b ++ codes "],\"conds\":[" ++ c ++ codes "]"
changes_pieces a b c =
    nest_changes (codes ",\"threads\":[") a (codes ",\"mutexes\":[") b (codes ",\"conds\":[") c (codes "]")

pub mutex_appended : (w : World) (m : ℕ) (old new : List ℕ) (at : ℕ) (owner : Option ℕ) (holds : ℕ) (health : List ℕ)
    → at ≡ m → owner ≡ owner_of (mutex_at w at).owner → holds ≡ holds_of (mutex_at w at)
    → health ≡ health_word (mutex_at w at).health
    → new ≡ old ++ (codes "{" ++ (member (codes "name") (name_text 109 m) ++ 44 ∷ (member (codes "owner") (name_or_null 116 owner)
    ++ 44 ∷ (member (codes "count") (decimal holds) ++ 44 ∷ member (codes "health") (quoted health)))) ++ codes "}")
    → new ≡ old ++ mutex_object w m
unfolding mutex_object
mutex_appended w m old new at owner holds health there o h l all =
    all
    ∙ ap (λ x. old ++ x) (mutex_pieces (name_text 109 m) (name_or_null 116 owner) (decimal holds) (quoted health))
    ∙ rw (o, h, l, there) refl
