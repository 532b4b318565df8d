-- The groups that one more line makes.
use Rattle.std.proofs.Common.{ℕ, ◌≡◌, ◌∙◌, ◌⊎◌, ◌+◌, ◌<◌, Bool, List, [], ◌∷◌, Option, Some, None, inl, inr, refl, sym, ap, subst, get_or, length, reverse, take, arith}
use Rattle.std.proofs.lemmas.List.{reverse-append, take_more}
use Rattle.pif_types.specs.declared.requests.Kind.{Kind}
use Rattle.pif_types.specs.declared.requests.Named.{Named}
use Rattle.pif_types.specs.declared.requests.Request.{Request}
use Rattle.pif_types.specs.Shapes.{names_of}
use Rattle.pif_history_model.specs.declared.lines.Line.{Line}
use Rattle.pif_history_model.specs.declared.lines.Protocol.{Protocol}
use Rattle.pif_history_model.specs.declared.lines.Line.TheVariants.{Begin, Cond, Mutex, Thread}
use Rattle.pif_components_model.specs.Components.{Name, AreNumbered, IsJoinedBy, IsNamed, Joins, variables_of}
use Rattle.pif_components_model.specs.Components.Name.{OfThread, OfMutex, OfVariable}
use Rattle.pif_components_model.specs.Components.IsJoinedBy.{call, bound}
use Rattle.pif_components_model.specs.Components.Joins.{call as calls, bound as binds}
use Rattle.pif_components_model.specs.Components.IsNamed.{thread, mutex, variable}
use Rattle.pif_components_model.proofs.Placing.{joined_by}
use Rattle.pif_components.specs.declared.groups.Groups.{Groups}
use Rattle.pif_components.specs.declared.groups.Object.{Object}
use Rattle.pif_components.specs.Groups.{AreBounded, AreGroupsOf, AreTogether, IsJoined, IsNew, Keeps, group_of, number_of, number_or_none}
use Rattle.pif_components.specs.Hearing.{AreJoinedIf, AreNamed, mutex_named, mutex_of, thread_named, thread_of, variable_named, variable_of}
use Rattle.pif_components.proofs.GroupLemmas.{keeps_more, keeps_same, new_bounded}

-- A CALL

keeps_if : (a : Name) (o : Option Object) (old new : Groups) → AreJoinedIf a o old new → Keeps 0 old new
keeps_if a None old new h = h
keeps_if a (Some x) old new h = h.keeps

-- three joins one after another
pub named_all : (t : ℕ) (q : Request) (old first second new : Groups) → (AreBounded old → AreJoinedIf (OfThread t) (mutex_named (names_of q)) old first)
    → (AreBounded first → AreJoinedIf (OfThread t) (variable_named (names_of q)) first second)
    → (AreBounded second → AreJoinedIf (OfThread t) (thread_named (names_of q)) second new) → AreBounded old → AreNamed t q old new
named_all t q old first second new h k j bounded = record {
  keeps = keeps_more 0 0 old second new (keeps_more 0 0 old first second one two) three;
  joined = named;
}
  where
    one : Keeps 0 old first
    one = keeps_if (OfThread t) (mutex_named (names_of q)) old first (h bounded)

    two : Keeps 0 first second
    two = keeps_if (OfThread t) (variable_named (names_of q)) first second (k one.bounded)

    three : Keeps 0 second new
    three = keeps_if (OfThread t) (thread_named (names_of q)) second new (j two.bounded)

    named : (n : Name) → IsNamed q n → AreTogether new (OfThread t) n
    named n (mutex m e) =
        three.together (OfThread t) (OfMutex m) (two.together (OfThread t) (OfMutex m)
        ((subst (λ o. AreJoinedIf (OfThread t) o old first) (ap mutex_of e) (h bounded)).joined))
    named n (variable c e) =
        three.together (OfThread t) (OfVariable c)
        ((subst (λ o. AreJoinedIf (OfThread t) o first second) (ap variable_of e) (k one.bounded)).joined)
    named n (thread u e) = (subst (λ o. AreJoinedIf (OfThread t) o second new) (ap thread_of e) (j two.bounded)).joined

-- what three calls joined, each told by what it was passed
pub named_by : (t own : ℕ) (q : Request) (n : Named) (one two three : Option Object) → own ≡ t → n ≡ names_of q → one ≡ mutex_named n
    → two ≡ variable_named n → three ≡ thread_named n → (old first second new : Groups)
    → (AreBounded old → AreJoinedIf (OfThread own) one old first) → (AreBounded first → AreJoinedIf (OfThread own) two first second)
    → (AreBounded second → AreJoinedIf (OfThread own) three second new) → AreBounded old → AreNamed t q old new
named_by t own q n one two three who what m v u old first second new h k j =
    named_all t q old first second new (λ b. same one (mutex_named (names_of q)) (m ∙ ap mutex_named what) old first (h b))
    (λ b. same two (variable_named (names_of q)) (v ∙ ap variable_named what) first second (k b))
    (λ b. same three (thread_named (names_of q)) (u ∙ ap thread_named what) second new (j b))
  where
    same : (o p : Option Object) → o ≡ p → (a b : Groups) → AreJoinedIf (OfThread own) o a b → AreJoinedIf (OfThread t) p a b
    same o p e a b x =
        subst (λ (i : ℕ). AreJoinedIf (OfThread i) p a b) who (subst (λ (i : Option Object). AreJoinedIf (OfThread own) i a b) e x)

-- A LINE

-- a line that joins nothing, and adds so many variables
pub heard_alone : (line : Line) (lines : List Line) (more : ℕ) (old new : Groups) → ((a b : Name) → IsJoinedBy line lines a b → ⊥)
    → variables_of (line ∷ lines) ≡ variables_of lines + more → (AreBounded old → Keeps more old new) → AreGroupsOf lines old
    → AreGroupsOf (line ∷ lines) new
heard_alone line lines more old new none count keeps h = record {
  bounded = kept.bounded;
  joined = λ a b j. at a b (joined_by line lines a b j);
  variables = let one = kept.variables in let were = h.variables in omega (arith, count, one, were);
}
  where
    kept : Keeps more old new
    kept = keeps h.bounded

    at : (a b : Name) → Joins lines a b ⊎ IsJoinedBy line lines a b → AreTogether new a b
    at a b (inl j) = kept.together a b (h.joined a b j)
    at a b (inr j) = absurd (none a b j)

-- the addition of a thread or a mutex
pub heard_thread : (p : ℕ) (lines : List Line) (old new : Groups) → (AreBounded old → Keeps 0 old new) → AreGroupsOf lines old
    → AreGroupsOf (Thread p ∷ lines) new
heard_thread p lines old new = heard_alone (Thread p) lines 0 old new none (omega arith)
  where
    none : (a b : Name) → IsJoinedBy (Thread p) lines a b → ⊥
    none a b (call t q n e k) = absurd (cc)
    none a b (bound m e) = absurd (cc)

pub heard_mutex : (k : Kind) (r : Bool) (x : Protocol) (lines : List Line) (old new : Groups) → (AreBounded old → Keeps 0 old new)
    → AreGroupsOf lines old → AreGroupsOf (Mutex k r x ∷ lines) new
heard_mutex k r x lines old new = heard_alone (Mutex k r x) lines 0 old new none (omega arith)
  where
    none : (a b : Name) → IsJoinedBy (Mutex k r x) lines a b → ⊥
    none a b (call t q n e named) = absurd (cc)
    none a b (bound m e) = absurd (cc)

-- another line
same_count : (line : Line) (lines : List Line) → ((m : ℕ) → line ≡ Cond m → ⊥) → variables_of (line ∷ lines) ≡ variables_of lines + 0
same_count (Cond m) lines isnt = absurd (isnt m refl)
same_count _ lines isnt = omega arith

pub heard_other : (line : Line) (lines : List Line) (g : Groups) → ((m : ℕ) → line ≡ Cond m → ⊥)
    → ((t : ℕ) (q : Request) → line ≡ Begin t q → ⊥) → AreGroupsOf lines g → AreGroupsOf (line ∷ lines) g
heard_other line lines g no_cond no_begin = heard_alone line lines 0 g g none (same_count line lines no_cond) (keeps_same g)
  where
    none : (a b : Name) → IsJoinedBy line lines a b → ⊥
    none a b (call t q n e k) = no_begin t q e
    none a b (bound m e) = no_cond m e

-- the begin of a call
pub heard_begin : (t : ℕ) (q : Request) (lines : List Line) (old new : Groups) → (AreBounded old → AreNamed t q old new) → AreGroupsOf lines old
    → AreGroupsOf (Begin t q ∷ lines) new
heard_begin t q lines old new named h = record {
  bounded = all.keeps.bounded;
  joined = λ a b j. at a b (joined_by (Begin t q) lines a b j);
  variables = let one = all.keeps.variables in let were = h.variables in omega (arith, one, were);
}
  where
    all : AreNamed t q old new
    all = named h.bounded

    joins : (u : ℕ) (r : Request) (n : Name) → Begin t q ≡ Begin u r → IsNamed r n → AreTogether new (OfThread u) n
    joins u r n e k =
        let who : t ≡ u = cc in
        let what : q ≡ r = cc in
        subst (λ (x : ℕ). AreTogether new (OfThread x) n) who (all.joined n (subst (λ (x : Request). IsNamed x n) (sym what) k))

    at : (a b : Name) → Joins lines a b ⊎ IsJoinedBy (Begin t q) lines a b → AreTogether new a b
    at a b (inl j) = all.keeps.together a b (h.joined a b j)
    at a b (inr (call u r n e k)) = joins u r n e k
    at a b (inr (bound m e)) = absurd (cc)

-- the addition of a variable
pub heard_cond : (m : ℕ) (lines : List Line) (old mid new : Groups) (n : ℕ) → n ≡ length old.variables.items
    → (AreBounded old → Keeps 1 old mid) → (AreBounded mid → IsJoined (OfVariable n) (OfMutex m) mid new) → AreGroupsOf lines old
    → AreGroupsOf (Cond m ∷ lines) new
heard_cond m lines old mid new n is keeps join h = record {
  bounded = joined.keeps.bounded;
  joined = λ a b j. at a b (joined_by (Cond m) lines a b j);
  variables = let one = kept.variables in let two = joined.keeps.variables in let were = h.variables in omega (arith, one, two, were);
}
  where
    kept : Keeps 1 old mid
    kept = keeps h.bounded

    joined : IsJoined (OfVariable n) (OfMutex m) mid new
    joined = join kept.bounded

    at : (a b : Name) → Joins lines a b ⊎ IsJoinedBy (Cond m) lines a b → AreTogether new a b
    at a b (inl j) = joined.keeps.together a b (kept.together a b (h.joined a b j))
    at a b (inr (call t q x e k)) = absurd (cc)
    at a b (inr (bound k e)) =
        let same : m ≡ k = cc in
        subst (λ (x : ℕ). AreTogether new (OfVariable x) (OfMutex k)) (is ∙ h.variables)
        (subst (λ (x : ℕ). AreTogether new (OfVariable n) (OfMutex x)) same joined.joined)

-- BEFORE ANY LINE

pub heard_nothing : (g : Groups) → IsNew g → AreGroupsOf [] g
heard_nothing g h = record {
  bounded = new_bounded g h;
  joined = λ a b j. absurd (none a b j);
  variables = ap (λ (xs : List (Option ℕ)). length xs) h.variables;
}
  where
    none : (a b : Name) → Joins [] a b → ⊥
    none a b (calls before [] t q n e k) = cc
    none a b (calls before (x ∷ later) t q n e k) = cc
    none a b (binds before [] m e) = cc
    none a b (binds before (x ∷ later) m e) = cc

-- the lines up to the next one
pub next_heard : (lines : List Line) (n : ℕ) (x : Line) → n < length lines → x ≡ get_or lines n x
    → reverse (take (n + 1) lines) ≡ x ∷ reverse (take n lines)
next_heard lines n x le e =
    ap reverse (take_more lines n x le) ∙ reverse-append (take n lines) (get_or lines n x ∷ [])
    ∙ ap (λ y. y ∷ reverse (take n lines)) (sym e)

-- THE NUMBERS OF GROUPS

pub groups_numbered : (lines : List Line) (g : Groups) → AreGroupsOf lines g → AreNumbered lines g.count (number_of g)
groups_numbered lines g h = record {
  below = λ a. under a (group_of g a) refl;
  joined = λ a b j. (let t = h.joined a b j in ap number_or_none t.first ∙ sym (ap number_or_none t.second));
}
  where
    under : (a : Name) (o : Option ℕ) → group_of g a ≡ o → number_or_none (group_of g a) < g.count
    under a None e = subst (λ o. number_or_none o < g.count) (sym e) (omega (arith, h.bounded.some))
    under a (Some k) e = subst (λ o. number_or_none o < g.count) (sym e) (h.bounded.below a k e)
