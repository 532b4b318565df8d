-- One command more, and one less.
use Rattle.std.proofs.Common.{zero, suc, ◌≡◌, ℕ, ◌+◌, ◌<◌, ◌≤◌, List, [], ◌∷◌, ◌++◌, Option, Some, None, Result, Ok, Err, length, length-append, map, take, drop, get_or, refl, sym, ap, subst, ◌∙◌, arith}
use Rattle.std.specs.Prelude.{All}
use Rattle.std.proofs.lemmas.List.{drop_all, drop_more, map_push, take_all, take_more}
use Rattle.std.proofs.lemmas.List.Elements.{All-append}
use Rattle.pif_model.specs.Table.{Table}
use Rattle.pif_text_model.specs.declared.commands.Command.{Command}
use Rattle.pif_text_model.specs.CommandTexts.{IsWritten}
use Rattle.pif_script_model.specs.Running.{Answer}
use Rattle.pif_text_model.specs.declared.replies.Reply.{Reply}
use Rattle.pif_job_shell.specs.declared.sessions.Unplayed.{Unplayed}
use Rattle.pif_job_shell.specs.declared.sessions.NotRedone.{NotRedone}
use Rattle.pif_job_shell.specs.declared.sessions.NotRedone.TheVariants as not_redone
use Rattle.pif_job_shell.specs.Sessions.{AnswersCommand, IsPlayed, IsStanding, Kept, Leaves, PlaysAgain, PlaysBehind, Redoes, TakesAll, TakesLine, answer_by}

-- a command behind those that left a core
Leaves-more : (cs : List Command) (c : Command) (l left : Option Table) (a : Answer) → Leaves l cs left
    → answer_by left c ≡ Ok a → Leaves l (cs ++ c ∷ []) (Some a.1)
Leaves-more [] c l left a k e = (a, ap (λ s. answer_by s c) (sym k) ∙ e, refl)
Leaves-more (x ∷ cs) c l left a k e = (k.0, k.1, Leaves-more cs c (Some k.0.1) left a k.2 e)

-- one command more of a list
pub leaves_next : (cs : List Command) (n : ℕ) (c : Command) (left : Option Table) (a : Answer) → n < length cs
    → c ≡ get_or cs n c
    → Leaves None (take n cs) left → answer_by left c ≡ Ok a → Leaves None (take (n + 1) cs) (Some a.1)
leaves_next cs n c left a h same k e =
    subst (λ l. Leaves None l (Some a.1)) (sym (take_more cs n c h ∙ ap (λ x. take n cs ++ x ∷ []) (sym same)))
    (Leaves-more (take n cs) c None left a k e)

single : (c : Command) → IsWritten c → All IsWritten (c ∷ [])
single c h zero d below = h
single c h (suc i) d below = absurd (omega (arith, below))

-- ---- the first of a list

pub length_taken : {X : Type 0} (n : ℕ) (xs : List X) → n ≤ length xs → length (take n xs) ≡ n
length_taken zero xs h = refl
length_taken (suc n) [] h = absurd (omega (arith, h))
length_taken (suc n) (x ∷ xs) h = ap suc (length_taken n xs (omega (arith, h)))

pub take_placed : {X : Type 0} (n : ℕ) (xs : List X) (x : X) → n ≤ length xs
    → take (n + 1) (take n xs ++ x ∷ []) ≡ take n xs ++ x ∷ []
take_placed n xs x h =
    take_all (n + 1) (take n xs ++ x ∷ []) (omega (arith, length_taken n xs h, length-append (take n xs) (x ∷ [])))

pub drop_placed : {X : Type 0} (n : ℕ) (xs : List X) (x : X) → n ≤ length xs
    → drop (n + 1) (take n xs ++ x ∷ []) ≡ []
drop_placed n xs x h =
    drop_all (n + 1) (take n xs ++ x ∷ []) (omega (arith, length_taken n xs h, length-append (take n xs) (x ∷ [])))

pub all_taken : (P : Command → Type 0) (n : ℕ) (cs : List Command) → All P cs → All P (take n cs)
all_taken P zero cs h k d below = absurd (omega (arith, below))
all_taken P (suc n) [] h k d below = absurd (omega (arith, below))
all_taken P (suc n) (c ∷ cs) h zero d below = h zero d (omega arith)
all_taken P (suc n) (c ∷ cs) h (suc k) d below =
    all_taken P n cs (λ i e less. h (suc i) e (omega (arith, less))) k d (omega (arith, below))

-- the commands that stand, with their core
pub played_of : (cs : List Command) (n : ℕ) (core : Option Table) → IsStanding cs n core → IsPlayed (take n cs) core
played_of cs n core k = (
  k.1,
  all_taken IsWritten n cs k.2,
  omega (arith, k.0, k.3, length_taken n cs k.0),
)

-- a command was played behind those that stand, or was not
pub standing_after : (cs : List Command) (n : ℕ) (was : Option Table) (c : Command) (m : ℕ) (new : List Command)
    (is : Option Table) (result : Result Reply Unplayed) → IsStanding cs n was → IsWritten c
    → PlaysBehind c n cs was m new is result → IsStanding new m is
standing_after cs n was c m new is (Ok reply) k w p =
    let size = length_taken n cs k.0 in
    let whole : length (take n cs ++ c ∷ []) ≡ n + 1 = omega (arith, size, length-append (take n cs) (c ∷ [])) in
    let left = Leaves-more (take n cs) c None was (reply, p.1.0) k.1 p.1.1 in
    rw (p.1.2, p.1.3, p.2) (
      omega (arith, whole),
      subst (λ l. Leaves None l (Some p.1.0)) (sym (take_placed n cs c k.0)) left,
      All-append IsWritten (take n cs) (c ∷ []) (all_taken IsWritten n cs k.2) (single c w),
      omega (arith, whole, p.0),
    )
standing_after cs n was c m new is (Err why) k w p = rw (p.1, p.2, p.3) k

-- a command was played again, or was not
pub standing_again : (cs : List Command) (n : ℕ) (was : Option Table) (m : ℕ) (is : Option Table)
    (result : Result (Command × Reply) NotRedone) → IsStanding cs n was → PlaysAgain cs n was m is result
    → IsStanding cs m is
standing_again cs n was m is (Ok done) k p =
    rw (p.2.2, p.3) (
      omega (arith, p.0),
      leaves_next cs n done.0 was (done.1, p.2.0) p.0 p.1 k.1 p.2.1,
      k.2,
      k.3,
    )
standing_again cs n was m is (Err not_redone.Nothing) k p = rw (p.1, p.2) k
standing_again cs n was m is (Err not_redone.NoMemory) k p = rw (p.0, p.1) k

-- a command that was played again is given again
pub redoes : (cs : List Command) (n : ℕ) (was : Option Table) (m : ℕ) (is : Option Table)
    (result : Result (Command × Reply) NotRedone) → PlaysAgain cs n was m is result
    → Redoes (record { commands = take n cs; undone = drop n cs; core = was })
    (record { commands = take m cs; undone = drop m cs; core = is }) result
redoes cs n was m is (Ok done) p =
    let behind : drop n cs ≡ done.0 ∷ drop (n + 1) cs =
    drop_more cs n done.0 p.0 ∙ ap (λ c. c ∷ drop (n + 1) cs) (sym p.1) in
    let more : take (n + 1) cs ≡ take n cs ++ done.0 ∷ [] =
    take_more cs n done.0 p.0 ∙ ap (λ c. take n cs ++ c ∷ []) (sym p.1) in
    rw p.3 (behind, (p.2.0, p.2.1, p.2.2, more))
redoes cs n was m is (Err not_redone.Nothing) p =
    (drop_all n cs p.0, λ i. record { commands = take (p.1 i) cs; undone = drop (p.1 i) cs; core = p.2 i })
redoes cs n was m is (Err not_redone.NoMemory) p =
    λ i. record { commands = take (p.0 i) cs; undone = drop (p.0 i) cs; core = p.1 i }

-- ---- all lines of a script

takes_more : (ls : List (List ℕ)) (l : List ℕ) (a b d : Kept) (reply : Reply) → TakesAll ls a b
    → TakesLine l b d (Ok reply) → TakesAll (ls ++ l ∷ []) a d
takes_more [] l a b d reply all one = (d, reply, subst (λ x. TakesLine l x d (Ok reply)) all one, refl)
takes_more (x ∷ ls) l a b d reply all one = (all.0, all.1, all.2, takes_more ls l all.0 b d reply all.3 one)

-- the next line of a list
pub takes_next : {A : Type 0} (text : A → List ℕ) (lines : List A) (n : ℕ) (x : A) (a b d : Kept) (reply : Reply)
    → n < length lines → TakesAll (map text (take n lines)) a b
    → TakesLine (text (get_or lines n x)) b d (Ok reply) → TakesAll (map text (take (n + 1) lines)) a d
takes_next text lines n x a b d reply lt all one =
    let next : map text (take (n + 1) lines) ≡ map text (take n lines) ++ text (get_or lines n x) ∷ [] =
    ap (map text) (take_more lines n x lt) ∙ map_push text (take n lines) (get_or lines n x) in
    subst (λ l. TakesAll l a d) (sym next) (takes_more (map text (take n lines)) (text (get_or lines n x)) a b d reply all one)

-- all lines of a list were gone through
pub takes_done : {A : Type 0} (text : A → List ℕ) (lines : List A) (n : ℕ) (a d : Kept) → length lines ≤ n
    → TakesAll (map text (take n lines)) a d → TakesAll (map text lines) a d
takes_done text lines n a d past all = subst (λ l. TakesAll (map text l) a d) (take_all n lines past) all

-- one command more was played again
pub replayed_next : (cs : List Command) (n : ℕ) (d : Command) (old new : Option Table) (reply : Reply) → n < length cs
    → d ≡ get_or cs n d → Leaves None (take n cs) old → AnswersCommand d old new (Ok reply)
    → Leaves None (take (n + 1) cs) new
replayed_next cs n d old new reply h same k p =
    subst (λ s. Leaves None (take (n + 1) cs) s) (sym p.2) (leaves_next cs n d old (reply, p.0) h same k p.1)
